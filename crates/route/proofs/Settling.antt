-- Reading on: each read leaves what is read before it, so that the whole input stays what it could be.
--
--   room-left == where what is read settles nothing, the buffer is not full
--   ReadOn .. == reading on from q to r, as in ReadFor, while nothing is sure
--   read-then == one read more
use Prim.Native.Nat.{ℕ, suc, ◌+◌, ◌-◌, ◌≤◌, ◌<◌}
use mathlib.Core.Path.{◌≡◌, refl, sym, ap, ◌∙◌, subst}
use mathlib.Core.Bool.{Bool, true, false, true≢false}
use mathlib.Core.List.{List, ◌++◌, append_assoc}
use native.Mathlib.Omega.{arith}
use borrow.Author.Tests.{leb-true, leb-false}
use lib.Dec.{leb}
use lib.ListN.{length, take, drop, take-append-drop}
use lib.Seq.{length-take-le, take-take}
use Rattle.records.specs.Settled.{Settled, Decides, longest, Reached}
use Rattle.records.specs.declared.stream.Cursor.{Cursor}
use Rattle.records.proofs.Limit.{limit-settled}
use Rattle.route.specs.declared.Reading.{Reading}
use Rattle.route.specs.Sent.{Input}
use Rattle.route.specs.Reads.{bytes_read, ReadMore}

-- Whether a read may follow, as a number.
abbrev pub open_reads : Bool → ℕ
open_reads true = 0
open_reads false = 1

-- ---- one read

-- What is possible after a read was possible before it.
more-still : {input input' : List ℕ} {n : ℕ} {r : Reading} → ReadMore input n input' r → (s : List ℕ)
    → Input (bytes_read input' r) r.over s → Input (take n input) false s
more-still {input} {input'} {n} {r} m s i =
    let p : List ℕ = take r.count input' in
    let front : take n p ≡ take n input = take-take n r.count input' m.on ∙ m.kept in
    let split : p ≡ take n input ++ drop n p = sym (take-append-drop n p) ∙ ap (λ l. l ++ drop n p) front in
    record {
      rest = drop n p ++ i.rest;
      begins = i.begins ∙ ap (λ l. l ++ i.rest) split ∙ append_assoc (take n input) (drop n p) i.rest;
      none = λ e. absurd (true≢false (sym e));
    }

-- ---- reading on

-- Where what is read settles nothing, there is room for more.
pub room-left : (input : List ℕ) (n : ℕ) {b : Bool} (c : Cursor) → Decides b (Settled (take n input) c) → b ≡ false
    → Reached c → length input ≡ longest → n ≤ length input → n < length input
room-left input n c d e r size l = cases (leb (suc n) (length input)) refl
  where
    cases : (x : Bool) → leb (suc n) (length input) ≡ x → n < length input
    cases true p = leb-true (suc n) (length input) p
    cases false p =
        let full = leb-false (suc n) (length input) p in
        absurd (d.no e (limit-settled (take n input) c (omega (arith, length-take-le n input l)) r))

pub record ReadOn (input : List ℕ) (q : Reading) (input' : List ℕ) (r : Reading) : Type 0 where
  pub on : q.count ≤ r.count
  pub within : r.count ≤ length input'
  pub still : (s : List ℕ) → Input (bytes_read input' r) r.over s → Input (bytes_read input q) q.over s

module _ {input input' input'' : List ℕ} {q r r' : Reading} (o : ReadOn input q input' r) (open-still : r.over ≡ false)
    (m : ReadMore input' r.count input'' r') where
  pub read-then : ReadOn input q input'' r'
  read-then = record {
    on = omega (arith, o.on, m.on);
    within = m.within;
    still = λ s i. o.still s
        (subst (λ b. Input (bytes_read input' r) b s) (sym open-still) (more-still m s i));
  }
