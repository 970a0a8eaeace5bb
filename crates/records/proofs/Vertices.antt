-- The invariant of the loop that writes the kept vertices.
use Prim.Native.Nat.{ℕ, ◌+◌, ◌*◌, ◌≤◌, ◌<◌}
use mathlib.Core.Path.{◌≡◌, refl, sym, ap, ◌∙◌}
use mathlib.Core.List.{List, [], ◌∷◌, ◌++◌, append_assoc, append-nil}
use native.Mathlib.Omega.{arith}
use native.Mathlib.Numerals.{add-one}
use lib.ListN.{length, get_or}
use Rattle.basics.specs.Lists.{tabulate}
use Rattle.records.specs.Lines.{field, fields, kept_of}
use Rattle.records.specs.Known.{Written}
use Rattle.records.proofs.Writing.{written-length, written-more, written_none, written_as}

fields-last : (vs : List ℕ) (v : ℕ) → fields vs ++ field " " v ≡ fields (vs ++ (v ∷ []))
unfolding fields
fields-last [] v = sym (append-nil (field " " v))
fields-last (x ∷ vs) v =
    append_assoc (field " " x) (fields vs) (field " " v) ∙ ap (λ (t : List ℕ). field " " x ++ t) (fields-last vs v)

-- Of k kept vertices i are written, each in at most 6 bytes.
pub record Listing (b : List ℕ) (at : ℕ) (ps vs : List ℕ) (k i : ℕ) (b' : List ℕ) (next : ℕ) : Type 0 where
  pub within : i ≤ k
  pub few : next ≤ at + 6 * i
  pub len : length b' ≡ length b
  pub so_far : Written b at (fields (kept_of i ps vs)) b' next

pub listing_none : (b : List ℕ) (at : ℕ) (ps vs : List ℕ) (k : ℕ) → at + 6 * k ≤ length b → Listing b at ps vs k 0 b at
unfolding fields tabulate
listing_none b at ps vs k l =
    record { within = omega arith; few = omega arith; len = refl; so_far = written_none b at (omega arith) }

pub listing-more : {b ps vs b' b'' : List ℕ} {at k i next q : ℕ} → Listing b at ps vs k i b' next → i < k
    → Written b' next (field " " (get_or vs (get_or ps i 0) 0)) b'' q → length (field " " (get_or vs (get_or ps i 0) 0)) ≤ 6
    → Listing b at ps vs k (i + 1) b'' q
unfolding tabulate
listing-more {b} {ps} {vs} {b'} {b''} {at} {k} {i} {next} {q} h l w six = record {
  within = omega arith;
  few = omega (arith, h.few, w.place);
  len = written-length w ∙ h.len;
  so_far = rw add-one
      (written_as (fields-last (kept_of i ps vs) (get_or vs (get_or ps i 0) 0)) (written-more h.so_far w));
}

pub listing-done : {b ps vs b' : List ℕ} {at k i next : ℕ} → Listing b at ps vs k i b' next → k ≤ i
    → Written b at (fields (kept_of k ps vs)) b' next
listing-done {b} {ps} {vs} {b'} {at} {k} {i} {next} h l =
    let e : i ≡ k = omega (arith, h.within) in
    rw e at h.so_far
