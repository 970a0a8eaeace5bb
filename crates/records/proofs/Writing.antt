-- Texts written into a lent buffer one after the other.
use Prim.Native.Nat.{ℕ, suc, ◌+◌, ◌≤◌, ◌<◌}
use mathlib.Core.Path.{◌≡◌, refl, sym, ap, ap₂, ◌∙◌}
use mathlib.Core.List.{List, [], ◌∷◌, ◌++◌, append_assoc, append-nil}
use native.Mathlib.Omega.{arith}
use native.Mathlib.Numerals.{add-one}
use native.Mathlib.Nat.{add-zero}
use lib.ListN.{length, take, drop, get_or, set, length-append, length-drop, length-set, take-append-drop}
use lib.Seq.{length-take-le, take_at, take_all, take-suc, drop-append-add, drop-drop, set_split, append_snoc}
use Rattle.records.specs.Known.{Written}

-- The length of the buffer up to the end of a text.
head-length : (b t : List ℕ) (at : ℕ) → at + length t ≤ length b → length (take at b ++ t) ≡ at + length t
head-length b t at l = rw (length-append, length-take-le at b (omega arith))

pub written-length : {b t b' : List ℕ} {at p : ℕ} → Written b at t b' p → length b' ≡ length b
written-length {b} {t} {b'} {at} {p} w =
    rw (w.holds, length-append, head-length b t at w.room, length-drop) (omega (arith, w.room))

-- A text, and then another.
pub written-more : {b t b' u b'' : List ℕ} {at p q : ℕ} → Written b at t b' p → Written b' p u b'' q
    → Written b at (t ++ u) b'' q
written-more {b} {t} {b'} {u} {b''} {at} {p} {q} w v =
    let long : length (t ++ u) ≡ length t + length u = length-append t u in
    let front : List ℕ = take at b ++ t in
    let size : length front ≡ p = head-length b t at w.room ∙ sym w.place in
    let head : take p b' ≡ front = ap (take p) w.holds ∙ take_at front (drop (at + length t) b) p size in
    let far : at + length t + length u ≡ at + length (t ++ u) = omega arith in
    let tail : drop (p + length u) b' ≡ drop (at + length (t ++ u)) b =
    ap₂ (λ (k : ℕ) (l : List ℕ). drop (k + length u) l) (sym size) w.holds
    ∙ drop-append-add front (drop (at + length t) b) (length u) ∙ drop-drop (length u) (at + length t) b
    ∙ ap (λ (k : ℕ). drop k b) far in
    record {
      room = omega (arith, v.room, w.place, written-length w);
      holds = v.holds ∙ ap₂ (λ (k l : List ℕ). k ++ u ++ l) head tail
          ∙ ap (λ (l : List ℕ). l ++ drop (at + length (t ++ u)) b) (append_assoc (take at b) t u);
      place = omega (arith, v.place, w.place);
    }

pub written_none : (b : List ℕ) (at : ℕ) → at ≤ length b → Written b at [] b at
written_none b at l = record {
  room = omega arith;
  holds = sym (rw (append-nil, add-zero) (take-append-drop at b));
  place = omega arith;
}

-- One byte stored.
pub written_one : (b : List ℕ) (p x : ℕ) → p < length b → Written b p (x ∷ []) (set b p x) (p + 1)
written_one b p x l = record {
  room = omega arith;
  holds = set_split b p x l ∙ sym (append_snoc (take p b) x (drop (suc p) b))
      ∙ ap (λ (k : ℕ). take p b ++ (x ∷ []) ++ drop k b) (sym (add-one p));
  place = refl;
}

-- `Written` of an equal text.
pub written_as : {b t u b' : List ℕ} {at p : ℕ} → t ≡ u → Written b at t b' p → Written b at u b' p
written_as e w = rw e at w

-- The room that is left after a text of at most k bytes.
pub room_after : {b t b' : List ℕ} {at p : ℕ} → Written b at t b' p → (k m : ℕ) → length t ≤ k → at + (k + m) ≤ length b
    → p + m ≤ length b'
room_after w k m l r = omega (arith, w.place, written-length w)

-- ---- the invariant of the loop that copies a text

-- k of the n bytes of the text are written.
pub record Copying (b : List ℕ) (at : ℕ) (text : List ℕ) (n k : ℕ) (b' : List ℕ) : Type 0 where
  pub end : n ≡ length text
  pub within : k ≤ n
  pub len : length b' ≡ length b
  pub so_far : Written b at (take k text) b' (at + k)

pub copying-none : (b : List ℕ) (at : ℕ) (text : List ℕ) → at + length text ≤ length b
    → Copying b at text (length text) 0 b
copying-none b at text l = record {
  end = refl;
  within = omega arith;
  len = refl;
  so_far = rw add-zero (written_none b at (omega arith));
}

pub copying-more : {b text b' : List ℕ} {at n k : ℕ} → Copying b at text n k b' → at + length text ≤ length b → k < n
    → Copying b at text n (k + 1) (set b' (at + k) (get_or text k 0))
copying-more {b} {text} {b'} {at} {n} {k} h r l =
    let one = written_one b' (at + k) (get_or text k 0) (omega (arith, h.end, h.len)) in
    let both = written-more h.so_far one in
    let step : take k text ++ (get_or text k 0 ∷ []) ≡ take (k + 1) text =
    sym (rw add-one (take-suc text k 0 (omega (arith, h.end)))) in
    let next : at + k + 1 ≡ at + (k + 1) = omega arith in
    record {
      end = h.end;
      within = omega arith;
      len = length-set b' (at + k) (get_or text k 0) ∙ h.len;
      so_far = rw (← next) (written_as step both);
    }

pub copying-done : {b text b' : List ℕ} {at n k : ℕ} → Copying b at text n k b' → n ≤ k → Written b at text b' (at + n)
copying-done {b} {text} {b'} {at} {n} {k} h l =
    let e : k ≡ n = omega (arith, h.within) in
    written_as (take_all n text (omega (arith, h.end))) (rw e at h.so_far)
