-- The cells of a map, written with a byte for each.
--
--   cells_are              == the bytes of the bits of a map are `cell_bytes` of its floor
--   cells-small            == each byte of `cell_bytes` is 0 or 1
--   stored_bytes           == the numbers of `stored_cells` are below 256
--   cells-none, cells-more == the invariant of the loop that writes F 0, .. F (n - 1): k of them are written
use Prim.Native.Nat.{ℕ, zero, suc, ◌+◌, ◌*◌, ◌^◌, ◌≤◌, ◌<◌}
use mathlib.Core.Path.{◌≡◌, sym, ap, ◌∙◌}
use mathlib.Core.Logic.{⊎_elim}
use mathlib.Core.Bool.{Bool, true, false, ◌&&◌}
use mathlib.Core.List.{List}
use native.Mathlib.Omega.{arith}
use native.Mathlib.Nat.{pow-suc}
use lib.Bits.{or_lt}
use lib.Dec.{ltb}
use lib.ListN.{length, set, get_or, get_or-eq_default}
use lib.Pow.{pow_pos}
use Rattle.basics.specs.Bounded.{pick}
use Rattle.basics.specs.Lists.{tabulate}
use Rattle.basics.specs.Bits.{bits_of}
use Rattle.basics.proofs.Order.{le-or-lt}
use Rattle.basics.proofs.Counting.{bit-small}
use Rattle.basics.proofs.Lists.{length-tabulate, get_d_tabulate, tabulate-cong}
use Rattle.floor.specs.Floor.{Floor, bit_bytes, map_length, byte_blocked, stored_cells, floor_of, cell_numbered, cell_bytes}
use Rattle.floor.proofs.Packed.{Bytes}
use Rattle.floor.proofs.Maps.{cell-numbered}
use Rattle.floor.proofs.Stored.{stored-length}
use Rattle.records.proofs.Writing.{Copying, copying-none, copying-more}
use Rattle.writer.specs.Known.{cell_byte}

pub cells_are : (w h : ℕ) (l : List ℕ) → tabulate (w * h) (cell_byte l) ≡ cell_bytes (floor_of w h l)
unfolding cell_bytes
cells_are w h l = tabulate-cong (w * h) (cell_byte l) _ (λ c i. ap (λ b. pick b 1 0) (cell-numbered w h l c))

pub cells-small : (f : Floor) (c : ℕ) → c < length (cell_bytes f) → get_or (cell_bytes f) c 0 ≤ 1
unfolding cell_bytes
cells-small f c l =
    let n = f.wide * f.high in
    let F : ℕ → ℕ = λ c. pick (cell_numbered f c) 1 0 in
    rw (get_d_tabulate n c F (omega (arith, length-tabulate n F))) (bit-small (cell_numbered f c))

-- A number of n bits is below 2 ^ n.
bits-lt : (n : ℕ) (p : ℕ → Bool) → bits_of n p < 2 ^ n
unfolding bits_of
bits-lt zero p = omega arith
bits-lt (suc n) p =
    or_lt (suc n) (bits_of n p) (pick (p n) (2 ^ n) 0) (omega (arith, bits-lt n p, pow-suc 2 n)) (one (p n))
  where
    one : (b : Bool) → pick b (2 ^ n) 0 < 2 ^ suc n
    one true = omega (arith, pow-suc 2 n, pow_pos n)
    one false = omega (arith, pow-suc 2 n, pow_pos n)

pub stored_bytes : (l : List ℕ) → Bytes (stored_cells l)
unfolding stored_cells bit_bytes
stored_bytes l k =
    let m = map_length (length l) in
    let p : ℕ → Bool = λ c. ltb c (length l) && byte_blocked l c in
    ⊎_elim
    (λ (i : suc k ≤ m). rw (get_d_tabulate m k (λ k. bits_of 8 (λ b. p (8 * k + b))) i) (bits-lt 8 (λ b. p (8 * k + b))))
    (λ (i : m < suc k).
    rw (get_or-eq_default (stored_cells l) 0 {n = k} (omega (arith, stored-length l))) (omega arith))
    (le-or-lt (suc k) m)

pub cells-none : (b : List ℕ) (at n : ℕ) (F : ℕ → ℕ) → at + n ≤ length b → Copying b at (tabulate n F) n 0 b
cells-none b at n F r =
    let e = length-tabulate n F in
    rw e at (copying-none b at (tabulate n F) (omega arith))

pub cells-more : {b b' : List ℕ} {at n k x : ℕ} (F : ℕ → ℕ) → Copying b at (tabulate n F) n k b'
    → at + n ≤ length b → k < n → x ≡ F k → Copying b at (tabulate n F) n (k + 1) (set b' (at + k) x)
cells-more {b} {b'} {at} {n} {k} {x} F h r l q =
    let e : x ≡ get_or (tabulate n F) k 0 = q ∙ sym (get_d_tabulate n k F l) in
    rw e (copying-more h (omega (arith, length-tabulate n F)) l)
