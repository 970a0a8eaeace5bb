-- A packed floor is the byte floor with the same cells, and storing cells and reading them back are inverse both ways.
--
--   stored-bit     == bit_at (stored_cells l) c = byte_blocked l c, for every number c
--   packed-floor   == floor_of w h (stored_cells l) = byte_floor w h l
--   stored-good    == the map that stores the cells of a floor is of good shape
--   stored-read    == cells that are stored and read back are the same bytes
--   read-stored    == a good map whose cells are read and stored is the same map
use Prim.Native.Nat.{ℕ, zero, suc, ◌*◌, ◌≤◌, ◌<◌}
use mathlib.Core.Path.{◌≡◌, refl, sym, ap, ◌∙◌, fun_ext}
use mathlib.Core.Logic.{⊎_elim}
use mathlib.Core.Bool.{Bool, true, false, not}
use mathlib.Core.List.{List}
use native.Mathlib.Omega.{arith}
use borrow.Author.Tests.{lt-ltb, le-ltb}
use lib.Dec.{eqb}
use lib.ListN.{length, get_or, get_or-eq_default}
use Rattle.std.proofs.Common.{Ok}
use Rattle.basics.specs.Bounded.{pick}
use Rattle.basics.proofs.Order.{le-or-lt}
use Rattle.basics.proofs.Lists.{length-tabulate, get_d_tabulate, tabulate-of}
use Rattle.floor.specs.Floor.{
  Floor,
  cell_number,
  bit_at,
  map_length,
  packed,
  byte_blocked,
  stored_cells,
  cell_of,
  floor_of,
  byte_floor,
  cell_numbered,
  cell_bytes,
}
use Rattle.floor.specs.Refusals.{sides_shape, floor_shape}
use Rattle.floor.proofs.Shapes.{good_sides, good-floor, floor-good}
use Rattle.floor.proofs.Packed.{Bytes, packed-bit, packed-length, packed-clear, packed-same}
use Rattle.floor.proofs.Maps.{cell-numbered}

module _ (l : List ℕ) where
  pub stored-bit : (c : ℕ) → bit_at (stored_cells l) c ≡ byte_blocked l c
  unfolding stored_cells
  stored-bit c =
      packed-bit (length l) (byte_blocked l) c ∙ ⊎_elim
      (λ (h : suc c ≤ length l). rw (lt-ltb c (length l) h))
      (λ (h : length l < suc c).
      rw (le-ltb c (length l) (omega arith))
      (sym (ap (λ x. not (eqb x 0)) (get_or-eq_default l 0 {n = c} (omega arith)))))
      (le-or-lt (suc c) (length l))

  pub stored-length : length (stored_cells l) ≡ map_length (length l)
  unfolding stored_cells
  stored-length = packed-length (length l) (byte_blocked l)

  module _ (w h : ℕ) where
    pub packed-floor : floor_of w h (stored_cells l) ≡ byte_floor w h l
    unfolding cell_of
    packed-floor =
        ap (λ (c : ℕ → ℕ → Bool). record { wide = w; high = h; cell = c })
        (fun_ext (λ i. fun_ext (λ j. stored-bit (cell_number w i j))))

    pub stored-good : sides_shape w h ≡ Ok tt → length l ≡ w * h → floor_shape w h (stored_cells l) ≡ Ok tt
    unfolding stored_cells
    stored-good g e =
        let s = good_sides w h g in
        sym (floor-good w h (stored_cells l) s.wide_pos s.wide s.high_pos s.high
        (stored-length ∙ ap map_length e) (rw (← e) (packed-clear (length l) (byte_blocked l))))

    -- ---- read back

    written : (x : ℕ) → x ≤ 1 → x ≡ pick (not (eqb x 0)) 1 0
    written zero k = refl
    written (suc zero) k = refl
    written (suc (suc x)) k = absurd (omega arith)

    pub stored-read : length l ≡ w * h → ((c : ℕ) → c < length l → get_or l c 0 ≤ 1)
        → cell_bytes (floor_of w h (stored_cells l)) ≡ l
    unfolding cell_bytes
    stored-read e small =
        sym (tabulate-of (w * h) l _ e (λ c i.
        written (get_or l c 0) (small c (omega arith))
        ∙ ap (λ b. pick b 1 0) (sym (stored-bit c) ∙ cell-numbered w h (stored_cells l) c)))

-- The byte of a cell, 1 or 0, read as blocked or open.
byte-blocked : (b : Bool) → not (eqb (pick b 1 0) 0) ≡ b
byte-blocked true = refl
byte-blocked false = refl

module _ (f : Floor) where
  abbrev byte : ℕ → ℕ
  byte c = pick (cell_numbered f c) 1 0

  pub cells-length : length (cell_bytes f) ≡ f.wide * f.high
  unfolding cell_bytes
  cells-length = length-tabulate (f.wide * f.high) byte

  pub cells-blocked : (c : ℕ) → c < f.wide * f.high → byte_blocked (cell_bytes f) c ≡ cell_numbered f c
  unfolding cell_bytes
  cells-blocked c i =
      ap (λ x. not (eqb x 0)) (get_d_tabulate (f.wide * f.high) c byte i) ∙ byte-blocked (cell_numbered f c)

module _ (w h : ℕ) (l : List ℕ) (g : floor_shape w h l ≡ Ok tt) where
  pub read-stored : Bytes l → stored_cells (cell_bytes (floor_of w h l)) ≡ l
  unfolding stored_cells
  read-stored small =
      let f = good-floor w h l g in
      let p = floor_of w h l in
      ap (λ n. packed n (byte_blocked (cell_bytes p))) (cells-length p)
      ∙ sym (packed-same (w * h) (byte_blocked (cell_bytes p)) l small f.sized.size f.unused
      (λ c i. cell-numbered w h l c ∙ sym (cells-blocked p c i)))
