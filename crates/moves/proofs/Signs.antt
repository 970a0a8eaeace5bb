-- A signed byte from -2 to 2: the machine reads it back unchanged, and its parts up and down.
--
--   back                  == d as the machine reads it back is d
--   parts-back            == the two parts of an offset that the machine reads back
--   handed m, handed-back == a short move by its two offsets as the machine reads them back
--   neg_up                == up (-d) = down d
--   up_le, down_le        == up d <= nat_abs d, and down d <= nat_abs d
--   narrow_one            == a narrow move goes one column or one row
use Prim.Native.Nat.{zero, suc, ◌≤◌}
use mathlib.Core.Path.{◌≡◌, refl, ap, ap₂}
use mathlib.Core.Logic.{◌⊎◌, inl, inr, ⊎_elim}
use mathlib.Core.Bool.{true}
use native.Mathlib.Omega.{arith}
use borrow.Author.Tests.{eqb-true}
use lib.Dec.{eqb}
use lib.IntN.{ℤ, pos, negsuc, nat_abs, ◌-ℤ◌}
use mir.Syntax.{w8}
use mir.Val.{SFits, to_z, of_z}
use mir.ValLaws.{to_z-of_z}
use Rattle.basics.proofs.Bools.{or_cases}
use Rattle.moves.specs.declared.Move.{Move}
use Rattle.moves.specs.declared.Offset.{Offset}
use Rattle.moves.specs.Moves.{move_of}
use Rattle.moves.specs.Steps.{up, down}
use Rattle.moves.specs.Table.{Short, parts_of, narrow}

small : (d : ℤ) → nat_abs d ≤ 2 → SFits w8 d
small (pos n) h = record { sfits = omega arith }
small (negsuc n) h = record { sfits = omega arith }

pub back : (d : ℤ) → nat_abs d ≤ 2 → to_z w8 (of_z w8 d) ≡ d
back d h = to_z-of_z w8 d (small d h)

pub parts-back : (d : ℤ) {o : Offset} → nat_abs d ≤ 2 → o ≡ parts_of (to_z w8 (of_z w8 d)) → (o.up ≡ up d) ×
    (o.down ≡ down d)
parts-back d h e =
    let p = rw (back d h) at e in (ap (λ (o : Offset). o.up) p, ap (λ (o : Offset). o.down) p)

abbrev pub handed : Move → Move
handed m = move_of (to_z w8 (of_z w8 m.dx)) (to_z w8 (of_z w8 m.dy)) 0

pub handed-back : {m : Move} → Short m → handed m ≡ move_of m.dx m.dy 0
handed-back {m} s = ap₂ (λ x y. move_of x y 0) (back m.dx s.columns) (back m.dy s.rows)

pub neg_up : (d : ℤ) → nat_abs d ≤ 2 → up (pos 0 -ℤ d) ≡ down d
unfolding up down
neg_up (pos zero) h = refl
neg_up (pos (suc zero)) h = refl
neg_up (pos (suc (suc zero))) h = refl
neg_up (pos (suc (suc (suc n)))) h = absurd (omega arith)
neg_up (negsuc n) h = omega arith

pub up_le : (d : ℤ) → up d ≤ nat_abs d
unfolding up
up_le (pos n) = omega arith
up_le (negsuc n) = omega arith

pub down_le : (d : ℤ) → down d ≤ nat_abs d
unfolding down
down_le (pos n) = omega arith
down_le (negsuc n) = omega arith

pub narrow_one : (m : Move) → narrow m ≡ true → (nat_abs m.dx ≡ 1) ⊎ (nat_abs m.dy ≡ 1)
narrow_one m t =
    ⊎_elim (λ h. inl (eqb-true (nat_abs m.dx) 1 h)) (λ h. inr (eqb-true (nat_abs m.dy) 1 h))
    (or_cases (eqb (nat_abs m.dx) 1) (eqb (nat_abs m.dy) 1) t)
