-- Used by contracts between functions; nobody has to believe it: laws tie it to the definitions.
-- What the code knows of a joined list with a number for each position, as the code has it.
--
--   sight_in l           == which positions of the list see each other
--   RightIn l            == the numbers are the fewest legs
--   LeastIn l i a b cap m == m is the least of `cap` and the numbers at the positions from a to before b to which i has
--                           a leg
--   FewerIn l i cap b    == where b holds, `cap` is one more than the number at a position to which i has a leg
use Rattle.std.specs.Prelude.{ℕ, ◌-◌, ◌≤◌, Bool}
use Rattle.basics.specs.Bounded.{pick}
use Rattle.thinning.specs.Points.{seen_in}
use Rattle.legs.specs.Known.{RightFrom, Least, Reached}
use Rattle.legs.specs.declared.leg_list.LegList.{LegList}

abbrev pub sight_in : LegList → ℕ → ℕ → Bool
sight_in l = seen_in l.points

abbrev pub RightIn : LegList → Type 0
RightIn l = RightFrom (sight_in l) l.points.n l.legs.now 0

abbrev pub LeastIn : LegList → ℕ → ℕ → ℕ → ℕ → ℕ → Type 0
LeastIn l i a b cap m = Least (sight_in l) l.points.n l.legs.now i a b cap m

abbrev pub FewerIn : LegList → ℕ → ℕ → Bool → Type 0
FewerIn l i cap b =
    Reached (sight_in l) l.points.n l.legs.now i cap (pick b (cap - 1) cap) × (pick b 1 0 ≤ cap)
