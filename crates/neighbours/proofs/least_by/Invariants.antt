-- `neighbours::least_by` meets its contract: the least of the far ends passed. Assumes nothing.
use Prim.Native.Nat.{ℕ, ◌≤◌}
use mathlib.Core.Path.{◌≡◌}
use mathlib.Core.List.{List}
use Rattle.offsets.specs.declared.Class.{Class}
use Rattle.offsets.specs.Classes.{class_dir}
use Rattle.paths.specs.Local.{entry}
use Rattle.neighbours.specs.Least.{least_of, end_at}
use Rattle.neighbours.proofs.least_by.Given as goal

-- what the far ends of a class cost
abbrev pub ends : List ℕ → Class → ℕ → List ℕ → ℕ → ℕ → ℕ
ends shifts class mask d v j = entry d (end_at shifts mask v (class_dir class j))

abbrev pub invariant-loop-j : goal.invariant-loop-j
invariant-loop-j l = (l.least ≡ least_of (ends l.shifts l.class l.mask l.d l.v) l.j) × (l.j ≤ 4)
