-- The answers of the C interface about what changed between two floors: the operations' own, as numbers with their
-- values beside them.
--
--   changes_result r == the answer r of the first report: its number, and how many cells closed and opened
--   CellsTo ..       == the first report's statement: the answer r, and the slice of cell numbers afterwards
--   CostsTo ..       == the second report's statement: the answer r, and the four lent slices afterwards
use Rattle.std.specs.Prelude.{ℕ, ◌≡◌, List, Result}
use Rattle.floor.specs.Refusals.{answer_number}
use Rattle.changes.specs.Changes.{GivenFloor, cells_answer, cells_left, cells_number, closed_count, opened_count}
use Rattle.changes.specs.Changes.{ReportSlices, costs_answer, costs_left}
use Rattle.floor.specs.declared.Refusal.{Refusal}
use Rattle.changes.specs.declared.Tally.{Tally}
use Rattle.capi.specs.declared.change_reports.ChangesResult.{ChangesResult}

abbrev pub changes_result : Result Tally Refusal → ChangesResult
changes_result r = record { closed = closed_count r; opened = opened_count r; answer = cells_number r }

pub record CellsTo (p q : GivenFloor) (l : List ℕ) (r : ChangesResult) (l' : List ℕ) : Type 0 where
  pub answer : r ≡ changes_result (cells_answer p q l)
  pub left : l' ≡ cells_left p q l

pub record CostsTo (p q : GivenFloor) (nb a : ℕ) (s : ReportSlices) (r : ℕ) (s' : ReportSlices) : Type 0 where
  pub answer : r ≡ answer_number (costs_answer p q nb a s)
  pub left : s' ≡ costs_left p q nb a s
