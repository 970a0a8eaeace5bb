-- docs/RULES.md, 8.1 to 8.3: what the checker answers. After the refusals over the shape of the job and of the six
-- slices it is 0 exactly for the true route sheet, 7 exactly for the true no_route sheet, and 9 for every other sheet.
--
--   verdict g a b s == the answer to the sheet s of the job from a to b on graph g
--   sheet_sized v s == refusal 6 does not apply: each slice of the sheet s has v places
--   judged ..       == the answer to a sheet, given the shape of its job
--   check_answer .. == the answer for every input
--   check_number r  == the number of an answer (rule 6.1)
use Rattle.std.specs.Prelude.{ℕ, Bool, ◌&&◌, not, List, eqb, length, Result, Ok, Err}
use Rattle.basics.specs.Bounded.{pick}
use Rattle.floor.specs.Floor.{floor_of, vertices}
use Rattle.floor.specs.Refusals.{refusal_number}
use Rattle.floor.specs.declared.Refusal.{Refusal}
use Rattle.floor.specs.declared.Refusal.TheVariants.{SliceLength, FalseSheet}
use Rattle.moves.specs.declared.Directions.{Directions}
use Rattle.paths.specs.Graph.{Graph}
use Rattle.paths.specs.Sheet.{Sheet, joined, fits, route_sheet, no_route_sheet, same_sheet}
use Rattle.grid.specs.Grid.{floor_graph, job_shape}
use Rattle.checker.specs.declared.SheetKind.{SheetKind}
use Rattle.checker.specs.declared.SheetKind.TheVariants.{Route, NoRoute}

unfoldable pub verdict : Graph → ℕ → ℕ → Sheet → Result SheetKind Refusal
verdict g a b s =
    pick (joined g a b && (fits g a b && same_sheet s (route_sheet g a b))) (Ok Route)
    (pick (not (joined g a b) && same_sheet s (no_route_sheet g a)) (Ok NoRoute) (Err FalseSheet))

unfoldable pub sheet_sized : ℕ → Sheet → Bool
sheet_sized v s =
    eqb (length s.d) v && eqb (length s.e) v && eqb (length s.f) v && eqb (length s.b) v
    && eqb (length s.route) v && eqb (length s.next) v

abbrev pub judged : ℕ → ℕ → List ℕ → ℕ → ℕ → Sheet → Result Directions Refusal → Result SheetKind Refusal
judged w h map a b s (Ok dirs) =
    pick (sheet_sized (vertices w h) s) (verdict (floor_graph (floor_of w h map) dirs) a b s) (Err SliceLength)
judged w h map a b s (Err r) = Err r

unfoldable pub check_answer : ℕ → ℕ → List ℕ → ℕ → ℕ → ℕ → Sheet → Result SheetKind Refusal
check_answer w h map nb a b s = judged w h map a b s (job_shape w h map nb a b)

abbrev pub check_number : Result SheetKind Refusal → ℕ
check_number (Ok Route) = 0
check_number (Ok NoRoute) = 7
check_number (Err r) = refusal_number r
