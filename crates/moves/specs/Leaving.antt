-- Used by contracts between functions; nobody has to believe it: laws tie it to the definitions.
-- The test of a move that looks at the pinch of its first end alone. A move is open exactly when it passes this test
-- from both of its ends.
--
--   leaves f s        == no cell and no step is in the way of s, and its first end is no pinch
--   leaving_end f m v == `end_if leaves` of move m at the vertex with number v: the far end of a move that leaves v
use Rattle.std.specs.Prelude.{ℕ, Bool, ◌&&◌, not}
use Rattle.std.proofs.Math.Option.{Option}
use Rattle.floor.specs.Floor.{Floor, column, row}
use Rattle.sight.specs.Sight.{Segment, unblocked, pinch}
use Rattle.moves.specs.declared.Move.{Move}
use Rattle.moves.specs.Steps.{end_if}

unfoldable pub leaves : Floor → Segment → Bool
leaves f s = unblocked f s && not (pinch f s.x0 s.y0)

abbrev pub leaving_end : Floor → Move → ℕ → Option ℕ
leaving_end f m v = end_if leaves f m (column f.wide v) (row f.wide v)
