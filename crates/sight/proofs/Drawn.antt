-- What holds of a segment as the code has it.
--
--   wide, high    == its columns and rows are at most 127
--   some-columns, some-rows, in-row == an order on its columns or rows, as one on the spans
--   inside, second-inside, next-same, next-over, row-first, row-same, row-corner, row-second == with more rows than
--                    columns: the cells of a row, the crossing of the next row line, and the row's obstacle
use Prim.Native.Nat.{ℕ, ◌+◌, ◌-◌, ◌≤◌, ◌<◌}
use mathlib.Core.Path.{◌≡◌, sym}
use mathlib.Core.Logic.{◌≢◌}
use native.Mathlib.Omega.{arith}
use Rattle.std.specs.Prelude.{Option, Some, None}
use Rattle.floor.specs.Floor.{Floor}
use Rattle.sight.specs.Obstacle.{span}
use Rattle.sight.specs.Travel.{row_obstacle, cell_there, Crosses}
use Rattle.sight.specs.Drawn.{floor_under, drawn}
use Rattle.sight.specs.declared.Obstacle.{Obstacle}
use Rattle.sight.specs.declared.segment.Segment.{Segment}
use Rattle.sight.proofs.Travel.{span-le}
use Rattle.sight.proofs.Runs.{
  steep-same,
  steep-next,
  steep-inside,
  steep-second-inside,
  steep-first,
  steep-same-clear,
  steep-corner-clear,
  steep-second,
}

module _ (s : Segment) where
  pub wide : s.columns ≤ 127
  wide =
      omega (
        arith,
        s.apart.columns_are,
        span-le s.x0 s.x1 127 (omega (arith, s.ends.x_first, s.floor.sized.wide))
            (omega (arith, s.ends.x_last, s.floor.sized.wide)),
      )

  pub high : s.rows ≤ 127
  high =
      omega (
        arith,
        s.apart.rows_are,
        span-le s.y0 s.y1 127 (omega (arith, s.ends.y_first, s.floor.sized.high))
            (omega (arith, s.ends.y_last, s.floor.sized.high)),
      )

  pub some-columns : 1 ≤ s.columns → 1 ≤ span s.x0 s.x1
  some-columns h = omega (arith, s.apart.columns_are)

  pub some-rows : 1 ≤ s.rows → 1 ≤ span s.y0 s.y1
  some-rows h = omega (arith, s.apart.rows_are)

  pub in-row : {r : ℕ} → r < s.rows → r < span s.y0 s.y1
  in-row {r} h = omega (arith, s.apart.rows_are)

  -- A row of a segment with more rows than columns, and the crossing of its first line.
  module _ (n : (1 ≤ s.columns) × (s.columns < s.rows)) {r c rest : ℕ} (lr : r < s.rows)
      (C : Crosses (span s.x0 s.x1) (span s.y0 s.y1) r c rest) where
    abbrev f : Floor
    f = floor_under s

    abbrev G : ℕ → Option Obstacle
    G = cell_there f (drawn s) r

    steep : span s.x0 s.x1 < span s.y0 s.y1
    steep = omega (arith, n.1, s.apart.columns_are, s.apart.rows_are)

    over : s.rows ≤ rest + s.columns → span s.y0 s.y1 ≤ rest + span s.x0 s.x1
    over h = omega (arith, s.apart.columns_are, s.apart.rows_are)

    turned : rest + s.columns - s.rows ≢ 0 → rest + span s.x0 s.x1 - span s.y0 s.y1 ≢ 0
    turned z e = z (omega (arith, s.apart.columns_are, s.apart.rows_are))

    pub inside : c < s.columns
    inside =
        omega (
          arith,
          s.apart.columns_are,
          steep-inside f s.x0 s.y0 s.x1 s.y1 r (some-columns n.0) steep (in-row lr) C,
        )

    pub second-inside : s.rows ≤ rest + s.columns → rest + s.columns - s.rows ≢ 0 → c + 1 < s.columns
    second-inside h z =
        omega (
          arith,
          s.apart.columns_are,
          steep-second-inside f s.x0 s.y0 s.x1 s.y1 r (some-columns n.0) steep (in-row lr) C (over h) (turned z),
        )

    pub next-same : rest + s.columns < s.rows
        → Crosses (span s.x0 s.x1) (span s.y0 s.y1) (r + 1) c (rest + s.columns)
    next-same h = steep-same C s.apart.columns_are s.apart.rows_are h

    pub next-over : s.rows ≤ rest + s.columns
        → Crosses (span s.x0 s.x1) (span s.y0 s.y1) (r + 1) (c + 1) (rest + s.columns - s.rows)
    next-over h = steep-next C s.apart.columns_are s.apart.rows_are steep h

    pub row-first : {y : Obstacle} → Some y ≡ G c → row_obstacle f (drawn s) r ≡ Some y
    row-first e = sym (steep-first f s.x0 s.y0 s.x1 s.y1 r (some-columns n.0) steep (in-row lr) C (sym e))

    module _ (e : G c ≡ None) where
      pub row-same : rest + s.columns < s.rows → row_obstacle f (drawn s) r ≡ None
      row-same h =
          sym (steep-same-clear f s.x0 s.y0 s.x1 s.y1 r (some-columns n.0) steep (in-row lr) C e
          (omega (arith, s.apart.columns_are, s.apart.rows_are)))

      pub row-corner : s.rows ≤ rest + s.columns → rest + s.columns - s.rows ≡ 0 → row_obstacle f (drawn s) r ≡ None
      row-corner h z =
          sym (steep-corner-clear f s.x0 s.y0 s.x1 s.y1 r (some-columns n.0) steep (in-row lr) C e (over h)
          (omega (arith, s.apart.columns_are, s.apart.rows_are)))

      pub row-second : {o : Option Obstacle} → s.rows ≤ rest + s.columns → rest + s.columns - s.rows ≢ 0
          → o ≡ G (c + 1) → row_obstacle f (drawn s) r ≡ o
      row-second h z q =
          sym (steep-second f s.x0 s.y0 s.x1 s.y1 r (some-columns n.0) steep (in-row lr) C e (over h) (turned z) q)
