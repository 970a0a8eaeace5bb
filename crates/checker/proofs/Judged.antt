-- The answer `judged`, for each outcome of the tests that the checker runs on a whole job.
use Prim.Native.Nat.{ℕ, ◌^◌, ◌<◌}
use mathlib.Core.Path.{◌≡◌, sym, ◌∙◌}
use mathlib.Core.Bool.{Bool, true, false}
use mathlib.Core.List.{List}
use Rattle.std.specs.Prelude.{Ok, Err}
use Rattle.basics.specs.Bounded.{pick}
use Rattle.floor.specs.Floor.{floor_of, vertices}
use Rattle.floor.specs.declared.Refusal.TheVariants.{FalseSheet}
use Rattle.moves.specs.declared.Directions.{Directions}
use Rattle.moves.proofs.Table.{listed-lawful}
use Rattle.paths.specs.Graph.{Graph}
use Rattle.paths.specs.Sheet.{Sheet}
use Rattle.paths.specs.Local.{entry, Shaped}
use Rattle.paths.proofs.Sheets.{lengths-shaped}
use Rattle.grid.specs.Grid.{floor_graph}
use Rattle.grid.specs.Known.{GoodJob}
use Rattle.grid.proofs.Lawful.{floor-lawful}
use Rattle.checker.specs.declared.SheetKind.TheVariants.{Route, NoRoute}
use Rattle.checker.specs.Answer.{sheet_sized, judged}
use Rattle.checker.specs.Tests.{route_test, no_route_test, CheckInput}
use Rattle.checker.proofs.Verdict.{verdict-tests}

sized-shaped : (n : ℕ) (s : Sheet) → sheet_sized n s ≡ true → Shaped n s
unfolding sheet_sized
sized-shaped n s t = lengths-shaped n s t

module _ (w h : ℕ) (l : List ℕ) (r : Directions) (a b : ℕ) (s : Sheet) (v : ℕ) (count : v ≡ vertices w h)
    {k : Bool} (sized : k ≡ sheet_sized v s) where
  abbrev g : Graph
  g = floor_graph (floor_of w h l) r

  sized-is : k ≡ sheet_sized (vertices w h) s
  sized-is = rw count at sized

  module _ (good : k ≡ true) where
    fits : sheet_sized (vertices w h) s ≡ true
    fits = sym sized-is ∙ good

    module _ (job : GoodJob w h l r a b) where
      pub judged-input : CheckInput w h l r a b s
      judged-input = record { job = job; shape = sized-shaped g.size s fits }

      module _ (total : entry s.f b < 2 ^ 64) {p : Bool} (route-is : p ≡ route_test g a b s) where
        is-verdict : judged w h l a b s (Ok r) ≡ pick p (Ok Route)
            (pick (no_route_test g a b s) (Ok NoRoute) (Err FalseSheet))
        is-verdict =
            rw (fits, route-is)
            (verdict-tests g a b s (floor-lawful (floor_of w h l) r (listed-lawful job.listed)) job.start_in
            job.goal_in (sized-shaped g.size s fits) total)

        pub judged-route : p ≡ true → Ok Route ≡ judged w h l a b s (Ok r)
        judged-route e = sym (is-verdict ∙ rw e)

        module _ (no : p ≡ false) {q : Bool} (none_is : q ≡ no_route_test g a b s) where
          pub judged-no_route : q ≡ true → Ok NoRoute ≡ judged w h l a b s (Ok r)
          judged-no_route e = sym (is-verdict ∙ rw (no, sym none_is, e))

          pub judged-false : q ≡ false → Err FalseSheet ≡ judged w h l a b s (Ok r)
          judged-false e = sym (is-verdict ∙ rw (no, sym none_is, e))
