-- `masks::join_line` meets its contract: the masks of the vertices before column x of the row are made, the rest of the
-- line is as it was, and `before` is the mask of the window on the left of that vertex. Assumes nothing.
use Prim.Native.Nat.{suc, ◌+◌, ◌-◌}
use mathlib.Core.Path.{◌≡◌, ap, ◌∙◌}
use native.Mathlib.Omega.{arith}
use native.Mathlib.Numerals.{add-one}
use lib.ListN.{get_or}
use lib.Seq.{get_or-set_other}
use Rattle.floor.specs.Plan.{floor_on}
use Rattle.masks.specs.Windows.{window_at}
use Rattle.masks.proofs.Masks.{row_more}
use Rattle.masks.proofs.Windows.{past-right, line-leaving}
use Rattle.masks.proofs.join_line.Goals as goal

pub loop-x-preserved : goal.loop-x-preserved
loop-x-preserved c =
    let a = c.args in
    let x = c.loop-x.x in
    let f = floor_on a.floor in
    let L = c.requires.2 in
    let i = c.loop-x.invariant in
    let next =
    i.1 (x + 1) (omega arith) ∙ ap (λ n. get_or a.line.now n 0) (add-one x) ∙ L.middle.at (suc x) (omega arith) in
    let made = line-leaving c.requires.1 L c.requires.0 x (omega arith) i.2 next in (
      rw add-one
          (row_more i.0 (omega (arith, c.args.floor.sized.wide)) (rw (c.joined.ensures, i.1 x (omega arith)) made)),
      λ k h. get_or-set_other c.loop-x.line x k _ 0 (λ e. omega arith) ∙ i.1 k (omega arith),
      i.1 x (omega arith) ∙ L.middle.at x (omega arith)
          ∙ ap (λ n. get_or a.windows.now (window_at f n a.y) 0) (omega arith),
      omega arith,
    )

pub returns : goal.returns
returns c =
    let a = c.args in
    let f = floor_on a.floor in
    let i = c.loop-x.invariant in
    let e : c.loop-x.x ≡ a.floor.w = omega (arith, i.3) in
    let last : get_or a.windows.now 15 0 ≡ get_or a.windows.now (window_at f (suc a.floor.w) a.y) 0 =
    ap (λ n. get_or a.windows.now n 0) (past-right f a.y) in
    let left = i.2 ∙ ap (λ n. get_or a.windows.now (window_at f (n - 1) a.y) 0) e in
    row_more (rw e at i.0) (omega (arith, c.args.floor.sized.wide))
    (rw (c.joined-2.ensures, i.1 a.floor.w (omega arith))
    (line-leaving c.requires.1 c.requires.2 c.requires.0 a.floor.w (omega arith) left last))
