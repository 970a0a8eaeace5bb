-- `legs::LegList::numbers_right` meets its contract: the numbers from i on are right. Assumes nothing.
use Prim.Native.Nat.{suc, ◌-◌}
use mathlib.Core.Path.{◌≡◌, sym, ◌∙◌}
use native.Mathlib.Omega.{arith}
use lib.ListN.{get_or}
use Rattle.legs.specs.Known.{RightFrom, Least}
use Rattle.legs.specs.Lists.{sight_in}
use Rattle.legs.proofs.Fewest.{fewest-last}
use Rattle.legs.proofs.Least.{least-right, least-wrong}
use Rattle.legs.proofs.Tests.{numbers_more, numbers-stop, numbers-all}
use Rattle.legs.proofs.leg_list.LegList.numbers_right.Goals.{After-least_ahead, At-loop-i}
use Rattle.legs.proofs.leg_list.LegList.numbers_right.Goals as goal

-- The numbers past the position that is tested are right.
later : (l : At-loop-i)
    → RightFrom (sight_in l.args.self) l.args.self.points.n l.args.self.legs.now (suc (l.loop-i.i - 1))
later l k x y = l.loop-i.invariant k (omega arith) y

-- The least, capped by the number that is tested.
told : (c : After-least_ahead)
    → (let p = c.args.self in
    let m = c.loop-i.i - 1 in
    Least (sight_in p) p.points.n p.legs.now m (suc m) p.points.n (get_or p.legs.now m 0) c.least_ahead.result)
told c = rw c.number-here.ensures.0 at c.least_ahead.ensures

pub returns-then-number-ne0 : goal.returns-then-number-ne0
returns-then-number-ne0 c =
    let p = c.args.self in
    let z = fewest-last (sight_in p) p.points.n p.joined.sees (p.points.n - 1) (omega (arith, p.joined.some)) in
    numbers-stop (sight_in p) p.points.n p.legs.now (p.points.n - 1) (omega (arith, p.joined.some))
    (λ e. c.if-number-ne0.true (c.number.ensures.0 ∙ e ∙ z))

pub loop-i-init : goal.loop-i-init
loop-i-init c k x y =
    let p = c.args.self in
    let z = fewest-last (sight_in p) p.points.n p.joined.sees (p.points.n - 1) (omega (arith, p.joined.some)) in
    let q : k ≡ p.points.n - 1 = omega arith in
    rw q (sym c.number.ensures.0 ∙ c.if-number-ne0.false ∙ sym z)

pub returns-then-least_ahead-here : goal.returns-then-least_ahead-here
returns-then-least_ahead-here c =
    let p = c.args.self in
    let m = c.loop-i.i - 1 in
    let at = goal.at.returns-then-least_ahead-here c in
    numbers-stop (sight_in p) p.points.n p.legs.now m (omega arith)
    (least-wrong (sight_in p) p.points.n p.legs.now m p.joined.sees (omega arith) (later at.At-loop-i)
    c.least_ahead.result (told at.After-least_ahead)
    (λ e. omega (arith, c.if-least_ahead-here.true, c.number-here.ensures.0)))

pub loop-i-preserved : goal.loop-i-preserved
loop-i-preserved c =
    let p = c.args.self in
    let m = c.loop-i.i - 1 in
    let at = goal.at.loop-i-preserved c in
    numbers_more (sight_in p) p.points.n p.legs.now m (later at.At-loop-i)
    (least-right (sight_in p) p.points.n p.legs.now m p.joined.sees (omega arith) (later at.At-loop-i)
    c.least_ahead.result (told at.After-least_ahead) (omega (arith, c.number-here.ensures.0)))

pub returns : goal.returns
returns c =
    let p = c.args.self in
    numbers-all (sight_in p) p.points.n p.legs.now (λ k x y. c.loop-i.invariant k (omega arith) y)
