-- `records::stream::map_settled` meets its contract: a wrong byte settles the map, a missing one leaves it open where
-- those before it are right, and a whole record settles it. Assumes nothing.
use Prim.Native.Nat.{◌+◌, ◌*◌, ◌≤◌}
use mathlib.Core.Path.{◌≡◌, ap, ap₂, sym, ◌∙◌}
use native.Mathlib.Omega.{arith}
use native.Mathlib.Nat.{mul-le-mul}
use borrow.Author.Tests.{eq-eqb, ne_eqb, not-true}
use lib.Dec.{eqb}
use lib.ListN.{get_or}
use Rattle.basics.proofs.Bools.{and_left, and_right}
use Rattle.basics.proofs.Bounded.{every-at}
use Rattle.records.specs.Format.{map_side, wide_at, high_at}
use Rattle.records.proofs.Found.{granted, side-le}
use Rattle.records.proofs.Settled.{decides-yes, decides-no, decides_not}
use Rattle.records.proofs.Settled.{map-wrong, map-wrong-cells, map_whole, map-open}
use Rattle.records.proofs.stream.map_settled.Goals.{Else-not-side_good-2}
use Rattle.records.proofs.stream.map_settled.Goals as goal

count-is : (k : Else-not-side_good-2)
    → k.byte-wide.result * k.byte-high.result
    ≡ wide_at (k.args.s.now) (k.args.at) * high_at (k.args.s.now) (k.args.at)
count-is k =
    ap₂ ◌*◌ k.byte-wide.ensures.0 k.byte-high.ensures.0

count_small : (k : Else-not-side_good-2)
    → k.byte-wide.result * k.byte-high.result ≤ 961
count_small k =
    mul-le-mul {n₂ = 31} {m₂ = 31} (side-le _ (granted k.side_good.ensures k.if-not-side_good.false-raw))
    (side-le _ (granted k.side_good-2.ensures k.if-not-side_good-2.false-raw))

pub returns-then-s-at : goal.returns-then-s-at
returns-then-s-at c =
    decides-no (map-open _ _ record {
      first = λ l. absurd (omega arith);
      second = λ l. absurd (omega arith);
      wide = λ l. absurd (omega arith);
      high = λ l. absurd (omega arith);
      cells = λ k l. absurd (omega arith);
    } (omega arith))

pub returns-then-s-at-ne77 : goal.returns-then-s-at-ne77
returns-then-s-at-ne77 c =
    let a = c.args in
    decides-yes (map-wrong a.s.now a.at (λ x. eqb x 0x4D) a.at (omega arith) (ne_eqb _ _ c.if-s-at-ne77.true)
    (λ s g. and_left _ _ g.mark))

pub returns-then-left-lt2 : goal.returns-then-left-lt2
returns-then-left-lt2 c =
    decides-no (map-open _ _ record {
      first = λ l. eq-eqb _ _ c.if-s-at-ne77.false;
      second = λ l. absurd (omega arith);
      wide = λ l. absurd (omega arith);
      high = λ l. absurd (omega arith);
      cells = λ k l. absurd (omega arith);
    } (omega arith))

pub returns-then-s-at-ne80 : goal.returns-then-s-at-ne80
returns-then-s-at-ne80 c =
    let a = c.args in
    decides-yes (map-wrong a.s.now a.at (λ x. eqb x 0x50) (a.at + 1) (omega arith) (ne_eqb _ _ c.if-s-at-ne80.true)
    (λ s g. and_right (eqb (get_or s a.at 0) 0x4D) _ g.mark))

pub returns-then-left-lt3 : goal.returns-then-left-lt3
returns-then-left-lt3 c =
    decides-no (map-open _ _ record {
      first = λ l. eq-eqb _ _ c.if-s-at-ne77.false;
      second = λ l. eq-eqb _ _ c.if-s-at-ne80.false;
      wide = λ l. absurd (omega arith);
      high = λ l. absurd (omega arith);
      cells = λ k l. absurd (omega arith);
    } (omega arith))

pub returns-then-not-side_good : goal.returns-then-not-side_good
returns-then-not-side_good c =
    let a = c.args in
    decides-yes (map-wrong a.s.now a.at map_side (a.at + 2) (omega arith)
    (ap map_side (sym c.byte-wide.ensures.0) ∙ sym c.side_good.ensures
    ∙ not-true _ c.if-not-side_good.true-raw)
    (λ s g. g.wide))

pub returns-then-left-lt4 : goal.returns-then-left-lt4
returns-then-left-lt4 c =
    decides-no (map-open _ _ record {
      first = λ l. eq-eqb _ _ c.if-s-at-ne77.false;
      second = λ l. eq-eqb _ _ c.if-s-at-ne80.false;
      wide = λ l.
          granted (c.side_good.ensures ∙ ap map_side c.byte-wide.ensures.0) c.if-not-side_good.false-raw;
      high = λ l. absurd (omega arith);
      cells = λ k l. absurd (omega arith);
    } (omega arith))

pub returns-then-not-side_good-2 : goal.returns-then-not-side_good-2
returns-then-not-side_good-2 c =
    let a = c.args in
    decides-yes (map-wrong a.s.now a.at map_side (a.at + 3) (omega arith)
    (ap map_side (sym c.byte-high.ensures.0) ∙ sym c.side_good-2.ensures
    ∙ not-true _ c.if-not-side_good-2.true-raw)
    (λ s g. g.high))

pub overflow_mul-wide : goal.overflow_mul-wide
overflow_mul-wide c = omega (arith, count_small c)

pub overflow_add-wide : goal.overflow_add-wide
overflow_add-wide c = omega (arith, count_small c)

pub returns-then-wide-high : goal.returns-then-wide-high
returns-then-wide-high c = decides-yes (map_whole (c.args.s.now) (c.args.at) (omega (arith, count-is (goal.at.returns-then-wide-high c).Else-not-side_good-2)))

pub returns : goal.returns
returns c =
    let count = count-is (goal.at.returns c).Else-not-side_good-2 in
    decides_not _
    (λ w. map-wrong-cells (c.args.s.now) (c.args.at) _ (omega arith) (omega arith) (sym c.cells_good.ensures ∙ w))
    (λ w. map-open (c.args.s.now) (c.args.at) record {
      first = λ l. eq-eqb _ _ c.if-s-at-ne77.false;
      second = λ l. eq-eqb _ _ c.if-s-at-ne80.false;
      wide = λ l.
          granted (c.side_good.ensures ∙ ap map_side c.byte-wide.ensures.0) c.if-not-side_good.false-raw;
      high = λ l.
          granted (c.side_good-2.ensures ∙ ap map_side c.byte-high.ensures.0) c.if-not-side_good-2.false-raw;
      cells = λ i l. every-at _ _ (sym c.cells_good.ensures ∙ w) i (omega arith);
    } (omega arith))
