-- What holds of an input of good shape of the first report, and the report on it.
--
--   floors-second           == the refusal of a bad second floor is the two floors' one, where the first is good
--   GoodFloors, good-floors == what holds of two floors of good shape
--   GoodCells, good-cells   == what holds of an input of good shape of the first report
--   cells-maps              == in an input of good shape of the first report both maps have as many cells as the slice
--                              has places
--   reports-listed          == the answer and the slice where the input is not refused
use Prim.Native.Nat.{ℕ, ◌*◌}
use mathlib.Core.Path.{◌≡◌, ap, ap₂}
use mathlib.Core.Bool.{◌&&◌}
use mathlib.Core.List.{List}
use native.Mathlib.Omega.{arith}
use borrow.Author.Tests.{eqb-true}
use lib.Dec.{eqb}
use lib.ListN.{length}
use Rattle.std.proofs.Common.{Ok, Err}
use Rattle.basics.proofs.Bools.{and_left, and_right}
use Rattle.floor.specs.declared.Refusal.{Refusal}
use Rattle.floor.specs.declared.Refusal.TheVariants.{SliceLength, SizesDiffer}
use Rattle.floor.proofs.Shapes.{GoodFloor, good-floor, good-first, good-second, good-pick}
use Rattle.floor.proofs.Numbers.{cells-le}
use Rattle.changes.specs.Changes.{
  GivenFloor,
  shape_of,
  floors_shape,
  cells_shape,
  cells_answer,
  cells_left,
  ReportsCells,
}
use Rattle.changes.specs.Known.{MapsOf, Noted}
use Rattle.changes.specs.declared.Tally.{Tally}
use Rattle.changes.proofs.Noting.{noted-tally, noted-listed}

-- ---- two floors

-- A bad second floor is the answer once the first is good, before the sizes. The proofs go without it; docs name it.
pub floors-second : (p q : GivenFloor) → shape_of p ≡ Ok tt → {r : Refusal} → shape_of q ≡ Err r
    → shape_of q ≡ floors_shape p q
unfolding floors_shape
floors-second p q first e = rw (first, e)

pub record GoodFloors (p q : GivenFloor) : Type 0 where
  pub first : GoodFloor p.wide p.high p.map
  pub second : GoodFloor q.wide q.high q.map
  pub wide : p.wide ≡ q.wide
  pub high : p.high ≡ q.high

pub good-floors : (p q : GivenFloor) → floors_shape p q ≡ Ok tt → GoodFloors p q
unfolding floors_shape
good-floors p q e =
    let wide = eqb p.wide q.wide in
    let high = eqb p.high q.high in
    let later = good-second (shape_of p) _ e in
    let same = good-pick SizesDiffer (wide && high) (good-second (shape_of q) _ later) in
    record {
      first = good-floor p.wide p.high p.map (good-first (shape_of p) _ e);
      second = good-floor q.wide q.high q.map (good-first (shape_of q) _ later);
      wide = eqb-true p.wide q.wide (and_left wide high same);
      high = eqb-true p.high q.high (and_right wide high same);
    }

-- ---- the first report

module _ (p q : GivenFloor) (n : ℕ) where
  pub record GoodCells : Type 0 where
    pub floors : GoodFloors p q
    pub size : n ≡ p.wide * p.high

  pub good-cells : cells_shape p q n ≡ Ok tt → GoodCells
  unfolding cells_shape
  good-cells e = record {
    floors = good-floors p q (good-first (floors_shape p q) _ e);
    size = eqb-true n (p.wide * p.high)
        (good-pick SliceLength (eqb n (p.wide * p.high)) (good-second (floors_shape p q) _ e));
  }

  pub cells-maps : GoodCells → MapsOf p.map q.map n
  cells-maps G =
      let first = G.floors.first.sized in
      let second = G.floors.second.sized in
      let same : p.wide * p.high ≡ q.wide * q.high = ap₂ ◌*◌ G.floors.wide G.floors.high in
      record {
        few = omega (arith, G.size, cells-le first.wide first.high);
        first = omega (arith, G.size, first.size);
        second = omega (arith, G.size, second.size, same);
      }

pub reports-listed : (p q : GivenFloor) {l l' : List ℕ} {t : Tally} → cells_shape p q (length l) ≡ Ok tt
    → Noted p.map q.map (length l) (length l) t l' → ReportsCells p q l (Ok t) l'
unfolding cells_answer cells_left
reports-listed p q {l} e N =
    let size = (good-cells p q (length l) e).size in
    record { answer = rw e (ap Ok (noted-tally p q size N)); left = rw e (noted-listed p q size N) }
