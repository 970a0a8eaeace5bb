-- The refusals: what an input has that is not refused.
--
--   GoodLegs ..             == what an input has that is not refused
--   joined-on               == what the code knows of such an input
--   joined-few              == a joined list has at most 16,384 positions
use Prim.Native.Nat.{ℕ, ◌≤◌}
use mathlib.Core.Path.{◌≡◌}
use mathlib.Core.Bool.{true, ◌&&◌}
use mathlib.Core.List.{List}
use native.Mathlib.Omega.{arith}
use borrow.Author.Tests.{leb-true, eqb-true}
use lib.Dec.{leb, eqb}
use lib.ListN.{length}
use Rattle.std.proofs.Common.{Ok, Err}
use Rattle.basics.specs.Bounded.{pick}
use Rattle.basics.proofs.Bools.{and_both}
use Rattle.floor.specs.Floor.{floor_of}
use Rattle.floor.specs.Refusals.{floor_shape, and_then}
use Rattle.floor.specs.declared.Refusal.TheVariants.{SliceLength, NotJoined}
use Rattle.floor.proofs.Shapes.{good-first, good-second, good-pick, GoodFloor, good-floor}
use Rattle.thinning.specs.Thinning.{joined_list}
use Rattle.thinning.proofs.Shapes.{joined-list, joined-sees}
use Rattle.legs.specs.Answer.{legs_shape}
use Rattle.legs.specs.Known.{JoinedOn}

pub joined-few : {w h : ℕ} {map list : List ℕ} {n : ℕ} → JoinedOn w h map list n → n ≤ 16384
joined-few j = omega (arith, j.listed.within, j.short)

module _ (w h : ℕ) (map list : List ℕ) (k m n : ℕ) where
  pub record GoodLegs : Type 0 where
    pub floor : GoodFloor w h map
    pub short : length list ≤ 16384
    pub kept_same : k ≡ length list
    pub legs-same : m ≡ length list
    pub joined : joined_list (floor_of w h map) list n ≡ true

  pub good-legs : legs_shape w h map list k m n ≡ Ok tt → GoodLegs
  unfolding legs_shape
  good-legs e =
      let sizes = leb (length list) 16384 && (eqb k (length list) && eqb m (length list)) in
      let slices = pick sizes (Ok tt) (Err SliceLength) in
      let points = pick (joined_list (floor_of w h map) list n) (Ok tt) (Err NotJoined) in
      let x = good-first (floor_shape w h map) (and_then slices points) e in
      let y = good-second (floor_shape w h map) (and_then slices points) e in
      let all = good-pick SliceLength sizes (good-first slices points y) in
      let p = and_both (leb (length list) 16384) _ all in
      let q = and_both (eqb k (length list)) (eqb m (length list)) p.1 in
      record {
        floor = good-floor w h map x;
        short = leb-true (length list) 16384 p.0;
        kept_same = eqb-true k (length list) q.0;
        legs-same = eqb-true m (length list) q.1;
        joined = good-pick NotJoined (joined_list (floor_of w h map) list n) (good-second slices points y);
      }

  pub joined-on : GoodLegs → JoinedOn w h map list n
  joined-on g =
      let j = joined-list (floor_of w h map) list n g.joined in
      record {
        sized = g.floor.sized;
        listed = j.listed;
        short = g.short;
        some = j.some;
        sees = joined-sees j;
      }
