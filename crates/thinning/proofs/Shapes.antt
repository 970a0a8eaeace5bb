-- The refusals: `joined_list` and `list_shape` in each case that the code tells apart.
--
--   Joined f l n      == the parts of `joined_list f l n`
--   GoodList ..       == what holds of an input that is not refused
--   thins-..          == `Thins` in each case
use Prim.Native.Nat.{ℕ, suc, ◌≤◌, ◌<◌, pred}
use mathlib.Core.Path.{◌≡◌}
use mathlib.Core.Bool.{true, ◌&&◌}
use mathlib.Core.List.{List}
use native.Mathlib.Omega.{arith}
use borrow.Author.Tests.{leb-true, le-leb, ltb-true, lt-ltb, eq-eqb, eqb-true}
use lib.Dec.{leb, eqb}
use lib.ListN.{length, get_or}
use Rattle.std.specs.Prelude.{Ok, Err}
use Rattle.basics.specs.Bounded.{pick, every}
use Rattle.basics.proofs.Bools.{and_left, and_right}
use Rattle.basics.proofs.Bounded.{every-at}
use Rattle.floor.specs.Floor.{Floor, vertices, floor_of}
use Rattle.floor.specs.Refusals.{Shape, floor_shape, and_then}
use Rattle.floor.specs.declared.Refusal.{Refusal}
use Rattle.floor.specs.declared.Refusal.TheVariants.{SliceLength, NotJoined}
use Rattle.floor.proofs.Shapes.{good-first, good-second, good-pick, GoodFloor, good-floor}
use Rattle.thinning.specs.Thinning.{seen, is_vertex, sees_next, joined_list}
use Rattle.thinning.specs.Answer.{list_shape, thin_answer, thin_output, Thins}
use Rattle.thinning.specs.Known.{VertexList, Recorded}

pub vertex-yes : (w h : ℕ) (l : List ℕ) (k : ℕ) → get_or l k 0 < vertices w h → is_vertex w h l k ≡ true
unfolding is_vertex
vertex-yes w h l k a = lt-ltb (get_or l k 0) (vertices w h) a

pub listed-vertex : {w h : ℕ} {l : List ℕ} {n : ℕ} → VertexList w h l n → (k : ℕ) → k < n → get_or l k 0 < vertices w h
unfolding is_vertex
listed-vertex {w} {h} {l} {n} g k a = ltb-true (get_or l k 0) (vertices w h) (every-at n (is_vertex w h l) g.each k a)

pub record Joined (f : Floor) (l : List ℕ) (n : ℕ) : Type 0 where
  pub some : 1 ≤ n
  pub listed : VertexList f.wide f.high l n
  pub each : every (pred n) (sees_next f l) ≡ true

pub joined-list : (f : Floor) (l : List ℕ) (n : ℕ) → joined_list f l n ≡ true → Joined f l n
unfolding joined_list
joined-list f l n e =
    let vs = every n (is_vertex f.wide f.high l) in
    let ss = every (pred n) (sees_next f l) in
    let e1 = and_right (leb 1 n) (leb n (length l) && (vs && ss)) e in
    let e2 = and_right (leb n (length l)) (vs && ss) e1 in
    record {
      some = leb-true 1 n (and_left (leb 1 n) (leb n (length l) && (vs && ss)) e);
      listed = record {
        within = leb-true n (length l) (and_left (leb n (length l)) (vs && ss) e1);
        each = and_left vs ss e2;
      };
      each = and_right vs ss e2;
    }

-- Each vertex of a joined list sees the next.
pub joined-sees : {f : Floor} {l : List ℕ} {n : ℕ} → Joined f l n → (i : ℕ) → suc i < n → seen f l i (suc i) ≡ true
unfolding sees_next
joined-sees {f} {l} {n} h i k = every-at (pred n) (sees_next f l) h.each i (omega arith)

module _ (f : Floor) (l : List ℕ) (n : ℕ) where
  pub joined-on : 1 ≤ n → VertexList f.wide f.high l n → every (pred n) (sees_next f l) ≡ joined_list f l n
  unfolding joined_list
  joined-on a g = rw (le-leb 1 n a, le-leb n (length l) g.within, g.each)

module _ (w h : ℕ) (map list : List ℕ) (k n : ℕ) where
  abbrev slices : Shape
  slices = pick (leb (length list) 16384 && eqb k (length list)) (Ok tt) (Err SliceLength)

  abbrev points : Shape
  points = pick (joined_list (floor_of w h map) list n) (Ok tt) (Err NotJoined)

  pub shape_good : floor_shape w h map ≡ Ok tt → length list ≤ 16384 → k ≡ length list
      → joined_list (floor_of w h map) list n ≡ true → Ok tt ≡ list_shape w h map list k n
  unfolding list_shape
  shape_good e a b j = rw (e, le-leb (length list) 16384 a, eq-eqb k (length list) b, j)

  pub record GoodList : Type 0 where
    pub floor : GoodFloor w h map
    pub short : length list ≤ 16384
    pub same : k ≡ length list
    pub joined : joined_list (floor_of w h map) list n ≡ true

  pub good-list : list_shape w h map list k n ≡ Ok tt → GoodList
  unfolding list_shape
  good-list e =
      let x = good-first (floor_shape w h map) (and_then slices points) e in
      let y = good-second (floor_shape w h map) (and_then slices points) e in
      let both = good-pick SliceLength (leb (length list) 16384 && eqb k (length list)) (good-first slices points y) in
      record {
        floor = good-floor w h map x;
        short = leb-true (length list) 16384 (and_left (leb (length list) 16384) (eqb k (length list)) both);
        same = eqb-true k (length list) (and_right (leb (length list) 16384) (eqb k (length list)) both);
        joined = good-pick NotJoined (joined_list (floor_of w h map) list n) (good-second slices points y);
      }

module _ (w h : ℕ) (map list out : List ℕ) (n : ℕ) where
  pub thins-refused : {r : Refusal} → list_shape w h map list (length out) n ≡ Err r
      → Thins w h map list out n (Err r) out
  unfolding thin_answer thin_output
  thins-refused e = record { answer = rw e; output = rw e }

  pub thins-kept : {m : ℕ} {left : List ℕ} → list_shape w h map list (length out) n ≡ Ok tt
      → Recorded (floor_of w h map) list out n m left → Thins w h map list out n (Ok m) left
  unfolding thin_answer thin_output
  thins-kept e g = record { answer = rw (e, g.count); output = rw e g.output }
