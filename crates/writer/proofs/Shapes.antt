-- The refusals of a call: `map_shape` and `call_shape` by each test of the code, and what follows from a good shape.
--
--   GoodMap w h l         == a map of good shape: its sides are 1 to 31, and its floor has a good shape
--   cells-few             == a map of good shape has at most 961 cells
--   map-bytes-length      == a map record has 4 bytes and one for each cell
--   Accepted c x n        == the call x has a good shape, is in turn, and fits in a buffer of n bytes
--   accepted, not-refused == `call_shape c x n` is good exactly where `Accepted c x n`
use Prim.Native.Nat.{ℕ, ◌+◌, ◌*◌, ◌≤◌}
use mathlib.Core.Path.{◌≡◌, sym, ap}
use mathlib.Core.Bool.{true, ◌&&◌}
use mathlib.Core.List.{List}
use native.Mathlib.Omega.{arith}
use native.Mathlib.Nat.{mul-le-mul}
use borrow.Author.Tests.{leb-true, le-leb, eqb-true, eq-eqb}
use lib.Dec.{leb}
use lib.ListN.{length}
use Rattle.basics.specs.Bounded.{pick}
use Rattle.basics.proofs.Bools.{and_left, and_right}
use Rattle.floor.specs.Floor.{floor_of}
use Rattle.floor.specs.Refusals.{floor_shape}
use Rattle.floor.specs.declared.Refusal.TheVariants.{Size, NoRoom, OutOfTurn}
use Rattle.std.specs.Prelude.{Ok, Err}
use Rattle.floor.proofs.Shapes.{
  good-first,
  good-second,
  good-pick,
}
use Rattle.floor.proofs.Stored.{cells-length}
use Rattle.records.specs.Format.{map_side}
use Rattle.records.proofs.Found.{side-le}
use Rattle.writer.specs.Writing.{
  Call,
  put_map,
  put_job,
  call_bytes,
  given_shape,
  map_shape,
  in_turn,
  turn_shape,
  room_shape,
  call_shape,
}
use Rattle.writer.specs.Known.{MapFits}
use Rattle.writer.specs.declared.Writer.{Writer}

-- ---- a map

module _ (w h : ℕ) (l : List ℕ) where
  pub record GoodMap : Type 0 where
    pub wide : map_side w ≡ true
    pub high : map_side h ≡ true
    pub floor : floor_shape w h l ≡ Ok tt

  pub good-map : map_shape w h l ≡ Ok tt → GoodMap
  unfolding map_shape
  good-map e =
      let sides = good-pick Size (map_side w && map_side h) (good-first _ (floor_shape w h l) e) in
      record {
        wide = and_left (map_side w) (map_side h) sides;
        high = and_right (map_side w) (map_side h) sides;
        floor = good-second (pick (map_side w && map_side h) (Ok tt) (Err Size)) _ e;
      }

  pub map-good : map_side w ≡ true → map_side h ≡ true → floor_shape w h l ≡ Ok tt → map_shape w h l ≡ Ok tt
  unfolding map_shape
  map-good a b f = rw (a, b, f)

  pub cells-few : GoodMap → w * h ≤ 961
  cells-few g = mul-le-mul {n₂ = 31} {m₂ = 31} (side-le w g.wide) (side-le h g.high)

  pub map-bytes-length : length (call_bytes (put_map w h l)) ≡ 4 + w * h
  map-bytes-length = omega (arith, cells-length (floor_of w h l))

-- ---- a call

pub map-in-turn : (c : Writer) (n w h : ℕ) (l : List ℕ) → map_shape w h l ≡ Ok tt → c.due ≡ 0
    → room_shape c.at (4 + w * h) n ≡ call_shape c (put_map w h l) n
unfolding call_shape
map-in-turn c n w h l g e = rw (g, eq-eqb c.due 0 e) (ap (λ k. room_shape c.at k n) (sym (map-bytes-length w h l)))

pub record Accepted (c : Writer) (x : Call) (n : ℕ) : Type 0 where
  pub given : given_shape x ≡ Ok tt
  pub turn : in_turn c.due x ≡ true
  pub room : c.at + length (call_bytes x) ≤ n

module _ (c : Writer) (x : Call) (n : ℕ) where
  pub accepted : call_shape c x n ≡ Ok tt → Accepted c x n
  unfolding call_shape room_shape
  accepted e =
      let turn = turn_shape (in_turn c.due x) in
      let room = room_shape c.at (length (call_bytes x)) n in
      let rest = good-second (given_shape x) _ e in
      record {
        given = good-first (given_shape x) _ e;
        turn = good-pick OutOfTurn (in_turn c.due x) (good-first turn room rest);
        room = leb-true (c.at + length (call_bytes x)) n (good-pick NoRoom _ (good-second turn room rest));
      }

  pub not-refused : Accepted c x n → call_shape c x n ≡ Ok tt
  unfolding call_shape room_shape
  not-refused a = rw (a.given, a.turn, le-leb (c.at + length (call_bytes x)) n a.room)

  -- Where a call is not refused, the count of records can be raised without wrapping.
  pub due-few : call_shape c x n ≡ Ok tt → c.due ≤ 1000
  due-few e = few x (accepted e).turn
    where
      few : (x : Call) → in_turn c.due x ≡ true → c.due ≤ 1000
      few (put_map w h l) t = omega (arith, eqb-true c.due 0 t)
      few (put_job j) t = leb-true c.due 1000 (and_right (leb 1 c.due) (leb c.due 1000) t)

pub map-fits : (c : Writer) (w h : ℕ) (l buf : List ℕ) → call_shape c (put_map w h l) (length buf) ≡ Ok tt
    → MapFits w h l c.at buf
map-fits c w h l buf e =
    let a = accepted c (put_map w h l) (length buf) e in
    record { good = a.given; room = omega (arith, a.room, map-bytes-length w h l) }
