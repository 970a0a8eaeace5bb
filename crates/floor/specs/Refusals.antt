-- docs/RULES.md, 6.1: each refusal's number, and the refusals over the shape of a floor and of an end.
--
--   refusal_number r    == the number of refusal r
--   NumberOf r n        == n is the number of refusal r
--   answer_number a     == the number of an answer: that of its refusal, 0 where there is none
--   Shape               == the answer of a test of an input's shape: nothing, or a refusal
--   good_if a           == the shape of an answer: its refusal, if it has one
--   sides_shape w h     == refusal 1: a side is not 1 to 127
--   unused_clear n l    == every bit of the map l past its n cells is 0
--   floor_shape w h l   == refusals 1 to 3 of a floor, in order: the sides, the map's length, its unused bits
--   end_shape w h v     == refusal 5 of one end
--   and_then s t        == the refusal of s, or the answer t where s is good: the first refusal that applies
--   left_by s x y       == x where the answer s is no refusal, y where it is one: what a call leaves
use Rattle.std.specs.Prelude.{ℕ, ◌≡◌, ◌*◌, Bool, ◌&&◌, ◌||◌, not, List, leb, ltb, eqb, length, Result, Ok, Err}
use Rattle.basics.specs.Bounded.{pick, every}
use Rattle.floor.specs.Floor.{bit_at, map_length, vertices}
use Rattle.floor.specs.declared.Refusal.{Refusal}
use Rattle.floor.specs.declared.Refusal.TheVariants.{
  Size,
  MapLength,
  UnusedBit,
  Neighbourhood,
  End,
  SliceLength,
  NoRoute,
  TooMany,
  FalseSheet,
  NotJoined,
  Pinched,
  ClosureBounds,
  SlotsFull,
  SlotEmpty,
  SizesDiffer,
  LogLength,
  BadLogRecord,
  NoRoom,
  FalseChoice,
  OutOfTurn,
}

abbrev pub refusal_number : Refusal → ℕ
refusal_number Size = 1
refusal_number MapLength = 2
refusal_number UnusedBit = 3
refusal_number Neighbourhood = 4
refusal_number End = 5
refusal_number SliceLength = 6
refusal_number NoRoute = 7
refusal_number TooMany = 8
refusal_number FalseSheet = 9
refusal_number NotJoined = 10
refusal_number Pinched = 11
refusal_number ClosureBounds = 12
refusal_number SlotsFull = 13
refusal_number SlotEmpty = 14
refusal_number SizesDiffer = 15
refusal_number LogLength = 16
refusal_number BadLogRecord = 17
refusal_number NoRoom = 18
refusal_number FalseChoice = 19
refusal_number OutOfTurn = 20

abbrev pub NumberOf : Refusal → ℕ → Type 0
NumberOf r n = n ≡ refusal_number r

abbrev pub answer_number : {A : Type 0} → Result A Refusal → ℕ
answer_number (Ok x) = 0
answer_number (Err r) = refusal_number r

abbrev pub Shape : Type 0
Shape = Result (Unit {0}) Refusal

abbrev pub good_if : {A : Type 0} → Result A Refusal → Shape
good_if (Ok x) = Ok tt
good_if (Err r) = Err r

abbrev pub and_then : {A : Type 0} → Shape → Result A Refusal → Result A Refusal
and_then (Ok x) t = t
and_then (Err r) t = Err r

abbrev pub left_by : {A B : Type 0} → Result B Refusal → A → A → A
left_by (Ok z) x y = x
left_by (Err r) x y = y

-- A side is 1 to 127.
abbrev pub side : ℕ → Bool
side n = leb 1 n && leb n 127

unfoldable pub sides_shape : ℕ → ℕ → Shape
sides_shape w h = pick (side w && side h) (Ok tt) (Err Size)

unfoldable pub unused_clear : ℕ → List ℕ → Bool
unused_clear n l = every (8 * length l) (λ c. ltb c n || not (bit_at l c))

unfoldable pub floor_shape : ℕ → ℕ → List ℕ → Shape
floor_shape w h l =
    and_then (sides_shape w h)
    (and_then (pick (eqb (length l) (map_length (w * h))) (Ok tt) (Err MapLength))
    (pick (unused_clear (w * h) l) (Ok tt) (Err UnusedBit)))

unfoldable pub end_shape : ℕ → ℕ → ℕ → Shape
end_shape w h v = pick (ltb v (vertices w h)) (Ok tt) (Err End)
