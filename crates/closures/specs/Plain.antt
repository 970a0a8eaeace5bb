-- docs/RULES.md, 11.1 to 11.5: the table as a plain map from slot to rectangle, and what post, strike and the writing
-- of the working map answer and leave.
--
--   Plain                  == a plain map from slot number to rectangle; a slot with none is free
--   nothing_held           == the empty map: every slot is free
--   is_free s              == s is no rectangle, so a slot that holds s is free
--   free_in m k            == slot k is free in m
--   lowest_free m          == the lowest free slot of the sixteen; 16 where none is free
--   changed m k s          == the map m, with s at slot k
--   within w h r           == rectangle r is not empty and does not leave a floor of width w and height h
--   post_shape w h m r     == refusals 1, 12 and 13 of posting r, in order
--   post_answer, post_map  == what post answers, and the map afterwards; at a refusal the same map
--   strike_shape w h m k   == what strike of slot k answers: refusals 1 and 14, in order
--   strike_map w h m k     == the map after strike; at a refusal the same map
--   covers r i j           == the cell in column i and row j lies in rectangle r
--   covered_by s i j       == a slot that holds s covers the cell in column i and row j
--   closed_by m i j        == some closure that m holds covers the cell in column i and row j
--   work_shape w h base n  == what the writing of the working map into a slice of n places answers: refusals 1, 2, 3,
--                             then 6
--   working_map w h base m == the base map, with every cell blocked that any closure of m covers
--   work_left w h base m l == the slice l after the writing of the working map; at a refusal the same slice
--   post_number p          == the number of what post answers (rule 6.1): 0, or that of the refusal
--   post_slot p            == the slot that post answers; 0 at a refusal
use Rattle.std.specs.Prelude.{ℕ, ◌+◌, Bool, true, false, ◌&&◌, not, List, leb, ltb, eqb, length}
use Rattle.std.specs.Prelude.{Option, None, Some, Result, Ok, Err}
use Rattle.basics.specs.Bounded.{pick, any, seek}
use Rattle.floor.specs.Floor.{floor_of, map_of, with_blocked}
use Rattle.floor.specs.Refusals.{Shape, answer_number, sides_shape, floor_shape, and_then, left_by}
use Rattle.floor.specs.declared.Refusal.{Refusal}
use Rattle.floor.specs.declared.Refusal.TheVariants.{SliceLength, ClosureBounds, SlotsFull, SlotEmpty}
use Rattle.closures.specs.declared.Rectangle.{Rectangle}

-- ---- the table: "a plain map from slot to rectangle"

abbrev pub Plain : Type 0
Plain = ℕ → Option Rectangle

abbrev pub nothing_held : Plain
nothing_held k = None

abbrev pub is_free : Option Rectangle → Bool
is_free None = true
is_free (Some r) = false

abbrev pub free_in : Plain → ℕ → Bool
free_in m k = is_free (m k)

unfoldable pub lowest_free : Plain → ℕ
lowest_free m = seek 16 0 (free_in m)

abbrev pub changed : Plain → ℕ → Option Rectangle → Plain
changed m k s i = pick (eqb i k) s (m i)

-- ---- post: "puts it in the lowest free slot and answers the slot; 12 if the rectangle is empty or leaves the floor,
-- then 13 if no slot is free"

-- The sums are of plain numbers, which do not wrap.
unfoldable pub within : ℕ → ℕ → Rectangle → Bool
within w h r =
    (leb 1 r.columns && leb 1 r.rows) && (leb (r.column + r.columns) w && leb (r.row + r.rows) h)

unfoldable pub post_shape : ℕ → ℕ → Plain → Rectangle → Shape
post_shape w h m r =
    and_then (sides_shape w h)
    (and_then (pick (within w h r) (Ok tt) (Err ClosureBounds))
    (pick (ltb (lowest_free m) 16) (Ok tt) (Err SlotsFull)))

abbrev pub post_answer : ℕ → ℕ → Plain → Rectangle → Result ℕ Refusal
post_answer w h m r = and_then (post_shape w h m r) (Ok (lowest_free m))

abbrev pub post_map : ℕ → ℕ → Plain → Rectangle → Plain
post_map w h m r = left_by (post_shape w h m r) (changed m (lowest_free m) (Some r)) m

-- ---- strike: "14 if it is above 15 or empty"

unfoldable pub strike_shape : ℕ → ℕ → Plain → ℕ → Shape
strike_shape w h m k =
    and_then (sides_shape w h) (pick (ltb k 16 && not (free_in m k)) (Ok tt) (Err SlotEmpty))

abbrev pub strike_map : ℕ → ℕ → Plain → ℕ → Plain
strike_map w h m k = left_by (strike_shape w h m k) (changed m k None) m

-- ---- the working map: "blocked where the base is or where any held closure covers"

unfoldable pub covers : Rectangle → ℕ → ℕ → Bool
covers r i j =
    (leb r.column i && ltb i (r.column + r.columns)) && (leb r.row j && ltb j (r.row + r.rows))

abbrev pub covered_by : Option Rectangle → ℕ → ℕ → Bool
covered_by None i j = false
covered_by (Some r) i j = covers r i j

unfoldable pub closed_by : Plain → ℕ → ℕ → Bool
closed_by m i j = any 16 (λ k. covered_by (m k) i j)

unfoldable pub work_shape : ℕ → ℕ → List ℕ → ℕ → Shape
work_shape w h base n = and_then (floor_shape w h base) (pick (eqb n (length base)) (Ok tt) (Err SliceLength))

abbrev pub working_map : ℕ → ℕ → List ℕ → Plain → List ℕ
working_map w h base m = map_of (with_blocked (floor_of w h base) (closed_by m))

abbrev pub work_left : ℕ → ℕ → List ℕ → Plain → List ℕ → List ℕ
work_left w h base m work = left_by (work_shape w h base (length work)) (working_map w h base m) work

-- ---- the number and the value of an answer

abbrev pub post_number : Result ℕ Refusal → ℕ
post_number p = answer_number p

abbrev pub post_slot : Result ℕ Refusal → ℕ
post_slot (Ok k) = k
post_slot (Err r) = 0
