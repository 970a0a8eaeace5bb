-- Used by contracts between functions; nobody has to believe it: laws tie it to the definitions.
-- The moves of a vertex as a mask, a bit for each direction of the tables. A mask of open moves says the same as
-- `open_end`.
--
--   dir_if S f x y k            == the move of direction k leads from (x, y) to a vertex of the floor, and S holds of
--                                  the segment between the two
--   MaskOf S f r x y n          == bit n k = dir_if S f x y k for each direction k of r
--   MaskAt S f r v n            == `MaskOf S f r x y n`, where (x, y) is the vertex with number v
--   OpenAt f r v n              == `MaskAt sees f r v n`: n is the mask of the open moves from the vertex with number v
--   OpenMasks f r l             == the list l has the mask of the open moves of each vertex
--   pinch_bit, pinch_mask       == the bit of a mask that says that the vertex is a pinch, and the mask with that bit
--                                  alone
--   Leaving f r x y n           == n is a mask of the moves that leave (x, y), and its bit `pinch_bit` says whether (x,
--                                  y) is a pinch
--   LeavingRow f r y n l        == the list l begins with masks of the moves that leave the first n vertices of row y
--                                  (`Leaving`)
--   LeavingTo f r n l           == the list l, of V places, has a mask of the moves that leave each vertex before n
--                                  (`Leaving`)
--   cleared_to t f s            == s leaves its first end, and its last end is no pinch with a number below t
--   Cleared f r t l             == the list l has for each vertex the mask of its moves that pass `cleared_to t`, and
--                                  marks the pinches
--   WithoutBit k n n'           == the bits of n' are those of n, but bit k, which is 0
--   dir_end_at w h x y k        == the vertex to which direction k leads from (x, y), where that is on the floor
--   leads_to o v                == the end o is vertex v
--   turned_dir r m              == the direction opposite to that of move m of r
--   leads_back w h r x y u j m  == move m leads from (x, y) to vertex u, and j is the direction opposite to it
--   ClearsMove w h r x y m l l' == the masks l' are the masks l, with bit j of vertex u cleared where `leads_back w h r
--                                  x y u j m`
--   ClearsTo w h r x y n l l'   == the masks l' are the masks l, with bit j of vertex u cleared where `leads_back w h r
--                                  x y u j m` for an m below n
use Rattle.std.specs.Prelude.{ℕ, ◌<◌, ◌≡◌, Bool, false, ◌&&◌, not, List, ltb, eqb, length, get_or}
use Rattle.std.proofs.Math.Option.{Option, none, some}
use Rattle.basics.specs.Bounded.{any}
use Rattle.basics.specs.Bits.{bit}
use Rattle.floor.specs.Floor.{Floor, vertices, number, column, row}
use Rattle.sight.specs.Sight.{Segment, pinch, sees}
use Rattle.moves.specs.declared.Directions.{Directions}
use Rattle.moves.specs.Moves.{dir_move, dir_at}
use Rattle.moves.specs.Steps.{far_end_at, end_if}
use Rattle.moves.specs.Leaving.{leaves}
use Rattle.moves.specs.Table.{is_some, opposite_of}

abbrev pub dir_if : (Floor → Segment → Bool) → Floor → ℕ → ℕ → ℕ → Bool
dir_if S f x y k = is_some (end_if S f (dir_move k) x y)

pub record MaskOf (S : Floor → Segment → Bool) (f : Floor) (r : Directions) (x y n : ℕ) : Type 0 where
  pub at : (m : ℕ) → m < r.count → bit n (dir_at r m) ≡ dir_if S f x y (dir_at r m)

abbrev pub MaskAt : (Floor → Segment → Bool) → Floor → Directions → ℕ → ℕ → Type 0
MaskAt S f r v n = MaskOf S f r (column f.wide v) (row f.wide v) n

abbrev pub OpenAt : Floor → Directions → ℕ → ℕ → Type 0
OpenAt = MaskAt sees

pub record OpenMasks (f : Floor) (r : Directions) (l : List ℕ) : Type 0 where
  pub len : length l ≡ vertices f.wide f.high
  pub at : (v : ℕ) → v < vertices f.wide f.high → OpenAt f r v (get_or l v 0)

-- ---- the moves that leave a vertex

abbrev pub pinch_bit : ℕ
pinch_bit = 15

abbrev pub pinch_mask : ℕ
pinch_mask = 32768

pub record Leaving (f : Floor) (r : Directions) (x y n : ℕ) : Type 0 where
  pub dirs : MaskOf leaves f r x y n
  pub mark : bit n pinch_bit ≡ pinch f x y

pub record LeavingRow (f : Floor) (r : Directions) (y n : ℕ) (l : List ℕ) : Type 0 where
  pub len : length l ≡ 128
  pub at : (x : ℕ) → x < n → Leaving f r x y (get_or l x 0)

pub record LeavingTo (f : Floor) (r : Directions) (n : ℕ) (l : List ℕ) : Type 0 where
  pub len : length l ≡ vertices f.wide f.high
  pub at : (v : ℕ) → v < n → Leaving f r (column f.wide v) (row f.wide v) (get_or l v 0)

-- ---- the moves that lead to pinches, cleared

unfoldable pub cleared_to : ℕ → Floor → Segment → Bool
cleared_to t f s = leaves f s && not (pinch f s.x1 s.y1 && ltb (number f.wide s.x1 s.y1) t)

pub record Cleared (f : Floor) (r : Directions) (t : ℕ) (l : List ℕ) : Type 0 where
  pub len : length l ≡ vertices f.wide f.high
  pub at : (v : ℕ) → v < vertices f.wide f.high → MaskAt (cleared_to t) f r v (get_or l v 0)
  pub mark : (v : ℕ) → v < vertices f.wide f.high
      → bit (get_or l v 0) pinch_bit ≡ pinch f (column f.wide v) (row f.wide v)

pub record WithoutBit (k n n' : ℕ) : Type 0 where
  pub at : (j : ℕ) → bit n' j ≡ (bit n j && not (eqb k j))

abbrev pub dir_end_at : ℕ → ℕ → ℕ → ℕ → ℕ → Option ℕ
dir_end_at w h x y k = far_end_at w h (dir_move k) x y

unfoldable pub leads_to : Option ℕ → ℕ → Bool
leads_to none v = false
leads_to (some u) v = eqb u v

abbrev pub turned_dir : Directions → ℕ → ℕ
turned_dir r m = dir_at r (opposite_of r m)

abbrev pub leads_back : ℕ → ℕ → Directions → ℕ → ℕ → ℕ → ℕ → ℕ → Bool
leads_back w h r x y u j m = leads_to (dir_end_at w h x y (dir_at r m)) u && eqb (turned_dir r m) j

pub record ClearsMove (w h : ℕ) (r : Directions) (x y m : ℕ) (l l' : List ℕ) : Type 0 where
  pub len : length l' ≡ length l
  pub at : (u j : ℕ) → u < length l → bit (get_or l' u 0) j ≡ (bit (get_or l u 0) j && not (leads_back w h r x y u j m))

pub record ClearsTo (w h : ℕ) (r : Directions) (x y n : ℕ) (l l' : List ℕ) : Type 0 where
  pub len : length l' ≡ length l
  pub at : (u j : ℕ) → u < length l
      → bit (get_or l' u 0) j ≡ (bit (get_or l u 0) j && not (any n (leads_back w h r x y u j)))
