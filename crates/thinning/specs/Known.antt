-- Used by contracts between functions; nobody has to believe it: laws tie it to the definitions.
-- What the functions of `thin` require and leave.
--
--   VertexList w h l n           == l has n places or more, and its first n numbers are vertices
--   Leg f l n i                  == i + 1 is below n, and the vertex at position i sees the one at position i + 1
--   chain next n c i             == i, the position that `next` gives after it, and so on up to n - 1, at most c of them
--   Steps pre post n             == from each position before n - 1 one may ask for the next, and the answer is a later
--                                   position below n. `pre i` says that one may ask at i, `post i j` that j may be the
--                                   answer
--   Chained post n l m left      == where each answer is that of a rule `next`, m is the length of the chain from 0, and
--                                   `left` is the slice l with this chain, then 0
--   Recordable f list out n      == the list is joined and has at most 16,384 places, and the output slice is as long
--                                   as it
--   Recorded f list out n m left == m is the number of positions that are kept, and `left` is the slice `out` with
--                                   these, then 0
use Rattle.std.specs.Prelude.{ℕ, zero, suc, ◌≤◌, ◌<◌, ◌≡◌, true, List, [], ◌∷◌, ltb, length}
use Rattle.basics.specs.Bounded.{pick, every}
use Rattle.basics.specs.Lists.{padded}
use Rattle.floor.specs.Floor.{Floor}
use Rattle.thinning.specs.Thinning.{kept_positions, is_vertex, sees_next, joined_list}

pub record VertexList (w h : ℕ) (l : List ℕ) (n : ℕ) : Type 0 where
  pub within : n ≤ length l
  pub each : every n (is_vertex w h l) ≡ true

pub record Leg (f : Floor) (l : List ℕ) (n i : ℕ) : Type 0 where
  pub listed : VertexList f.wide f.high l n
  pub more : suc i < n
  pub sees : sees_next f l i ≡ true

unfoldable pub chain : (ℕ → ℕ) → ℕ → ℕ → ℕ → List ℕ
chain next n zero i = []
chain next n (suc c) i = i ∷ pick (ltb (suc i) n) (chain next n c (next i)) []

pub record Steps (pre : ℕ → Type 0) (post : ℕ → ℕ → Type 0) (n : ℕ) : Type 0 where
  pub may : (i : ℕ) → suc i < n → pre i
  pub later : (i j : ℕ) → suc i < n → post i j → i < j
  pub within : (i j : ℕ) → suc i < n → post i j → j < n

pub record Chained (post : ℕ → ℕ → Type 0) (n : ℕ) (l : List ℕ) (m : ℕ) (left : List ℕ) : Type 0 where
  pub count : (next : ℕ → ℕ) → ((i j : ℕ) → suc i < n → post i j → j ≡ next i) → m ≡ length (chain next n n 0)
  pub output : (next : ℕ → ℕ) → ((i j : ℕ) → suc i < n → post i j → j ≡ next i)
      → left ≡ padded (length l) (chain next n n 0)

pub record Recordable (f : Floor) (list out : List ℕ) (n : ℕ) : Type 0 where
  pub short : length list ≤ 16384
  pub same : length out ≡ length list
  pub joined : joined_list f list n ≡ true

pub record Recorded (f : Floor) (list out : List ℕ) (n m : ℕ) (left : List ℕ) : Type 0 where
  pub count : m ≡ length (kept_positions f list n)
  pub output : left ≡ padded (length out) (kept_positions f list n)
