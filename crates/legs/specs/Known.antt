-- Used by contracts between functions; nobody has to believe it: laws tie it to the definitions.
-- What the code knows at the steps of `check` and `propose`.
--
--   sight_on w h map list   == which positions of the list see each other, on the floor with this map
--   JoinedOn w h map list n == the floor is good, and the first n numbers of the list, which is not too long, are
--                              vertices of which each sees the next
--   RightFrom s n l i       == the numbers l from position i on are the fewest legs
--   AtMost l a b m          == m is at most each of the numbers l from place a to before b
--   Least s n l i a b cap m == m is the least of `cap` and the numbers l at the positions from a to before b to which i
--                              has a leg
--   Reached s n l i cap m   == m is `cap`, or the number at a position to which i has a leg, and not more than `cap`
--   Filled s n l l'         == the slice l' is l once it holds the fewest legs from each position, then 0
--   Recorded s n l c l'     == c is how many positions are proposed, and the slice l' is l once it holds them, then 0
use Rattle.std.specs.Prelude.{ℕ, suc, ◌≤◌, ◌<◌, ◌≡◌, ◌⊎◌, Bool, true, List, length, get_or}
use Rattle.basics.specs.Lists.{tabulate, padded}
use Rattle.floor.specs.Floor.{floor_of}
use Rattle.floor.specs.Known.{Sized}
use Rattle.thinning.specs.Thinning.{seen}
use Rattle.thinning.specs.Known.{VertexList}
use Rattle.legs.specs.Choices.{Leg, fewest_legs}
use Rattle.legs.specs.Answer.{proposed}

abbrev pub sight_on : ℕ → ℕ → List ℕ → List ℕ → ℕ → ℕ → Bool
sight_on w h map list = seen (floor_of w h map) list

pub record JoinedOn (w h : ℕ) (map list : List ℕ) (n : ℕ) : Type 0 where
  pub sized : Sized w h map
  pub listed : VertexList w h list n
  pub short : length list ≤ 16384
  pub some : 1 ≤ n
  pub sees : (i : ℕ) → suc i < n → sight_on w h map list i (suc i) ≡ true

abbrev pub RightFrom : (ℕ → ℕ → Bool) → ℕ → List ℕ → ℕ → Type 0
RightFrom s n l i = (k : ℕ) → i ≤ k → k < n → get_or l k 0 ≡ fewest_legs s n k

pub record AtMost (l : List ℕ) (a b m : ℕ) : Type 0 where
  pub each : (k : ℕ) → a ≤ k → k < b → m ≤ get_or l k 0

pub record Least (s : ℕ → ℕ → Bool) (n : ℕ) (l : List ℕ) (i a b cap m : ℕ) : Type 0 where
  pub capped : m ≤ cap
  pub below : (j : ℕ) → Leg s n i j → a ≤ j → j < b → m ≤ get_or l j 0
  pub found : (m ≡ cap) ⊎ ((j : ℕ) × Leg s n i j × (m ≡ get_or l j 0))

pub record Reached (s : ℕ → ℕ → Bool) (n : ℕ) (l : List ℕ) (i cap m : ℕ) : Type 0 where
  pub capped : m ≤ cap
  pub found : (m ≡ cap) ⊎ ((j : ℕ) × Leg s n i j × (m ≡ get_or l j 0))

pub record Filled (s : ℕ → ℕ → Bool) (n : ℕ) (l l' : List ℕ) : Type 0 where
  pub output : l' ≡ padded (length l) (tabulate n (fewest_legs s n))

pub record Recorded (s : ℕ → ℕ → Bool) (n : ℕ) (l : List ℕ) (c : ℕ) (l' : List ℕ) : Type 0 where
  pub count : c ≡ length (proposed s n)
  pub output : l' ≡ padded (length l) (proposed s n)
