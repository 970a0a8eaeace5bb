-- Used by contracts between functions; nobody has to believe it: laws tie it to the definitions.
-- The ordered merge: what its functions promise each other, and the invariants of its loops.
--
--   cost_given c key          == the cost c after key was offered: the key where there was none
--   count_given c             == 1 where the cost c is `unreachable`, else 0: how many vertices an offer settles
--   Given ..                  == what an offer stores: the cost, and the vertex at the end of the order
--   key_of n p c d work       == the key of place p of the order for moves of cost c; `unreachable` past the n settled
--   Keyed n d work            == the keys of the first n places can be worked out
--   reached l                 == how many costs of the list l are below `unreachable`
--   Settled g a n d work      == n vertices have a cost, each that of a walk from a; they stand in order
--   Ready ..                  == n vertices are settled, each at a cost of at most key, and key may be given to more
--   KeyWalk g a u c key       == a walk from a to u and a move of cost c from there cost key together
--   Grown ..                  == from n settled vertices to r, those added at cost key; all else is as it was
--   Relaxing ..               == what the relaxing of a class of moves takes
--   Relaxed ..                == the far ends of the moves of class c from u cost at most key
--   Placed ..                 == what holds of one class and its position p in the order
--   Running ..                == what holds at each turn of the algorithm, of the classes l and their positions pos
--   Runnable ..               == what the algorithm takes
--   OnlySource ..             == the source a alone has a cost, 0, and stands first in the order
--   Begun ..                  == `Runnable`, and the source alone is settled: the algorithm can go on
--   remaining v pos           == what the positions have before them: the algorithm's measure
use Rattle.std.specs.Prelude.{ℕ, ◌+◌, ◌-◌, ◌*◌, ◌≤◌, ◌<◌, ◌≡◌, List, [], ◌∷◌, ltb, eqb, length, get_or, set, replicate}
use Rattle.std.proofs.Math.Option.{some}
use Rattle.basics.specs.Bounded.{pick}
use Rattle.offsets.specs.declared.Class.{Class}
use Rattle.moves.specs.declared.Directions.{Directions}
use Rattle.offsets.specs.Classes.{class_count, Member, CostClass, Classes, class_at}
use Rattle.paths.specs.Graph.{Graph, Lawful}
use Rattle.paths.specs.Walk.{HasWalk}
use Rattle.paths.specs.Distance.{unreachable}
use Rattle.paths.specs.Local.{entry}
use Rattle.workspace.specs.Regions.{Ordered, Masked}

-- ---- one vertex

abbrev pub cost_given : ℕ → ℕ → ℕ
cost_given c key = pick (eqb c unreachable) key c

abbrev pub count_given : ℕ → ℕ
count_given c = pick (eqb c unreachable) 1 0

pub record Given (x key n r : ℕ) (d d' work work' : List ℕ) : Type 0 where
  pub cost : d' ≡ set d x (cost_given (entry d x) key)
  pub place : work' ≡ set work n x
  pub count : r ≡ n + count_given (entry d x)

-- ---- keys

unfoldable pub key_of : ℕ → ℕ → ℕ → List ℕ → List ℕ → ℕ
key_of n p c d work = pick (ltb p n) (entry d (entry work p) + c) unreachable

pub record Keyed (n : ℕ) (d work : List ℕ) : Type 0 where
  pub room : n ≤ length work
  pub inside : (i : ℕ) → i < n → entry work i < length d
  pub small : (i : ℕ) → i < n → entry d (entry work i) + 4095 < unreachable

-- ---- the settled vertices

unfoldable pub reached : List ℕ → ℕ
reached [] = 0
reached (x ∷ l) = pick (ltb x unreachable) 1 0 + reached l

pub record Settled (g : Graph) (a n : ℕ) (d work : List ℕ) : Type 0 where
  pub few : g.size ≤ 16384
  pub source : a < g.size
  pub d_len : length d ≡ g.size
  pub work_len : length work ≡ 4 * g.size
  pub counted : reached d ≡ n
  pub ordered : Ordered g.size n (entry d) (entry work)
  pub at_most : (u : ℕ) → u < g.size → entry d u ≤ unreachable
  pub walked : (u : ℕ) → u < g.size → entry d u < unreachable → HasWalk g (entry d u) a u
  pub start : entry d a ≡ 0
  -- the vertex settled as number i costs at most i times the dearest move, so no sum overflows
  pub bounded : (i : ℕ) → i < n → entry d (entry work i) ≤ i * 4095

pub record Ready (g : Graph) (a n key : ℕ) (d work : List ℕ) : Type 0 where
  pub settled : Settled g a n d work
  pub under : (i : ℕ) → i < n → entry d (entry work i) ≤ key
  pub small : key ≤ n * 4095

pub record KeyWalk (g : Graph) (a u c key : ℕ) : Type 0 where
  pub inside : u < g.size
  pub rest : ℕ
  pub total : rest + c ≡ key
  pub walk : HasWalk g rest a u

pub record Grown (v n r key : ℕ) (d d' work work' : List ℕ) : Type 0 where
  pub more : n ≤ r
  pub same_order : (i : ℕ) → i < n → entry work' i ≡ entry work i
  pub same_rest : (i : ℕ) → v < i → entry work' i ≡ entry work i
  pub same_cost : (u : ℕ) → entry d u < unreachable → entry d' u ≡ entry d u
  pub fresh : (i : ℕ) → n ≤ i → i < r → entry d' (entry work' i) ≡ key

-- ---- one class of moves

pub record Relaxing (g : Graph) (r : Directions) (shifts : List ℕ) (c : Class) (a p key n : ℕ) (d work : List ℕ)
    : Type 0 where
  pub lawful : Lawful g
  pub masked : Masked g r shifts work
  pub class : CostClass r c
  pub used : 0 < c.cost
  pub ready : Ready g a n key d work
  pub place : p < n
  pub walk : KeyWalk g a (entry work p) c.cost key

pub record Relaxed (g : Graph) (r : Directions) (a u : ℕ) (c : Class) (key n s : ℕ)
    (d d' work work' : List ℕ) : Type 0 where
  pub ready : Ready g a s key d' work'
  pub grown : Grown g.size n s key d d' work work'
  pub relaxed : (m w : ℕ) → Member r c m → m < g.moves → g.step m u ≡ some w → entry d' w ≤ key

-- ---- the algorithm

-- Before place p no move of the class gives a lower cost; from p on, no key is less than a cost that was given. A class of
-- no move has its position past all vertices.
pub record Placed (g : Graph) (r : Directions) (n : ℕ) (c : Class) (p : ℕ) (d work : List ℕ) : Type 0 where
  pub unused : c.cost ≡ 0 → g.size ≤ p
  pub room : 0 < c.cost → p ≤ n
  pub relaxed : 0 < c.cost → (i m w : ℕ) → i < p → Member r c m → m < g.moves → g.step m (entry work i) ≡ some w
      → entry d w ≤ entry d (entry work i) + c.cost
  pub pending : (i : ℕ) → i < n → p < n → entry d (entry work i) ≤ entry d (entry work p) + c.cost

pub record Running (g : Graph) (r : Directions) (a n : ℕ) (l : List Class) (pos d work₀ work : List ℕ) : Type 0 where
  pub settled : Settled g a n d work
  pub passed : (k : ℕ) → k < class_count → Placed g r n (class_at l k) (get_or pos k 0) d work
  pub rest : (i : ℕ) → g.size < i → entry work i ≡ entry work₀ i

pub record Runnable (g : Graph) (r : Directions) (shifts : List ℕ) (l : List Class) (a : ℕ)
    (d work : List ℕ) : Type 0 where
  pub few : g.size ≤ 16384
  pub lawful : Lawful g
  pub masked : Masked g r shifts work
  pub classes : Classes r l
  pub source : a < g.size
  pub d_len : length d ≡ g.size
  pub work_len : length work ≡ 4 * g.size

pub record OnlySource (a : ℕ) (d d' work work' : List ℕ) : Type 0 where
  pub costs : d' ≡ set (replicate (length d) unreachable) a 0
  pub order : work' ≡ set work 0 a

pub record Begun (g : Graph) (r : Directions) (shifts : List ℕ) (l : List Class) (a : ℕ)
    (d work : List ℕ) : Type 0 where
  pub runs : Runnable g r shifts l a d work
  pub settled : Settled g a 1 d work

unfoldable pub remaining : ℕ → List ℕ → ℕ
remaining v [] = 0
remaining v (p ∷ l) = (v - p) + remaining v l
