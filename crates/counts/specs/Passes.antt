-- Used by contracts between functions; nobody has to believe it: laws tie it to the definitions.
-- The counting passes over the vertices on the way, by their cost to b: what they are handed, and what they leave.
--
--   turn_place n i rev   == the place of n that a pass comes to at turn i: i, or n - 1 - i where rev holds
--   turn_of work n rev i == the vertex at place turn_place n i rev
--   count_of ..          == the count of vertex u on the way: 1 at s, elsewhere the sum of the counts f over the moves
--                           of the mask by which a cheapest walk comes to u
--   sums_to d e whole u  == d(u) + e(u) = whole
--   Filtered p n k l l'  == of the first n numbers of l, those that pass the test p are the first k of l', in their
--                           order; from place n on l' is l
--   PassInput dirs shifts n d work == a pass can read the order and the moves of every vertex
--   WayOrder g s x n P   == P 0, .. P (n - 1) are the vertices on the way from s to x, by rising cost from s
--   Passable g dirs shifts s x n rev d work == a walk leads from s to x; d are the costs from s; the masks are those of
--                             graph g; the n turns come to the vertices on the way in a WayOrder
--   Known g dirs shifts a b n d e work == a walk joins a to b; d are the costs from a and e those from b; the masks are
--                             those of graph g; the order is by rising cost from b
--   Summed g s x f r     == where r holds, f are the counts from s on the way to x; where not, the total is 2^64 or
--                           more
--   Filled g dirs shifts a b r work f back == r says whether the total is below 2^64; where it is, f and back are the
--                             counts, otherwise they are 0; the working slice has the masks
use Rattle.std.specs.Prelude.{ℕ, ◌+◌, ◌-◌, ◌*◌, ◌^◌, ◌≤◌, ◌<◌, ◌≡◌, Bool, true, false, List, eqb, length}
use Rattle.basics.specs.Bounded.{pick}
use Rattle.basics.specs.Lists.{tabulate, zeros}
use Rattle.paths.specs.Graph.{Graph, Lawful}
use Rattle.paths.specs.Distance.{unreachable, distance, path_count}
use Rattle.paths.specs.Route.{on_way, count_from, count_to}
use Rattle.paths.specs.Sheet.{fits}
use Rattle.paths.specs.Local.{count_at, entry}
use Rattle.moves.specs.declared.Directions.{Directions}
use Rattle.neighbours.specs.Reading.{mask_graph, Readable}
use Rattle.workspace.specs.Regions.{mask_at, Ordered, Masked}

abbrev pub turn_place : ℕ → ℕ → Bool → ℕ
turn_place n i rev = pick rev (n - 1 - i) i

abbrev pub turn_of : List ℕ → ℕ → Bool → ℕ → ℕ
turn_of work n rev i = entry work (turn_place n i rev)

abbrev pub count_of : Directions → List ℕ → ℕ → ℕ → List ℕ → List ℕ → ℕ → ℕ
count_of dirs shifts mask s d f =
    count_at (mask_graph (length d) dirs shifts mask) s (λ _. true) (entry d) (entry f)

abbrev pub sums_to : List ℕ → List ℕ → ℕ → ℕ → Bool
sums_to d e whole u = eqb (entry d u + entry e u) whole

pub record Filtered (p : ℕ → Bool) (n k : ℕ) (l l' : List ℕ) : Type 0 where
  pub few : k ≤ n
  pub len : length l' ≡ length l
  pub rest : (i : ℕ) → n ≤ i → entry l' i ≡ entry l i
  pub from : (i : ℕ) → i < k → (j : ℕ) × (j < n) × (entry l j ≡ entry l' i)
  pub passing : (i : ℕ) → i < k → p (entry l' i) ≡ true
  pub found : (j : ℕ) → j < n → p (entry l j) ≡ true → (i : ℕ) × (i < k) × (entry l' i ≡ entry l j)
  pub rising : (D : ℕ → ℕ) → ((i j : ℕ) → i ≤ j → j < n → D (entry l i) ≤ D (entry l j))
      → (i j : ℕ) → i ≤ j → j < k → D (entry l' i) ≤ D (entry l' j)

pub record PassInput (dirs : Directions) (shifts : List ℕ) (n : ℕ) (d work : List ℕ) : Type 0 where
  pub few : length d ≤ 16384
  pub work_len : length work ≡ 4 * length d
  pub short : n ≤ length d
  pub vertex : (i : ℕ) → i < n → entry work i < length d
  pub readable : (u : ℕ) → u < length d → Readable (length d) dirs shifts (mask_at (length d) work u) u

pub record WayOrder (g : Graph) (s x n : ℕ) (P : ℕ → ℕ) : Type 0 where
  pub inside : (i : ℕ) → i < n → P i < g.size
  pub on : (i : ℕ) → i < n → on_way g s x (P i) ≡ true
  pub found : (u : ℕ) → u < g.size → on_way g s x u ≡ true → (i : ℕ) × (i < n) × (P i ≡ u)
  pub rising : (i j : ℕ) → i ≤ j → j < n → distance g s (P i) ≤ distance g s (P j)

pub record Passable (g : Graph) (dirs : Directions) (shifts : List ℕ) (s x n : ℕ) (rev : Bool)
    (d work : List ℕ) : Type 0 where
  pub lawful : Lawful g
  pub start_in : s < g.size
  pub reached : distance g s x < unreachable
  pub costs : d ≡ tabulate g.size (distance g s)
  pub masked : Masked g dirs shifts work
  pub way : WayOrder g s x n (turn_of work n rev)

pub record Known (g : Graph) (dirs : Directions) (shifts : List ℕ) (a b n : ℕ) (d e work : List ℕ) : Type 0 where
  pub lawful : Lawful g
  pub start_in : a < g.size
  pub goal_in : b < g.size
  pub reached : distance g a b < unreachable
  pub costs_from : d ≡ tabulate g.size (distance g a)
  pub costs_back : e ≡ tabulate g.size (distance g b)
  pub masked : Masked g dirs shifts work
  pub ordered : Ordered g.size n (entry e) (entry work)

pub record Summed (g : Graph) (s x : ℕ) (f : List ℕ) (r : Bool) : Type 0 where
  pub counted : r ≡ true → f ≡ tabulate g.size (count_from g s x)
  pub over : r ≡ false → 2 ^ 64 ≤ path_count g s x

pub record Filled (g : Graph) (dirs : Directions) (shifts : List ℕ) (a b : ℕ) (r : Bool)
    (work f back : List ℕ) : Type 0 where
  pub answer : r ≡ fits g a b
  pub f_left : f ≡ pick r (tabulate g.size (count_from g a b)) (zeros g.size)
  pub back_left : back ≡ pick r (tabulate g.size (count_to g a b)) (zeros g.size)
  pub work_len : length work ≡ 4 * g.size
  pub masked : Masked g dirs shifts work
