-- docs/RULES.md, 9.4 to 9.6: the kept positions of a list of vertices.
--
--   seen f l i k         == the vertices at positions i and k of the list l see each other
--   next_kept s n i      == the position kept after i: one less than the first k past i that is not seen from i, or n -
--                           1 where all are
--   kept_from s n c i    == the kept positions from i to n - 1, at most c of them
--   kept_positions f l n == the kept positions of the first n places of l, from position 0
--   is_vertex w h l k    == the number at position k of l is a vertex of a floor of width w and height h
--   sees_next f l k      == the vertex at position k sees the next one in the list
--   joined_list f l n    == n is 1 or more and at most the length of l; of the first n numbers each is a vertex, and
--                           each sees the next
use Rattle.std.specs.Prelude.{ℕ, zero, suc, ◌-◌, pred, Bool, true, false, ◌&&◌, not, List, [], ◌∷◌, leb, ltb, length, get_or}
use Rattle.basics.specs.Bounded.{every, seek}
use Rattle.floor.specs.Floor.{Floor, vertices}
use Rattle.sight.specs.Sight.{segment, sees}

unfoldable pub seen : Floor → List ℕ → ℕ → ℕ → Bool
seen f l i k = sees f (segment f.wide (get_or l i 0) (get_or l k 0))

unfoldable pub next_kept : (ℕ → ℕ → Bool) → ℕ → ℕ → ℕ
next_kept s n i = pred (seek (n - suc i) (suc i) (λ k. not (s i k)))

unfoldable pub kept_from : (ℕ → ℕ → Bool) → ℕ → ℕ → ℕ → List ℕ
kept_from s n zero i = []
kept_from s n (suc c) i = i ∷ elim (ltb (suc i) n) [ true ↦ kept_from s n c (next_kept s n i) | false ↦ [] ]

unfoldable pub kept_positions : Floor → List ℕ → ℕ → List ℕ
kept_positions f l n = kept_from (seen f l) n n 0

unfoldable pub is_vertex : ℕ → ℕ → List ℕ → ℕ → Bool
is_vertex w h l k = ltb (get_or l k 0) (vertices w h)

unfoldable pub sees_next : Floor → List ℕ → ℕ → Bool
sees_next f l k = seen f l k (suc k)

unfoldable pub joined_list : Floor → List ℕ → ℕ → Bool
joined_list f l n =
    leb 1 n && (leb n (length l) && (every n (is_vertex f.wide f.high l) && every (pred n) (sees_next f l)))

-- Named on an `unfolding` line, this opens all of these definitions, for a theorem that antt computes.
unfoldable pub thinning-opened : ℕ
unfolding seen next_kept kept_from kept_positions is_vertex sees_next joined_list
thinning-opened = 0
