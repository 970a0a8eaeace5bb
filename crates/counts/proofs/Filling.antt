-- Both passes together. The vertices on the way are kept in the order of their cost to b. The pass from b goes along
-- that order from the front, the pass from a from the back.
--
--   input-kept    == `PassInput` holds of the vertices that are kept of an order
--   input-other   == `PassInput` holds of any costs of the same length
--   sums-way      == sums_to d e (d b) u = on_way g b a u
--   order-kept    == the vertices kept are a `WayOrder` from b
--   passable-back, passable-forth == `Passable` for the pass from b, and for the pass from a
--   counts-turned == the counts from b on the way to a are the counts to b on the way from a
--   passed-total  == where the pass from b answers true, the total fits: it stands in back[a]
--   filled-both   == `Filled` from what the two passes leave, where the pass from b answers true
--   filled_none   == `Filled` where the pass from b answers false and its slice is cleared
use Prim.Native.Nat.{ℕ, ◌+◌, ◌*◌, ◌^◌, ◌≤◌, ◌<◌}
use mathlib.Core.Path.{◌≡◌, refl, sym, ap, ◌∙◌, subst}
use mathlib.Core.Bool.{Bool, true, false}
use mathlib.Core.List.{List}
use native.Mathlib.Omega.{arith}
use borrow.Author.Tests.{lt-ltb, le-ltb}
use lib.ListN.{length}
use Rattle.basics.specs.Lists.{tabulate, zeros}
use Rattle.basics.proofs.Lists.{tabulate-cong, get_d_tabulate}
use Rattle.paths.specs.Graph.{Graph}
use Rattle.paths.specs.Distance.{distance, path_count}
use Rattle.paths.specs.Route.{on_way, count_from, count_to}
use Rattle.paths.specs.Sheet.{fits}
use Rattle.paths.specs.Local.{entry}
use Rattle.paths.proofs.Reverse.{distance-sym, path_count-sym}
use Rattle.paths.proofs.Way.{shortest-same, way-cases, way-turn, way_end, count_from-way}
use Rattle.moves.specs.declared.Directions.{Directions}
use Rattle.neighbours.proofs.Choice.{on_shortest-sum}
use Rattle.workspace.specs.Regions.{mask_at, Masked}
use Rattle.workspace.proofs.Regions.{masked-kept}
use Rattle.counts.specs.Passes.{sums_to, Filtered, PassInput, WayOrder, Passable, Known, Summed, Filled}
use Rattle.counts.proofs.Sequence.{costs_len, costs-at, order-turned}

-- ---- the vertices that are kept of an order

module _ {p : ℕ → Bool} {n k : ℕ} {work work' : List ℕ} (R : Filtered p n k work work') where
  mask-kept : {v : ℕ} → n ≤ v → (u : ℕ) → mask_at v work' u ≡ mask_at v work u
  mask-kept {v} short u = R.rest (2 * v + u) (omega arith)

  pub input-kept : {dirs : Directions} {shifts : List ℕ} {d : List ℕ} → PassInput dirs shifts n d work
      → PassInput dirs shifts k d work'
  input-kept {d = d} A = record {
    few = A.few;
    work_len = R.len ∙ A.work_len;
    short = omega (arith, A.short, R.few);
    vertex = λ i l. let r = R.from i l in subst (λ z. z < length d) r.2 (A.vertex r.0 r.1);
    readable = λ u i. rw (mask-kept A.short u) (A.readable u i);
  }

pub input-other : {dirs : Directions} {shifts : List ℕ} {n : ℕ} {d e work : List ℕ} → length e ≡ length d
    → PassInput dirs shifts n d work
    → PassInput dirs shifts n e work
input-other same A = record {
  few = omega (arith, A.few, same);
  work_len = omega (arith, A.work_len, same);
  short = omega (arith, A.short, same);
  vertex = rw same A.vertex;
  readable = rw same A.readable;
}

module _ {g : Graph} {dirs : Directions} {shifts : List ℕ} {a b n k : ℕ} {d e work work' : List ℕ}
    (K : Known g dirs shifts a b n d e work)
    (A : PassInput dirs shifts n d work) (R : Filtered (sums_to d e (entry d b)) n k work work') where
  -- ---- the vertices kept are those on the way

  sized : length d ≡ g.size
  sized = costs_len g a K.costs_from

  from_at : (u : ℕ) → u < g.size → entry d u ≡ distance g a u
  from_at = costs-at g a K.costs_from

  back_at : (u : ℕ) → u < g.size → entry e u ≡ distance g b u
  back_at = costs-at g b K.costs_back

  sums-way : (u : ℕ) → u < g.size → sums_to d e (entry d b) u ≡ on_way g b a u
  unfolding on_way
  sums-way u i =
      on_shortest-sum (entry d) (entry e) b u (omega (arith, from_at b K.goal_in, K.reached))
      ∙ shortest-same (entry d) (distance g a) (entry e) (λ v. distance g v b) b u (from_at u i)
      (back_at u i ∙ distance-sym g K.lawful b u K.goal_in i) (from_at b K.goal_in)
      ∙ way-turn g K.lawful a b u K.start_in K.goal_in i

  order-kept : WayOrder g b a k (entry work')
  order-kept = record {
    inside = inside;
    on = λ i l. sym (sums-way _ (inside i l)) ∙ R.passing i l;
    found = λ u i o.
        let w = way-cases g b a u o in
        let near = back_at u i in
        let p = K.ordered.found u i (omega (arith, w.reached, w.adds_up)) in
        let r = R.found p.0 p.1 (ap (sums_to d e (entry d b)) p.2 ∙ sums-way u i ∙ o) in
        (r.0, r.1, r.2 ∙ p.2);
    rising = λ i j le l.
        omega (
          arith,
          R.rising (entry e) K.ordered.rising i j le l,
          back_at _ (inside i (omega arith)),
          back_at _ (inside j l),
        );
  }
    where
      inside : (i : ℕ) → i < k → entry work' i < g.size
      inside i l = let r = R.from i l in subst (λ z. z < g.size) r.2 (K.ordered.inside r.0 r.1)

  work_len : length work' ≡ 4 * g.size
  work_len = omega (arith, R.len, A.work_len, sized)

  masks : Masked g dirs shifts work'
  masks = masked-kept K.masked (λ i h. R.rest i (omega (arith, A.short, sized)))

  pub passable-back : Passable g dirs shifts b a k false e work'
  passable-back = record {
    lawful = K.lawful;
    start_in = K.goal_in;
    reached = rw (distance-sym g K.lawful b a K.goal_in K.start_in) K.reached;
    costs = K.costs_back;
    masked = masks;
    way = order-kept;
  }

  pub passable-forth : Passable g dirs shifts a b k true d work'
  passable-forth = record {
    lawful = K.lawful;
    start_in = K.start_in;
    reached = K.reached;
    costs = K.costs_from;
    masked = masks;
    way = order-turned K.lawful K.start_in K.goal_in order-kept;
  }

  -- ---- the counts

  count-turned : (v : ℕ) → v < g.size → count_from g b a v ≡ count_to g a b v
  unfolding count_from count_to
  count-turned v i =
      rw (way-turn g K.lawful b a v K.goal_in K.start_in i, path_count-sym g K.lawful b v K.goal_in i)

  counts-turned : tabulate g.size (count_from g b a) ≡ tabulate g.size (count_to g a b)
  counts-turned = tabulate-cong g.size (count_from g b a) (count_to g a b) count-turned

  total-turned : path_count g b a ≡ path_count g a b
  total-turned = path_count-sym g K.lawful b a K.goal_in K.start_in

  -- The count from b at a is the total.
  passed-total : {back : List ℕ} → back ≡ tabulate g.size (count_from g b a) → entry back a < 2 ^ 64
      → path_count g a b < 2 ^ 64
  passed-total {back} e small =
      let way = way_end g K.lawful b a passable-back.reached in
      let at : entry back a ≡ path_count g b a
      = ap (λ l. entry l a) e ∙ get_d_tabulate g.size a (count_from g b a) K.start_in
      ∙ count_from-way g b a a way in
      omega (arith, total-turned)

  pub filled-both : {f back : List ℕ} (r : Bool) → Summed g b a back true → entry back a < 2 ^ 64 → Summed g a b f r
      → Filled g dirs shifts a b r work' f back
  unfolding fits
  filled-both true B small F =
      let total = passed-total (B.counted refl) small in
      record {
        answer = sym (lt-ltb (path_count g a b) (2 ^ 64) total);
        f_left = F.counted refl;
        back_left = B.counted refl ∙ counts-turned;
        work_len = work_len;
        masked = masks;
      }
  filled-both false B small F = absurd (omega (arith, passed-total (B.counted refl) small, F.over refl))

  pub filled_none : {f back back' : List ℕ} → Summed g b a back false → f ≡ zeros (length d) → length back ≡ length d
      → back' ≡ zeros (length back) → Filled g dirs shifts a b false work' f back'
  unfolding fits
  filled_none B f_zero same back-zero = record {
    answer = sym (le-ltb (path_count g a b) (2 ^ 64) (omega (arith, B.over refl, total-turned)));
    f_left = f_zero ∙ ap zeros sized;
    back_left = back-zero ∙ ap zeros (same ∙ sized);
    work_len = work_len;
    masked = masks;
  }
