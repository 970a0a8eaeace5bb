-- The start of the algorithm: the source alone is settled, at cost 0.
--
--   begun           == where the algorithm could start, it can go on with the source settled
--   costs-begun     == what the algorithm leaves from `Begun` on, said of the working slice before it began
--   First v c p     == p is where the position of class c starts: at 0, or past v vertices for a class of no move
--   four-first      == the positions of four classes are the first ones (`First`), the last two at one position
--   running-start   == the invariant before the first turn
use Prim.Native.Nat.{ℕ, zero, suc, ◌*◌, ◌≤◌, ◌<◌}
use mathlib.Core.Path.{◌≡◌, refl, sym, ap, ◌∙◌, subst}
use mathlib.Core.Logic.{⊎_elim}
use mathlib.Core.List.{List, [], ◌∷◌}
use native.Mathlib.Omega.{arith}
use borrow.Author.Tests.{le-ltb}
use lib.Dec.{ltb}
use lib.ListN.{length, get_or, set, replicate, length-set, length-replicate, get_or-replicate}
use lib.Seq.{get_or-set_same, get_or-set_other}
use Rattle.basics.proofs.Order.{eq-or-ne}
use Rattle.basics.proofs.Bounded.{pick_no}
use Rattle.moves.specs.declared.Directions.{Directions}
use Rattle.offsets.specs.declared.Class.{Class}
use Rattle.offsets.specs.Classes.{class_count, class_at}
use Rattle.paths.specs.Graph.{Graph}
use Rattle.paths.specs.Walk.{HasWalk, stop}
use Rattle.paths.specs.Distance.{unreachable}
use Rattle.paths.specs.Local.{entry}
use Rattle.workspace.proofs.Regions.{masked-kept}
use Rattle.distances.specs.Costs.{SettledCosts}
use Rattle.distances.specs.Dijkstra.{reached, Settled, Running, Runnable}
use Rattle.distances.specs.Dijkstra.{OnlySource, Begun}
use Rattle.distances.proofs.Store.{reached-set}

pub record First (v : ℕ) (c : Class) (p : ℕ) : Type 0 where
  pub zeroth : 0 < c.cost → p ≡ 0
  pub past : c.cost ≡ 0 → p ≡ v

reached-none : (n : ℕ) → reached (replicate n unreachable) ≡ 0
unfolding reached
reached-none zero = refl
reached-none (suc n) =
    let no = pick_no {A = ℕ} (ltb unreachable unreachable) 1 0 (le-ltb unreachable unreachable (omega arith)) in
    omega (arith, reached-none n, no)

module _ (g : Graph) (a : ℕ) (work : List ℕ) (few : g.size ≤ 16384) (i : a < g.size)
    (len : length work ≡ 4 * g.size) where
  abbrev none : List ℕ
  none = replicate g.size unreachable

  abbrev d₀ : List ℕ
  d₀ = set none a 0

  abbrev work₀ : List ℕ
  work₀ = set work 0 a

  none-len : length none ≡ g.size
  none-len = length-replicate g.size unreachable

  at_a : entry d₀ a ≡ 0
  at_a = get_or-set_same none a 0 0 (omega (arith, none-len))

  off-a : (u : ℕ) → u < g.size → (u ≡ a → ⊥) → entry d₀ u ≡ unreachable
  off-a u h ne = get_or-set_other none a u 0 0 ne ∙ get_or-replicate g.size u unreachable 0 h

  only-a : (u : ℕ) → u < g.size → entry d₀ u < unreachable → u ≡ a
  only-a u h lt = ⊎_elim (λ e. e) (λ ne. absurd (omega (arith, off-a u h ne))) (eq-or-ne u a)

  place-0 : (j : ℕ) → j < 1 → entry work₀ j ≡ a
  place-0 j h = let e : j ≡ 0 = omega arith in ap (entry work₀) e ∙ get_or-set_same work 0 a 0 (omega arith)

  cost-0 : (j : ℕ) → j < 1 → entry d₀ (entry work₀ j) ≡ 0
  cost-0 j h = ap (entry d₀) (place-0 j h) ∙ at_a

  settled-start : Settled g a 1 d₀ work₀
  settled-start = record {
    few = few;
    source = i;
    d_len = length-set none a 0 ∙ none-len;
    work_len = length-set work 0 a ∙ len;
    counted =
        let bare = get_or-replicate g.size a unreachable 0 i in
        let more = reached-set none a 0 (omega (arith, none-len)) bare (omega arith) in
        omega (arith, reached-none g.size, more);
    ordered = record {
      inside = λ j h. omega (arith, place-0 j h);
      placed = λ j h. omega (arith, cost-0 j h);
      found = λ u h lt. (0, omega arith, place-0 0 (omega arith) ∙ sym (only-a u h lt));
      rising = λ j k le h. omega (arith, cost-0 j (omega arith), cost-0 k h);
    };
    at_most = λ u h.
        ⊎_elim (λ e. omega (arith, ap (entry d₀) e, at_a)) (λ ne. omega (arith, off-a u h ne)) (eq-or-ne u a);
    walked = λ u h lt. subst (λ z. HasWalk g (entry d₀ z) a z) (sym (only-a u h lt))
        (subst (λ z. HasWalk g z a a) (sym at_a) (_, stop));
    start = at_a;
    bounded = λ j h. omega (arith, cost-0 j h);
  }

start-rest : {v : ℕ} (work : List ℕ) (a j : ℕ) → v < j → entry (set work 0 a) j ≡ entry work j
start-rest work a j h = get_or-set_other work 0 j a 0 (λ e. omega arith)

-- ---- the source settled

module _ {g : Graph} {r : Directions} {shifts : List ℕ} {l : List Class} {a : ℕ} {d work : List ℕ}
    (M : Runnable g r shifts l a d work) where
  module _ {d' work' : List ℕ} (O : OnlySource a d d' work work') where
    pub begun : Begun g r shifts l a d' work'
    begun =
        let same = ap (λ v. set (replicate v unreachable) a 0) M.d_len in
        let S = settled-start g a work M.few M.source M.work_len in
        rw (O.costs ∙ same, O.order) (record {
          runs = record {
            few = M.few;
            lawful = M.lawful;
            masked = masked-kept M.masked (start-rest work a);
            classes = M.classes;
            source = M.source;
            d_len = S.d_len;
            work_len = S.work_len;
          };
          settled = S;
        })

    pub costs-begun : {n : ℕ} {d'' work'' : List ℕ} → SettledCosts g a n d'' work' work'' → SettledCosts g a n d'' work work''
    costs-begun S = record {
      costs = S.costs;
      few = S.few;
      work_len = S.work_len;
      ordered = S.ordered;
      rest = λ i h. S.rest i h ∙ ap (λ w. entry w i) O.order ∙ start-rest work a i h;
    }

-- ---- the positions

-- The last two classes have one position.
pub four-first : {v : ℕ} (l : List Class) (p0 p1 p2 : ℕ) → First v (class_at l 0) p0 → First v (class_at l 1) p1
    → First v (class_at l 2) p2 → (class_at l 2).cost ≡ (class_at l 3).cost
    → (k : ℕ) → k < class_count → First v (class_at l k) (get_or (p0 ∷ p1 ∷ p2 ∷ p2 ∷ []) k 0)
four-first l p0 p1 p2 x y z e zero h = x
four-first l p0 p1 p2 x y z e (suc zero) h = y
four-first l p0 p1 p2 x y z e (suc (suc zero)) h = z
four-first l p0 p1 p2 x y z e (suc (suc (suc zero))) h =
    record { zeroth = λ f. z.zeroth (omega arith); past = λ f. z.past (omega arith) }
four-first l p0 p1 p2 x y z e (suc (suc (suc (suc k)))) h = absurd (omega arith)

pub running-start : {g : Graph} {r : Directions} {shifts : List ℕ} {l : List Class} {a : ℕ} {pos d work : List ℕ}
    → Begun g r shifts l a d work → ((k : ℕ) → k < class_count → First (length d) (class_at l k) (get_or pos k 0))
    → Running g r a 1 l pos d work work
running-start B firsts = let S = B.settled in record {
  settled = S;
  passed = λ k h. record {
    unused = λ z. omega (arith, (firsts k h).past z, S.d_len);
    room = λ f. omega (arith, (firsts k h).zeroth f);
    relaxed = λ f j m w p M lt. absurd (omega (arith, (firsts k h).zeroth f));
    pending = λ j h p. omega (arith, S.bounded j h);
  };
  rest = λ j h. refl;
}
