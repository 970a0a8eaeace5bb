-- The test `right_counts` of counts passes on the true counts, and on nothing else, over any vertices `on` that are
-- `Closed`.
--
--   Closed g a on       == the vertices with `on` are reached from a, and where v has `on`, so has each neighbour w
--                          with D w + cost = D v
--   closed_same         == two tests that agree at every vertex are both `Closed` or neither
--   way-closed, way-closed-to == the vertices on the way from a to b are `Closed`, from a and from b
--   counts-true         == counts that pass are the path counts from a where `on` holds, and 0 elsewhere
--   true-counts         == the path counts from a where `on` holds, and 0 elsewhere, pass
--   right_counts-exact   == `right_counts` holds exactly where F v is the path count from a to v where `on`, and 0
--                          elsewhere
--   count_next          == inflow g D F v = path_count g a v, where v is not a and F is right at the vertices that cost
--                          less than v
use Prim.Native.Nat.{ℕ, ◌+◌, ◌<◌}
use mathlib.Core.Path.{◌≡◌, refl, sym, ◌∙◌}
use mathlib.Core.Logic.{⊎_elim, ◌↔◌}
use mathlib.Core.Bool.{Bool, true, false}
use mathlib.Core.Option.{some}
use native.Mathlib.Omega.{arith}
use borrow.Author.Tests.{eqb-true, eq-eqb, ne_eqb}
use lib.Dec.{eqb}
use Rattle.basics.specs.Bounded.{pick}
use Rattle.basics.proofs.Order.{eq-or-ne}
use Rattle.basics.proofs.Bools.{true-or-false}
use Rattle.basics.proofs.Bounded.{every-all, every-at, pick_yes, pick_no}
use Rattle.paths.specs.Graph.{Graph, Lawful}
use Rattle.paths.specs.Distance.{unreachable, distance, path_count}
use Rattle.paths.specs.Route.{on_way}
use Rattle.paths.specs.Local.{inflow, count_at, right_counts}
use Rattle.paths.proofs.Neighbours.{inflow-cong, inflow-costs}
use Rattle.paths.proofs.Reverse.{distance-sym}
use Rattle.paths.proofs.Way.{way-cases, way-start, way-turn, way_back}
use Rattle.paths.proofs.Counts.{path_count-self, path_count-from, counts-unique}

pub record Closed (g : Graph) (a : ℕ) (on : ℕ → Bool) : Type 0 where
  pub start : on a ≡ true
  pub reached : (v : ℕ) → v < g.size → on v ≡ true → distance g a v < unreachable
  pub closed : (v w m : ℕ) → v < g.size → on v ≡ true → m < g.moves → g.step m v ≡ some w
      → distance g a w + g.cost m ≡ distance g a v → on w ≡ true

module _ (g : Graph) (L : Lawful g) where
  pub closed_same : (a : ℕ) (on on' : ℕ → Bool) → a < g.size → ((v : ℕ) → v < g.size → on v ≡ on' v)
      → Closed g a on' → Closed g a on
  closed_same a on on' i same C = record {
    start = same a i ∙ C.start;
    reached = λ v j o. C.reached v j (sym (same v j) ∙ o);
    closed = λ v w m j o lt st e.
        same w (L.inside m v w lt j st) ∙ C.closed v w m j (sym (same v j) ∙ o) lt st e;
  }

  module _ (a b : ℕ) (reached : distance g a b < unreachable) where
    pub way-closed : Closed g a (on_way g a b)
    way-closed = record {
      start = way-start g L a b reached;
      reached = λ v i o. let p = way-cases g a b v o in omega arith;
      closed = λ v w m i o lt st e. way_back g L a b v w m i lt st o e;
    }

  pub way-closed-to : (a b : ℕ) → a < g.size → b < g.size → distance g a b < unreachable → Closed g b (on_way g a b)
  way-closed-to a b in-a in_b reached =
      closed_same b (on_way g a b) (on_way g b a) in_b (λ v i. way-turn g L a b v in-a in_b i)
      (way-closed b a (omega (arith, distance-sym g L a b in-a in_b)))

-- ---- what the count of v has to be

module _ (g : Graph) (a : ℕ) (on : ℕ → Bool) (D F : ℕ → ℕ) where
  pub count_at-start : on a ≡ true → count_at g a on D F a ≡ 1
  unfolding count_at
  count_at-start o = pick_yes (on a) _ 0 o ∙ pick_yes (eqb a a) 1 _ (eq-eqb a a refl)

  pub count_at-other : (v : ℕ) → on v ≡ true → (v ≡ a → ⊥) → count_at g a on D F v ≡ inflow g D F v
  unfolding count_at
  count_at-other v o ne = pick_yes (on v) _ 0 o ∙ pick_no (eqb v a) 1 _ (ne_eqb v a ne)

  pub count_at-off : (v : ℕ) → on v ≡ false → count_at g a on D F v ≡ 0
  unfolding count_at
  count_at-off v o = pick_no (on v) _ 0 o

module _ (g : Graph) (L : Lawful g) (a : ℕ) (in-a : a < g.size) (on : ℕ → Bool) (C : Closed g a on)
    (D : ℕ → ℕ) (D-true : (v : ℕ) → v < g.size → D v ≡ distance g a v) where
  inflow-true : (F : ℕ → ℕ) (v : ℕ) → v < g.size → inflow g D F v ≡ inflow g (distance g a) F v
  inflow-true F v i =
      inflow-costs g D (distance g a) F v (D-true v i) (λ m w lt st. D-true w (L.inside m v w lt i st))

  pub count_next : (F : ℕ → ℕ) (v : ℕ) → v < g.size → on v ≡ true → (v ≡ a → ⊥)
      → ((w : ℕ) → w < g.size → on w ≡ true → distance g a w < distance g a v → F w ≡ path_count g a w)
      → inflow g D F v ≡ path_count g a v
  count_next F v i o ne h =
      inflow-true F v i
      ∙ inflow-cong g (distance g a) F (path_count g a) v (λ m w lt st e.
      h w (L.inside m v w lt i st) (C.closed v w m i o lt st e) (omega (arith, L.low m lt)))
      ∙ sym (path_count-from g L a v in-a i ne (C.reached v i o))

  module _ (F : ℕ → ℕ) where
    pub counts-true : right_counts g a on D F ≡ true → (v : ℕ) → v < g.size → F v ≡ pick (on v) (path_count g a v) 0
    unfolding right_counts
    counts-true e v i = ⊎_elim
        (λ o. all v (i, o) ∙ sym (pick_yes (on v) (path_count g a v) 0 o))
        (λ o. at v i ∙ count_at-off g a on D F v o ∙ sym (pick_no (on v) (path_count g a v) 0 o)) (true-or-false (on v))
      where
        at : (v : ℕ) → v < g.size → F v ≡ count_at g a on D F v
        at v i = eqb-true (F v) (count_at g a on D F v)
            (every-at g.size (λ v. eqb (F v) (count_at g a on D F v)) e v i)

        all : (v : ℕ) → (v < g.size) × (on v ≡ true) → F v ≡ path_count g a v
        all = counts-unique g L a F (λ v. (v < g.size) × (on v ≡ true)) in-a
            (at a in-a ∙ count_at-start g a on D F C.start)
            (λ v p. (p.0, C.reached v p.0 p.1))
            (λ v w m p lt st q. (L.inside m v w lt p.0 st, C.closed v w m p.0 p.1 lt st q))
            (λ v p ne. at v p.0 ∙ count_at-other g a on D F v p.1 ne ∙ inflow-true F v p.0)

    module _ (h : (v : ℕ) → v < g.size → F v ≡ pick (on v) (path_count g a v) 0) where
      right-on : (v : ℕ) → v < g.size → on v ≡ true → F v ≡ path_count g a v
      right-on v i o = h v i ∙ pick_yes (on v) (path_count g a v) 0 o

      right-at : (v : ℕ) → v < g.size → on v ≡ true → path_count g a v ≡ count_at g a on D F v
      right-at v i o = ⊎_elim
          (λ e. rw e (path_count-self g L a ∙ sym (count_at-start g a on D F C.start)))
          (λ ne. sym (count_at-other g a on D F v o ne ∙ count_next F v i o ne (λ w j p lt. right-on w j p)))
          (eq-or-ne v a)

      pub true-counts : right_counts g a on D F ≡ true
      unfolding right_counts
      true-counts = every-all g.size _ (λ v i. eq-eqb (F v) (count_at g a on D F v) (⊎_elim
          (λ o. right-on v i o ∙ right-at v i o)
          (λ o. h v i ∙ pick_no (on v) (path_count g a v) 0 o ∙ sym (count_at-off g a on D F v o))
          (true-or-false (on v))))

    pub right_counts-exact :
        (right_counts g a on D F ≡ true) ↔ ((v : ℕ) → v < g.size → F v ≡ pick (on v) (path_count g a v) 0)
    right_counts-exact = (counts-true, true-counts)
