-- The records of a log taken one by one: the progress after all of them has the numbers that the definitions give for
-- the whole log.
--
--   ends_of l                 == the first and the last of the stops l
--   after_read, after_ends    == after the stops of a log: the number of records read, the first stop and the last
--   after-driven              == after the stops of a log: the cost driven, and the first record that cannot follow
--   follow-high               == a record follows at a cost of at most 4,095
--   after-bounded             == `Bounded` after one record more: the cost is at most 4,095 for each record
--   driven-bounded            == the cost driven by a log is at most 4,095 for each record
use Prim.Native.Nat.{ℕ, suc, ◌+◌, ◌*◌, ◌≤◌, ◌<◌}
use mathlib.Core.Path.{◌≡◌, refl, sym, ap, ◌∙◌}
use mathlib.Core.Logic.{⊎_elim}
use mathlib.Core.Bool.{Bool}
use mathlib.Core.List.{List, [], ◌∷◌}
use native.Mathlib.Omega.{arith}
use borrow.Author.Tests.{ltb-true}
use lib.Dec.{ltb, eqb}
use lib.ListN.{length}
use Rattle.std.proofs.Common.{Option, None, Some}
use Rattle.std.proofs.lemmas.Option.{none-some, same_Some}
use Rattle.basics.specs.Bounded.{seek}
use Rattle.basics.proofs.Bools.{true-or-false}
use Rattle.basics.proofs.Bounded.{pick_yes, pick_no}
use Rattle.paths.specs.Graph.{Graph, Lawful}
use Rattle.replay.specs.Replay.{goes_to, move_cost, leg_cost, follow_cost, Driven, driven_of, if_follows, drive, last_of}
use Rattle.floor.specs.declared.Vertex.{Vertex}
use Rattle.replay.specs.Known.{vertex_of, progress_of, before, first_with, cost_with, unfollowed_with, EndsIn}
use Rattle.replay.specs.Known.{after_stop, after_stops, start_progress, Bounded}
use Rattle.replay.specs.declared.Progress.{Progress}

-- The first and the last of the stops of a log.
abbrev pub ends_of : List ℕ → Option (Vertex × Vertex)
ends_of [] = None
ends_of (v ∷ l) = Some (vertex_of v, vertex_of (last_of v l))

module _ (g : Graph) (p : ℕ → Bool) where
  pub after_read : (l : List ℕ) (s : Progress) → (after_stops g p s l).read ≡ s.read + length l
  unfolding after_stops after_stop
  after_read [] s = omega arith
  after_read (v ∷ l) s = omega (arith, after_read l (after_stop g p s v))

  later_ends : (l : List ℕ) (s : Progress) (a b : Vertex) → s.ends ≡ Some (a, b)
      → (after_stops g p s l).ends ≡ Some (a, vertex_of (last_of b.0 l))
  unfolding after_stops after_stop last_of
  later_ends [] s a b e = e
  later_ends (v ∷ l) s a b e =
      later_ends l (after_stop g p s v) a (vertex_of v) (ap (λ x. Some (first_with x v, vertex_of v)) e)

  pub after_ends : (l : List ℕ) → (after_stops g p start_progress l).ends ≡ ends_of l
  unfolding after_stops after_stop last_of
  after_ends [] = refl
  after_ends (v ∷ l) = later_ends l (after_stop g p start_progress v) (vertex_of v) (vertex_of v) refl

  -- ---- what is driven

  -- What the stops l add to the progress s.
  abbrev on_from : Option ℕ → Progress → List ℕ → Driven
  on_from None s l = drive g p (s.read + 1) (before s) s.cost l
  on_from (Some k) s l = driven_of s.cost (Some k)

  one_more : (n c : ℕ) (f : Option ℕ) (e : Option (Vertex × Vertex)) (v : ℕ) (l : List ℕ)
      → let s = progress_of n c f e in
      let t = after_stop g p s v in
      on_from t.unfollowed t l ≡ on_from f s (v ∷ l)
  unfolding after_stop drive
  one_more n c (Some k) e v l = refl
  one_more n c None e v l = cases (follow_cost g p (before (progress_of n c None e)) v)
    where
      cases : (o : Option ℕ)
          → let k = n + 1 in
          let t = progress_of k (cost_with None c o) (unfollowed_with None k o) (Some (first_with e v, vertex_of v)) in
          on_from t.unfollowed t l
          ≡ if_follows o (λ x. drive g p (n + 1 + 1) (Some v) (c + x) l) (driven_of c (Some (n + 1)))
      cases None = refl
      cases (Some x) = refl

  on-after : (l : List ℕ) (s : Progress) → let t = after_stops g p s l in
      on_from s.unfollowed s l ≡ driven_of t.cost t.unfollowed
  unfolding after_stops drive
  on-after [] s = ended s.unfollowed s refl
    where
      ended : (f : Option ℕ) (s : Progress) → s.unfollowed ≡ f → on_from f s [] ≡ driven_of s.cost s.unfollowed
      ended None s e = ap (driven_of s.cost) (sym e)
      ended (Some k) s e = ap (driven_of s.cost) (sym e)
  on-after (v ∷ l) s = sym (one_more s.read s.cost s.unfollowed s.ends v l) ∙ on-after l (after_stop g p s v)

  pub after-driven : (l : List ℕ) → let t = after_stops g p start_progress l in
      drive g p 1 None 0 l ≡ driven_of t.cost t.unfollowed
  after-driven l = on-after l start_progress

  -- ---- bounds

  module _ (L : Lawful g) where
    move-high : (u v x : ℕ) → move_cost g u v ≡ Some x → x ≤ 4095
    unfolding move_cost
    move-high u v x e =
        let m = seek g.moves 0 (λ m. goes_to (g.step m u) v) in
        let t = ltb m g.moves in
        ⊎_elim (λ y. let q : g.cost m ≡ x = same_Some _ _ (sym (pick_yes t (Some (g.cost m)) None y) ∙ e) in
        omega (arith, L.high m (ltb-true m g.moves y)))
        (λ n. absurd (none-some _ (sym (pick_no (ltb m g.moves) (Some (g.cost m)) None n) ∙ e)))
        (true-or-false (ltb m g.moves))

    leg-high : (o : Option ℕ) (v x : ℕ) → leg_cost g o v ≡ Some x → x ≤ 4095
    leg-high None v x e = let q : 0 ≡ x = same_Some _ _ e in omega arith
    leg-high (Some u) v x e = ⊎_elim
        (λ y. let q : 0 ≡ x = same_Some _ _ (sym (pick_yes (eqb u v) (Some 0) (move_cost g u v) y) ∙ e) in omega arith)
        (λ n. move-high u v x (sym (pick_no (eqb u v) (Some 0) (move_cost g u v) n) ∙ e)) (true-or-false (eqb u v))

    pub follow-high : (o : Option ℕ) (v x : ℕ) → follow_cost g p o v ≡ Some x → x ≤ 4095
    unfolding follow_cost
    follow-high o v x e = ⊎_elim
        (λ y. absurd (none-some _ (sym (pick_yes (p v) None (leg_cost g o v) y) ∙ e)))
        (λ n. leg-high o v x (sym (pick_no (p v) None (leg_cost g o v) n) ∙ e)) (true-or-false (p v))

    -- One more record costs at most 4,095 more.
    with-high : (f : Option ℕ) (c : ℕ) (o : Option ℕ) → ((x : ℕ) → o ≡ Some x → x ≤ 4095) → cost_with f c o ≤ c + 4095
    with-high None c None h = omega arith
    with-high None c (Some x) h = omega (arith, h x refl)
    with-high (Some k) c o h = omega arith

    pub after-bounded : (n v : ℕ) (s : Progress) → v < n → Bounded n s → Bounded n (after_stop g p s v)
    unfolding after_stop
    after-bounded n v s l B = record {
      ends = ends-in s.ends B.ends;
      cost =
          let o = follow_cost g p (before s) v in
          omega (arith, with-high s.unfollowed s.cost o (follow-high (before s) v), B.cost);
    }
      where
        ends-in : (e : Option (Vertex × Vertex)) → EndsIn n e → EndsIn n (Some (first_with e v, vertex_of v))
        ends-in None i = (l, l)
        ends-in (Some (a, b)) i = (i.0, l)

    drive-bounded : (l : List ℕ) (k : ℕ) (o : Option ℕ) (c : ℕ) → (drive g p k o c l).cost ≤ c + 4095 * length l
    unfolding drive
    drive-bounded [] k o c = omega arith
    drive-bounded (v ∷ l) k o c =
        cases (follow_cost g p o v) (follow-high o v) (λ x. drive-bounded l (k + 1) (Some v) (c + x))
      where
        cases : (q : Option ℕ) → ((x : ℕ) → q ≡ Some x → x ≤ 4095)
            → ((x : ℕ) → (drive g p (k + 1) (Some v) (c + x) l).cost ≤ c + x + 4095 * length l)
            → (if_follows q (λ x. drive g p (k + 1) (Some v) (c + x) l) (driven_of c (Some k))).cost
            ≤ c + 4095 * suc (length l)
        cases None h below = omega arith
        cases (Some x) h below = omega (arith, h x refl, below x)

    pub driven-bounded : (l : List ℕ) → (drive g p 1 None 0 l).cost ≤ 4095 * length l
    driven-bounded l = omega (arith, drive-bounded l 1 None 0)
