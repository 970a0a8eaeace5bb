-- A log whose records all follow is an open walk of the driven cost, with standing still left out. So it costs at least
-- the distance between its ends.
--
--   drive-walk        == where every record follows, the cost driven beyond c is the cost of a walk to the last stop
--   faultless-walk    == a faultless log has a walk of its cost from its first stop to its last
--   faultless-least   == a faultless log of at most 4,096 records costs at least the distance between its first stop
--                        and its last
--   log-least         == a faultless log that is not refused with 16 costs at least the distance between its first stop
--                        and its last
--   cheapest-exact    == a faultless log is cheapest exactly when its cost is the distance between its first stop and
--                        its last
--   cheapest-alone    == only a faultless log is cheapest
--   empty-log         == an empty log costs 0 and is not cheapest
use Prim.Native.Nat.{ℕ, ◌+◌, ◌≤◌, ◌<◌}
use mathlib.Core.Path.{◌≡◌, refl, sym, ap, ◌∙◌, subst}
use mathlib.Core.Logic.{⊎_elim, ◌↔◌}
use mathlib.Core.Bool.{Bool, true, false, ◌&&◌, not}
use mathlib.Core.List.{List, [], ◌∷◌}
use native.Mathlib.Omega.{arith}
use borrow.Author.Tests.{eqb-true, eq-eqb, ltb-true, leb-true}
use lib.Dec.{leb, ltb, eqb}
use lib.ListN.{length, get_or}
use Rattle.std.proofs.Common.{Option, None, Some}
use Rattle.std.proofs.lemmas.Option.{none-some, same_Some}
use Rattle.std.proofs.Math.Option.{Option as End, none as no_end, some as end_at}
use Rattle.basics.specs.Bounded.{pick, seek}
use Rattle.basics.proofs.Bools.{true-or-false, not-both, and_left, and_right}
use Rattle.basics.proofs.Bounded.{pick_yes, pick_no, seek_found}
use Rattle.paths.specs.Graph.{Graph, Lawful}
use Rattle.paths.specs.Walk.{HasWalk, stop, go}
use Rattle.paths.specs.Distance.{distance}
use Rattle.paths.proofs.Distance.{distance_least}
use Rattle.logs.specs.Log.{Log, closed, log_of}
use Rattle.logs.proofs.Steps.{stops-few}
use Rattle.replay.specs.Replay.{
  goes_to,
  move_cost,
  leg_cost,
  follow_cost,
  Driven,
  driven_of,
  if_follows,
  drive,
  driven,
  throughout,
  faultless,
  first_stop,
  last_of,
  last_stop,
  cheapest,
  log_answer,
}
use Rattle.replay.proofs.Taken.{driven-bounded}

goes_some : (o : End ℕ) (v : ℕ) → goes_to o v ≡ true → o ≡ end_at v
goes_some no_end v e = absurd (not-both false e refl)
goes_some (end_at w) v e = ap end_at (eqb-true w v e)

never : {P : Type 0} → ◌≡◌ {A = Bool} false true → P
never e = not-both false e refl

module _ (g : Graph) where
  record Moved (u v x : ℕ) : Type 0 where
    move : ℕ
    listed : move < g.moves
    goes : g.step move u ≡ end_at v
    cost : g.cost move ≡ x

  moved : (u v x : ℕ) → move_cost g u v ≡ Some x → Moved u v x
  unfolding move_cost
  moved u v x e =
      let m = seek g.moves 0 (λ m. goes_to (g.step m u) v) in
      ⊎_elim (λ y. let l = ltb-true m g.moves y in
      record {
        move = m;
        listed = l;
        goes = goes_some (g.step m u) v (seek_found g.moves 0 (λ m. goes_to (g.step m u) v) (omega arith));
        cost = same_Some _ _ (sym (pick_yes (ltb m g.moves) (Some (g.cost m)) None y) ∙ e);
      })
      (λ n. absurd (none-some _ (sym (pick_no (ltb m g.moves) (Some (g.cost m)) None n) ∙ e)))
      (true-or-false (ltb m g.moves))

  module _ (p : ℕ → Bool) where
    -- A record that follows at cost x leads to v by a walk of cost x.
    follow-walk : (u v x : ℕ) → follow_cost g p (Some u) v ≡ Some x → (t k : ℕ) → HasWalk g k v t → HasWalk g (x + k) u t
    unfolding follow_cost
    follow-walk u v x e t k w = ⊎_elim
        (λ y. absurd (none-some _ (sym (pick_yes (p v) None (leg_cost g (Some u) v) y) ∙ e)))
        (λ n. let q = sym (pick_no (p v) None (leg_cost g (Some u) v) n) ∙ e in ⊎_elim
        (λ s. let z : 0 ≡ x = same_Some _ _ (sym (pick_yes (eqb u v) (Some 0) (move_cost g u v) s) ∙ q) in
        let h : k ≡ x + k = omega arith in
        subst (λ y. HasWalk g y u t) h (subst (λ y. HasWalk g k y t) (sym (eqb-true u v s)) w))
        (λ d. let m = moved u v x (sym (pick_no (eqb u v) (Some 0) (move_cost g u v) d) ∙ q) in
        subst (λ y. HasWalk g (y + k) u t) m.cost (_, go m.move v m.listed m.goes w.1))
        (true-or-false (eqb u v)))
        (true-or-false (p v))

    pub drive-walk : (l : List ℕ) (k u c : ℕ) → throughout (drive g p k (Some u) c l).unfollowed ≡ true
        → (x : ℕ) × ((drive g p k (Some u) c l).cost ≡ c + x) × HasWalk g x u (last_of u l)
    unfolding drive last_of
    drive-walk [] k u c e = (0, omega arith, (_, stop))
    drive-walk (v ∷ l) k u c e =
        cases (follow_cost g p (Some u) v) refl e (λ x h. drive-walk l (k + 1) v (c + x) h)
      where
        on : Option ℕ → Driven
        on o = if_follows o (λ x. drive g p (k + 1) (Some v) (c + x) l) (driven_of c (Some k))

        cases : (o : Option ℕ) → follow_cost g p (Some u) v ≡ o → throughout (on o).unfollowed ≡ true
            → ((x : ℕ) → throughout (drive g p (k + 1) (Some v) (c + x) l).unfollowed ≡ true
            → (y : ℕ) × ((drive g p (k + 1) (Some v) (c + x) l).cost ≡ c + x + y) × HasWalk g y v (last_of v l))
            → (x : ℕ) × ((on o).cost ≡ c + x) × HasWalk g x u (last_of v l)
        cases None q h below = never h
        cases (Some x) q h below =
            let r = below x h in
            (x + r.0, omega (arith, r.1), follow-walk u v x q (last_of v l) r.0 r.2)

    from_first : (l : List ℕ) → 1 ≤ length l → throughout (drive g p 1 None 0 l).unfollowed ≡ true
        → HasWalk g (drive g p 1 None 0 l).cost (get_or l 0 0) (last_of 0 l)
    unfolding drive follow_cost last_of
    from_first [] n e = absurd (omega arith)
    from_first (v ∷ l) n e = cases (p v) e
      where
        on : Bool → Driven
        on b = if_follows (pick b None (Some 0)) (λ x. drive g p 2 (Some v) (0 + x) l) (driven_of 0 (Some 1))

        cases : (b : Bool) → throughout (on b).unfollowed ≡ true → HasWalk g (on b).cost v (last_of v l)
        cases true h = never h
        cases false h =
            let r = drive-walk l 2 v 0 h in
            let e : r.0 ≡ (drive g p 2 (Some v) 0 l).cost = omega (arith, r.1) in
            subst (λ k. HasWalk g k v (last_of v l)) e r.2

    module _ (l : Log) (sound : faultless g p l ≡ true) where
      abbrev some_read : Bool
      some_read = leb 1 (length l.stops)

      abbrev on : Bool
      on = throughout (driven g p l).unfollowed

      pub faultless-walk : HasWalk g (driven g p l).cost (first_stop l) (last_stop l)
      unfolding faultless
      faultless-walk =
          from_first l.stops (leb-true 1 (length l.stops) (and_left some_read (not l.broken && on) sound))
          (and_right (not l.broken) on (and_right some_read (not l.broken && on) sound))

      pub faultless-least : Lawful g → length l.stops ≤ 4096
          → distance g (first_stop l) (last_stop l) ≤ (driven g p l).cost
      faultless-least L n =
          distance_least g L faultless-walk (omega (arith, driven-bounded g p L l.stops))

      pub cheapest-exact : (cheapest g p l ≡ true) ↔ ((driven g p l).cost ≡ distance g (first_stop l) (last_stop l))
      unfolding cheapest
      cheapest-exact =
          let c = (driven g p l).cost in
          let d = distance g (first_stop l) (last_stop l) in
          (λ e. eqb-true c d (and_right (faultless g p l) (eqb c d) e), λ e. rw (sound, eq-eqb c d e))

    pub log-least : Lawful g → (s : List ℕ) (v : ℕ) → length s ≤ 16384 → faultless g p (log_of s v) ≡ true
        → distance g (first_stop (log_of s v)) (last_stop (log_of s v)) ≤ (driven g p (log_of s v)).cost
    log-least L s v n e = faultless-least (log_of s v) e L (omega (arith, stops-few s v))

    pub cheapest-alone : (l : Log) → cheapest g p l ≡ true → faultless g p l ≡ true
    unfolding cheapest
    cheapest-alone l e =
        and_left (faultless g p l) (eqb (driven g p l).cost (distance g (first_stop l) (last_stop l))) e

    pub empty-log : log_answer g p (closed false)
        ≡ record { read = 0; cost = 0; unfollowed = None; bad = None; cheapest = false }
    unfolding log_answer cheapest faultless drive
    empty-log = refl
