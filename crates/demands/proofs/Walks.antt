-- Distances and path counts in the words of demand 2: the least cost of an open walk, the number of cheapest walks.
--
--   same_length     == two lists that have the same members, each once, are equally long
--   cheapest-is     == Cheapest g u v (distance g u v)
--   cheapest-one    == k = distance g u v where Cheapest g u v k
--   number_is       == Number g u v (path_count g u v)
--   number-one      == n = path_count g u v where Number g u v n
--   reached-joins   == distance g u v < M exactly where Joins g u v
use Prim.Native.Nat.{ℕ, suc, ◌≤◌, ◌<◌}
use mathlib.Core.Path.{◌≡◌, refl, sym, ◌∙◌, subst}
use mathlib.Core.Logic.{◌↔◌, ◌⊎◌, inl, inr, ⊎_elim}
use mathlib.Core.List.Memᴰ
use mathlib.Core.List.{List, [], ◌∷◌, Memᴰ}
use native.Mathlib.Omega.{arith}
use lib.ListN.{length}
use Rattle.basics.proofs.Order.{le-or-lt}
use Rattle.paths.specs.Graph.{Graph, Lawful}
use Rattle.paths.specs.Distance.{unreachable, distance, path_count}
use Rattle.paths.specs.Walk.{Walk, Distinct}
use Rattle.paths.proofs.Distance.{distance-le}
use Rattle.paths.specs.Faithful.{Faithful}
use Rattle.paths.proofs.Faithful.{faithful}
use Rattle.demands.specs.Demands.{Joins, Cheapest, least, none, Number}

-- ---- lists with the same members

module _ {A : Type 0} where
  -- The list ys without one place that holds x.
  record Without (x : A) (ys : List A) : Type 0 where
    rest : List A
    shorter : length ys ≡ suc (length rest)
    others : (y : A) → Memᴰ y ys → (y ≡ x) ⊎ Memᴰ y rest

  without : (x : A) (ys : List A) → Memᴰ x ys → Without x ys
  without x [] m = absurd (Memᴰ.not-nil m)
  without x (z ∷ ys) m = ⊎_elim here (λ k. further (without x ys k)) (Memᴰ.cases_cons m)
    where
      here : x ≡ z → Without x (z ∷ ys)
      here e = record {
        rest = ys;
        shorter = refl;
        others = λ y k. ⊎_elim (λ (q : y ≡ z). inl (q ∙ sym e)) (λ q. inr q) (Memᴰ.cases_cons k);
      }

      further : Without x ys → Without x (z ∷ ys)
      further w = record {
        rest = z ∷ w.rest;
        shorter = omega (arith, w.shorter);
        others = λ y k. ⊎_elim (λ (q : y ≡ z). inr (Memᴰ.head q))
            (λ q. ⊎_elim (λ r. inl r) (λ r. inr (Memᴰ.tail r)) (w.others y q)) (Memᴰ.cases_cons k);
      }

  at_most : (xs ys : List A) → Distinct xs → ((x : A) → Memᴰ x xs → Memᴰ x ys) → length xs ≤ length ys
  at_most [] ys d h = omega arith
  at_most (x ∷ xs) ys d h =
      let w = without x ys (h x (Memᴰ.head refl)) in
      omega (
        arith,
        w.shorter,
        at_most xs w.rest d.1 (λ y k.
            ⊎_elim (λ (e : y ≡ x). absurd (d.0 (Memᴰ.cast (sym e) k))) (λ r. r)
            (w.others y (h y (Memᴰ.tail k)))),
      )

  pub same_length : (xs ys : List A) → Distinct xs → Distinct ys
      → ((x : A) → Memᴰ x xs ↔ Memᴰ x ys) → length xs ≡ length ys
  same_length xs ys d e h =
      omega (arith, at_most xs ys d (λ x m. (h x).0 m), at_most ys xs e (λ x m. (h x).1 m))

-- ---- costs and counts

module _ (g : Graph) (L : Lawful g) (small : g.size ≤ 16384) (u v : ℕ) (in-u : u < g.size) where
  true-numbers : Faithful g u v
  true-numbers = faithful g L small u v in-u

  pub reached-joins : (distance g u v < unreachable) ↔ Joins g u v
  reached-joins = true-numbers.reached

  pub apart-unreachable : (Joins g u v → ⊥) → distance g u v ≡ unreachable
  apart-unreachable n =
      ⊎_elim (λ le. omega (arith, distance-le g u v)) (λ lt. absurd (n (reached-joins.0 lt)))
      (le-or-lt unreachable (distance g u v))

  pub cheapest-is : Cheapest g u v (distance g u v)
  cheapest-is =
      ⊎_elim
      (λ (le : unreachable ≤ distance g u v).
      let e : distance g u v ≡ unreachable = omega (arith, distance-le g u v) in
      rw e (none (λ j. omega (arith, reached-joins.1 j))))
      (λ (lt : distance g u v < unreachable). least (true-numbers.attained lt) true-numbers.least)
      (le-or-lt unreachable (distance g u v))

  pub cheapest-one : {k : ℕ} → Cheapest g u v k → k ≡ distance g u v
  cheapest-one (least {k} w m) =
      let h = true-numbers.attained (reached-joins.1 (k, w)) in
      omega (arith, true-numbers.least k w, m (distance g u v) h)
  cheapest-one (none n) = sym (apart-unreachable n)

  pub number_is : Number g u v (path_count g u v)
  number_is = record {
    cost = distance g u v;
    cheapest = cheapest-is;
    walks = true-numbers.cheapest;
    exactly = true-numbers.listed.exactly;
    each_once = true-numbers.listed.each_once;
    counted = true-numbers.counted;
  }

  pub number-one : {n : ℕ} → Number g u v n → n ≡ path_count g u v
  number-one {n} N =
      let F = true-numbers in
      let e = cheapest-one N.cheapest in
      let same : (l : List ℕ) → Memᴰ l N.walks ↔ Memᴰ l F.cheapest = λ l. (
        λ m. (F.listed.exactly l).1 (subst (λ k. Walk g k u v l) e ((N.exactly l).0 m)),
        λ m. (N.exactly l).1 (subst (λ k. Walk g k u v l) (sym e) ((F.listed.exactly l).0 m)),
      ) in
      sym N.counted ∙ same_length N.walks F.cheapest N.each_once F.listed.each_once same ∙ F.counted
