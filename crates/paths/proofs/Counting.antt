-- The number of walks of a cost, as a sum over the first move.
--
--   count g k u t          == the number of open walks from u to t that cost k
--   still_count k u t      == the number of open walks from u to t that cost k and have one vertex: 1 where u ≡ t and k
--                             ≡ 0, else 0
--   along g k u F m        == F r w, where move m from u leads to w and leaves r of the cost k; else 0
--   walks-step             == `walks g k u t` by its first move: the walk of one vertex, then for each move the walks
--                             from its far end
--   count-step             == count g k u t = still_count k u t + the sum over the moves m of `along g k u (count ..)
--                             m`
--   count-walk, walk-count == a count is not 0 exactly where there is a walk
use Prim.Native.Nat.{ℕ, zero, suc, ◌+◌, ◌-◌, ◌≤◌, ◌<◌}
use mathlib.Core.Path.{◌≡◌, refl, sym, ap, ap₂, ◌∙◌}
use mathlib.Core.Logic.{⊎_elim}
use mathlib.Core.Option.{Option, none, some}
use mathlib.Core.List.{List, [], ◌∷◌, ◌++◌, map, append-nil}
use native.Mathlib.Omega.{arith}
use borrow.Author.Tests.{eq-eqb}
use lib.ListN.{length, length-append, length-map}
use Rattle.basics.specs.Bounded.{sum}
use Rattle.basics.proofs.Order.{le-or-lt, eq-or-ne}
use Rattle.basics.proofs.Sums.{sum-cong, sum-zero}
use Rattle.basics.proofs.Lists.{member, length-pos}
use Rattle.paths.specs.Graph.{Graph}
use Rattle.paths.specs.Walk.{HasWalk, gather, onward, less, still, listed, walks}
use Rattle.paths.specs.Local.{given}
use Rattle.paths.proofs.Listing.{less-some, less-no, still-cases, walks-sound, walks-whole}
use Rattle.paths.proofs.Neighbours.{given-cong, given-zero}

module _ {A : Type 0} where
  gather_cong : (n : ℕ) (F G : ℕ → List A) → ((m : ℕ) → m < n → F m ≡ G m) → gather n F ≡ gather n G
  unfolding gather
  gather_cong zero F G h = refl
  gather_cong (suc n) F G h = ap₂ ◌++◌ (gather_cong n F G (λ m l. h m (omega arith))) (h n (omega arith))

  gather_none : (n : ℕ) (F : ℕ → List A) → ((m : ℕ) → m < n → F m ≡ []) → gather n F ≡ []
  unfolding gather
  gather_none zero F h = refl
  gather_none (suc n) F h = ap₂ ◌++◌ (gather_none n F (λ m l. h m (omega arith))) (h n (omega arith))

  onward-cong : (o : Option ℕ) (F G : ℕ → List A) → ((w : ℕ) → o ≡ some w → F w ≡ G w) → onward o F ≡ onward o G
  unfolding onward
  onward-cong none F G h = refl
  onward-cong (some w) F G h = h w refl

  onward-none : (o : Option ℕ) (F : ℕ → List A) → ((w : ℕ) → o ≡ some w → F w ≡ []) → onward o F ≡ []
  unfolding onward
  onward-none none F h = refl
  onward-none (some w) F h = h w refl

  length-gather : (n : ℕ) (F : ℕ → List A) → length (gather n F) ≡ sum n (λ m. length (F m))
  unfolding gather sum
  length-gather zero F = refl
  length-gather (suc n) F = length-append (gather n F) (F n) ∙ ap (λ x. x + length (F n)) (length-gather n F)

  length-onward : (o : Option ℕ) (F : ℕ → List A) → length (onward o F) ≡ given o (λ w. length (F w))
  unfolding onward given
  length-onward none F = refl
  length-onward (some w) F = refl

-- What move m from u adds to a listing of the cost k: where m leads to w and leaves r of the cost k, the lists F r w
-- with u in front.
abbrev pub ahead : Graph → ℕ → ℕ → (ℕ → ℕ → List (List ℕ)) → ℕ → List (List ℕ)
ahead g k u F m = onward (g.step m u) (λ w. onward (less k (g.cost m)) (λ r. map (λ l. u ∷ l) (F r w)))

unfoldable pub count : Graph → ℕ → ℕ → ℕ → ℕ
count g k u t = length (walks g k u t)

unfoldable pub still_count : ℕ → ℕ → ℕ → ℕ
still_count k u t = length (still k u t)

unfoldable pub along : Graph → ℕ → ℕ → (ℕ → ℕ → ℕ) → ℕ → ℕ
along g k u F m = given (g.step m u) (λ w. given (less k (g.cost m)) (λ r. F r w))

module _ (g : Graph) (low : (m : ℕ) → m < g.moves → 1 ≤ g.cost m) where
  -- ---- the listing without its bound on the moves

  ahead-cong : (k u : ℕ) (F G : ℕ → ℕ → List (List ℕ)) → ((r w : ℕ) → r < k → F r w ≡ G r w)
      → gather g.moves (ahead g k u F) ≡ gather g.moves (ahead g k u G)
  ahead-cong k u F G h =
      gather_cong g.moves _ _ (λ m lt. onward-cong (g.step m u) _ _ (λ w st. onward-cong (less k (g.cost m)) _ _
      (λ r e. ap (map (λ l. u ∷ l)) (h r w (omega (arith, low m lt, less-some k (g.cost m) r e))))))

  -- A move costs 1 or more, so that none begins a walk of cost 0.
  ahead_none : (u : ℕ) (F : ℕ → ℕ → List (List ℕ)) → gather g.moves (ahead g 0 u F) ≡ []
  ahead_none u F =
      gather_none g.moves _ (λ m lt. onward-none (g.step m u) _ (λ w st. onward-none (less 0 (g.cost m)) _
      (λ r e. absurd (omega (arith, low m lt, less-some 0 (g.cost m) r e)))))

  one_more : (f k u t : ℕ) → k ≤ f → listed g (suc f) k u t ≡ listed g f k u t
  unfolding listed
  one_more zero k u t le =
      let e : k ≡ 0 = omega arith in
      ap (λ l. still k u t ++ l) (rw e (ahead_none u (λ r w. listed g zero r w t))) ∙ append-nil (still k u t)
  one_more (suc f) k u t le =
      ap (λ l. still k u t ++ l) (ahead-cong k u _ _ (λ r w lt. one_more f r w t (omega arith)))

  more : (d k u t : ℕ) → listed g (k + d) k u t ≡ walks g k u t
  unfolding walks
  more zero k u t = ap (λ n. listed g n k u t) (omega arith)
  more (suc d) k u t =
      let e : k + suc d ≡ suc (k + d) = omega arith in rw e (one_more (k + d) k u t (omega arith) ∙ more d k u t)

  listed-walks : (f k u t : ℕ) → k ≤ f → listed g f k u t ≡ walks g k u t
  listed-walks f k u t le =
      let e : f ≡ k + (f - k) = omega arith in ap (λ n. listed g n k u t) e ∙ more (f - k) k u t

  pub walks-step : (k u t : ℕ)
      → walks g k u t ≡ still k u t ++ gather g.moves (ahead g k u (λ r w. walks g r w t))
  unfolding listed
  walks-step k u t =
      sym (listed-walks (suc k) k u t (omega arith))
      ∙ ap (λ l. still k u t ++ l) (ahead-cong k u _ _ (λ r w lt. listed-walks k r w t (omega arith)))

  -- ---- the number of walks

  length-ahead : (k u m : ℕ) (F : ℕ → ℕ → List (List ℕ))
      → length (ahead g k u F m) ≡ along g k u (λ r w. length (F r w)) m
  unfolding along
  length-ahead k u m F =
      length-onward (g.step m u) _ ∙ given-cong (g.step m u) _ _ (λ w st.
      length-onward (less k (g.cost m)) _
      ∙ given-cong (less k (g.cost m)) _ _ (λ r e. length-map (F r w) (λ l. u ∷ l)))

  pub count-step : (k u t : ℕ)
      → count g k u t ≡ still_count k u t + sum g.moves (along g k u (λ r w. count g r w t))
  unfolding count still_count
  count-step k u t =
      ap length (walks-step k u t) ∙ length-append (still k u t) _ ∙ ap (λ x. length (still k u t) + x)
      (length-gather g.moves _ ∙ sum-cong g.moves _ _ (λ m lt. length-ahead k u m (λ r w. walks g r w t)))

  pub walk-count : {k u t : ℕ} → HasWalk g k u t → 1 ≤ count g k u t
  unfolding count
  walk-count w = length-pos (walks-whole g low w.1)

  pub count-zero : (u t : ℕ) → count g 0 u t ≡ still_count 0 u t
  unfolding along given
  count-zero u t =
      let z : sum g.moves (along g 0 u (λ r w. count g r w t)) ≡ 0
      = sum-zero g.moves _ (λ m lt.
      given-zero (g.step m u) _ (λ w st. rw (less-no 0 (g.cost m) (low m lt)))) in
      omega (arith, count-step 0 u t)

pub count-walk : (g : Graph) (k u t : ℕ) → 0 < count g k u t → HasWalk g k u t
unfolding count
count-walk g k u t h = let r = member (walks g k u t) h in (r.0, walks-sound g k u t r.1)

-- ---- the walk of one vertex

pub still_count-pos : (k u t : ℕ) → 0 < still_count k u t → (k ≡ 0) × (u ≡ t)
unfolding still_count
still_count-pos k u t h = let r = still-cases k u t (member (still k u t) h).1 in (r.0, r.1)

pub still_count-one : (t : ℕ) → still_count 0 t t ≡ 1
unfolding still_count still
still_count-one t = rw (eq-eqb t t refl, still)

pub still_count-off : (k u t : ℕ) → (u ≡ t → ⊥) → still_count k u t ≡ 0
still_count-off k u t ne =
    ⊎_elim (λ z. omega arith) (λ p. absurd (ne (still_count-pos k u t p).1)) (le-or-lt (still_count k u t) 0)

pub still_count-costs : (k u t : ℕ) → (k ≡ 0 → ⊥) → still_count k u t ≡ 0
still_count-costs k u t ne =
    ⊎_elim (λ z. omega arith) (λ p. absurd (ne (still_count-pos k u t p).0)) (le-or-lt (still_count k u t) 0)

pub still_count-sym : (k u t : ℕ) → still_count k u t ≡ still_count k t u
still_count-sym k u t =
    ⊎_elim (λ e. rw e) (λ ne. omega (arith, still_count-off k u t ne, still_count-off k t u (λ e. ne (sym e))))
    (eq-or-ne u t)
