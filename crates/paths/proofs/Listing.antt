-- The listing has the open walks of the given cost, and no others: its recursion need not be trusted.
--
--   walks-sound      == what `walks g k u t` lists is an open walk from u to t that costs k
--   walks-whole      == each open walk from u to t that costs k is listed in `walks g k u t`
--   walks-exact      == `walks g k u t` lists exactly the open walks from u to t that cost k
use Prim.Native.Nat.{ℕ, zero, suc, ◌+◌, ◌-◌, ◌≤◌, ◌<◌}
use mathlib.Core.Path.{◌≡◌, refl, ap, subst}
use mathlib.Core.Logic.{⊎_elim, ◌↔◌}
use mathlib.Core.Bool.{Bool, true, false, ◌&&◌}
use mathlib.Core.Option.{Option, none, some}
use mathlib.Core.List.Memᴰ
use mathlib.Core.List.{List, [], ◌∷◌, map, Memᴰ}
use native.Mathlib.Omega.{arith}
use borrow.Author.Tests.{eqb-true, eq-eqb, leb-true, le-leb, lt-leb}
use lib.Dec.{leb, eqb}
use Rattle.basics.proofs.Order.{le-or-lt}
use Rattle.paths.specs.Graph.{Graph, Lawful}
use Rattle.paths.specs.Walk.{Walk, stop, go, gather, onward, less, still, listed, walks}

-- ---- members of the parts of a listing

module _ {A : Type 0} where
  pub gather-cases : {x : A} (n : ℕ) (F : ℕ → List A) → Memᴰ x (gather n F)
      → (m : ℕ) × (m < n) × Memᴰ x (F m)
  unfolding gather
  gather-cases {x = x} zero F h = absurd (Memᴰ.not-nil h)
  gather-cases {x = x} (suc n) F h =
      ⊎_elim (λ a. let r = gather-cases {x = x} n F a in (r.0, omega (arith, r.1), r.2)) (λ b. (n, omega arith, b))
      (Memᴰ.append_cases (gather n F) h)

  pub gather-mem : {x : A} (n m : ℕ) (F : ℕ → List A) → m < n → Memᴰ x (F m) → Memᴰ x (gather n F)
  unfolding gather
  gather-mem zero m F lt h = absurd (omega arith)
  gather-mem {x} (suc n) m F lt h =
      ⊎_elim (λ le. Memᴰ.append_left (F n) (gather-mem n m F le h))
      (λ ge. Memᴰ.append_right (gather n F) (subst (λ i. Memᴰ x (F i)) (omega arith) h)) (le-or-lt (suc m) n)

  pub onward-cases : {x : A} (o : Option ℕ) (F : ℕ → List A) → Memᴰ x (onward o F)
      → (w : ℕ) × (o ≡ some w) × Memᴰ x (F w)
  unfolding onward
  onward-cases none F h = absurd (Memᴰ.not-nil h)
  onward-cases (some w) F h = (w, refl, h)

  pub onward-mem : {x : A} (o : Option ℕ) (w : ℕ) (F : ℕ → List A) → o ≡ some w → Memᴰ x (F w)
      → Memᴰ x (onward o F)
  unfolding onward
  onward-mem o w F e h = rw e h

-- ---- a cost taken off another

pub less-some : (k c r : ℕ) → less k c ≡ some r → c + r ≡ k
unfolding less
less-some k c r e = cases (leb c k) refl e
  where
    cases : (b : Bool) → leb c k ≡ b
        → ◌≡◌ {A = Option ℕ} (elim b [ true ↦ some (k - c) | false ↦ none ]) (some r) → c + r ≡ k
    cases true p q = let s : k - c ≡ r = cc in omega (arith, leb-true c k p)
    cases false p q = let z : ◌≡◌ {A = ℕ} 0 1 = cc in omega arith

pub less-yes : (k c r : ℕ) → c + r ≡ k → less k c ≡ some r
unfolding less
less-yes k c r e = rw (le-leb c k (omega arith), less) (ap some (omega arith))

pub less-no : (k c : ℕ) → k < c → less k c ≡ none
unfolding less
less-no k c h = rw (lt-leb c k h, less)

-- ---- the walk of one vertex

pub still-cases : (k u t : ℕ) {l : List ℕ} → Memᴰ l (still k u t) → (k ≡ 0) × (u ≡ t) × (l ≡ u ∷ [])
unfolding still
still-cases k u t {l} h = cases (eqb k 0) (eqb u t) refl refl h
  where
    cases : (a b : Bool) → eqb k 0 ≡ a → eqb u t ≡ b
        → Memᴰ l (elim (a && b) [ true ↦ (u ∷ []) ∷ [] | false ↦ [] ]) → (k ≡ 0) × (u ≡ t) × (l ≡ u ∷ [])
    cases true true p q m = (eqb-true k 0 p, eqb-true u t q, Memᴰ.eq_of_singleton m)
    cases true false p q m = absurd (Memᴰ.not-nil m)
    cases false b p q m = absurd (Memᴰ.not-nil m)

still-mem : (t : ℕ) → Memᴰ (t ∷ []) (still 0 t t)
unfolding still
still-mem t = rw (eq-eqb t t refl, still) (Memᴰ.head refl)

still_walk : (g : Graph) (k u t : ℕ) {l : List ℕ} → Memᴰ l (still k u t) → Walk g k u t l
still_walk g k u t {l} h = let r = still-cases k u t h in rw (r.2, r.0, r.1) stop

-- ---- walks of a cost that is given by an equation

module _ {g : Graph} where
  pub at-cost : {j k u t : ℕ} {l : List ℕ} → j ≡ k → Walk g j u t l → Walk g k u t l
  at-cost {u = u} {t} {l} e wk = subst (λ i. Walk g i u t l) e wk

  pub go-at : {r k u t : ℕ} {l : List ℕ} (m w : ℕ) → m < g.moves → g.step m u ≡ some w → Walk g r w t l
      → g.cost m + r ≡ k → Walk g k u t (u ∷ l)
  go-at m w lt st wk e = at-cost e (go m w lt st wk)

  -- A walk's list begins with its first vertex.
  pub walk_begins : {k u t : ℕ} {l : List ℕ} → Walk g k u t l → (r : List ℕ) × (l ≡ u ∷ r)
  walk_begins stop = ([], refl)
  walk_begins (go m w lt st wk) = (_, refl)

-- ---- the listing, taken apart by the first move

-- The listed walks that begin with the move m.
abbrev pub listed_by : Graph → ℕ → ℕ → ℕ → ℕ → ℕ → List (List ℕ)
listed_by g f k u t m =
    onward (g.step m u) (λ w. onward (less k (g.cost m)) (λ r. map (λ l. u ∷ l) (listed g f r w t)))

-- The list l is such a walk: the far end of its first move, and the rest of its cost and of its list.
pub record FirstMove (g : Graph) (f k u t m : ℕ) (l : List ℕ) : Type 0 where
  pub to : ℕ
  pub rest : ℕ
  pub after : List ℕ
  pub goes : g.step m u ≡ some to
  pub total : g.cost m + rest ≡ k
  pub listed_after : Memᴰ after (listed g f rest to t)
  pub list : u ∷ after ≡ l

pub listed_by-first : (g : Graph) (f k u t m : ℕ) {l : List ℕ} → Memᴰ l (listed_by g f k u t m) → FirstMove g f k u t m l
listed_by-first g f k u t m h =
    let a = onward-cases (g.step m u)
    (λ w. onward (less k (g.cost m)) (λ r. map (λ l. u ∷ l) (listed g f r w t))) h in
    let b = onward-cases (less k (g.cost m)) (λ r. map (λ l. u ∷ l) (listed g f r a.0 t)) a.2 in
    let c = Memᴰ.of_map (λ l. u ∷ l) (listed g f b.0 a.0 t) b.2 in
    record {
      to = a.0;
      rest = b.0;
      after = c.0;
      goes = a.1;
      total = less-some k (g.cost m) b.0 b.1;
      listed_after = c.1;
      list = c.2;
    }

pub listed-sound : (g : Graph) (f k u t : ℕ) {l : List ℕ} → Memᴰ l (listed g f k u t) → Walk g k u t l
unfolding listed
listed-sound g zero k u t h = still_walk g k u t h
listed-sound g (suc f) k u t {l} h =
    ⊎_elim (still_walk g k u t) (λ b. by (λ r w l' m. listed-sound g f r w t {l = l'} m) b)
    (Memᴰ.append_cases (still k u t) h)
  where
    by : ((r w : ℕ) (l' : List ℕ) → Memᴰ l' (listed g f r w t) → Walk g r w t l')
        → Memᴰ l (gather g.moves (listed_by g f k u t)) → Walk g k u t l
    by below b =
        let a = gather-cases g.moves (listed_by g f k u t) b in
        let r = listed_by-first g f k u t a.0 a.2 in
        subst (Walk g k u t) r.list
        (go-at a.0 r.to a.1 r.goes (below r.rest r.to r.after r.listed_after) r.total)

pub walks-sound : (g : Graph) (k u t : ℕ) {l : List ℕ} → Memᴰ l (walks g k u t) → Walk g k u t l
unfolding walks
walks-sound g k u t h = listed-sound g k k u t h

module _ (g : Graph) (low : (m : ℕ) → m < g.moves → 1 ≤ g.cost m) where
  listed-whole : {k u t : ℕ} {l : List ℕ} → Walk g k u t l → (f : ℕ) → k ≤ f → Memᴰ l (listed g f k u t)
  unfolding listed
  listed-whole (stop {t}) zero le = still-mem t
  listed-whole (stop {t}) (suc f) le = Memᴰ.append_left _ (still-mem t)
  listed-whole (go m w lt st wk) zero le = absurd (omega (arith, low m lt))
  listed-whole (go {k} {u} {t} m w lt st wk) (suc f) le =
      Memᴰ.append_right (still (g.cost m + k) u t)
      (gather-mem g.moves m (listed_by g f (g.cost m + k) u t) lt
      (onward-mem (g.step m u) w _ st
      (onward-mem (less (g.cost m + k) (g.cost m)) k _ (less-yes (g.cost m + k) (g.cost m) k refl)
      (Memᴰ.map (λ l. u ∷ l) (listed-whole wk f (omega (arith, low m lt)))))))

  pub walks-whole : {k u t : ℕ} {l : List ℕ} → Walk g k u t l → Memᴰ l (walks g k u t)
  unfolding walks
  walks-whole {k} wk = listed-whole wk k (omega arith)

-- A list is listed exactly when it is an open walk from u to t of that cost.
pub walks-exact : (g : Graph) → Lawful g → (k u t : ℕ) (l : List ℕ) → Memᴰ l (walks g k u t) ↔ Walk g k u t l
walks-exact g L k u t l = (walks-sound g k u t, walks-whole g L.low)
