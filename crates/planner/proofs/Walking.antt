-- The loop that writes the central route: after n points, v is where the route goes on.
--
--   by_number g a b v   == the rule that leads from v to `next_number g a b v`
--   Walking g a b n v r == r has the first n points and 0 after them, and the rest of the route begins with v
--   walking_start       == `Walking` with no point written, at a
--   walking-room        == where `Walking` holds after n points, r has a place for one more
--   next-number         == the number that the code reads from the slice is `next_number`
--   walking-more        == `Walking` one point further
--   walking-end         == at b, with one point more, r is the whole route
--   Stepping ..         == the invariant of the loop: `Walking` on every graph of which the lists are `Walkable`
--   step_start, step-more, step_end == `Stepping` at the start and one turn further; what it gives at the end
use Prim.Native.Nat.{ℕ, suc, ◌+◌, ◌-◌, ◌≤◌, ◌<◌}
use mathlib.Core.Path.{◌≡◌, refl, sym, ap, ◌∙◌, subst}
use mathlib.Core.Logic.{⊎_elim}
use mathlib.Core.Option.{Option, some}
use mathlib.Core.List.{List, [], ◌∷◌}
use native.Mathlib.Omega.{arith}
use native.Mathlib.Nat.{zero-add}
use lib.ListN.{length, get_or, set, length-set, length-replicate}
use lib.Seq.{get_or-set_same, get_or-set_other}
use Rattle.basics.proofs.Order.{le-or-lt}
use Rattle.basics.proofs.Lists.{length-tabulate, get_d_tabulate, get_or-zeros, padded-of}
use Rattle.paths.specs.Graph.{Graph}
use Rattle.paths.specs.Route.{follow, central_route, next_number}
use Rattle.paths.specs.Local.{entry}
use Rattle.paths.proofs.Follow.{Arrives, end, on, follow-end, follow-on}
use Rattle.paths.proofs.Route.{route-length}
use Rattle.paths.proofs.NextNumbers.{number-inside, numbers-arrive, route-numbers}
use Rattle.planner.specs.Parts.{Walkable, Routed}

abbrev pub by_number : Graph → ℕ → ℕ → ℕ → Option ℕ
by_number g a b v = some (next_number g a b v)

pub record Walking (g : Graph) (a b n v : ℕ) (r : List ℕ) : Type 0 where
  pub fuel : ℕ
  pub budget : n + fuel ≡ g.size
  pub arrives : Arrives (by_number g a b) b fuel v
  pub inside : v < g.size
  pub len : length r ≡ g.size
  pub points : length (central_route g a b) ≡ n + length (follow (by_number g a b) b fuel v)
  pub ahead : (j : ℕ) → get_or (central_route g a b) (n + j) 0 ≡ get_or (follow (by_number g a b) b fuel v) j 0
  pub written : (i : ℕ) → i < n → entry r i ≡ get_or (central_route g a b) i 0
  pub blank : (i : ℕ) → n ≤ i → entry r i ≡ 0

module _ {g : Graph} {a b : ℕ} {next r : List ℕ} (W : Walkable g a b next r) where
  pub next-len : length next ≡ g.size
  next-len = ap length W.next_true ∙ length-tabulate g.size _

  pub next-number : (v : ℕ) → v < g.size → entry next v ≡ next_number g a b v
  next-number v i = ap (λ l. entry l v) W.next_true ∙ get_d_tabulate g.size v (next_number g a b) i

  whole : central_route g a b ≡ follow (by_number g a b) b g.size a
  whole = route-numbers g W.lawful a b W.start_in W.goal_in W.reached

  -- ---- the walk

  pub walking_start : Walking g a b 0 a r
  walking_start = record {
    fuel = g.size;
    budget = zero-add g.size;
    arrives = numbers-arrive g W.lawful a b W.start_in W.goal_in W.reached;
    inside = W.start_in;
    len = ap length W.blank ∙ length-replicate g.size 0;
    points = ap length whole ∙ sym (zero-add _);
    ahead = λ j. ap (λ z. get_or (central_route g a b) z 0) (zero-add j) ∙ ap (λ l. get_or l j 0) whole;
    written = λ i l. absurd (omega arith);
    blank = λ i l. ap (λ z. entry z i) W.blank ∙ get_or-zeros g.size i;
  }

  module _ {n v : ℕ} {s : List ℕ} (k : Walking g a b n v s) where
    arrives-suc : {f v : ℕ} → Arrives (by_number g a b) b f v → 1 ≤ f
    arrives-suc (end q) = omega arith
    arrives-suc (on w ne q m) = omega arith

    pub walking-room : n < g.size
    walking-room = omega (arith, k.budget, arrives-suc k.arrives)

    -- Where the walk is not at b, the rest of the route goes on.
    goes : {f v : ℕ} → Arrives (by_number g a b) b f v → (v ≡ b → ⊥)
        → (h : ℕ) × (f ≡ suc h) × Arrives (by_number g a b) b h (next_number g a b v)
    goes (end q) ne = absurd (ne q)
    goes (on {f = h} {v} w _ q m) ne =
        let same : w ≡ next_number g a b v = cc in
        (h, refl, subst (Arrives (by_number g a b) b h) same m)

    -- Point n of the route is v.
    first : (rest : List ℕ) → follow (by_number g a b) b k.fuel v ≡ v ∷ rest → get_or (central_route g a b) n 0 ≡ v
    first rest q =
        let z : n + 0 ≡ n = omega arith in
        ap (λ i. get_or (central_route g a b) i 0) (sym z) ∙ k.ahead 0 ∙ ap (λ l. get_or l 0 0) q

    -- With v stored at place n, the first n + 1 points are written.
    stored : get_or (central_route g a b) n 0 ≡ v → (i : ℕ) → i < n + 1
        → entry (set s n v) i ≡ get_or (central_route g a b) i 0
    stored q i l = ⊎_elim
        (λ lt. get_or-set_other s n i v 0 (λ p. omega arith) ∙ k.written i lt)
        (λ ge. let p : n ≡ i = omega arith in
        subst (λ j. entry (set s n v) j ≡ get_or (central_route g a b) j 0) p
        (get_or-set_same s n v 0 (omega (arith, k.len, walking-room)) ∙ sym q)) (le-or-lt (suc i) n)

    untouched : (i : ℕ) → n + 1 ≤ i → entry (set s n v) i ≡ 0
    untouched i l = get_or-set_other s n i v 0 (λ p. omega arith) ∙ k.blank i (omega arith)

    pub walking-more : (v ≡ b → ⊥) → Walking g a b (n + 1) (next_number g a b v) (set s n v)
    walking-more ne =
        let m = goes k.arrives ne in
        let w = next_number g a b v in
        let h = m.0 in
        let path : follow (by_number g a b) b k.fuel v ≡ v ∷ follow (by_number g a b) b h w
        = ap (λ i. follow (by_number g a b) b i v) m.1 ∙ follow-on (by_number g a b) b h v w ne refl in
        record {
          fuel = h;
          budget = omega (arith, k.budget, m.1);
          arrives = m.2;
          inside = number-inside g W.lawful a b W.start_in W.goal_in v k.inside;
          len = length-set s n v ∙ k.len;
          points = omega (arith, k.points, ap length path);
          ahead = λ j. let p : n + 1 + j ≡ n + suc j = omega arith in
              ap (λ i. get_or (central_route g a b) i 0) p ∙ k.ahead (suc j) ∙ ap (λ l. get_or l (suc j) 0) path;
          written = stored (first _ path);
          blank = untouched;
        }

    pub walking-end : v ≡ b → Routed g a b (set s n v) (n + 1)
    walking-end q =
        let z = arrives-suc k.arrives in
        let p : k.fuel ≡ suc (k.fuel - 1) = omega arith in
        let path : follow (by_number g a b) b k.fuel v ≡ v ∷ []
        = ap (λ i. follow (by_number g a b) b i v) p ∙ follow-end (by_number g a b) b (k.fuel - 1) v q in
        let count : n + 1 ≡ length (central_route g a b) = omega (arith, k.points, ap length path) in
        record {
          points = count;
          list = padded-of g.size (set s n v) (central_route g a b) (length-set s n v ∙ k.len)
              (route-length g W.lawful a b W.start_in W.goal_in)
              (λ i l. stored (first _ path) i (omega arith)) (λ i l m. untouched i (omega arith));
        }

-- ---- the loop

pub record Stepping (a b : ℕ) (next r₀ : List ℕ) (n v : ℕ) (r : List ℕ) : Type 0 where
  pub walking : (g : Graph) → Walkable g a b next r₀ → Walking g a b n v r

module _ {a b : ℕ} {next r₀ : List ℕ} where
  pub step_start : Stepping a b next r₀ 0 a r₀
  step_start = record { walking = λ g W. walking_start W }

  module _ {n v : ℕ} {r : List ℕ} (h : Stepping a b next r₀ n v r) where
    pub step-more : (v ≡ b → ⊥) → (w : ℕ) → w ≡ entry next v → Stepping a b next r₀ (n + 1) w (set r n v)
    step-more ne w q = record {
      walking = λ g W.
          let k = h.walking g W in
          subst (λ z. Walking g a b (n + 1) z (set r n v)) (sym (q ∙ next-number W v k.inside))
          (walking-more W k ne);
    }

    pub step_end : v ≡ b → (g : Graph) → Walkable g a b next r₀ → Routed g a b (set r n v) (n + 1)
    step_end q g W = walking-end W (h.walking g W) q

    -- A store keeps the length.
    pub step-len : (g : Graph) → Walkable g a b next r₀ → length (set r n v) ≡ length r₀
    step-len g W = length-set r n v ∙ (h.walking g W).len ∙ sym (ap length W.blank ∙ length-replicate g.size 0)
