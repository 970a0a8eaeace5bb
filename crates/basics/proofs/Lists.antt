-- Laws of lists: their members, `zeros`, `padded`, `tabulate` and `same`.
--
--   member, length-pos == a list has a member exactly where its length is above 0
--   get_or-zeros       == each place of zeros n is 0
--   zeros_of           == l = zeros n where l has n places, each 0
--   length-padded      == padded n l has n places, where l has no more
--   get_or-padded      == place i of padded n l is that of l, where l has such a place
--   get_or-padded-past == place i of padded n l is 0 past the places of l
--   padded-more        == to store x at the first place past l in padded n l gives padded n (l ++ x)
--   padded-of          == r = padded n l where r has n places, those of l and then 0
--   length-tabulate    == tabulate n F has n places
--   get_d_tabulate     == place v of tabulate n F is F v, where v < n
--   tabulate-of        == l = tabulate n F where l has n places, and F v at each place v
--   tabulate-cong      == tabulate n F = tabulate n G where F and G agree below n
--   same_refl, same-eq == same k l holds exactly where k = l
use Prim.Native.Nat.{ℕ, zero, suc, ◌+◌, ◌-◌, ◌≤◌, ◌<◌}
use mathlib.Core.Path.{◌≡◌, refl, sym, ap, ap₂, ◌∙◌}
use mathlib.Core.Logic.{⊎_elim}
use mathlib.Core.Bool.{true, ◌&&◌, true≢false}
use mathlib.Core.List.Memᴰ
use mathlib.Core.List.{List, [], ◌∷◌, ◌++◌, append_assoc, Memᴰ}
use native.Mathlib.Omega.{arith}
use borrow.Author.Tests.{eqb-true, eq-eqb}
use lib.Dec.{eqb}
use lib.ListN.{length, get_or, set, length-append, length-replicate, get_or-append}
use lib.Seq.{ext_get_or, get_or_at, set_at, get_or-append-add}
use Rattle.basics.specs.Lists.{tabulate, zeros, padded, same}
use Rattle.basics.proofs.Order.{le-or-lt}
use Rattle.basics.proofs.Bools.{and_left, and_right}

pub member : {A : Type 0} (l : List A) → 0 < length l → (x : A) × Memᴰ x l
member [] h = absurd (omega arith)
member (x ∷ l) h = (x, Memᴰ.head refl)

pub length-pos : {A : Type 0} {x : A} {l : List A} → Memᴰ x l → 1 ≤ length l
length-pos {l = []} h = absurd (Memᴰ.not-nil h)
length-pos {l = y ∷ l} h = omega arith

pub get_or-zeros : (n i : ℕ) → get_or (zeros n) i 0 ≡ 0
get_or-zeros zero i = refl
get_or-zeros (suc n) zero = refl
get_or-zeros (suc n) (suc i) = get_or-zeros n i

pub zeros_of : (n : ℕ) (l : List ℕ) → length l ≡ n → ((i : ℕ) → i < n → get_or l i 0 ≡ 0) → l ≡ zeros n
zeros_of n l e h =
    ext_get_or 0 l (zeros n) (e ∙ sym (length-replicate n 0)) (λ i k. h i (omega arith) ∙ sym (get_or-zeros n i))

pub length-padded : (n : ℕ) (l : List ℕ) → length l ≤ n → length (padded n l) ≡ n
unfolding padded
length-padded n l h =
    omega (arith, length-append l (zeros (n - length l)), length-replicate {A = ℕ} (n - length l) 0)

pub get_or-padded : (n i : ℕ) (l : List ℕ) → i < length l → get_or (padded n l) i 0 ≡ get_or l i 0
unfolding padded
get_or-padded n i l h = get_or-append l (zeros (n - length l)) 0 i h

pub get_or-padded-past : (n i : ℕ) (l : List ℕ) → length l ≤ i → get_or (padded n l) i 0 ≡ 0
unfolding padded
get_or-padded-past n i l h =
    let e : i ≡ length l + (i - length l) = omega arith in
    rw e (get_or-append-add l (zeros (n - length l)) (i - length l) 0 ∙ get_or-zeros (n - length l) (i - length l))

pub padded-more : (n x : ℕ) (l : List ℕ) → length l < n → set (padded n l) (length l) x ≡ padded n (l ++ x ∷ [])
unfolding padded
padded-more n x l h =
    let a : n - length l ≡ suc (n - suc (length l)) = omega arith in
    let b : n - length (l ++ x ∷ []) ≡ n - suc (length l) = omega (arith, length-append l (x ∷ [])) in
    rw (a, b) (set_at l 0 (zeros (n - suc (length l))) x (length l) refl
    ∙ sym (append_assoc l (x ∷ []) (zeros (n - suc (length l)))))

pub padded-of : (n : ℕ) (r l : List ℕ) → length r ≡ n → length l ≤ n
    → ((i : ℕ) → i < length l → get_or r i 0 ≡ get_or l i 0) → ((i : ℕ) → length l ≤ i → i < n → get_or r i 0 ≡ 0)
    → r ≡ padded n l
padded-of n r l e h at past =
    ext_get_or 0 r (padded n l) (e ∙ sym (length-padded n l h)) (λ i k. ⊎_elim
    (λ lt. at i lt ∙ sym (get_or-padded n i l lt))
    (λ ge. past i (omega arith) (omega arith) ∙ sym (get_or-padded-past n i l (omega arith)))
    (le-or-lt (suc i) (length l)))

pub length-tabulate : (n : ℕ) (F : ℕ → ℕ) → length (tabulate n F) ≡ n
unfolding tabulate
length-tabulate zero F = refl
length-tabulate (suc n) F = omega (arith, length-append (tabulate n F) (F n ∷ []), length-tabulate n F)

pub get_d_tabulate : (n v : ℕ) (F : ℕ → ℕ) → v < n → get_or (tabulate n F) v 0 ≡ F v
unfolding tabulate
get_d_tabulate zero v F i = absurd (omega arith)
get_d_tabulate (suc n) v F i = ⊎_elim
    (λ lt. get_or-append (tabulate n F) (F n ∷ []) 0 v (omega (arith, length-tabulate n F)) ∙ get_d_tabulate n v F lt)
    (λ ge. let e : n ≡ v = omega arith in get_or_at (tabulate n F) (F n) [] 0 v (length-tabulate n F ∙ e) ∙ ap F e)
    (le-or-lt (suc v) n)

pub tabulate-of : (n : ℕ) (l : List ℕ) (F : ℕ → ℕ) → length l ≡ n → ((v : ℕ) → v < n → get_or l v 0 ≡ F v)
    → l ≡ tabulate n F
tabulate-of n l F e h =
    ext_get_or 0 l (tabulate n F) (e ∙ sym (length-tabulate n F))
    (λ v i. h v (omega arith) ∙ sym (get_d_tabulate n v F (omega arith)))

pub tabulate-cong : (n : ℕ) (F G : ℕ → ℕ) → ((v : ℕ) → v < n → F v ≡ G v) → tabulate n F ≡ tabulate n G
tabulate-cong n F G h = tabulate-of n (tabulate n F) G (length-tabulate n F) (λ v i. get_d_tabulate n v F i ∙ h v i)

pub same_refl : (l : List ℕ) → same l l ≡ true
unfolding same
same_refl [] = refl
same_refl (x ∷ l) = ap₂ ◌&&◌ (eq-eqb x x refl) (same_refl l)

pub same-eq : (k l : List ℕ) → same k l ≡ true → k ≡ l
unfolding same
same-eq [] [] e = refl
same-eq [] (y ∷ l) e = absurd (true≢false (sym e))
same-eq (x ∷ k) [] e = absurd (true≢false (sym e))
same-eq (x ∷ k) (y ∷ l) e =
    ap₂ ◌∷◌ (eqb-true x y (and_left (eqb x y) (same k l) e)) (same-eq k l (and_right (eqb x y) (same k l) e))
