-- Any calls on one buffer, from a fresh writer on.
--
--   Ordered T       == T is empty, or a map of good shape and then at most 1,000 jobs
--   Fits T          == `Ordered T`, and the records of T fit in the buffer buf
--   Made T xs       == after the calls xs on the state with the records of T, the buffer has the records of T and of
--                      those of xs that are not refused, and `Fits` holds of all of these
--   after-any-calls == `Made` of any calls from a fresh writer on
--   after-ordered   == no call of calls T with `Fits T` is refused, and the buffer has their records afterwards
use Prim.Native.Nat.{ℕ, suc, ◌+◌, ◌≤◌}
use mathlib.Core.Path.{◌≡◌, refl, sym, ap, ap₂, ◌∙◌, subst}
use mathlib.Core.Bool.{true}
use mathlib.Core.List.{List, [], ◌∷◌, ◌++◌, append_assoc, append-nil}
use native.Mathlib.Omega.{arith}
use borrow.Author.Tests.{leb-true, le-leb, eqb-true}
use lib.Dec.{leb}
use lib.ListN.{length, take, drop, length-append, length-drop, length-map}
use lib.Seq.{take-append_seam, drop-drop, drop-append-add}
use Rattle.basics.proofs.Bools.{and_intro, and_both}
use Rattle.floor.specs.Refusals.{left_by}
use Rattle.floor.specs.declared.Refusal.{Refusal}
use Rattle.floor.specs.Refusals.{Shape}
use Rattle.std.specs.Prelude.{Ok, Err}
use Rattle.writer.specs.Records.{Job}
use Rattle.writer.specs.Writing.{Call, put_map, put_job, call_bytes, given_shape, map_shape, in_turn, call_shape}
use Rattle.writer.specs.Calls.{fresh, after_one, after, taken, job_calls}
use Rattle.writer.proofs.Holding.{bytes_of, holding}
use Rattle.writer.proofs.Shapes.{accepted, not-refused}

pub data Ordered : List Call → Type 0 where
  none_made : Ordered []
  map_first : (w h : ℕ) (l : List ℕ) (js : List Job) → map_shape w h l ≡ Ok tt → length js ≤ 1000
      → Ordered (put_map w h l ∷ job_calls js)

-- ---- one call more

bytes-more : (T : List Call) (x : Call) → bytes_of (T ++ (x ∷ [])) ≡ bytes_of T ++ call_bytes x
unfolding bytes_of
bytes-more [] x = append-nil (call_bytes x)
bytes-more (y ∷ T) x =
    ap (λ l. call_bytes y ++ l) (bytes-more T x) ∙ sym (append_assoc (call_bytes y) (bytes_of T) (call_bytes x))

jobs-more : (js : List Job) (j : Job) → job_calls js ++ (put_job j ∷ []) ≡ job_calls (js ++ (j ∷ []))
jobs-more [] j = refl
jobs-more (k ∷ js) j = ap (λ l. put_job k ∷ l) (jobs-more js j)

-- A call in turn after calls in order is in order.
ordered-more : (T : List Call) (x : Call) → Ordered T → given_shape x ≡ Ok tt → in_turn (length T) x ≡ true
    → Ordered (T ++ (x ∷ []))
ordered-more _ (put_map w h l) none_made g t = map_first w h l [] g (omega arith)
ordered-more _ (put_job j) none_made g t = absurd (omega (arith, leb-true 1 0 (and_both (leb 1 0) (leb 0 1000) t).0))
ordered-more _ (put_map w h l) (map_first w' h' l' js g' n) g t =
    absurd (omega (arith, eqb-true (suc (length (job_calls js))) 0 t))
ordered-more _ (put_job j) (map_first w h l js g' n) g t =
    let d = suc (length (job_calls js)) in
    let last = leb-true d 1000 (and_both (leb 1 d) (leb d 1000) t).1 in
    let few : length (js ++ (j ∷ [])) ≤ 1000 = omega (arith, length-append js (j ∷ []), length-map js put_job) in
    subst (λ k. Ordered (put_map w h l ∷ k)) (sym (jobs-more js j)) (map_first w h l (js ++ (j ∷ [])) g' few)

-- The bytes y written after the bytes B at the start of a buffer.
over : (B y buf : List ℕ)
    → take (length B) (B ++ drop (length B) buf) ++ y ++ drop (length B + length y) (B ++ drop (length B) buf)
    ≡ (B ++ y) ++ drop (length (B ++ y)) buf
over B y buf =
    ap₂ (λ (k m : List ℕ). k ++ y ++ m) (take-append_seam B (drop (length B) buf))
    (drop-append-add B (drop (length B) buf) (length y) ∙ drop-drop (length y) (length B) buf)
    ∙ ap (λ k. (B ++ y) ++ drop k buf) (sym (length-append B y))

module _ (buf : List ℕ) where
  pub record Fits (T : List Call) : Type 0 where
    pub ordered : Ordered T
    pub fits : length (bytes_of T) ≤ length buf

  -- The shape of the call x on the state that holds T.
  abbrev shape : List Call → Call → Shape
  shape T x = call_shape (holding buf T).writer x (length (holding buf T).buffer)

  same-room : (T : List Call) → Fits T → length (holding buf T).buffer ≡ length buf
  same-room T f =
      let n = length (bytes_of T) in
      omega (arith, length-append (bytes_of T) (drop n buf), length-drop n buf, f.fits)

  bytes-size : (T : List Call) (x : Call) → length (bytes_of (T ++ (x ∷ []))) ≡ length (bytes_of T) + length (call_bytes x)
  bytes-size T x = ap length (bytes-more T x) ∙ length-append (bytes_of T) (call_bytes x)

  step-taken : (T : List Call) (x : Call) → shape T x ≡ Ok tt → after_one (holding buf T) x ≡ holding buf (T ++ (x ∷ []))
  step-taken T x e =
      rw e (
      ap₂ (λ (p d : ℕ). record {
        writer = record { at = p; due = d };
        buffer = take (length (bytes_of T)) (holding buf T).buffer ++ call_bytes x
            ++ drop (length (bytes_of T) + length (call_bytes x)) (holding buf T).buffer;
      }) (sym (bytes-size T x)) (sym (length-append T (x ∷ [])))
      ∙ ap (λ l. record {
        writer = record { at = length (bytes_of (T ++ (x ∷ []))); due = length (T ++ (x ∷ [])) };
        buffer = l;
      }) (over (bytes_of T) (call_bytes x) buf ∙ sym (ap (λ l. l ++ drop (length l) buf) (bytes-more T x))))

  step-refused : (T : List Call) (x : Call) {r : Refusal} → shape T x ≡ Err r
      → after_one (holding buf T) x ≡ holding buf T
  step-refused T x e = rw e

  fits_more : (T : List Call) (x : Call) → Fits T → shape T x ≡ Ok tt → Fits (T ++ (x ∷ []))
  fits_more T x f e =
      let a = accepted (holding buf T).writer x (length (holding buf T).buffer) e in
      record {
        ordered = ordered-more T x f.ordered a.given a.turn;
        fits = omega (arith, a.room, bytes-size T x, same-room T f);
      }

  -- ---- any calls

  pub record Made (T xs : List Call) : Type 0 where
    pub same : after (holding buf T) xs ≡ holding buf (T ++ taken (holding buf T) xs)
    pub fits : Fits (T ++ taken (holding buf T) xs)

  -- `Made` with one call in front.
  made-taken : (T xs : List Call) (x : Call) → shape T x ≡ Ok tt → Made (T ++ (x ∷ [])) xs → Made T (x ∷ xs)
  unfolding after taken
  made-taken T xs x e m =
      let rest : List Call = taken (after_one (holding buf T) x) xs in
      let next = step-taken T x e in
      let more : T ++ taken (holding buf T) (x ∷ xs) ≡ (T ++ (x ∷ [])) ++ taken (holding buf (T ++ (x ∷ []))) xs =
      ap (λ o. T ++ left_by o (x ∷ rest) rest) e ∙ sym (append_assoc T (x ∷ []) rest)
      ∙ ap (λ s. (T ++ (x ∷ [])) ++ taken s xs) next in
      record { same = ap (λ s. after s xs) next ∙ m.same ∙ ap (holding buf) (sym more); fits = rw more m.fits }

  made-refused : (T xs : List Call) (x : Call) {r : Refusal} → shape T x ≡ Err r → Made T xs → Made T (x ∷ xs)
  unfolding after taken
  made-refused T xs x e m =
      let rest : List Call = taken (after_one (holding buf T) x) xs in
      let next = step-refused T x e in
      let more : T ++ taken (holding buf T) (x ∷ xs) ≡ T ++ taken (holding buf T) xs =
      ap (λ o. T ++ left_by o (x ∷ rest) rest) e ∙ ap (λ s. T ++ taken s xs) next in
      record { same = ap (λ s. after s xs) next ∙ m.same ∙ ap (holding buf) (sym more); fits = rw more m.fits }

  made_more : (T xs : List Call) (x : Call) → (shape T x ≡ Ok tt → Made (T ++ (x ∷ [])) xs) → Made T xs → Made T (x ∷ xs)
  made_more T xs x m n = cases (shape T x) refl
    where
      cases : (o : Shape) → shape T x ≡ o → Made T (x ∷ xs)
      cases (Ok u) e = made-taken T xs x e (m e)
      cases (Err r) e = made-refused T xs x e n

  calls-from : (T xs : List Call) → Fits T → Made T xs
  unfolding after taken
  calls-from T [] f =
      record { same = ap (holding buf) (sym (append-nil T)); fits = subst Fits (sym (append-nil T)) f }
  calls-from T (x ∷ xs) f =
      made_more T xs x (λ e. calls-from (T ++ (x ∷ [])) xs (fits_more T x f e)) (calls-from T xs f)

  pub after-any-calls : (xs : List Call) → Made [] xs
  unfolding bytes_of
  after-any-calls xs = calls-from [] xs (record { ordered = none_made; fits = omega arith })

  -- ---- calls in order

  -- A call that is in turn and fits is not refused.
  shape_good : (T : List Call) (x : Call) → Fits T → given_shape x ≡ Ok tt → in_turn (length T) x ≡ true
      → length (bytes_of T) + length (call_bytes x) ≤ length buf → shape T x ≡ Ok tt
  shape_good T x f g t l =
      not-refused (holding buf T).writer x (length (holding buf T).buffer)
      (record { given = g; turn = t; room = rw (same-room T f) l })

  -- No call of xs is refused, from the state with the records of T on.
  abbrev AllTaken : List Call → List Call → Type 0
  AllTaken T xs = taken (holding buf T) xs ≡ xs

  all_more : (T xs : List Call) (x : Call) → shape T x ≡ Ok tt → AllTaken (T ++ (x ∷ [])) xs → AllTaken T (x ∷ xs)
  unfolding taken
  all_more T xs x e a =
      let rest : List Call = taken (after_one (holding buf T) x) xs in
      ap (λ o. left_by o (x ∷ rest) rest) e ∙ ap (λ s. x ∷ taken s xs) (step-taken T x e) ∙ ap (λ l. x ∷ l) a

  jobs-taken : (T : List Call) (js : List Job) → Fits T → 1 ≤ length T → length T + length js ≤ 1001
      → length (bytes_of T) + length (bytes_of (job_calls js)) ≤ length buf → AllTaken T (job_calls js)
  unfolding taken bytes_of
  jobs-taken T [] f lo hi room = refl
  jobs-taken T (j ∷ js) f lo hi room =
      let x = put_job j in
      let turn = and_intro (leb 1 (length T)) (leb (length T) 1000) (le-leb 1 (length T) lo)
      (le-leb (length T) 1000 (omega arith)) in
      let e = shape_good T x f refl turn (omega arith) in
      let n = length-append T (x ∷ []) in
      all_more T (job_calls js) x e
      (jobs-taken (T ++ (x ∷ [])) js (fits_more T x f e) (omega arith) (omega arith) (omega (arith, bytes-size T x)))

  pub after-ordered : (T : List Call) → Fits T → (taken (fresh buf) T ≡ T) × (after (fresh buf) T ≡ holding buf T)
  unfolding bytes_of taken
  after-ordered T f =
      let all = none_left T f.ordered f.fits in
      (all, (after-any-calls T).same ∙ ap (holding buf) all)
    where
      start : Fits []
      start = record { ordered = none_made; fits = omega arith }

      none_left : (T : List Call) → Ordered T → length (bytes_of T) ≤ length buf → AllTaken [] T
      none_left _ none_made l = refl
      none_left _ (map_first w h m js g n) l =
          let x = put_map w h m in
          let b = length-append (call_bytes x) (bytes_of (job_calls js)) in
          let e = shape_good [] x start g refl (omega arith) in
          all_more [] (job_calls js) x e
          (jobs-taken (x ∷ []) js (fits_more [] x start e) (omega arith) (omega arith) (omega (arith, bytes-size [] x)))
