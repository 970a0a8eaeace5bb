-- The C function that mends a damaged sheet: what the checker answers of the sheet it leaves.
--
--   mended-checks  == where the C function answers 0 or 7, the checker answers the same of the second set of slices
--                     with the n answered
use Prim.Native.Nat.{ℕ}
use mathlib.Core.Path.{◌≡◌, refl, sym, ap, ◌∙◌}
use mathlib.Core.Logic.{◌⊎◌, ⊎_elim}
use mathlib.Core.List.{List}
use Rattle.paths.specs.Sheet.{Sheet}
use Rattle.checker.specs.Answer.{check_answer, check_number}
use Rattle.mending.specs.Mending.{MendSlices, sheet_in, mend_answer, Mends}
use Rattle.mending.proofs.Taken.{mended-route, mended-none}
use Rattle.capi.specs.declared.mend.MendResult.{MendResult}
use Rattle.capi.specs.Mending.{MendsTo}

pub mended-checks : {w h : ℕ} {map : List ℕ} {nb a b : ℕ} {old : Sheet} {s s' : MendSlices} {r : MendResult}
    → MendsTo w h map nb a b old s r s' → (r.answer ≡ 0) ⊎ (r.answer ≡ 7)
    → check_number (check_answer w h map nb a b (sheet_in s' r.n)) ≡ r.answer
mended-checks {w} {h} {map} {nb} {a} {b} {old} {s} {s'} M t =
    let m = mend_answer w h map nb a b old s in
    let O : Mends w h map nb a b old s m s' = record { answer = refl; left = M.left } in
    rw M.answer (⊎_elim
    (λ e. let q = sym (ap (λ r. r.answer) M.answer) ∙ e in ap check_number (mended-route O q) ∙ sym q)
    (λ e. let q = sym (ap (λ r. r.answer) M.answer) ∙ e in ap check_number (mended-none O q) ∙ sym q)
    t)
