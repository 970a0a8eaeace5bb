-- The two operations' answers in each case that the code tells apart.
--
--   check-refused, check-true == the checker's
--   propose-refused, propose-kept          == the proposer's, with what it leaves
use Prim.Native.Nat.{ℕ}
use mathlib.Core.Path.{◌≡◌}
use mathlib.Core.Bool.{true}
use mathlib.Core.List.{List}
use lib.ListN.{length}
use Rattle.std.proofs.Common.{Ok, Err}
use Rattle.floor.specs.declared.Refusal.{Refusal}
use Rattle.legs.specs.Answer.{legs_shape, true_choice, check_answer, propose_answer, kept_left, legs_left, Proposes}
use Rattle.legs.specs.Known.{sight_on, Filled, Recorded}

module _ (w h : ℕ) (map list : List ℕ) (n : ℕ) (kept : List ℕ) (c : ℕ) (legs : List ℕ) where
  pub check-refused : {r : Refusal} → legs_shape w h map list (length kept) (length legs) n ≡ Err r
      → Err r ≡ check_answer w h map list n kept c legs
  unfolding check_answer
  check-refused e = rw e

  pub check-true : legs_shape w h map list (length kept) (length legs) n ≡ Ok tt
      → true_choice (sight_on w h map list) n kept c legs ≡ true → Ok tt ≡ check_answer w h map list n kept c legs
  unfolding check_answer
  check-true e t = rw (e, t)

module _ (w h : ℕ) (map list kept legs : List ℕ) (n : ℕ) where
  pub propose-refused : {r : Refusal} → legs_shape w h map list (length kept) (length legs) n ≡ Err r
      → Proposes w h map list kept legs n (Err r) kept legs
  unfolding propose_answer kept_left legs_left
  propose-refused e = record { answer = rw e; kept_after = rw e; legs_after = rw e }

  pub propose-kept : {c : ℕ} {kept' legs' : List ℕ} → legs_shape w h map list (length kept) (length legs) n ≡ Ok tt
      → Filled (sight_on w h map list) n legs legs' → Recorded (sight_on w h map list) n kept c kept'
      → Proposes w h map list kept legs n (Ok c) kept' legs'
  unfolding propose_answer kept_left legs_left
  propose-kept e f r =
      record { answer = rw (e, r.count); kept_after = rw e r.output; legs_after = rw e f.output }
