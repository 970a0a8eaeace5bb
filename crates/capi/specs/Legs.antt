-- The statement of the C interface for our own proposer (rule 10.6). The checker of proposals needs none here: it
-- answers the number that `legs` defines.
--
--   ProposesTo .. == the proposer's statement: the answer r, and the slices kept and legs afterwards
use Rattle.std.specs.Prelude.{ℕ, ◌≡◌, List}
use Rattle.legs.specs.Answer.{propose_answer, kept_left, legs_left}
use Rattle.capi.specs.Results.{thin_result}
use Rattle.capi.specs.declared.ThinResult.{ThinResult}

pub record ProposesTo (w h : ℕ) (map list kept legs : List ℕ) (n : ℕ) (r : ThinResult) (kept' legs' : List ℕ)
    : Type 0 where
  pub answer : r ≡ thin_result (propose_answer w h map list kept legs n)
  pub kept_after : kept' ≡ kept_left w h map list kept legs n
  pub legs_after : legs' ≡ legs_left w h map list kept legs n
