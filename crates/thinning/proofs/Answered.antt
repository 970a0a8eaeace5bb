-- The output slice, where thinning answers that k positions are kept.
--
--   Answered ..  == the first k places of the output slice `left` have the kept positions, and the others 0
use Prim.Native.Nat.{ℕ, ◌-◌, ◌≤◌, ◌<◌}
use mathlib.Core.Path.{◌≡◌, refl, ap, ◌∙◌}
use mathlib.Core.List.{List}
use native.Mathlib.Omega.{arith}
use lib.ListN.{length, get_or, take, drop, get_or-append}
use lib.Seq.{take_at, drop_at}
use Rattle.std.specs.Prelude.{Ok, Err}
use Rattle.basics.specs.Lists.{padded, zeros}
use Rattle.floor.specs.Floor.{floor_of}
use Rattle.floor.specs.Refusals.{Shape, left_by}
use Rattle.thinning.specs.Thinning.{seen, kept_positions}
use Rattle.thinning.specs.Answer.{list_shape, shape_answer, thin_answer, thin_output}
use Rattle.thinning.proofs.Shapes.{GoodList, good-list, joined-list}
use Rattle.thinning.proofs.Kept.{KeptLaws, kept_laws}

pub record Answered (w h : ℕ) (map list out : List ℕ) (n k : ℕ) (left : List ℕ) : Type 0 where
  pub good : GoodList w h map list (length out) n
  pub within : n ≤ length list
  pub kept : take k left ≡ kept_positions (floor_of w h map) list n
  pub rest : drop k left ≡ zeros (length out - k)
  pub count : length (kept_positions (floor_of w h map) list n) ≡ k
  pub laws : KeptLaws (seen (floor_of w h map) list) n (kept_positions (floor_of w h map) list n)
  pub inside : (m : ℕ) → m < k → get_or left m 0 < n

module _ (w h : ℕ) (map list out : List ℕ) (n k : ℕ) where
  answered-good : list_shape w h map list (length out) n ≡ Ok tt → length (kept_positions (floor_of w h map) list n) ≡ k
      → Answered w h map list out n k (padded (length out) (kept_positions (floor_of w h map) list n))
  unfolding padded
  answered-good e c =
      let ps = kept_positions (floor_of w h map) list n in
      let g = good-list w h map list (length out) n e in
      let laws = kept_laws (floor_of w h map) list n g.joined in
      record {
        good = g;
        within = (joined-list (floor_of w h map) list n g.joined).listed.within;
        kept = take_at ps (zeros (length out - length ps)) k c;
        rest = drop_at ps (zeros (length out - length ps)) k c ∙ ap (λ m. zeros (length out - m)) c;
        count = c;
        laws = laws;
        inside = λ m l.
            rw (get_or-append ps (zeros (length out - length ps)) 0 m (omega arith)) (laws.inside m (omega arith));
      }

  pub answered : thin_answer w h map list out n ≡ Ok k → Answered w h map list out n k (thin_output w h map list out n)
  unfolding thin_answer thin_output
  answered e = cases (list_shape w h map list (length out) n) refl e
    where
      cases : (s : Shape) → list_shape w h map list (length out) n ≡ s
          → shape_answer s (length (kept_positions (floor_of w h map) list n)) ≡ Ok k
          → Answered w h map list out n k (left_by s (padded (length out) (kept_positions (floor_of w h map) list n)) out)
      cases (Ok z) q x = answered-good q cc
      cases (Err r) q x = cc
