-- The two lines of a route: what thinning leaves, and that the lines fit.
--
--   thinned        == `KeptOf` of what thinning a joined list answers and leaves
--   route-written  == the two lines written one after the other are those of the route
use Prim.Native.Nat.{ℕ, ◌≤◌, ◌<◌}
use mathlib.Core.Path.{◌≡◌, sym, ap, ap₂, ◌∙◌}
use mathlib.Core.List.{List, ◌++◌}
use native.Mathlib.Omega.{arith}
use lib.ListN.{length, get_or}
use lib.Seq.{get_or-take}
use Rattle.basics.specs.Lists.{padded}
use Rattle.basics.proofs.Lists.{tabulate-cong, length-padded}
use Rattle.floor.specs.Floor.{Floor, floor_of}
use Rattle.floor.specs.declared.Refusal.{Refusal}
use Rattle.thinning.specs.Thinning.{kept_positions}
use Rattle.thinning.specs.Answer.{list_shape, thin_answer, thin_output, Thins}
use Rattle.std.specs.Prelude.{Result, Ok}
use Rattle.std.specs.Result.{result_unwrap_or}
use Rattle.thinning.proofs.Shapes.{shape_good}
use Rattle.thinning.proofs.Answered.{Answered, answered}
use Rattle.records.specs.Lines.{route_line, at_line, kept_of}
use Rattle.records.specs.Known.{Kept, Written}
use Rattle.records.proofs.Writing.{written-more, written_as}
use Rattle.program_text.specs.Contract.{Routable, RouteWritten}

-- Thinning the first n points keeps k positions, and leaves them in the slice.
pub record KeptOf (f : Floor) (points : List ℕ) (n : ℕ) (kept : List ℕ) (k : ℕ) (kept' : List ℕ) : Type 0 where
  pub count : k ≡ length (kept_positions f points n)
  pub positions : kept' ≡ padded (length kept) (kept_positions f points n)
  pub inside : Kept k kept' points
  pub few : k ≤ length points
  pub vertices : kept_of k kept' points ≡ kept_of (length (kept_positions f points n)) (kept_positions f points n) points

module _ {w h : ℕ} {map points kept out : List ℕ} {n : ℕ} (r : Routable w h map points n kept out) where
  abbrev ps : List ℕ
  ps = kept_positions (floor_of w h map) points n

  good : list_shape w h map points (length kept) n ≡ Ok tt
  good = sym (shape_good w h map points (length kept) n r.floor.shape r.short r.kept_len r.joined)

  kept-answer : thin_answer w h map points kept n ≡ Ok (length ps)
  unfolding thin_answer
  kept-answer = rw good

  kept-output : thin_output w h map points kept n ≡ padded (length kept) ps
  unfolding thin_output
  kept-output = rw good

  pub thinned : {t : Result ℕ Refusal} {kept' : List ℕ} {k : ℕ} → Thins w h map points kept n t kept' → k ≡ result_unwrap_or t 0
      → KeptOf (floor_of w h map) points n kept k kept'
  thinned {t} {kept'} {k} x e =
      let count : k ≡ length ps = e ∙ ap (λ (r : Result ℕ Refusal). result_unwrap_or r 0) (x.answer ∙ kept-answer) in
      let left : Answered w h map points kept n (length ps) kept' =
      rw x.output (answered w h map points kept n (length ps) kept-answer) in
      let few : length ps ≤ length points = omega (arith, left.laws.few, left.within) in
      let size : length kept' ≡ length kept =
      ap length (x.output ∙ kept-output) ∙ length-padded (length kept) ps (omega (arith, r.kept_len)) in
      let at : (i : ℕ) → i < length ps → get_or kept' i 0 ≡ get_or ps i 0 =
      (λ i l. sym (get_or-take (length ps) kept' i 0 l) ∙ ap (λ z. get_or z i 0) left.kept) in
      record {
        count = count;
        positions = x.output ∙ kept-output;
        inside = record {
          count = omega (arith, r.kept_len);
          inside = λ i l. omega (arith, left.inside i (omega arith), left.within);
        };
        few = omega arith;
        vertices = ap (λ z. kept_of z kept' points) count
            ∙ tabulate-cong (length ps) (λ i. get_or points (get_or kept' i 0) 0) (λ i. get_or points (get_or ps i 0) 0)
            (λ i l. ap (λ p. get_or points p 0) (at i l));
      }

-- ---- the lines

pub route-written : {f : Floor} {number cost total n k next last : ℕ} {points kept kept' out out1 out2 : List ℕ}
    → KeptOf f points n kept k kept' → Written out 0 (route_line number cost total n k) out1 next
    → Written out1 next (at_line (kept_of k kept' points)) out2 last
    → RouteWritten f number cost total n points kept out kept' last out2
route-written {f} {number} {cost} {total} {n} {k} {points = points} {kept' = kept'} t a b = record {
  written = written_as
      (ap₂ (λ (m : ℕ) (vs : List ℕ). route_line number cost total n m ++ at_line vs) t.count t.vertices)
      (written-more a b);
  positions = t.positions;
}
