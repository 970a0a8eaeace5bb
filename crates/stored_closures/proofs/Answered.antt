-- The answer of `closures` for a table that `Stands` for the numbers is that for the numbers. Where it is a slot, the
-- numbers of the rectangle posted go there: posts-in.
use Prim.Native.Nat.{ℕ}
use mathlib.Core.Path.{◌≡◌, sym, ◌∙◌}
use mathlib.Core.List.{List}
use lib.ListN.{length}
use Rattle.std.proofs.Common.{Result, Ok}
use Rattle.floor.specs.declared.Refusal.{Refusal}
use Rattle.floor.specs.Refusals.{Shape}
use Rattle.floor.proofs.Shapes.{good-first, good-second}
use Rattle.closures.specs.Plain.{lowest_free, post_shape, post_answer, strike_shape, work_shape, work_left}
use Rattle.closures.specs.Table.{Posts, Strikes, Writes}
use Rattle.closures.specs.declared.Rectangle.{Rectangle}
use Rattle.closures.specs.declared.Closures.{Closures}
use Rattle.stored_closures.specs.Stored.{stored_in, with_numbers, PostsIn, WritesFrom}
use Rattle.stored_closures.specs.Known.{Stands}

module _ {w h : ℕ} {l : List ℕ} {t : Closures} (s : Stands w h l t) where
  pub posting : {x r : Rectangle} {answer : Result ℕ Refusal} {left : Closures} → Posts t x answer left → x ≡ r
      → answer ≡ post_answer w h (stored_in l) r
  posting p e = p.answers ∙ (λ i. post_answer (s.wide i) (s.high i) (s.same i) (e i))

  pub striking : {k : ℕ} {answer : Shape} {left : Closures} → Strikes t k answer left
      → answer ≡ strike_shape w h (stored_in l) k
  striking {k} p = p.answers ∙ (λ i. strike_shape (s.wide i) (s.high i) (s.same i) k)

  pub writing : {base work left : List ℕ} {answer : Shape} → Writes t base work answer left
      → WritesFrom w h l base work answer left
  writing {base} {work} p = record {
    answers = p.answers ∙ (λ i. work_shape (s.wide i) (s.high i) base (length work));
    leaves = p.leaves ∙ (λ i. work_left (s.wide i) (s.high i) base (s.same i) work);
  }

pub posts-in : (w h : ℕ) (l : List ℕ) (r : Rectangle) {k : ℕ} {left : List ℕ} → post_answer w h (stored_in l) r ≡ Ok k
    → left ≡ with_numbers l k r → PostsIn w h l r (Ok k) left
posts-in w h l r {k} e q =
    let s = post_shape w h (stored_in l) r in
    let n = lowest_free (stored_in l) in
    let f : Ok n ≡ Ok k = good-second s (Ok n) e in
    let i : k ≡ n = cc in
    record { answers = sym e; leaves = rw (good-first s (Ok n) e, sym i) q }
