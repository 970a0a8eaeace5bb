-- The C function that mends a damaged sheet (docs/RULES.md, section 14).
--
--   mend_result m == the answer m of the mending: its number, the number of points, and for each slice the number of
--                    places where the damaged one and the true one differ
--   MendsTo ..    == the mending's statement: the answer r, and every slice lent to be written afterwards
use Rattle.std.specs.Prelude.{ℕ, ◌≡◌, List}
use Rattle.paths.specs.Sheet.{Sheet}
use Rattle.mending.specs.Mending.{MendSlices, MendAnswer, mend_answer, mend_left, mend_number, mend_points, mend_differences}
use Rattle.capi.specs.declared.mend.MendResult.{MendResult}

abbrev pub mend_result : MendAnswer → MendResult
mend_result m =
    let c = mend_differences m in
    record {
      n = mend_points m;
      d = c.d;
      e = c.e;
      f = c.f;
      back = c.back;
      route = c.route;
      next = c.next;
      answer = mend_number m;
    }

pub record MendsTo (w h : ℕ) (map : List ℕ) (nb a b : ℕ) (old : Sheet) (s : MendSlices) (r : MendResult)
    (s' : MendSlices) : Type 0 where
  pub answer : r ≡ mend_result (mend_answer w h map nb a b old s)
  pub left : s' ≡ mend_left w h map nb a b old s
