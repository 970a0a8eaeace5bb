-- docs/RULES.md, section 5: the sheet, and the two true ones.
--
--   Sheet                  == the slices d, e, f, b and route (rule 5.1), the slice next, and the point count n
--   sheet_of d e f b r x n == the sheet with these slices and this point count
--   sheet_in s             == the sheet that the code has as s
--   joined g a b           == an open walk joins a to b
--   fits g a b             == the total f(B) is at most 2^64 - 1
--   route_sheet g a b      == the one true route sheet, where a walk joins a to b and the total fits
--   no_route_sheet g a     == the one true no_route sheet, where no walk joins the ends
--   TrueRoute g a b s      == s is the true route sheet of the job from a to b, and the job has one
--   TrueNoRoute g a b s    == s is the true no_route sheet of the job from a to b, and the job has one
--   same_sheet s t         == the two sheets have the same numbers, tested
use Rattle.std.specs.Prelude.{ℕ, ◌^◌, ◌≡◌, Bool, true, false, ◌&&◌, List, ltb, eqb, length}
use Rattle.basics.specs.Lists.{tabulate, padded, zeros, same}
use Rattle.paths.specs.declared.sheet.Sheet.{Sheet as Lent}
use Rattle.paths.specs.Graph.{Graph}
use Rattle.paths.specs.Distance.{unreachable, distance, path_count}
use Rattle.paths.specs.Route.{count_from, count_to, central_route, next_number}

pub record Sheet : Type 0 where
  pub d : List ℕ
  pub e : List ℕ
  pub f : List ℕ
  pub b : List ℕ
  pub route : List ℕ
  pub next : List ℕ
  pub n : ℕ

abbrev pub sheet_of : List ℕ → List ℕ → List ℕ → List ℕ → List ℕ → List ℕ → ℕ → Sheet
sheet_of d e f b r x n = record { d = d; e = e; f = f; b = b; route = r; next = x; n = n }

abbrev pub sheet_in : Lent → Sheet
sheet_in s = sheet_of s.d.now s.e.now s.f.now s.back.now s.route.now s.next.now s.n

unfoldable pub joined : Graph → ℕ → ℕ → Bool
joined g a b = ltb (distance g a b) unreachable

unfoldable pub fits : Graph → ℕ → ℕ → Bool
fits g a b = ltb (path_count g a b) (2 ^ 64)

unfoldable pub route_sheet : Graph → ℕ → ℕ → Sheet
route_sheet g a b = record {
  d = tabulate g.size (distance g a);
  e = tabulate g.size (λ v. distance g v b);
  f = tabulate g.size (count_from g a b);
  b = tabulate g.size (count_to g a b);
  route = padded g.size (central_route g a b);
  next = tabulate g.size (next_number g a b);
  n = length (central_route g a b);
}

unfoldable pub no_route_sheet : Graph → ℕ → Sheet
no_route_sheet g a = record {
  d = tabulate g.size (distance g a);
  e = zeros g.size;
  f = zeros g.size;
  b = zeros g.size;
  route = zeros g.size;
  next = zeros g.size;
  n = 0;
}

pub record TrueRoute (g : Graph) (a b : ℕ) (s : Sheet) : Type 0 where
  pub is_joined : joined g a b ≡ true
  pub total_fits : fits g a b ≡ true
  pub is : s ≡ route_sheet g a b

pub record TrueNoRoute (g : Graph) (a b : ℕ) (s : Sheet) : Type 0 where
  pub not_joined : joined g a b ≡ false
  pub is : s ≡ no_route_sheet g a

unfoldable pub same_sheet : Sheet → Sheet → Bool
same_sheet s t =
    same s.d t.d && same s.e t.e && same s.f t.f && same s.b t.b
    && same s.route t.route && same s.next t.next && eqb s.n t.n
