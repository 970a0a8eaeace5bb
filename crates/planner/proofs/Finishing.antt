-- The three ways in which a job of good shape ends.
--
--   finished-none   == no walk joins the ends: answer 7
--   finished-many   == the total does not fit: answer 8
--   finished-route  == a route: answer 0
use Prim.Native.Nat.{ℕ, ◌*◌, ◌<◌}
use mathlib.Core.Path.{◌≡◌}
use mathlib.Core.Bool.{true, false}
use mathlib.Core.List.{List}
use lib.ListN.{length}
use Rattle.std.specs.Prelude.{Ok, Err}
use Rattle.basics.specs.Lists.{tabulate, padded, zeros}
use Rattle.floor.specs.declared.Refusal.TheVariants.{NoRoute, TooMany}
use Rattle.paths.specs.Graph.{Graph}
use Rattle.paths.specs.Distance.{unreachable, distance, path_count}
use Rattle.paths.specs.Route.{count_from, count_to, central_route, next_number}
use Rattle.paths.specs.Sheet.{fits, route_sheet, no_route_sheet}
use Rattle.paths.proofs.Sheets.{reached-joined, unreachable-joined}
use Rattle.planner.specs.Plan.{plan_of, slices_of, route_answer, route_left}
use Rattle.planner.specs.Parts.{Finished}

module _ {g : Graph} {a b : ℕ} {e f back route next work : List ℕ} (work-blank : work ≡ zeros (4 * g.size)) where
  pub finished-none : distance g a b ≡ unreachable → e ≡ zeros g.size → f ≡ zeros g.size → back ≡ zeros g.size
      → route ≡ zeros g.size → next ≡ zeros g.size
      → Finished g a b (Err NoRoute) (slices_of e f back route next work)
  unfolding route_answer route_left no_route_sheet
  finished-none h e-blank f_blank back_blank route_blank next_blank = record {
    answer = rw (unreachable-joined g a b h);
    left = rw (unreachable-joined g a b h, work-blank, e-blank, f_blank, back_blank, route_blank, next_blank);
  }

  module _ (reached : distance g a b < unreachable) (e_true : e ≡ tabulate g.size (λ v. distance g v b)) where
    pub finished-many : fits g a b ≡ false → f ≡ zeros g.size → back ≡ zeros g.size → route ≡ zeros g.size
        → next ≡ zeros g.size → Finished g a b (Err TooMany) (slices_of e f back route next work)
    unfolding route_answer route_left
    finished-many over f_blank back_blank route_blank next_blank = record {
      answer = rw (reached-joined g a b reached, over);
      left = rw (reached-joined g a b reached, over, work-blank, e_true, f_blank, back_blank, route_blank, next_blank);
    }

    pub finished-route : (c t n : ℕ) → fits g a b ≡ true → c ≡ distance g a b → t ≡ path_count g a b
        → n ≡ length (central_route g a b) → f ≡ tabulate g.size (count_from g a b)
        → back ≡ tabulate g.size (count_to g a b)
        → route ≡ padded g.size (central_route g a b) → next ≡ tabulate g.size (next_number g a b)
        → Finished g a b (Ok (plan_of c t n)) (slices_of e f back route next work)
    unfolding route_answer route_left route_sheet
    finished-route c t n small c-true t_true n-true f_true back_true route-true next_true = record {
      answer = rw (reached-joined g a b reached, small, c-true, t_true, n-true);
      left = rw (reached-joined g a b reached, small, work-blank, e_true, f_true, back_true, route-true, next_true);
    }
