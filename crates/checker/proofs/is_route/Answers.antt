-- `checker::is_route` meets its contract: once costs and counts are right, the products of counts fit 64 bits. Assumes
-- nothing.
use Rattle.std.proofs.Common.{rules}
use Rattle.checker.proofs.Chosen.{input-choosable}
use Rattle.checker.proofs.is_route.Goals as goal

pub nexts_right-requires : goal.nexts_right-requires
nexts_right-requires c =
    input-choosable c.requires (search rules) (search rules) (search rules) (search rules) (search rules)
