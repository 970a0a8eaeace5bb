-- `checker::vertices::blank_at` meets its contract: it tests slice by slice. Assumes nothing.
use Rattle.std.proofs.Common.{rules}
use Rattle.paths.specs.Local.{blank_at}
use Rattle.checker.proofs.vertices.blank_at.Goals as goal

pub returns-then-sheet-v-eq0-4 : goal.returns-then-sheet-v-eq0-4
unfolding blank_at
returns-then-sheet-v-eq0-4 c = search rules

pub returns-else-sheet-v-eq0-4 : goal.returns-else-sheet-v-eq0-4
unfolding blank_at
returns-else-sheet-v-eq0-4 c = search rules
