-- `program_text::job_text` meets its contract: the lines are those of the planner's answer. Assumes nothing.
use Rattle.program_text.proofs.Lines.{ready-room}
use borrow.Author.Rules.{rules}
use Rattle.program_text.proofs.job_text.Goals as goal

pub answer_text-requires : goal.answer_text-requires
answer_text-requires c = (search ready-room, search rules)
