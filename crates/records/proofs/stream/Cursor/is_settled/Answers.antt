-- `records::stream::Cursor::is_settled` meets its contract: each return is a case of what is due at the cursor. Assumes
-- nothing.
use native.Mathlib.Omega.{arith}
use borrow.Author.Tests.{lt-ltb, le-ltb}
use Rattle.records.proofs.Settled.{decides-yes, decides-no, settled-map, settled-end, settled-full, settled-job}
use Rattle.records.proofs.stream.Cursor.is_settled.Goals as goal

pub returns-then-due-eq0 : goal.returns-then-due-eq0
returns-then-due-eq0 c = settled-map _ _ c.if-due-eq0.true c.map_settled.ensures

pub returns-then-due-gt1000 : goal.returns-then-due-gt1000
returns-then-due-gt1000 c =
    rw (lt-ltb 1000 c.args.self.due c.if-due-gt1000.true)
    (decides-yes (settled-full _ _ c.if-due-eq0.false c.if-at-s.true (omega arith)))

pub returns-else-due-gt1000 : goal.returns-else-due-gt1000
returns-else-due-gt1000 c =
    settled-job _ _ c.if-due-eq0.false c.if-at-s.true c.if-due-gt1000.false
    (c.job_settled.ensures _)

pub returns-else-at-s : goal.returns-else-at-s
returns-else-at-s c =
    rw (le-ltb _ _ c.if-at-s.false) (decides-no (settled-end _ _ c.if-due-eq0.false c.if-at-s.false))
