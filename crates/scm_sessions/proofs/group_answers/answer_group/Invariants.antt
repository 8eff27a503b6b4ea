use Rattle.std.proofs.Common.{length}
use Rattle.scm_sessions.specs.inner.Jobs.{AnsweredLines}
use Rattle.scm_sessions.proofs.group_answers.answer_group.Given as goal

-- the lines that left the queue were answered
abbrev pub invariant-each : goal.invariant-each
invariant-each g l = AnsweredLines l.fn.group l.group

abbrev pub decreases-each : goal.decreases-each
decreases-each g l = length l.group.lines
