use Rattle.scm_sessions.proofs.Replying.{AnsweredLines-none, AnsweredLines-more, replied_rest}
use Rattle.scm_sessions.proofs.group_answers.answer_group.Goals as goal

pub each-init : goal.each-init
each-init g c = AnsweredLines-none _

pub answer_next-requires : goal.answer_next-requires
answer_next-requires g c = replied_rest c.each.invariant c.requires

pub each-preserved : goal.each-preserved
each-preserved g c = let answered = rw c.each-test.true at c.answer_next.ensures in AnsweredLines-more c.each.invariant answered.0
