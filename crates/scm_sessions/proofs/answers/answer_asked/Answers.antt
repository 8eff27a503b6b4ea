use Rattle.scm_sessions.proofs.Answering.{AnswersWith-nothing, AnswersWith-bad, AnswersWith-good}
use Rattle.scm_sessions.proofs.answers.answer_asked.Goals as goal

pub returns-in-Bad : goal.returns-in-Bad
returns-in-Bad g c = rw c.in-Bad.is (AnswersWith-bad _ _)

pub returns-in-Good : goal.returns-in-Good
returns-in-Good g c = rw c.in-Good.is (AnswersWith-good _ _ _ _ _ c.call.ensures)

pub returns-in-Nothing : goal.returns-in-Nothing
returns-in-Nothing g c = rw c.in-Nothing.is (AnswersWith-nothing _)
