use Rattle.scm_sessions.proofs.Answering.{AnswersWith-unread}
use Rattle.scm_sessions.proofs.answers.answer_line.Goals as goal

pub returns-in-Err : goal.returns-in-Err
returns-in-Err g c = AnswersWith-unread _ _ _ c.in-Err.ensures.err
