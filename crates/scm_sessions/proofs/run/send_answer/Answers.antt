use Rattle.std.proofs.Common.{◌≡◌, ◌∙◌, ap, sym}
use Rattle.std.proofs.KnownBytes.{Appends-nil}
use Rattle.scm_sessions.specs.inner.Answering.{answer_replies}
use Rattle.scm_sessions.specs.inner.Findings.{with_answer}
use Rattle.scm_sessions.proofs.run.send_answer.Goals as goal

pub returns-in-Some-clause-answered : goal.returns-in-Some-clause-answered
returns-in-Some-clause-answered g c =
    let gathers = c.add_answer.ensures ∙ ap (λ a. with_answer c.args.findings.now (answer_replies a)) c.as_ref.ensures.value
    ∙ ap (with_answer c.args.findings.now) (sym c.answer_line-answer.ensures.replies) in
    let sent = rw c.as_ref-in-Some.ensures.value at c.send_reply.ensures.bytes in
    (_, c.answer_line-answer.ensures.line, rw c.in-Some.is sent, gathers)

pub returns-in-None-clause-answered : goal.returns-in-None-clause-answered
returns-in-None-clause-answered g c =
    let gathers = c.add_answer.ensures ∙ ap (λ a. with_answer c.args.findings.now (answer_replies a)) c.as_ref.ensures.value
    ∙ ap (with_answer c.args.findings.now) (sym c.answer_line-answer.ensures.replies) in
    (_, c.answer_line-answer.ensures.line, rw c.in-None.is (Appends-nil _), gathers)
