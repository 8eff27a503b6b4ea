use Rattle.std.proofs.Common.{ap, length, ◌∙◌}
use Rattle.scm_sessions.proofs.EachRuns.{answered_back, answered_length}
use Rattle.scm_sessions.proofs.each.answer_jobs.Goals as goal

pub returns-clause-answered : goal.returns-clause-answered
returns-clause-answered g c =
    let back = answered_back _ c.args.jobs.now.items _ _ c.as_mut_slice.ensures.len c.answer_beside_workers.ensures in
    rw (back, ← c.as_mut_slice.ensures.value) c.answer_beside_workers.ensures

pub returns-clause-each : goal.returns-clause-each
returns-clause-each g c =
    let back = answered_back _ c.args.jobs.now.items _ _ c.as_mut_slice.ensures.len c.answer_beside_workers.ensures in
    ap length back ∙ answered_length _ _ c.answer_beside_workers.ensures ∙ ap length c.as_mut_slice.ensures.value
