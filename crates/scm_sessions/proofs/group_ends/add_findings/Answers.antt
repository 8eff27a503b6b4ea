use Rattle.scm_sessions.proofs.Merging.{one_job_more}
use Rattle.scm_sessions.proofs.group_ends.add_findings.Goals as goal

pub loop-group-preserved : goal.loop-group-preserved
loop-group-preserved g c =
    one_job_more _ _ _ _ _ _ _ c.loop-group.invariant c.add_group.ensures c.loop-group-test.true c.group-item.is
