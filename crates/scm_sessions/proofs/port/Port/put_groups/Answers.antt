use Rattle.scm_sessions.specs.inner.Jobs.{job_text}
use Rattle.scm_sessions.proofs.Sent.{Sends-trans, Sends-same, flat_map-take_more}
use Rattle.scm_sessions.proofs.port.Port.put_groups.Goals as goal

pub loop-group-preserved : goal.loop-group-preserved
loop-group-preserved g c =
    Sends-same (Sends-trans c.loop-group.invariant c.put_group.ensures)
    (flat_map-take_more job_text _ _ _ _ c.loop-group-test.true c.group-item.is)
