use Rattle.scm_sessions.proofs.Replying.{HaveBegun-more}
use Rattle.scm_sessions.proofs.jobs.jobs_of.Goals as goal

pub loop-group-preserved : goal.loop-group-preserved
loop-group-preserved g c =
    HaveBegun-more c.loop-group.invariant c.in-Some.group c.in_ok-job.job c.push.new.self.items c.next_number-number.result c.in_ok-job.ensures
    c.next_number-number.ensures c.in_ok-push.ensures.items
