use Rattle.scm_sessions.proofs.Replying.{HaveBegun}
use Rattle.scm_sessions.proofs.jobs.jobs_of.Given as goal

-- the groups so far began
abbrev pub invariant-loop-group : goal.invariant-loop-group
invariant-loop-group g l = HaveBegun l.yielded l.jobs.items l.number
