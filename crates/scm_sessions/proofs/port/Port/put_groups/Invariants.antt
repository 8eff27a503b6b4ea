use Rattle.std.proofs.Common.{take}
use Rattle.scm_sessions.specs.Script.{inner_of, has_failed, Sends}
use Rattle.scm_sessions.specs.inner.Jobs.{jobs_text}
use Rattle.scm_sessions.proofs.port.Port.put_groups.Given as goal

-- the replies of the groups below the index are put
abbrev pub invariant-loop-group : goal.invariant-loop-group
invariant-loop-group g l =
    Sends (g.W.Write.contents (inner_of l.fn.self)) (has_failed l.fn.self) (g.W.Write.contents (inner_of l.self)) (has_failed l.self)
    (jobs_text (take l.group-index l.groups))
