use Rattle.std.proofs.Common.{◌≡◌, take}
use Rattle.scm_sessions.specs.inner.Jobs.{with_jobs}
use Rattle.scm_sessions.proofs.group_ends.add_findings.Given as goal

-- what was found in the groups below the index was added
abbrev pub invariant-loop-group : goal.invariant-loop-group
invariant-loop-group g l = l.findings ≡ with_jobs l.fn.findings (take l.group-index l.groups)
