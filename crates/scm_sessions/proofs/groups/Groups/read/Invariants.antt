use Rattle.std.proofs.Common.{◌≡◌, false}
use Rattle.scm_sessions.specs.Script.{inner_of, has_failed}
use Rattle.scm_sessions.specs.inner.Reading.{left_of, most_bytes_left}
use Rattle.scm_sessions.proofs.Grouping.{HasGrouped}
use Rattle.scm_sessions.proofs.groups.Groups.read.Given as goal

-- the lines that were taken so far stand in their groups
abbrev pub invariant-each : goal.invariant-each
invariant-each g l = record {
  grouped : HasGrouped (g.R.Read.remaining (inner_of l.fn.reader)) (left_of g.R.Read.remaining l.lines l.reader) l.self l.findings;
  reads : has_failed l.reader ≡ false;
}

abbrev pub decreases-each : goal.decreases-each
decreases-each g l = most_bytes_left l.lines l.reader
