use Rattle.std.proofs.Common.{◌≡◌, false}
use Rattle.scm_sessions.specs.Script.{inner_of, has_failed}
use Rattle.scm_sessions.specs.inner.Reading.{left_of, most_bytes_left}
use Rattle.scm_sessions.proofs.Running.{HasRun}
use Rattle.scm_sessions.proofs.run.run_lines.Given as goal

-- the lines that were taken so far are answered, and what they found is gathered
abbrev pub invariant-each : goal.invariant-each
invariant-each g l = record {
  run : HasRun (g.R.Read.remaining (inner_of l.fn.reader)) (left_of g.R.Read.remaining l.lines l.reader)
      (g.W.Write.contents (inner_of l.fn.writer)) (g.W.Write.contents (inner_of l.writer)) g.S.MakeCalls.calls l.fn.sessions l.sessions l.findings;
  reads : has_failed l.reader ≡ false;
  writes : has_failed l.writer ≡ false;
}

abbrev pub decreases-each : goal.decreases-each
decreases-each g l = most_bytes_left l.lines l.reader
