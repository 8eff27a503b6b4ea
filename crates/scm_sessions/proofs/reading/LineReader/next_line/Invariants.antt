use Rattle.std.proofs.Common.{◌≡◌, ◌≤◌, length}
use Rattle.scm_sequences.specs.declared.limits.TheConstants.{LONGEST_LINE}
use Rattle.scm_sessions.specs.Script.{has_failed}
use Rattle.scm_sessions.specs.inner.Reading.{left_of, most_bytes_left}
use Rattle.scm_sessions.proofs.Gathering.{HasGathered}
use Rattle.scm_sessions.proofs.reading.LineReader.next_line.Given as goal

-- a piece with no line feed came in since the call began, and as much of it as may be kept is the line
abbrev pub invariant-loop-self : goal.invariant-loop-self
invariant-loop-self g l = record {
  gathered : HasGathered (left_of g.R.Read.remaining l.fn.self l.fn.port) (left_of g.R.Read.remaining l.self l.port) l.self.line.items l.self.is_long;
  room : length l.self.line.items ≤ LONGEST_LINE;
  budget : most_bytes_left l.self l.port ≤ most_bytes_left l.fn.self l.fn.port;
  failed : has_failed l.port ≡ has_failed l.fn.port;
}

abbrev pub decreases-loop-self : goal.decreases-loop-self
decreases-loop-self g l = most_bytes_left l.self l.port
