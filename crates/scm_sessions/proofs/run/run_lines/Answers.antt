use Rattle.std.proofs.Common.{rules}
use Rattle.std.proofs.KnownBytes.{Appends-kept}
use Rattle.scm_sessions.proofs.Sent.{AppendsPart-all}
use Rattle.scm_sessions.proofs.Running.{HasRun-start, HasRun-kept, HasRun-more, FindsWhole-end, FindsWhole-last, RunsWholeLines-part, RunsPart-held, RunsPart-whole, RunsPart-last}
use Rattle.scm_sessions.proofs.run.run_lines.Goals as goal

pub each-init : goal.each-init
each-init g c = record {
  run = HasRun-start _ _ _ _ _ _ c.requires.fresh c.requires.new;
  reads = search rules;
  writes = search rules;
}

pub returns-in_err-flush_before_read-clause-write_failed : goal.returns-in_err-flush_before_read-clause-write_failed
returns-in_err-flush_before_read-clause-write_failed g c =
    λ _. RunsPart-held _ _ _ c.each.invariant.run c.in_err-flush_before_read.ensures.bytes

pub returns-in_err-next_line-clause-read_failed : goal.returns-in_err-next_line-clause-read_failed
returns-in_err-next_line-clause-read_failed g c =
    let run = HasRun-kept c.each.invariant.run _ c.in_ok-flush_before_read.ensures.bytes in
    λ _. RunsWholeLines-part _ run c.in_err-next_line.ensures.read

pub each-preserved : goal.each-preserved
each-preserved g c = record {
  run =
      let run = HasRun-kept c.each.invariant.run _ c.in_ok-flush_before_read.ensures.bytes in
      let takes = rw c.in-Whole.is at c.in_ok-next_line.ensures.ok in
      let answered = rw c.line.ensures at c.in_ok-send_answer-in-Whole.ensures.answered in
      HasRun-more _ _ _ _ _ _ run takes answered.1 answered.2 answered.3;
  reads = search rules;
  writes = search rules;
}

pub returns-in_err-send_answer-in-Whole-clause-write_failed : goal.returns-in_err-send_answer-in-Whole-clause-write_failed
returns-in_err-send_answer-in-Whole-clause-write_failed g c =
    let run = HasRun-kept c.each.invariant.run _ c.in_ok-flush_before_read.ensures.bytes in
    let takes = rw c.in-Whole.is at c.in_ok-next_line.ensures.ok in
    let answered = rw c.line.ensures at c.in_err-send_answer-in-Whole.ensures.answered in
    λ _. RunsPart-whole _ _ _ _ _ _ run takes answered.1 answered.2

pub returns-in_err-send_answer-in-Last-clause-write_failed : goal.returns-in_err-send_answer-in-Last-clause-write_failed
returns-in_err-send_answer-in-Last-clause-write_failed g c =
    let run = HasRun-kept c.each.invariant.run _ c.in_ok-flush_before_read.ensures.bytes in
    let takes = rw c.in-Last.is at c.in_ok-next_line.ensures.ok in
    let answered = rw c.line-in-Last.ensures at c.in_err-send_answer-in-Last.ensures.answered in
    λ _. RunsPart-last _ _ _ _ _ _ run takes answered.1 answered.2

pub returns-in_err-flush-in-Last-clause-write_failed : goal.returns-in_err-flush-in-Last-clause-write_failed
returns-in_err-flush-in-Last-clause-write_failed g c =
    let run = HasRun-kept c.each.invariant.run _ c.in_ok-flush_before_read.ensures.bytes in
    let takes = rw c.in-Last.is at c.in_ok-next_line.ensures.ok in
    let answered = rw c.line-in-Last.ensures at c.in_ok-send_answer-in-Last.ensures.answered in
    λ _. RunsPart-last _ _ _ _ _ _ run takes answered.1 (AppendsPart-all _ _ _ _ answered.2 c.in_err-flush-in-Last.ensures.bytes)

pub returns-in-Last-clause-ok : goal.returns-in-Last-clause-ok
returns-in-Last-clause-ok g c =
    let run = HasRun-kept c.each.invariant.run _ c.in_ok-flush_before_read.ensures.bytes in
    let takes = rw c.in-Last.is at c.in_ok-next_line.ensures.ok in
    let answered = rw c.line-in-Last.ensures at c.in_ok-send_answer-in-Last.ensures.answered in
    FindsWhole-last _ _ _ _ _ _ _ run takes answered.1 (Appends-kept _ _ _ _ answered.2 c.in_ok-flush-in-Last.ensures.bytes) answered.3

pub returns-in-End-clause-ok : goal.returns-in-End-clause-ok
returns-in-End-clause-ok g c =
    let run = HasRun-kept c.each.invariant.run _ c.in_ok-flush_before_read.ensures.bytes in
    let takes = rw c.in-End.is at c.in_ok-next_line.ensures.ok in FindsWhole-end _ _ run takes
