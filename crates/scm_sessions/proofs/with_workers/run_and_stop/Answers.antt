use Rattle.std.proofs.Common.{rules}
use Rattle.std.proofs.lemmas.Result.{err_from_is_err_and}
use Rattle.scm_sessions.proofs.Sharing.{FindsWhole-callers, RunsWholeLines-fit, RunsPart-fit}
use Rattle.scm_sessions.proofs.with_workers.run_and_stop.Goals as goal

pub returns-clause-ok : goal.returns-clause-ok
returns-clause-ok g c =
    let ran = rw c.in_ok-ran.was at c.run_lines-ran.ensures.ok in
    record { finds = FindsWhole-callers ran c.new-sessions.ensures c.into_parts.ensures.names c.into_parts.ensures.passes; each = c.into_parts.ensures.each; numbered = c.into_parts.ensures.numbered }

pub returns-in_err-ran-clause-fails : goal.returns-in_err-ran-clause-fails
returns-in_err-ran-clause-fails g c =
    let fault = err_from_is_err_and c.from_residual.result c.from_residual.ensures.1 in
    let error = fault.1 in
    let same = fault.2 in let was = c.in_err-ran.was in
    record {
      read_failed = λ is. RunsWholeLines-fit (c.run_lines-ran.ensures.read_failed (cc));
      write_failed = λ is. RunsPart-fit (c.run_lines-ran.ensures.write_failed (cc));
      reader_failed = search rules;
      writer_failed = search rules;
      memory = search rules;
    }
