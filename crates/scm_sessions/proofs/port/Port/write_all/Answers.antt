use Rattle.std.proofs.Common.{rules}
use Rattle.std.proofs.lemmas.Result.{err_from_is_err_and}
use Rattle.scm_sessions.proofs.Sent.{Appends-more, AppendsPart-taken}
use Rattle.scm_sessions.proofs.port.Port.write_all.Goals as goal

pub returns-in_err-at-clause-bytes : goal.returns-in_err-at-clause-bytes
returns-in_err-at-clause-bytes g c =
    let fault = err_from_is_err_and c.from_residual.result c.from_residual.ensures.1 in
    rw fault.1 (AppendsPart-taken _ _ _ _ _ c.loop-at.invariant.written c.in_err-at.ensures.bytes)

pub loop-at-preserved : goal.loop-at-preserved
loop-at-preserved g c = record {
  within = search rules;
  written = Appends-more _ _ _ _ _ _ c.loop-at.invariant.written c.in_ok-at.ensures.bytes;
  failed = search rules;
  reads = search rules;
}
