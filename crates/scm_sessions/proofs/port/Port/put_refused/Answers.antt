use Rattle.std.proofs.Common.{◌≡◌}
use Rattle.scm_sequences.specs.Sequences.{refusal_number, refusal_text}
use Rattle.scm_sessions.proofs.Sent.{Sends-trans}
use Rattle.scm_sessions.proofs.port.Port.put_refused.Goals as goal

pub returns-clause-bytes : goal.returns-clause-bytes
returns-clause-bytes g c =
    let number : c.from.result ≡ refusal_number c.args.refusal = cc in
    let words : c.as_bytes.result.now ≡ refusal_text c.args.refusal = cc in
    Sends-trans (Sends-trans (Sends-trans c.put.ensures.bytes (rw number at c.put_number.ensures.bytes)) c.put-2.ensures.bytes)
    (rw words at c.put-3.ensures.bytes)
