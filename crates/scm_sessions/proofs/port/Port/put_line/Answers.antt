use Rattle.scm_sessions.proofs.Sent.{Sends-trans}
use Rattle.scm_sessions.proofs.port.Port.put_line.Goals as goal

pub returns-clause-bytes : goal.returns-clause-bytes
returns-clause-bytes g c =
    Sends-trans (Sends-trans (Sends-trans (Sends-trans c.put.ensures.bytes c.put_fact.ensures.bytes) c.put-2.ensures.bytes) c.put_rule.ensures.bytes)
    (rw c.hints_in.ensures at c.put_hints.ensures.bytes)
