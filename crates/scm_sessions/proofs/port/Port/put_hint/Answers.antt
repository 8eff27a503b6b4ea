use Rattle.scm_sessions.proofs.Sent.{Sends-trans}
use Rattle.scm_sessions.proofs.port.Port.put_hint.Goals as goal

pub returns-clause-bytes : goal.returns-clause-bytes
returns-clause-bytes g c = Sends-trans c.put.ensures.bytes (rw c.from.ensures at c.put_number.ensures.bytes)
