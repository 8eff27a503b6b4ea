use Rattle.scm_sessions.proofs.Sent.{Sends-trans}
use Rattle.scm_sessions.proofs.port.Port.put_spaced_name.Goals as goal

pub returns-clause-bytes : goal.returns-clause-bytes
returns-clause-bytes g c = Sends-trans c.put.ensures.bytes (rw c.bytes.ensures.bytes at c.put-2.ensures.bytes)
