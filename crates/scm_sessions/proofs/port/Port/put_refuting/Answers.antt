use Rattle.scm_sessions.proofs.Sent.{Sends-trans}
use Rattle.scm_sessions.proofs.port.Port.put_refuting.Goals as goal

pub returns-clause-bytes : goal.returns-clause-bytes
returns-clause-bytes g c = Sends-trans (Sends-trans c.put.ensures.bytes c.put_number.ensures.bytes) c.put_lines.ensures.bytes
