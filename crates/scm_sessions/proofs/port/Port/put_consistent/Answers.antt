use Rattle.scm_sessions.proofs.Sent.{Sends-trans}
use Rattle.scm_sessions.proofs.port.Port.put_consistent.Goals as goal

pub returns-clause-bytes : goal.returns-clause-bytes
returns-clause-bytes g c = Sends-trans (Sends-trans (Sends-trans c.put.ensures.bytes c.put_number.ensures.bytes) c.put_numbers.ensures.bytes) c.put_with.ensures.bytes
