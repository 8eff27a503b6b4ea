use Rattle.scm_sessions.proofs.Sent.{Sends-trans}
use Rattle.scm_sessions.proofs.port.Port.put_pair.Goals as goal

pub returns-clause-bytes : goal.returns-clause-bytes
returns-clause-bytes g c = Sends-trans (Sends-trans c.put_place.ensures.bytes c.put.ensures.bytes) c.put_place-2.ensures.bytes
