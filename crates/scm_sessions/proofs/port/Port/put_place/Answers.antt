use Rattle.scm_sessions.proofs.Sent.{Sends-trans}
use Rattle.scm_sessions.proofs.port.Port.put_place.Goals as goal

pub returns-clause-bytes : goal.returns-clause-bytes
returns-clause-bytes g c =
    Sends-trans (Sends-trans (rw c.from.ensures at c.put_number.ensures.bytes) c.put.ensures.bytes) (rw c.from-2.ensures at c.put_number-2.ensures.bytes)
