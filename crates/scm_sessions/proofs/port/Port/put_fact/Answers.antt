use Rattle.scm_sessions.proofs.Sent.{Sends-trans}
use Rattle.scm_sessions.proofs.port.Port.put_fact.Goals as goal

pub returns-in-SeesFirst-clause-bytes : goal.returns-in-SeesFirst-clause-bytes
returns-in-SeesFirst-clause-bytes g c = rw c.in-SeesFirst.is (Sends-trans c.put.ensures.bytes c.put_place.ensures.bytes)

pub returns-in-UnseenFirst-clause-bytes : goal.returns-in-UnseenFirst-clause-bytes
returns-in-UnseenFirst-clause-bytes g c = rw c.in-UnseenFirst.is (Sends-trans c.put-in-UnseenFirst.ensures.bytes c.put_place-in-UnseenFirst.ensures.bytes)
