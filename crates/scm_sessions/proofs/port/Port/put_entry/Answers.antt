use Rattle.scm_sessions.proofs.Sent.{Sends-trans}
use Rattle.scm_sessions.proofs.port.Port.put_entry.Goals as goal

pub returns-clause-bytes : goal.returns-clause-bytes
returns-clause-bytes g c =
    Sends-trans (Sends-trans (Sends-trans (Sends-trans (Sends-trans (Sends-trans c.put_number.ensures.bytes c.put.ensures.bytes)
    (rw c.bytes.ensures.bytes at c.put-2.ensures.bytes)) c.put_value.ensures.bytes) c.put-3.ensures.bytes) c.put_reply.ensures.bytes)
    c.put-4.ensures.bytes
