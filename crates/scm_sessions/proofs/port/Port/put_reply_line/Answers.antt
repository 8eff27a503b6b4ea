use Rattle.scm_sessions.proofs.Sent.{Sends-trans}
use Rattle.scm_sessions.proofs.port.Port.put_reply_line.Goals as goal

pub returns-clause-bytes : goal.returns-clause-bytes
returns-clause-bytes g c =
    Sends-trans (Sends-trans (Sends-trans (rw c.shown_name.ensures at c.put.ensures.bytes) c.put-2.ensures.bytes) c.put_reply.ensures.bytes)
    c.put-3.ensures.bytes
