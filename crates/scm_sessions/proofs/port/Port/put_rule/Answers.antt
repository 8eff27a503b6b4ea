use Rattle.scm_sessions.proofs.Sent.{Sends-trans}
use Rattle.scm_sessions.proofs.port.Port.put_rule.Goals as goal

pub returns-in-Hidden-clause-bytes : goal.returns-in-Hidden-clause-bytes
returns-in-Hidden-clause-bytes g c = rw c.in-Hidden.is (Sends-trans c.put-in-Hidden.ensures.bytes c.put_place.ensures.bytes)

pub returns-in-AfterSource-clause-bytes : goal.returns-in-AfterSource-clause-bytes
returns-in-AfterSource-clause-bytes g c = rw c.in-AfterSource.is c.put-in-AfterSource.ensures.bytes

pub returns-in-Lemma-clause-bytes : goal.returns-in-Lemma-clause-bytes
returns-in-Lemma-clause-bytes g c = rw c.in-Lemma.is (Sends-trans c.put-in-Lemma.ensures.bytes c.put_hint.ensures.bytes)
