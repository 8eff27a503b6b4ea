use Rattle.std.proofs.Common.{rules}
use Rattle.scm_sessions.specs.Script.{situation_text}
use Rattle.scm_sessions.proofs.Sent.{Sends-trans, Sends-same, flat_map-take_more}
use Rattle.scm_sessions.proofs.port.Port.put_situations.Goals as goal

pub loop-situation-preserved : goal.loop-situation-preserved
loop-situation-preserved g c = record {
  sent = Sends-same (Sends-trans c.loop-situation.invariant.sent c.put_situation.ensures.bytes) (flat_map-take_more situation_text _ _ _ _ c.loop-situation-test.true c.situation-item.is);
  reads = search rules;
}
