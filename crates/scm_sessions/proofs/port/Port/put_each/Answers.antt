use Rattle.std.proofs.Common.{rules}
use Rattle.scm_sessions.specs.Script.{shown_text}
use Rattle.scm_sessions.proofs.Sent.{Sends-trans, Sends-same, flat_map-take_more}
use Rattle.scm_sessions.proofs.port.Port.put_each.Goals as goal

pub loop-shown-preserved : goal.loop-shown-preserved
loop-shown-preserved g c = record {
  sent = Sends-same (Sends-trans c.loop-shown.invariant.sent c.put_operation.ensures.bytes) (flat_map-take_more shown_text _ _ _ _ c.loop-shown-test.true c.shown-item.is);
  reads = search rules;
}
