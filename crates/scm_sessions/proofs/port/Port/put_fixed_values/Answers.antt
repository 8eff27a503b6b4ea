use Rattle.std.proofs.Common.{rules}
use Rattle.scm_sessions.specs.Script.{fixed_text}
use Rattle.scm_sessions.proofs.Sent.{Sends-trans, Sends-same, flat_map-take_more}
use Rattle.scm_sessions.proofs.port.Port.put_fixed_values.Goals as goal

pub loop-value-preserved : goal.loop-value-preserved
loop-value-preserved g c = record {
  sent = Sends-same (Sends-trans c.loop-value.invariant.sent c.put_fixed_value.ensures.bytes) (flat_map-take_more fixed_text _ _ _ _ c.loop-value-test.true c.value-item.is);
  reads = search rules;
}
