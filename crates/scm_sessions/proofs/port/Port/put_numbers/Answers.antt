use Rattle.std.proofs.Common.{rules}
use Rattle.scm_sessions.specs.Script.{spaced}
use Rattle.scm_sessions.proofs.Sent.{Sends-trans, Sends-same, flat_map-take_more}
use Rattle.scm_sessions.proofs.port.Port.put_numbers.Goals as goal

pub loop-number-preserved : goal.loop-number-preserved
loop-number-preserved g c = record {
  sent = Sends-same (Sends-trans c.loop-number.invariant.sent c.put_value.ensures.bytes) (flat_map-take_more spaced _ _ _ _ c.loop-number-test.true c.from.ensures);
  reads = search rules;
}
