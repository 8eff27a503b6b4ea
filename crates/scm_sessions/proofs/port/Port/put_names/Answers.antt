use Rattle.std.proofs.Common.{rules}
use Rattle.scm_sessions.specs.Script.{spaced_word}
use Rattle.scm_sessions.proofs.Sent.{Sends-trans, Sends-same, flat_map-take_more}
use Rattle.scm_sessions.proofs.port.Port.put_names.Goals as goal

pub loop-name-preserved : goal.loop-name-preserved
loop-name-preserved g c = record {
  sent = Sends-same (Sends-trans c.loop-name.invariant.sent c.put_spaced_name.ensures.bytes) (flat_map-take_more spaced_word _ _ _ _ c.loop-name-test.true c.name-item.is);
  reads = search rules;
}
