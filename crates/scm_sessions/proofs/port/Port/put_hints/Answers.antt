use Rattle.std.proofs.Common.{rules, refl}
use Rattle.scm_sessions.specs.Script.{hint_text}
use Rattle.scm_sessions.proofs.Sent.{Sends-trans, Sends-same, flat_map-take_more}
use Rattle.scm_sessions.proofs.port.Port.put_hints.Goals as goal

pub loop-hint-preserved : goal.loop-hint-preserved
loop-hint-preserved g c = record {
  sent = Sends-same (Sends-trans c.loop-hint.invariant.sent c.put_hint.ensures.bytes) (flat_map-take_more hint_text _ _ _ _ c.loop-hint-test.true refl);
  reads = search rules;
}
