use Rattle.std.proofs.Common.{rules, refl}
use Rattle.scm_sessions.specs.Script.{line_text}
use Rattle.scm_sessions.proofs.Sent.{Sends-trans, Sends-same, flat_map-take_more}
use Rattle.scm_sessions.proofs.port.Port.put_lines.Goals as goal

pub loop-line-preserved : goal.loop-line-preserved
loop-line-preserved g c = record {
  sent = Sends-same (Sends-trans c.loop-line.invariant.sent c.put_line.ensures.bytes) (flat_map-take_more (line_text c.args.hints.now) _ _ _ _ c.loop-line-test.true refl);
  reads = search rules;
}
