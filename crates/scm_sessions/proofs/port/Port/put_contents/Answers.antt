use Rattle.std.proofs.Common.{◌≡◌, ◌<◌, length, rules, sym, None, get_or}
use Rattle.scm_sessions.specs.Script.{content_text}
use Rattle.scm_sessions.proofs.Sent.{Sends-trans, Sends-same}
use Rattle.scm_sessions.proofs.Joining.{joined-take_more}
use Rattle.scm_sessions.proofs.port.Port.put_contents.Goals as goal

pub loop-c-preserved : goal.loop-c-preserved
loop-c-preserved g c = record {
  sent =
      let item : c.value.result ≡ get_or c.args.situation.now.contents c.loop-c.c None = cc in
      let within : c.loop-c.c < length c.args.situation.now.contents = rw (sym c.cells-c-end.ensures) c.loop-c-test.true in
      let sent = Sends-trans (Sends-trans c.loop-c.invariant.sent c.put_comma_after.ensures.bytes) c.put_content.ensures.bytes in
      Sends-same (rw item at sent) (joined-take_more content_text c.args.situation.now.contents c.loop-c.c None within);
  reads = search rules;
}
