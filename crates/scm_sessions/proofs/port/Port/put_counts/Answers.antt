use Rattle.std.proofs.Common.{◌≡◌, ◌<◌, length, rules, sym, decimal, get_or}
use Rattle.scm_sessions.proofs.Sent.{Sends-trans, Sends-same}
use Rattle.scm_sessions.proofs.Joining.{joined-take_more}
use Rattle.scm_sessions.proofs.port.Port.put_counts.Goals as goal

pub loop-p-preserved : goal.loop-p-preserved
loop-p-preserved g c = record {
  sent =
      let item : c.from.result ≡ get_or c.args.situation.now.counts c.loop-p.p 0 = cc in
      let within : c.loop-p.p < length c.args.situation.now.counts = rw (sym c.procs-p-end.ensures.procs) c.loop-p-test.true in
      let sent = Sends-trans (Sends-trans c.loop-p.invariant.sent c.put_comma_after.ensures.bytes) c.put_number.ensures.bytes in
      Sends-same (rw item at sent) (joined-take_more decimal c.args.situation.now.counts c.loop-p.p 0 within);
  reads = search rules;
}
