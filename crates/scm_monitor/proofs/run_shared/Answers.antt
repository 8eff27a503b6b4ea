use Rattle.scm_sessions.specs.Script.{inner_of}
use Rattle.scm_monitor.proofs.Telling.{status_told}
use Rattle.scm_monitor.proofs.run_shared.Goals as goal
use Rattle.scm_monitor.proofs.run_shared.Goals.{then-options+in_ok-ended, else-options+in_ok-ended-2}

pub returns : goal.returns
returns g c = elim c.if-options.branch [
  | then-options+in_ok-ended w ↦ record {
    told = status_told _ _ _ (g.W.Write.contents (inner_of w.run_each.new.writer)) c.args.options _ c.if-options.ended (rw (w.reader-is, w.findings-is, w.ended-is, w.if-options.true) w.in_ok-ended.ensures.ok) (rw w.ended-is w.in_ok-ended.ensures.legal) c.end_run.result c.end_run.ensures;
  }
  | else-options+in_ok-ended-2 w ↦ record {
    told = status_told _ _ _ (g.W.Write.contents (inner_of w.run_with_workers.new.writer)) c.args.options _ c.if-options.ended (rw (w.reader-is, w.findings-is, w.ended-is, w.if-options.false) w.in_ok-ended-2.ensures.ok) (rw w.ended-is w.in_ok-ended-2.ensures.legal) c.end_run.result c.end_run.ensures;
  }
]
