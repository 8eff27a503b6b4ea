use Rattle.scm_sessions.proofs.Replying.{begins_with, begins_without}
use Rattle.scm_sessions.proofs.jobs.job_of.Goals.{then-has_call, else-has_call}
use Rattle.scm_sessions.proofs.jobs.job_of.Goals as goal

pub returns : goal.returns
returns g c =
    elim c.if-has_call.branch [
      | then-has_call w ↦ begins_with c.args.number c.group.inside.name c.group.inside.lines.items c.in_ok-replies.replies.items c.new.result c.args.group c.group.view_is
          c.in_ok-replies.ensures.items c.new.ensures c.if-has_call.pass w.entered-pass.result c.has_call.result c.has_call.ensures (cc) (cc) w.entered-pass.ensures
      | else-has_call w ↦ begins_without c.args.number c.group.inside.name c.group.inside.lines.items c.in_ok-replies.replies.items c.new.result c.args.group c.group.view_is
          c.in_ok-replies.ensures.items c.new.ensures c.if-has_call.pass (cc)
    ]
