use Rattle.scm_schedules.proofs.FixingLaws.{listed_some, listed_none}
use Rattle.scm_schedules.proofs.fixing.listed.Goals as goal
use Rattle.scm_schedules.proofs.fixing.listed.Goals.{in-Some+in_ok-push, in_default}

pub loop-c-preserved : goal.loop-c-preserved
loop-c-preserved c =
    elim c.match-value.branch [
      | in-Some+in_ok-push w ↦
          rw (w.list-is, w.in_ok-push.ensures.items)
          (listed_some c.args.values.now c.loop-c.c w.in-Some.value c.loop-c.list.items c.loop-c.invariant w.in-Some.is)
      | in_default w ↦ rw w.list-is (listed_none c.args.values.now c.loop-c.c c.loop-c.list.items c.loop-c.invariant w.in_default.is)
    ]
