use Rattle.std.proofs.Common.{◌∙◌}
use Rattle.std.proofs.lemmas.List.{take-replicate}
use Rattle.scm_sequences.specs.declared.limits.TheConstants.{MOST_PROCESSES}
use Rattle.scm_frontier.specs.Situations.{start_of}
use Rattle.scm_frontier.specs.laws.StepLaws.{same_situated}
use Rattle.scm_schedules.proofs.walk.Walk.start.Goals as goal

pub returns : goal.returns
returns c =
    let counted = rw c.unwrap.ensures at c.try_from.ensures in
    let held = rw c.unwrap-2.ensures at c.try_from-2.ensures in
    same_situated (record { counts = c.unwrap.result.items; contents = c.unwrap-2.result.items }) (start_of c.args.initials.now c.args.procs)
    (counted.0 ∙ take-replicate c.args.procs MOST_PROCESSES 0 c.requires.procs) held.0
