use Rattle.std.proofs.Common.{rules, slice_index_or}
use Rattle.scm_sessions.proofs.Replying.{one_answered, all_answered}
use Rattle.scm_sessions.proofs.group_answers.answer_groups.Goals as goal

pub returns : goal.returns
returns g c =
    all_answered c.args.groups.now c.for_each_mut.new.s (search rules)
    (λ i d below.
    let at = (c.for_each_mut.ensures i d below).1 in one_answered (slice_index_or c.args.groups.now i d) (slice_index_or c.for_each_mut.new.s i d) at.argument.now at.after_call.now at.argument_is at.left at.call)
