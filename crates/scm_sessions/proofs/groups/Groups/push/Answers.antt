use Rattle.std.proofs.Common.{sym, ◌∙◌}
use Rattle.scm_sessions.proofs.Grouping.{names_set, pushed_at, on_ok}
use Rattle.scm_sessions.proofs.groups.Groups.push.Goals as goal

pub invariant_of-self : goal.invariant_of-self
invariant_of-self c = c.self.invariant ∙ sym (names_set _ _ _ _ c.index_mut.ensures.value c.push.ensures.name)

pub returns : goal.returns
returns c =
    on_ok c.push.result
    (pushed_at _ _ _ _ _ _ _ c.self.view_is c.in_ok-place.ensures.groups c.in_ok-place.ensures.place c.index_mut.ensures.value)
    c.push.ensures.ok
