use Rattle.scm_sessions.proofs.Grouping.{place_is, old_group, new_group}
use Rattle.scm_sessions.proofs.groups.Groups.place_of.Goals as goal

pub returns-then-is_new-clause-place : goal.returns-then-is_new-clause-place
returns-then-is_new-clause-place c =
    place_is _ _ _ _ _ c.name_of.ensures c.self.invariant c.self.view_is _ c.in_ok-place.ensures.index

pub returns-then-is_new-clause-groups : goal.returns-then-is_new-clause-groups
returns-then-is_new-clause-groups c =
    new_group _ _ _ _ _ c.name_of.ensures c.self.invariant c.self.view_is _ _ _ _ _ c.in_ok-place.ensures.added c.if-is_new.true
    c.reserve.ensures.items c.push_reserved.ensures.items c.new-group.ensures c.name_of-then-is_new.ensures

pub returns-else-is_new-clause-place : goal.returns-else-is_new-clause-place
returns-else-is_new-clause-place c =
    place_is _ _ _ _ _ c.name_of.ensures c.self.invariant c.self.view_is _ c.in_ok-place.ensures.index

pub returns-else-is_new-clause-groups : goal.returns-else-is_new-clause-groups
returns-else-is_new-clause-groups c =
    old_group _ _ _ _ _ c.name_of.ensures c.self.invariant c.self.view_is _ _ c.in_ok-place.ensures.added c.if-is_new.false c.reserve.ensures.items
