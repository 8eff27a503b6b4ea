use Rattle.std.proofs.Common.{◌∙◌, ap, sym, map-id, rules}
use Rattle.std.proofs.lemmas.Iterator.Consumers.{YieldsList-turn, YieldsList-end}
use Rattle.std.proofs.lemmas.Iterator.Adapters.{YieldsList-from_vec}
use Rattle.scm_sessions.specs.inner.Jobs.{entered_names, entered_passes}
use Rattle.scm_sessions.proofs.Entered.{name_fits, pass_fits, names_more, passes_more}
use Rattle.scm_sessions.proofs.group_ends.gathered.Goals as goal

pub gather-requires-clause-name_fits : goal.gather-requires-clause-name_fits
gather-requires-clause-name_fits g c =
    let turn = YieldsList-turn (YieldsList-from_vec {s = c.into_iter-group-iterator.result} c.args.groups.items (search rules) (search rules))
    c.loop-group.yielded c.loop-group.group-iterator c.loop-group.yielded_by c.next.result c.next.new.self c.in-Some.group c.in-Some.is c.next.ensures.steps in
    rw c.loop-group.invariant.name_room (name_fits _ _ _ _ c.loop-group.invariant.names turn.0 c.requires.names_fit)

pub gather-requires-clause-pass_fits : goal.gather-requires-clause-pass_fits
gather-requires-clause-pass_fits g c =
    let turn = YieldsList-turn (YieldsList-from_vec {s = c.into_iter-group-iterator.result} c.args.groups.items (search rules) (search rules))
    c.loop-group.yielded c.loop-group.group-iterator c.loop-group.yielded_by c.next.result c.next.new.self c.in-Some.group c.in-Some.is c.next.ensures.steps in
    rw c.loop-group.invariant.pass_room (pass_fits _ _ _ _ c.loop-group.invariant.passes turn.0 c.requires.passes_fit)

pub loop-group-preserved : goal.loop-group-preserved
loop-group-preserved g c = record {
  names = names_more _ _ c.loop-group.yielded c.in-Some.group c.gather.ensures.names c.loop-group.invariant.names;
  passes = passes_more _ _ c.loop-group.yielded c.in-Some.group c.gather.ensures.passes c.loop-group.invariant.passes;
  name_room = c.gather.ensures.name_room ∙ c.loop-group.invariant.name_room;
  pass_room = c.gather.ensures.pass_room ∙ c.loop-group.invariant.pass_room;
}

pub returns-clause-names : goal.returns-clause-names
returns-clause-names g c =
    let end = YieldsList-end (YieldsList-from_vec {s = c.into_iter-group-iterator.result} c.args.groups.items (search rules) (search rules))
    c.loop-group.yielded c.loop-group.group-iterator c.loop-group.yielded_by c.next.result c.next.new.self c.in-None.is c.next.ensures.steps in
    c.loop-group.invariant.names ∙ ap entered_names (sym (map-id c.loop-group.yielded) ∙ end.0)

pub returns-clause-passes : goal.returns-clause-passes
returns-clause-passes g c =
    let end = YieldsList-end (YieldsList-from_vec {s = c.into_iter-group-iterator.result} c.args.groups.items (search rules) (search rules))
    c.loop-group.yielded c.loop-group.group-iterator c.loop-group.yielded_by c.next.result c.next.new.self c.in-None.is c.next.ensures.steps in
    c.loop-group.invariant.passes ∙ ap entered_passes (sym (map-id c.loop-group.yielded) ∙ end.0)
