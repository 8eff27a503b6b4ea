use Rattle.std.proofs.Common.{◌≡◌, vec_capacity}
use Rattle.scm_sessions.specs.inner.Jobs.{entered_names, entered_passes}
use Rattle.scm_sessions.proofs.group_ends.gathered.Given as goal

-- the names and passes of the groups so far are gathered
abbrev pub invariant-loop-group : goal.invariant-loop-group
invariant-loop-group g l = record {
  names : l.names.items ≡ entered_names l.yielded;
  passes : l.passes.items ≡ entered_passes l.yielded;
  name_room : vec_capacity l.names ≡ vec_capacity l.fn.names;
  pass_room : vec_capacity l.passes ≡ vec_capacity l.fn.passes;
}
