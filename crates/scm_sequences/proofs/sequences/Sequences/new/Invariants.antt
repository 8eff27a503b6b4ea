use Rattle.std.proofs.Common.{◌≡◌, List, [], map, replicate}
use Rattle.scm_sequences.specs.declared.op.Op.{Op}
use Rattle.scm_sequences.proofs.sequences.Sequences.new.Given as goal

abbrev pub invariant-loop : goal.invariant-loop
invariant-loop l = map (λ list. list.items) l.lists.items ≡ replicate {A = List Op} l.counter []
