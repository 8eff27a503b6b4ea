use Rattle.std.proofs.Common.{◌≡◌}
use Rattle.scm_book.specs.inner.Sets.{machine_in, sets_in}
use Rattle.scm_book.specs.inner.Workers.{Delivers}
use Rattle.scm_book.proofs.traces.Traces.deliver.Given as goal

-- the outcomes so far were delivered
abbrev pub invariant-loop-outcome : goal.invariant-loop-outcome
invariant-loop-outcome l =
    (machine_in l.self ≡ machine_in l.fn.self) × Delivers (machine_in l.fn.self) (sets_in l.fn.self) l.yielded l.delivered (sets_in l.self)
