use Rattle.scm_book.proofs.Sounding.{IsSoundTrace-set}
use Rattle.scm_book.proofs.open_trace.OpenTrace.mark.Goals as goal

pub invariant_of-self : goal.invariant_of-self
invariant_of-self c = (IsSoundTrace-set _ _ c.set.result c.lengths.result c.set.new.self c.self.invariant.0 c.lengths.ensures c.set.ensures.set c.set.ensures.unchanged, record { initials = c.self.invariant.1.initials; kept = c.self.invariant.1.kept; few = c.self.invariant.1.few }, c.self.invariant.2)
