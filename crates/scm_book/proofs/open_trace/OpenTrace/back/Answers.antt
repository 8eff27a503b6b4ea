use Rattle.scm_book.proofs.Sounding.{mark_in, IsWithin-mark, IsSoundTrace-back}
use Rattle.std.proofs.Common.{length}
use Rattle.scm_book.proofs.Keeping.{kept_of, IsKeptFor-cut}
use Rattle.scm_book.proofs.KnownSchedulesLaws.{sum-cut}
use Rattle.scm_book.proofs.open_trace.OpenTrace.back.Goals as goal

pub cut-requires : goal.cut-requires
cut-requires c = record { within = IsWithin-mark _ c.args.mark c.in_ok-lengths.lengths.now c.self.invariant.0 c.in_ok-lengths.ensures; kept = kept_of _ c.self.inside.reach c.self.invariant.1 }

pub cut-requires-2 : goal.cut-requires-2
cut-requires-2 c = IsWithin-mark _ c.args.mark c.in_ok-lengths.lengths.now c.self.invariant.0 c.in_ok-lengths.ensures

pub back-requires : goal.back-requires
back-requires c = mark_in c.self.inside.marks c.args.mark c.in_ok-lengths.lengths.now c.in_ok-lengths.ensures

pub invariant_of-self : goal.invariant_of-self
invariant_of-self c = (
  IsSoundTrace-back _ c.args.mark c.in_ok-lengths.lengths.now c.cut-2.new.self c.back.new.self c.self.invariant.0 c.in_ok-lengths.ensures c.cut-2.ensures c.back.ensures,
  IsKeptFor-cut _ c.self.inside.reach c.cut.new.self c.in_ok-lengths.lengths.now c.cut-2.new.self c.back.new.self c.self.invariant.1 c.cut.ensures.cut c.cut.ensures.kept c.cut.ensures.initials c.cut-2.ensures,
  sum-cut c.self.inside.sequences c.in_ok-lengths.lengths.now (length c.cut-3.new.self.schedule.items) c.cut-2.new.self (IsWithin-mark _ c.args.mark c.in_ok-lengths.lengths.now c.self.invariant.0 c.in_ok-lengths.ensures) c.cut-3.ensures c.cut-2.ensures,
)
