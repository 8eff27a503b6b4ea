use Rattle.std.proofs.Common.{◌≡◌, refl, subst, rules, arith}
use Rattle.scm_sequences.specs.Traces.{trace_of}
use Rattle.scm_cells.specs.CellLists.{AreCells, initials_of}
use Rattle.scm_book.specs.Machine.{new_trace}
use Rattle.scm_book.specs.inner.Sound.{IsSoundTrace}
use Rattle.scm_book.proofs.Sounding.{IsSoundTrace-new}
use Rattle.scm_book.proofs.open_trace.OpenTrace.empty.Goals as goal

pub invariant_of-result : goal.invariant_of-result
invariant_of-result c =
    let are : AreCells c.args.cells = search rules in
    let same : new_trace c.args.owner c.args.procs c.args.budget c.args.cells ≡ record { owner = c.args.owner; budget = c.args.budget; cells = c.args.cells; sequences = c.in_ok-sequences.sequences; claimants = c.in_ok-claimants.claimants.items; marks = c.new-3.result } = search rules in (
      subst IsSoundTrace same (IsSoundTrace-new c.args.owner c.args.procs c.args.budget c.args.cells are c.requires.some c.requires.procs c.requires.least c.requires.most),
      record {
        initials = c.in_ok-reach.ensures.initials;
        kept = c.in_ok-reach.ensures.kept (trace_of (initials_of c.args.cells) c.in_ok-sequences.sequences) refl refl;
        few = omega (arith, c.in_ok-reach.ensures.one, c.requires.least);
      },
      search rules,
    )
