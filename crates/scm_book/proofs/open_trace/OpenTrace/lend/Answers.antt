use Rattle.std.proofs.Common.{◌≡◌, ◌<◌, ◌^◌, List, Ok, refl, sym, subst}
use Rattle.scm_sequences.specs.declared.op.Op.{Op}
use Rattle.scm_sequences.specs.Traces.{trace_of}
use Rattle.scm_cells.specs.CellLists.{initials_of}
use Rattle.scm_reach.specs.Kept.{Kept}
use Rattle.scm_book.specs.inner.Loans.{CanSearch}
use Rattle.scm_book.specs.Machine.{TraceState}
use Rattle.scm_book.specs.inner.Sets.{KeptTrace, asked_lengths, most_steps}
use Rattle.scm_book.specs.inner.Sound.{IsKeptFor}
use Rattle.scm_book.proofs.LendingLaws.{can_search, IsKeptFor-start}
use Rattle.scm_book.proofs.open_trace.OpenTrace.lend.Goals as goal

pub invariant_of-result : goal.invariant_of-result
invariant_of-result c =
    let state : TraceState = record { owner = c.self.inside.owner; budget = c.self.inside.budget; cells = c.self.inside.cells; sequences = c.self.inside.sequences; claimants = c.self.inside.claimants.items; marks = c.self.inside.marks } in
    let is : asked_lengths state c.args.mark ≡ Ok c.in_ok-lengths.lengths = subst (λ (k : KeptTrace). asked_lengths k.state c.args.mark ≡ Ok c.in_ok-lengths.lengths) (sym c.self.view_is) c.in_ok-lengths.ensures in
    let room : most_steps state < 2 ^ 64 = subst (λ (k : KeptTrace). most_steps k.state < 2 ^ 64) (sym c.self.view_is) (subst (λ n. n < 2 ^ 64) c.most_steps-most.ensures c.most_steps-most.type_inv) in
    subst (λ (sequences : List (List Op)). CanSearch (record { name = c.args.name; sequences = sequences; lengths = c.in_ok-lengths.lengths; limit = c.limit.result; set = c.replace.result })) (sym c.in-Ok.ensures)
    (subst (λ (set : Kept). CanSearch (record { name = c.args.name; sequences = c.self.inside.sequences; lengths = c.in_ok-lengths.lengths; limit = c.limit.result; set = set })) (sym c.replace.ensures.value)
    (can_search state c.args.mark c.args.name c.in_ok-lengths.lengths c.limit.result c.self.inside.reach c.limit.ensures.limit is c.self.invariant.0 c.self.invariant.1 room))

pub invariant_of-self : goal.invariant_of-self
invariant_of-self c =
    let state : TraceState = record { owner = c.self.inside.owner; budget = c.self.inside.budget; cells = c.self.inside.cells; sequences = c.self.inside.sequences; claimants = c.self.inside.claimants.items; marks = c.self.inside.marks } in (
      c.self.invariant.0,
      subst (λ (set : Kept). IsKeptFor state set) (sym c.replace.ensures.after)
          (IsKeptFor-start state c.in-Ok-new.start c.self.invariant.0 c.in-Ok-new.ensures.initials c.in-Ok-new.ensures.one
          (c.in-Ok-new.ensures.kept (trace_of (initials_of c.self.inside.cells) c.self.inside.sequences) refl refl)),
      c.self.invariant.2,
    )
