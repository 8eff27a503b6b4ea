use Rattle.std.proofs.Common.{◌≡◌, ◌<◌, ◌^◌, IfSome, arith, length, sum, Ok, refl, sym, subst}
use Rattle.scm_sequences.specs.Sequences.{lengths_of}
use Rattle.scm_book.specs.Machine.{reply_data, TraceState}
use Rattle.scm_book.specs.inner.Plans.{IsExplained}
use Rattle.scm_book.specs.inner.Sets.{KeptTrace, asked_lengths, most_steps}
use Rattle.scm_book.proofs.AskedLengths.{asked, can_ask, IsWithin-asked}
use Rattle.scm_book.proofs.KnownSchedulesLaws.{sum-kept}
use Rattle.scm_book.proofs.Planning.{explained_known}
use Rattle.scm_book.proofs.open_trace.OpenTrace.known_reply.Goals as goal

pub known-requires : goal.known-requires
known-requires c =
    let state : TraceState = record { owner = c.self.inside.owner; budget = c.self.inside.budget; cells = c.self.inside.cells; sequences = c.self.inside.sequences; claimants = c.self.inside.claimants.items; marks = c.self.inside.marks } in
    let is : asked_lengths state c.args.mark ≡ Ok c.in_ok-lengths.lengths.now = asked state c.args.mark c.lengths-present.result (Ok c.in_ok-lengths.lengths.now) c.lengths-present.ensures c.in_ok-lengths.ensures in
    let room : most_steps state < 2 ^ 64 = subst (λ (k : KeptTrace). most_steps k.state < 2 ^ 64) (sym c.self.view_is) (subst (λ n. n < 2 ^ 64) c.most_steps-most.ensures c.most_steps-most.type_inv) in
    can_ask state c.args.mark c.limit.result 0 c.in_ok-lengths.lengths.now c.self.inside.reach c.limit.ensures.limit is c.self.invariant.0 c.self.invariant.1 (omega (arith, room))

pub returns-clause-known : goal.returns-clause-known
returns-clause-known c =
    let state : TraceState = record { owner = c.self.inside.owner; budget = c.self.inside.budget; cells = c.self.inside.cells; sequences = c.self.inside.sequences; claimants = c.self.inside.claimants.items; marks = c.self.inside.marks } in
    let is : asked_lengths state c.args.mark ≡ Ok c.in_ok-lengths.lengths.now = asked state c.args.mark c.lengths-present.result (Ok c.in_ok-lengths.lengths.now) c.lengths-present.ensures c.in_ok-lengths.ensures in
    subst (λ (k : KeptTrace). IfSome c.in_ok-known.known (λ reply. IsExplained k.state c.args.mark (reply_data reply))) c.self.view_is
    (explained_known state c.args.mark c.limit.result c.in_ok-lengths.lengths.now c.in_ok-known.known c.limit.ensures.limit is c.in_ok-known.ensures.schedule c.in_ok-known.ensures.fits)

pub invariant_of-self : goal.invariant_of-self
invariant_of-self c =
    let state : TraceState = record { owner = c.self.inside.owner; budget = c.self.inside.budget; cells = c.self.inside.cells; sequences = c.self.inside.sequences; claimants = c.self.inside.claimants.items; marks = c.self.inside.marks } in
    let is : asked_lengths state c.args.mark ≡ Ok c.in_ok-lengths.lengths.now = asked state c.args.mark c.lengths-present.result (Ok c.in_ok-lengths.lengths.now) c.lengths-present.ensures c.in_ok-lengths.ensures in (
      c.self.invariant.0,
      c.self.invariant.1,
      sum-kept (length c.self.inside.schedules.schedule.items) (length c.learn_known.new.self.schedule.items) (sum (lengths_of c.self.inside.sequences)) c.in_ok-lengths.lengths.now (lengths_of c.self.inside.sequences) c.self.invariant.2 c.learn_known.ensures
          (IsWithin-asked state c.args.mark c.in_ok-lengths.lengths.now c.self.invariant.0 is) refl,
    )
