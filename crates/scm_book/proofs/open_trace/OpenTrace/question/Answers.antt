use Rattle.std.proofs.Common.{◌≡◌, ◌+◌, ◌<◌, ◌^◌, length, sum, None, Ok, refl, sym, subst, rules}
use Rattle.scm_sequences.specs.Sequences.{lengths_of}
use Rattle.scm_book.specs.inner.Asking.{AsksFor}
use Rattle.scm_book.specs.Machine.{reply_data, TraceState, question_cause}
use Rattle.scm_book.specs.inner.Sets.{KeptTrace, asked_lengths, most_steps}
use Rattle.scm_book.proofs.AskedLengths.{asked, cause_none, can_ask, asks_for, IsWithin-asked}
use Rattle.scm_book.proofs.KnownSchedulesLaws.{sum-kept}
use Rattle.scm_book.proofs.open_trace.OpenTrace.question.Goals as goal

pub answer-requires : goal.answer-requires
answer-requires c =
    let state : TraceState = record { owner = c.self.inside.owner; budget = c.self.inside.budget; cells = c.self.inside.cells; sequences = c.self.inside.sequences; claimants = c.self.inside.claimants.items; marks = c.self.inside.marks } in
    let is : asked_lengths state c.args.mark ≡ Ok c.in_ok-lengths.lengths.now = asked state c.args.mark c.lengths-present.result (Ok c.in_ok-lengths.lengths.now) c.lengths-present.ensures c.in_ok-lengths.ensures in
    let room : c.args.steps.now + most_steps state < 2 ^ 64 = subst (λ (k : KeptTrace). c.args.steps.now + most_steps k.state < 2 ^ 64) (sym c.self.view_is) c.requires.room in
    can_ask state c.args.mark c.limit.result c.args.steps.now c.in_ok-lengths.lengths.now c.self.inside.reach c.limit.ensures.limit is c.self.invariant.0 c.self.invariant.1 room

pub returns-clause-ok : goal.returns-clause-ok
returns-clause-ok c =
    let state : TraceState = record { owner = c.self.inside.owner; budget = c.self.inside.budget; cells = c.self.inside.cells; sequences = c.self.inside.sequences; claimants = c.self.inside.claimants.items; marks = c.self.inside.marks } in
    let is : asked_lengths state c.args.mark ≡ Ok c.in_ok-lengths.lengths.now = asked state c.args.mark c.lengths-present.result (Ok c.in_ok-lengths.lengths.now) c.lengths-present.ensures c.in_ok-lengths.ensures in
    subst (λ (k : KeptTrace). (question_cause k.state c.args.mark ≡ None) × AsksFor c.args.explains k.state c.args.mark (reply_data c.in_ok-reply.reply)) c.self.view_is (
      cause_none state c.args.mark c.in_ok-lengths.lengths.now is,
      asks_for state c.args.mark c.limit.result c.args.steps.now c.in_ok-lengths.lengths.now c.self.inside.reach c.limit.ensures.limit is c.args.explains (reply_data c.in_ok-reply.reply) c.in_ok-reply.ensures.fits c.in_ok-reply.ensures.wanted,
    )

pub invariant_of-self-2 : goal.invariant_of-self-2
invariant_of-self-2 c =
    let state : TraceState = record { owner = c.self.inside.owner; budget = c.self.inside.budget; cells = c.self.inside.cells; sequences = c.self.inside.sequences; claimants = c.self.inside.claimants.items; marks = c.self.inside.marks } in
    let is : asked_lengths state c.args.mark ≡ Ok c.in_ok-lengths.lengths.now = asked state c.args.mark c.lengths-present.result (Ok c.in_ok-lengths.lengths.now) c.lengths-present.ensures c.in_ok-lengths.ensures in (
      c.self.invariant.0,
      search rules,
      sum-kept (length c.self.inside.schedules.schedule.items) (length c.learn.new.self.schedule.items) (sum (lengths_of c.self.inside.sequences)) c.in_ok-lengths.lengths.now (lengths_of c.self.inside.sequences) c.self.invariant.2 c.learn.ensures
          (IsWithin-asked state c.args.mark c.in_ok-lengths.lengths.now c.self.invariant.0 is) refl,
    )
