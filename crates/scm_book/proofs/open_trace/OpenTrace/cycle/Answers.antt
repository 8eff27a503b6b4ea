use Rattle.std.proofs.Common.{◌≡◌, None, Ok, subst}
use Rattle.scm_book.specs.Machine.{reply_data, TraceState, question_cause, AsksCycle}
use Rattle.scm_book.specs.inner.Sets.{KeptTrace, asked_lengths}
use Rattle.scm_book.proofs.AskedLengths.{asked, cause_none, asks_cycle_found}
use Rattle.scm_book.proofs.open_trace.OpenTrace.cycle.Goals as goal

pub returns-clause-ok : goal.returns-clause-ok
returns-clause-ok c =
    let state : TraceState = record { owner = c.self.inside.owner; budget = c.self.inside.budget; cells = c.self.inside.cells; sequences = c.self.inside.sequences; claimants = c.self.inside.claimants.items; marks = c.self.inside.marks } in
    let is : asked_lengths state c.args.mark ≡ Ok c.in_ok-lengths.lengths.now = asked state c.args.mark c.lengths-present.result (Ok c.in_ok-lengths.lengths.now) c.lengths-present.ensures c.in_ok-lengths.ensures in
    subst (λ (k : KeptTrace). (question_cause k.state c.args.mark ≡ None) × AsksCycle k.state c.args.mark (reply_data c.refuted_shortly.result)) c.self.view_is (
      cause_none state c.args.mark c.in_ok-lengths.lengths.now is,
      asks_cycle_found state c.args.mark c.in_ok-lengths.lengths.now (reply_data c.refuted_shortly.result) is c.refuted_shortly.ensures,
    )
