use Rattle.std.proofs.Common.{rules, ◌≡◌, ℕ, List, length, sym, ap, ◌∙◌, subst}
use Rattle.std.proofs.lemmas.List.{length-map}
use Rattle.scm_book.specs.Machine.{EntryData, call_data, reply_data, entry_data}
use Rattle.scm_book.specs.Journal.{entered}
use Rattle.scm_shared.specs.Passes.{Known}
use Rattle.scm_shared.specs.inner.Rule.{FitsHistory, SeatView}
use Rattle.scm_shared.specs.inner.Seats.{known_in}
use Rattle.scm_shared.proofs.Passing.{extended, told_last}
use Rattle.scm_shared.proofs.locked.Locked.call.Goals as goal

pub returns-then-makes_entry-clause-answered : goal.returns-then-makes_entry-clause-answered
returns-then-makes_entry-clause-answered g c = record {
  full = (search rules);
  unchanged = (search rules);
  good = (search rules);
  sessions = (search rules);
  made = λ makes.
      let log : List EntryData = c.self.inside.book.journal in
      let now : List EntryData = c.call_planned-reply.new.self.journal in
      let pass : known_in c.pass.inside.badge.views ≡ c.args.pass.now = ap known_in c.pass.invariant.1 ∙ c.pass.view_is in
      let whole : c.self.inside.seat.me.0.log ≡ log = ap (λ me. me.0.log) c.self.invariant.1 in
      let fit : FitsHistory log c.args.pass.now = subst (λ (x : List EntryData × Known). FitsHistory x.0 x.1) (λ i. (whole i, pass i)) c.commit_last-front.ensures.fits in
      let number : c.pass.inside.number ≡ c.args.pass.now.number = ap (λ (k : Known). k.number) c.pass.view_is in
      let entry = c.call_planned-reply.ensures.called.entry makes ∙ ap (λ (n : ℕ). entered log n (call_data c.args.call) (reply_data c.call_planned-reply.result)) number in
      let told = told_last log c.self.inside.seat.me.0.log _ now c.args.pass.now (known_in c.pass.inside.badge.views) (known_in c.commit_last-front.new.badge.views) _ _ _
      c.entries-entries.ensures.entries (c.call_planned-reply.ensures.called.entry makes) whole pass
      (λ last is. ap (λ (views : List SeatView). known_in views) (c.commit_last-front.ensures.badge.1 last is)) in
      extended c.args.pass.now log now c.call_planned-reply.new.self.machine (call_data c.args.call) (reply_data c.call_planned-reply.result) _ _ _ _
      fit entry c.call_planned-reply.ensures.legal number told.0 told.1 (c.commit_last-front.ensures.count ∙ sym (length-map c.entries-entries.result.now entry_data) ∙ ap length c.entries-entries.ensures.entries);
}
