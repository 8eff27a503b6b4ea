use Rattle.std.proofs.Common.{◌<◌, length, map-id, sym, ap, ◌∙◌, subst, rules}
use Rattle.std.specs.Prelude.{All, IsTrue, ◌↔◌, ◌==◌}
use Rattle.std.proofs.lemmas.Iterator.Consumers.{YieldsList-end}
use Rattle.std.proofs.lemmas.Iterator.Adapters.{YieldsList-from_vec}
use Rattle.std.proofs.lemmas.List.{length-map}
use Rattle.atomic_table.specs.Table.{Me}
use Rattle.scm_book.specs.declared.entry.Entry.{Entry}
use Rattle.scm_book.specs.Machine.{entry_data}
use Rattle.scm_shared.specs.Passes.{Known}
use Rattle.scm_shared.specs.inner.Rule.{SeatView, FitsHistory, AllFitHistory, AllGiven, AreDifferent}
use Rattle.scm_shared.specs.inner.Audits.{Agree}
use Rattle.scm_shared.proofs.Auditing.{all_fit, all_given, agrees, is_given}
use Rattle.scm_shared.proofs.locked.Locked.audit.Goals as goal

pub returns-clause-fits : goal.returns-clause-fits
returns-clause-fits g c =
    let end = YieldsList-end (YieldsList-from_vec {s = c.into_iter-pass-iterator.result} c.args.passes.items (search rules) (search rules))
    c.loop-pass.yielded c.loop-pass.pass-iterator c.loop-pass.yielded_by c.next.result c.next.new.self c.in-None.is c.next.ensures.steps in
    let fit = subst (λ (me : Me Entry SeatView). AllFitHistory me.0.log me.0.passes) c.loop-pass.invariant.1 c.learn.ensures.fit in
    let all : All (λ (pass : Known). FitsHistory c.self.inside.book.journal pass) c.args.passes.items = rw (← end.0, map-id) (all_fit c.self.inside.book.journal c.loop-pass.yielded fit) in
    all

pub returns-clause-numbers : goal.returns-clause-numbers
returns-clause-numbers g c =
    let end = YieldsList-end (YieldsList-from_vec {s = c.into_iter-pass-iterator.result} c.args.passes.items (search rules) (search rules))
    c.loop-pass.yielded c.loop-pass.pass-iterator c.loop-pass.yielded_by c.next.result c.next.new.self c.in-None.is c.next.ensures.steps in
    let given = subst (λ (me : Me Entry SeatView). AllGiven me.0.entered me.0.passes) c.loop-pass.invariant.1 c.learn.ensures.given in
    let all : All (λ (pass : Known). pass.number < c.self.inside.entered) c.args.passes.items = rw (← end.0, map-id) (all_given c.self.inside.entered c.loop-pass.yielded given) in
    all

pub returns-clause-agreed : goal.returns-clause-agreed
returns-clause-agreed g c =
    let end = YieldsList-end (YieldsList-from_vec {s = c.into_iter-pass-iterator.result} c.args.passes.items (search rules) (search rules))
    c.loop-pass.yielded c.loop-pass.pass-iterator c.loop-pass.yielded_by c.next.result c.next.new.self c.in-None.is c.next.ensures.steps in
    let fit = subst (λ (me : Me Entry SeatView). AllFitHistory me.0.log me.0.passes) c.loop-pass.invariant.1 c.learn.ensures.fit in
    let different = subst (λ (me : Me Entry SeatView). AreDifferent me.0.passes) c.loop-pass.invariant.1 c.learn.ensures.different in
    let entries = sym (length-map c.entries.result.now entry_data) ∙ ap length c.entries.ensures.entries in
    let all : IsTrue (c.loop-pass.calls == length c.entries.result.now) ↔ Agree c.args.passes.items c.self.inside.book.journal =
    rw (← end.0, map-id) (agrees c.loop-pass.yielded c.self.inside.book.journal c.loop-pass.calls (length c.entries.result.now)
    fit different (c.loop-pass.invariant.4 ∙ c.loop-pass.invariant.3) entries) in
    all

pub returns-clause-given : goal.returns-clause-given
returns-clause-given g c = is_given c.args.passes.items c.self.inside.book.journal (c.loop-pass.calls == length c.entries.result.now) (returns-clause-agreed g c) (returns-clause-fits g c)
