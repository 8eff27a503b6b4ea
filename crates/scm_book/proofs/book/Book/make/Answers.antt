use Rattle.std.proofs.Common.{ℕ, ◌≡◌, ◌+◌, ◌-◌, Bool, true, false, is_ok, rules, refl, ap, ◌∙◌, ap₂, sym, subst, arith}
use Rattle.scm_sequences.specs.declared.refusal.Refusal.TheVariants.{JournalFull, NoMemory}
use Rattle.scm_results.specs.Totals.{capped}
use Rattle.scm_book.specs.Machine.{CallData, ReplyData, call_data, reply_data, refused, Machine, IsStep, IsStepOrNoMemory}
use Rattle.scm_book.specs.inner.Changes.{tells_of_change}
use Rattle.scm_book.specs.Journal.{BookState, IsCall, IsLegalHistory, entered}
use Rattle.scm_book.specs.inner.Sets.{machine_in, sets_in, LeavesSets}
use Rattle.scm_book.proofs.Changing.{machine-kept}
use Rattle.scm_book.proofs.Calling.{IsLegalHistory-more, IsLegalHistory-same, book_of, unreached-full, unreached-no_memory, call-no_memory, call-no_entry, call-entered, step-from_entry, untold, machine-no_entry}
use Rattle.scm_book.proofs.Leaving.{leaves_idle, leaves_uncopied, leaves_counted}
use Rattle.scm_book.proofs.book.Book.make.Goals as goal

-- ---- refused before the machine was asked

pub returns-then-is_full-clause-sets : goal.returns-then-is_full-clause-sets
returns-then-is_full-clause-sets c =
    subst (λ (b : BookState). LeavesSets b.machine b.sets (call_data c.args.call) (refused JournalFull) c.args.steps.now c.args.steps.now b.sets) c.self.view_is
    (leaves_idle c.self.inside.traces (call_data c.args.call) JournalFull c.args.steps.now)

pub returns-then-is_full-clause-called : goal.returns-then-is_full-clause-called
returns-then-is_full-clause-called c =
    subst (λ (b : BookState). IsCall b c.args.session (call_data c.args.call) (refused JournalFull) b) c.self.view_is
    (unreached-full c.self.inside.traces c.self.inside.journal.entries c.self.inside.results c.self.inside.steps (search rules) c.args.session (call_data c.args.call) (sym c.if-is_full.ensures))

pub returns-then-is_err-clause-sets : goal.returns-then-is_err-clause-sets
returns-then-is_err-clause-sets c =
    subst (λ (b : BookState). LeavesSets b.machine b.sets (call_data c.args.call) (refused NoMemory) c.args.steps.now c.args.steps.now (sets_in c.self.inside.traces)) c.self.view_is
    (leaves_idle c.self.inside.traces (call_data c.args.call) NoMemory c.args.steps.now)

pub returns-then-is_err-clause-called : goal.returns-then-is_err-clause-called
returns-then-is_err-clause-called c =
    subst (λ (b : BookState). IsCall b c.args.session (call_data c.args.call) (refused NoMemory) (book_of c.self.inside.traces c.make_room.new.self.entries c.self.inside.results c.self.inside.steps)) c.self.view_is
    (unreached-no_memory c.self.inside.traces c.self.inside.journal.entries c.self.inside.results c.self.inside.steps (search rules) c.args.session (call_data c.args.call) _ (sym c.if-is_full.ensures) c.make_room.ensures.entries)

-- ---- answered

pub overflow_sub-made : goal.overflow_sub-made
overflow_sub-made c = omega (arith, (leaves_counted _ _ _ (call_data c.args.call) (reply_data c.call-reply.result) _ _ c.call-reply.ensures.sets).0, c.made.ensures, c.made-before.ensures)

pub returns-then-not-makes_entry-clause-sets : goal.returns-then-not-makes_entry-clause-sets
returns-then-not-makes_entry-clause-sets c =
    subst (λ (b : BookState). LeavesSets b.machine b.sets (call_data c.args.call) (reply_data c.call-reply.result) c.args.steps.now c.call-reply.new.steps (sets_in c.call-reply.new.self)) c.self.view_is
    c.call-reply.ensures.sets

pub returns-then-not-makes_entry-clause-called : goal.returns-then-not-makes_entry-clause-called
returns-then-not-makes_entry-clause-called c =
    subst (λ (b : BookState). IsCall b c.args.session (call_data c.args.call) (reply_data c.call-reply.result) (book_of c.call-reply.new.self c.make_room.new.self.entries c.self.inside.results c.saturating_add-self-inside.result)) c.self.view_is
    (call-no_entry (book_of c.self.inside.traces c.self.inside.journal.entries c.self.inside.results c.self.inside.steps) _ c.args.session (call_data c.args.call) _ (c.saturating_add-self-inside.ensures ∙ ap₂ (λ a b. capped (c.self.inside.steps + (a - b))) c.made.ensures c.made-before.ensures) (reply_data c.call-reply.result)
    (sym c.if-is_full.ensures) refl (leaves_counted _ _ _ (call_data c.args.call) (reply_data c.call-reply.result) _ _ c.call-reply.ensures.sets).1
    c.call-reply.ensures.step (sym c.if-not-makes_entry.ensures) c.make_room.ensures.entries)

pub invariant_of-self-then-not-makes_entry : goal.invariant_of-self-then-not-makes_entry
invariant_of-self-then-not-makes_entry c =
    IsLegalHistory-same _ _ _ _ c.make_room.ensures.entries (machine-no_entry _ _ c.args.session (call_data c.args.call) (reply_data c.call-reply.result) c.call-reply.ensures.step (sym c.if-not-makes_entry.ensures)) c.self.invariant

pub returns-then-not-makes_entry-clause-legal : goal.returns-then-not-makes_entry-clause-legal
returns-then-not-makes_entry-clause-legal c =
    IsLegalHistory-same _ _ _ _ c.make_room.ensures.entries (machine-no_entry _ _ c.args.session (call_data c.args.call) (reply_data c.call-reply.result) c.call-reply.ensures.step (sym c.if-not-makes_entry.ensures)) c.self.invariant

pub returns-then-not-makes_entry-clause-machine : goal.returns-then-not-makes_entry-clause-machine
returns-then-not-makes_entry-clause-machine c = λ _.
    machine-no_entry _ _ c.args.session (call_data c.args.call) (reply_data c.call-reply.result) c.call-reply.ensures.step (sym c.if-not-makes_entry.ensures) ∙ ap (λ (b : BookState). b.machine) c.self.view_is

-- ---- no memory for the reply

-- the machine is as it was
kept : (old new : Machine) (session : ℕ) (call : CallData) (reply : ReplyData) (copied : Bool) → IsStepOrNoMemory old session call reply new
    → (tells_of_change reply ≡ true → copied ≡ true) → copied ≡ false → new ≡ old
kept old new session call reply copied step light failed = machine-kept old new session call reply step (untold reply copied light failed)

pub invariant_of-self-in_default : goal.invariant_of-self-in_default
invariant_of-self-in_default c =
    IsLegalHistory-same _ _ _ _ c.make_room.ensures.entries
    (kept _ _ c.args.session (call_data c.args.call) (reply_data c.call-reply.result) (is_ok c.copy.result) c.call-reply.ensures.step c.copy.ensures.light (ap is_ok c.in_default.is)) c.self.invariant

pub returns-in_default-clause-sets : goal.returns-in_default-clause-sets
returns-in_default-clause-sets c =
    subst (λ (b : BookState). LeavesSets b.machine b.sets (call_data c.args.call) (refused NoMemory) c.args.steps.now c.call-reply.new.steps (sets_in c.call-reply.new.self)) c.self.view_is
    (leaves_uncopied _ _ _ (call_data c.args.call) (reply_data c.call-reply.result) _ _ (untold (reply_data c.call-reply.result) (is_ok c.copy.result) c.copy.ensures.light (ap is_ok c.in_default.is)) c.call-reply.ensures.sets)

pub returns-in_default-clause-called : goal.returns-in_default-clause-called
returns-in_default-clause-called c =
    let still = untold (reply_data c.call-reply.result) (is_ok c.copy.result) c.copy.ensures.light (ap is_ok c.in_default.is) in
    subst (λ (b : BookState). IsCall b c.args.session (call_data c.args.call) (refused NoMemory) (book_of c.call-reply.new.self c.make_room.new.self.entries c.self.inside.results c.saturating_add-self-inside.result)) c.self.view_is
    (call-no_memory (book_of c.self.inside.traces c.self.inside.journal.entries c.self.inside.results c.self.inside.steps) _ c.args.session (call_data c.args.call) _ (c.saturating_add-self-inside.ensures ∙ ap₂ (λ a b. capped (c.self.inside.steps + (a - b))) c.made.ensures c.made-before.ensures)
    (sym c.if-is_full.ensures)
    (record { journal = c.make_room.ensures.entries; machine = machine-kept _ _ c.args.session (call_data c.args.call) (reply_data c.call-reply.result) c.call-reply.ensures.step still }) refl
    (leaves_counted _ _ _ (call_data c.args.call) (refused NoMemory) _ _ (leaves_uncopied _ _ _ (call_data c.args.call) (reply_data c.call-reply.result) _ _ still c.call-reply.ensures.sets)).1)

pub returns-in_default-clause-legal : goal.returns-in_default-clause-legal
returns-in_default-clause-legal c =
    IsLegalHistory-same _ _ _ _ c.make_room.ensures.entries
    (kept _ _ c.args.session (call_data c.args.call) (reply_data c.call-reply.result) (is_ok c.copy.result) c.call-reply.ensures.step c.copy.ensures.light (ap is_ok c.in_default.is)) c.self.invariant

pub returns-in_default-clause-machine : goal.returns-in_default-clause-machine
returns-in_default-clause-machine c = λ _.
    kept _ _ c.args.session (call_data c.args.call) (reply_data c.call-reply.result) (is_ok c.copy.result) c.call-reply.ensures.step c.copy.ensures.light (ap is_ok c.in_default.is)
    ∙ ap (λ (b : BookState). b.machine) c.self.view_is

-- ---- entered

entered_as : (c : goal.After-enter) → c.enter.new.self.entries ≡ entered c.self.inside.journal.entries c.args.session (call_data c.args.call) (reply_data c.call-reply.result)
entered_as c = c.enter.ensures ∙ (λ i. entered (c.make_room.ensures.entries i) c.args.session (call_data c.args.call) (c.in-Ok.ensures.copy i))

reached : (c : goal.After-enter) → IsStepOrNoMemory (machine_in c.self.inside.traces) c.args.session (call_data c.args.call) (reply_data c.call-reply.result) (machine_in c.call-reply.new.self)
reached c = c.call-reply.ensures.step

left : (c : goal.After-enter) → LeavesSets (machine_in c.self.inside.traces) (sets_in c.self.inside.traces) (call_data c.args.call) (reply_data c.call-reply.result) c.args.steps.now c.call-reply.new.steps (sets_in c.call-reply.new.self)
left c = c.call-reply.ensures.sets

step : (c : goal.After-enter) → IsStep (machine_in c.self.inside.traces) c.args.session (call_data c.args.call) (reply_data c.call-reply.result) (machine_in c.call-reply.new.self)
step c = step-from_entry (machine_in c.self.inside.traces) (machine_in c.call-reply.new.self) c.args.session (call_data c.args.call) (reply_data c.call-reply.result) (reached c) (sym c.if-not-makes_entry.ensures)

entered_history : (c : goal.After-enter) → IsLegalHistory c.enter.new.self.entries (machine_in c.call-reply.new.self)
entered_history c =
    subst (λ journal. IsLegalHistory journal (machine_in c.call-reply.new.self)) (sym (entered_as c))
    (IsLegalHistory-more c.self.inside.journal.entries (machine_in c.self.inside.traces) (machine_in c.call-reply.new.self) c.args.session (call_data c.args.call) (reply_data c.call-reply.result) (sym c.if-is_full.ensures) c.self.invariant (step c))

pub invariant_of-self-2 : goal.invariant_of-self-2
invariant_of-self-2 c = entered_history c

pub returns-clause-legal : goal.returns-clause-legal
returns-clause-legal c = entered_history c

pub returns-clause-machine : goal.returns-clause-machine
returns-clause-machine c = λ told.
    machine-kept (machine_in c.self.inside.traces) (machine_in c.call-reply.new.self) c.args.session (call_data c.args.call) (reply_data c.call-reply.result) (reached c) told
    ∙ ap (λ (b : BookState). b.machine) c.self.view_is

pub returns-clause-sets : goal.returns-clause-sets
returns-clause-sets c =
    subst (λ (b : BookState). LeavesSets b.machine b.sets (call_data c.args.call) (reply_data c.call-reply.result) c.args.steps.now c.call-reply.new.steps (sets_in c.call-reply.new.self)) c.self.view_is (left c)

pub returns-clause-called : goal.returns-clause-called
returns-clause-called c =
    subst (λ (b : BookState). IsCall b c.args.session (call_data c.args.call) (reply_data c.call-reply.result) (book_of c.call-reply.new.self c.enter.new.self.entries c.self.inside.results c.saturating_add-self-inside.result)) c.self.view_is
    (call-entered (book_of c.self.inside.traces c.self.inside.journal.entries c.self.inside.results c.self.inside.steps) _ c.args.session (call_data c.args.call) _ (c.saturating_add-self-inside.ensures ∙ ap₂ (λ a b. capped (c.self.inside.steps + (a - b))) c.made.ensures c.made-before.ensures) (reply_data c.call-reply.result)
    (sym c.if-is_full.ensures) refl (leaves_counted _ _ _ (call_data c.args.call) (reply_data c.call-reply.result) _ _ (left c)).1 (sym c.if-not-makes_entry.ensures) (step c) (entered_as c))
