-- A known reply is a step of the machine, and leaves all as it is.
use Rattle.std.proofs.Common.{◌≡◌, ◌⊎◌, ℕ, Bool, true, false, List, Option, None, Some, IfSome, IsSomeAnd, Result, Ok, Err, IfOk, MatchResult, inl, inr, refl, reverse, sym, subst}
use Rattle.std.specs.Map.{lookup}
use Rattle.std.specs.Result.{result_ok}
use Rattle.std.proofs.lemmas.Map.Steps.{set_value_same}
use Rattle.scm_sequences.specs.declared.op.Op.{Op}
use Rattle.scm_sequences.specs.declared.refusal.Refusal.{Refusal}
use Rattle.scm_sequences.specs.Traces.{IsSchedule, cut_to, trace_of}
use Rattle.scm_cells.specs.CellLists.{Declared, initials_of, name_eq}
use Rattle.scm_reach.specs.Kept.{Member}
use Rattle.scm_reach.specs.Work.{HasWhole}
use Rattle.scm_reach.specs.laws.WorkLaws.{KeepsWork-idle}
use Rattle.scm_book.specs.declared.plan.Outlook.{Outlook}
use Rattle.scm_book.specs.declared.plan.Outlook.TheVariants.{Known}
use Rattle.scm_book.specs.declared.reply.Reply.{Reply}
use Rattle.scm_book.specs.inner.Asking.{IsAsWanted}
use Rattle.scm_book.specs.Machine.{CallData, opens, claims, releases, reports, sets_mark, goes_back, raises, asks, asks_why, asks_cycle, shows, lists, closes, ReplyData, done, marked, consistent, inconsistent, undecided, because, cycle, unknown, ops, listed, refused, reply_data, Machine, TraceState, trace_named, trace_in, question_cause, Asks, AsksWhy, InTrace, IsStepOrNoMemory, Fits}
use Rattle.scm_book.specs.inner.Plans.{HasSchedule, IsExplained, IsKnown, IsKnownReply, known_reply}
use Rattle.scm_book.specs.inner.Sets.{KeptTrace, machine_in, sets_in, set_named, asked_lengths, IsKnownBy, Searches, SearchesSet, LeavesSets}
use Rattle.scm_book.proofs.Answering.{there_done}
use Rattle.scm_book.proofs.AskedLengths.{about_asked, cause_none}
use Rattle.scm_book.proofs.Entries.{trace_named-lookup, set_named-lookup}
use Rattle.scm_book.proofs.Leaving.{searches_none, searches_set}

-- a copy of a schedule is one, of the trace whose cells hold this at first
pub schedule_copied : (initials : List (Option ℕ)) (cells : List Declared) (sequences : List (List Op)) (lengths known copy : List ℕ) → initials ≡ initials_of cells → copy ≡ known → IsSchedule (cut_to (trace_of initials sequences) lengths) (reverse known)
    → IsSchedule (cut_to (trace_of (initials_of cells) sequences) lengths) (reverse copy)
schedule_copied initials cells sequences lengths known copy held same schedule =
    subst (λ i. IsSchedule (cut_to (trace_of i sequences) lengths) (reverse copy)) held (subst (λ places. IsSchedule (cut_to (trace_of initials sequences) lengths) (reverse places)) (sym same) schedule)

-- ---- of a trace

-- a schedule of the trace cut to the lengths that a question is about explains what it is about
explained : (state : TraceState) (mark : Option ℕ) (limit : ℕ) (lengths : List ℕ) (reply : ReplyData) → limit ≡ state.budget → asked_lengths state mark ≡ Ok lengths → HasSchedule reply → Fits state.cells (cut_to (trace_in state) lengths) limit reply
    → IsExplained state mark reply
explained state mark limit lengths reply budget is schedule fits = record {
  there = cause_none state mark lengths is;
  schedule = schedule;
  fits = about_asked state mark (λ t. Fits state.cells t state.budget reply) lengths is (subst (λ n. Fits state.cells (cut_to (trace_in state) lengths) n reply) budget fits);
}

-- the same of one that may be there
pub explained_known : (state : TraceState) (mark : Option ℕ) (limit : ℕ) (lengths : List ℕ) (known : Option Reply) → limit ≡ state.budget → asked_lengths state mark ≡ Ok lengths → IfSome known (λ reply. HasSchedule (reply_data reply))
    → IfSome known (λ reply. Fits state.cells (cut_to (trace_in state) lengths) limit (reply_data reply)) → IfSome known (λ reply. IsExplained state mark (reply_data reply))
explained_known state mark limit lengths None budget is schedule fits = schedule
explained_known state mark limit lengths (Some reply) budget is schedule fits = explained state mark limit lengths (reply_data reply) budget is schedule fits

-- it is what `ask` answers, and `why`
explained_asks : (state : TraceState) (mark : Option ℕ) (reply : ReplyData) → IsExplained state mark reply → Asks state mark reply
explained_asks state mark reply e = (e.fits, λ situations is. subst HasSchedule is e.schedule)

explained_asks_why : (state : TraceState) (mark : Option ℕ) (reply : ReplyData) → IsExplained state mark reply → AsksWhy state mark reply
explained_asks_why state mark reply e = (e.fits, λ is. subst HasSchedule is e.schedule)

-- what holds of each schedule holds of a reply that has one
pub with_schedule : (P : ReplyData → Type 0) → ((schedule : List ℕ) (fixed : List (List ℕ × ℕ)) → P (consistent schedule fixed)) → (reply : ReplyData) → HasSchedule reply → P reply
with_schedule P each (consistent schedule fixed) has = each schedule fixed
with_schedule P each inconsistent has = absurd has
with_schedule P each (because situations) has = absurd has
with_schedule P each undecided has = absurd has
with_schedule P each done has = absurd has
with_schedule P each (marked mark) has = absurd has
with_schedule P each (cycle lines hints) has = absurd has
with_schedule P each unknown has = absurd has
with_schedule P each (ops shown) has = absurd has
with_schedule P each (listed names) has = absurd has
with_schedule P each (refused refusal) has = absurd has

-- where a situation with every operation is held, or nothing was done
schedule_known : (reply : ReplyData) (sequences : List (List Op)) (lengths : List ℕ) (old new : List Member) (before after : ℕ) → HasSchedule reply → HasWhole lengths new ⊎ ((new ≡ old) × (after ≡ before)) → IsKnownBy reply sequences lengths old before new after
schedule_known reply sequences lengths old new before after has held =
    with_schedule (λ r. IsKnownBy r sequences lengths old before new after) (λ schedule fixed. held) reply has

pub schedule_idle : (reply : ReplyData) (sequences : List (List Op)) (lengths : List ℕ) (members : List Member) (made : ℕ) → HasSchedule reply → IsKnownBy reply sequences lengths members made members made
schedule_idle reply sequences lengths members made has = schedule_known reply sequences lengths members members made made has (inr (refl, refl))

pub schedule_held : {E : Type 0} (r : Result Reply E) (sequences : List (List Op)) (lengths : List ℕ) (new : List Member) → IfOk r (λ reply. HasSchedule (reply_data reply)) → HasWhole lengths new
    → IfOk r (λ reply. (old : List Member) (before after : ℕ) → IsKnownBy (reply_data reply) sequences lengths old before new after)
schedule_held (Ok reply) sequences lengths new has whole = λ old before after. schedule_known (reply_data reply) sequences lengths old new before after has (inl whole)
schedule_held (Err error) sequences lengths new has whole = tt

-- it is as wanted, whatever that is
pub schedule_wanted : (explains : Bool) (reply : ReplyData) → HasSchedule reply → IsAsWanted explains reply
schedule_wanted true reply has = λ is. subst HasSchedule is has
schedule_wanted false reply has = λ situations is. subst HasSchedule is has

-- what holds of a value holds of it where it is not an error
pub ok_some : {E : Type 0} (P Q : Reply → Type 0) (r : Result Reply E) (o : Option Reply) → o ≡ result_ok r → ((reply : Reply) → P reply → Q reply) → IfOk r P → IfSome o Q
ok_some P Q (Ok reply) o is each held = subst (λ x. IfSome x Q) (sym is) (each reply held)
ok_some P Q (Err error) o is each held = subst (λ x. IfSome x Q) (sym is) tt

-- ---- of the machine

module _ (machine : Machine) (name : List ℕ) (mark : Option ℕ) (reply : ReplyData) where
  known_schedule : InTrace machine name (λ state. IsExplained state mark reply) → HasSchedule reply
  known_schedule known = by (trace_named machine name) known where
    by : (o : Option TraceState) → IsSomeAnd o (λ state. IsExplained state mark reply) → HasSchedule reply
    by None known = absurd known
    by (Some state) known = known.schedule

  known_ask : (session : ℕ) → InTrace machine name (λ state. IsExplained state mark reply) → IsStepOrNoMemory machine session (asks name mark) reply machine
  known_ask session known = by (trace_named machine name) refl known where
    by : (o : Option TraceState) → trace_named machine name ≡ o → IsSomeAnd o (λ state. IsExplained state mark reply) → IsStepOrNoMemory machine session (asks name mark) reply machine
    by None is known = absurd known
    by (Some state) is known =
        there_done machine machine name (λ s. question_cause s mark) state is reply (λ s. Asks s mark reply × (machine ≡ machine)) known.there (explained_asks state mark reply known, refl)

  known_why : (session : ℕ) → InTrace machine name (λ state. IsExplained state mark reply) → IsStepOrNoMemory machine session (asks_why name mark) reply machine
  known_why session known = by (trace_named machine name) refl known where
    by : (o : Option TraceState) → trace_named machine name ≡ o → IsSomeAnd o (λ state. IsExplained state mark reply) → IsStepOrNoMemory machine session (asks_why name mark) reply machine
    by None is known = absurd known
    by (Some state) is known =
        there_done machine machine name (λ s. question_cause s mark) state is reply (λ s. AsksWhy s mark reply × (machine ≡ machine)) known.there (explained_asks_why state mark reply known, refl)

-- the reply that is carried is known
pub carried : (machine : Machine) (call : CallData) (outlook : Outlook) (reply : Reply) → outlook ≡ Known reply → IsKnown machine call (known_reply outlook) → IsKnownReply machine call (reply_data reply)
carried machine call outlook reply is k = subst (λ o. IsKnown machine call (known_reply o)) is k

-- a call with a known reply is a step that leaves the machine as it is
pub known_step : (machine : Machine) (session : ℕ) (call : CallData) (reply : ReplyData) → IsKnownReply machine call reply → IsStepOrNoMemory machine session call reply machine
known_step machine session (asks name mark) reply known = known_ask machine name mark reply session known
known_step machine session (asks_why name mark) reply known = known_why machine name mark reply session known
known_step machine session (opens name procs budget decls) reply known = absurd known
known_step machine session (claims name p) reply known = absurd known
known_step machine session (releases name p) reply known = absurd known
known_step machine session (reports name p access) reply known = absurd known
known_step machine session (sets_mark name) reply known = absurd known
known_step machine session (goes_back name m) reply known = absurd known
known_step machine session (raises name n) reply known = absurd known
known_step machine session (asks_cycle name mark) reply known = absurd known
known_step machine session (shows name p) reply known = absurd known
known_step machine session lists reply known = absurd known
known_step machine session (closes name) reply known = absurd known

-- ---- of the sets

searches_known : (traces : List (List ℕ × KeptTrace)) (name : List ℕ) (mark : Option ℕ) (reply : ReplyData) (made : ℕ) → HasSchedule reply → SearchesSet (machine_in traces) (sets_in traces) name mark reply made made (sets_in traces)
searches_known traces name mark reply made has = by (lookup (name_eq name) traces) refl where
  by : (o : Option KeptTrace) → o ≡ lookup (name_eq name) traces → SearchesSet (machine_in traces) (sets_in traces) name mark reply made made (sets_in traces)
  by None is = searches_none (machine_in traces) (sets_in traces) (sets_in traces) name mark reply made made (trace_named-lookup traces traces refl name None is) refl refl
  by (Some k) is =
      let found : set_named (sets_in traces) name ≡ Some k.set = set_named-lookup traces traces refl name (Some k) is in
      searches_set (machine_in traces) (sets_in traces) (sets_in traces) name mark reply made made k.state k.set k.set (trace_named-lookup traces traces refl name (Some k) is) found (at (asked_lengths k.state mark))
      (sym (set_value_same (name_eq name) (sets_in traces) k.set found))
    where
      at : (r : Result (List ℕ) Refusal) → MatchResult r (λ lengths. Searches k.state reply made made lengths k.set k.set) (λ refusal. (k.set ≡ k.set) × (made ≡ made))
      at (Ok lengths) = record { initials = refl; work = KeepsWork-idle _ k.state.budget k.set.members made; known = schedule_idle reply k.state.sequences lengths k.set.members made has }
      at (Err refusal) = (refl, refl)

-- and the sets
pub known_leaves : (traces : List (List ℕ × KeptTrace)) (call : CallData) (reply : ReplyData) (made : ℕ) → IsKnownReply (machine_in traces) call reply → LeavesSets (machine_in traces) (sets_in traces) call reply made made (sets_in traces)
known_leaves traces (asks name mark) reply made known = searches_known traces name mark reply made (known_schedule (machine_in traces) name mark reply known)
known_leaves traces (asks_why name mark) reply made known = searches_known traces name mark reply made (known_schedule (machine_in traces) name mark reply known)
known_leaves traces (opens name procs budget decls) reply made known = absurd known
known_leaves traces (claims name p) reply made known = absurd known
known_leaves traces (releases name p) reply made known = absurd known
known_leaves traces (reports name p access) reply made known = absurd known
known_leaves traces (sets_mark name) reply made known = absurd known
known_leaves traces (goes_back name m) reply made known = absurd known
known_leaves traces (raises name n) reply made known = absurd known
known_leaves traces (asks_cycle name mark) reply made known = absurd known
known_leaves traces (shows name p) reply made known = absurd known
known_leaves traces lists reply made known = absurd known
known_leaves traces (closes name) reply made known = absurd known

-- ---- of a plan

-- what is known of the trace of this name
pub known_of : (machine : Machine) (name : List ℕ) (mark : Option ℕ) (state : TraceState) (known : Option ReplyData) → trace_named machine name ≡ Some state → IfSome known (λ reply. IsExplained state mark reply)
    → IfSome known (λ reply. InTrace machine name (λ s. IsExplained s mark reply))
known_of machine name mark state None there known = known
known_of machine name mark state (Some reply) there known = subst (λ o. IsSomeAnd o (λ s. IsExplained s mark reply)) (sym there) known
