-- The machine: calls and replies as plain data, what it holds, when it refuses a call, which verdicts fit, and what a step does.
-- It holds the open traces in the order of their opening, and nothing else. This project's profile.
use Rattle.std.specs.Prelude.{ℕ, List, Option, Result, Ok, Err, [], ◌∷◌, map, None, Some, if◌then◌else◌, replicate, slice_get, length, is_some, is_none, Bool, true, not, ◌&&◌, ◌||◌, nat_eq, nat_le, nat_lt, slice_index_or, ◌≡◌, ⊤, reverse, ◌≢◌, ◌⊎◌, ◌++◌, slice_set, IsSomeAnd, IsOkAnd}
use Rattle.std.specs.Arc.{arc_value}
use Rattle.scm_sequences.specs.declared.refusal.Refusal.{Refusal}
use Rattle.scm_lowering.specs.declared.access.Access.{Access}
use Rattle.scm_frontier.specs.Situations.{Situated, HasMoreThan}
use Rattle.scm_orders.specs.declared.derivation.Line.{Line}
use Rattle.scm_book.specs.declared.call.Decl.{Decl}
use Rattle.scm_book.specs.declared.call.Call.{Call}
use Rattle.scm_book.specs.declared.call.Call.TheVariants.{OpenTrace, ClaimProcess, ReleaseProcess, Report, SetMark, GoBack, RaiseBudget, Ask, Why, Cycle, ShowOps, ListTraces, CloseTrace}
use Rattle.scm_book.specs.declared.reply.Shown.{Shown}
use Rattle.scm_book.specs.declared.reply.Reply.{Reply}
use Rattle.scm_book.specs.declared.reply.Reply.TheVariants.{Done, MarkSet, Consistent, Inconsistent, Undecided, Because, Cycle as CycleFound, Unknown, Ops, Traces, Refused}
use Rattle.scm_book.specs.declared.entry.Entry.{Entry}
use Rattle.scm_sequences.specs.declared.op.Op.{Op}
use Rattle.scm_sequences.specs.Traces.{Trace, trace_of, IsSchedule, IsConsistent, fixed_values, cut_to}
use Rattle.scm_cells.specs.CellLists.{name_eq, Declared, initials_of, declared_cell}
use Rattle.std.specs.Option.{option_map_or, option_or, option_map, option_and_then, option_eq}
use Rattle.scm_sequences.specs.Sequences.{cell_of, operations, pushed, cut_lists, lengths_of}
use Rattle.std.specs.List.{list_any}
use Rattle.scm_sequences.specs.declared.refusal.Refusal.TheVariants.{NoSuchTrace, NameTaken, TooManyTraces, BadDeclaration, NoSuchProcess, ProcessTaken, NotClaimed, NotOwner, SequenceFull, BadBudget, NoMemory}
use Rattle.scm_sequences.specs.declared.limits.TheConstants.{MOST_PROCESSES, MOST_CELLS, MOST_TRACES, MOST_OPERATIONS}
use Rattle.scm_budget.specs.Budgets.{is_budget, raised}
use Rattle.scm_marks.specs.MarkLists.{mark_at, set_refusal, marks_up_to}
use Rattle.scm_lowering.specs.Lowering.{lowered}
use Rattle.scm_schedules.specs.Refuting.{IsAllOf}
use Rattle.scm_orders.specs.Refuting.{OrdersRefute}

-- ==== calls, replies and entries of the journal as plain data: what a clause compares, with a list for each vector.

pub data CallData : Type 0 where
  -- the trace's name, its number of processes, its budget and its cells
  opens : List ℕ → ℕ → ℕ → List Decl → CallData
  -- the trace's name and a process
  claims : List ℕ → ℕ → CallData
  releases : List ℕ → ℕ → CallData
  -- the trace's name, a process and its access
  reports : List ℕ → ℕ → Access → CallData
  -- the trace's name
  sets_mark : List ℕ → CallData
  -- the trace's name and a mark
  goes_back : List ℕ → ℕ → CallData
  -- the trace's name and a budget
  raises : List ℕ → ℕ → CallData
  -- the trace's name, and the mark that the question is about, if it is about one
  asks : List ℕ → Option ℕ → CallData
  asks_why : List ℕ → Option ℕ → CallData
  asks_cycle : List ℕ → Option ℕ → CallData
  -- the trace's name and a process
  shows : List ℕ → ℕ → CallData
  lists : CallData
  -- the trace's name
  closes : List ℕ → CallData

pub data ReplyData : Type 0 where
  done : ReplyData
  -- the number of a mark
  marked : ℕ → ReplyData
  -- the places of a schedule, oldest first, and the fixed values of cells, each under the name of its cell
  consistent : List ℕ → List (List ℕ × ℕ) → ReplyData
  inconsistent : ReplyData
  undecided : ReplyData
  -- the situations of a refutation
  because : List Situated → ReplyData
  -- the lines of a short refutation, and the hints of all of them
  cycle : List Line → List ℕ → ReplyData
  unknown : ReplyData
  -- operations, each with the name of its cell
  ops : List Shown → ReplyData
  -- the names of traces
  listed : List (List ℕ) → ReplyData
  refused : Refusal → ReplyData

-- a session's call and its reply, with the number of earlier entries of this session
pub record EntryData : Type 0 where
  pub session : ℕ
  pub number : ℕ
  pub call : CallData
  pub reply : ReplyData

abbrev pub call_data : Call → CallData
call_data (OpenTrace name procs budget cells) = opens name procs budget cells.items
call_data (ClaimProcess name process) = claims name process
call_data (ReleaseProcess name process) = releases name process
call_data (Report name process access) = reports name process access
call_data (SetMark name) = sets_mark name
call_data (GoBack name mark) = goes_back name mark
call_data (RaiseBudget name budget) = raises name budget
call_data (Ask name mark) = asks name mark
call_data (Why name mark) = asks_why name mark
call_data (Cycle name mark) = asks_cycle name mark
call_data (ShowOps name process) = shows name process
call_data ListTraces = lists
call_data (CloseTrace name) = closes name

abbrev pub reply_data : Reply → ReplyData
reply_data Done = done
reply_data (MarkSet mark) = marked mark
reply_data (Consistent witness) = consistent (arc_value witness).schedule.items (arc_value witness).fixed.items
reply_data Inconsistent = inconsistent
reply_data Undecided = undecided
reply_data (Because situations) = because (arc_value situations).items
reply_data (CycleFound derivation) = cycle (arc_value derivation).lines.items (arc_value derivation).hints.items
reply_data Unknown = unknown
reply_data (Ops operations) = ops (arc_value operations).items
reply_data (Traces names) = listed (arc_value names).items
reply_data (Refused refusal) = refused refusal

-- what is replied to a call that may be refused
abbrev pub answer_data : Result Reply Refusal → ReplyData
answer_data (Ok reply) = reply_data reply
answer_data (Err refusal) = refused refusal

abbrev pub entry_data : Entry → EntryData
entry_data entry = record {
  session = entry.session;
  number = entry.number;
  call = call_data entry.call;
  reply = reply_data entry.reply;
}

-- ==== the machine: it holds the open traces in the order of their opening, and nothing else.

pub record TraceState : Type 0 where
  -- the session that opened the trace
  pub owner : ℕ
  -- a question may stay undecided only where more situations than this can be reached
  pub budget : ℕ
  pub cells : List Declared
  pub sequences : List (List Op)
  -- for each process the session that claimed it, or nobody
  pub claimants : List (Option ℕ)
  -- the lengths that were marked, in order
  pub marks : List (List ℕ)

pub record Machine : Type 0 where
  -- each trace under its name
  pub traces : List (List ℕ × TraceState)

-- a trace of these cells and so many processes, with no operations, whose processes nobody claimed
abbrev pub new_trace : ℕ → ℕ → ℕ → List Declared → TraceState
new_trace owner procs budget cells = record {
  owner = owner;
  budget = budget;
  cells = cells;
  sequences = replicate procs [];
  claimants = replicate procs None;
  marks = [];
}

-- the machine that holds no trace
abbrev pub empty_machine : Machine
empty_machine = record { traces = [] }

abbrev pub state_named : List (List ℕ × TraceState) → List ℕ → Option TraceState
state_named [] name = None
state_named (entry ∷ others) name = if name_eq name entry.0 then Some entry.1 else state_named others name

-- the trace of this name
abbrev pub trace_named : Machine → List ℕ → Option TraceState
trace_named machine name = state_named machine.traces name

-- under this name there is this trace now: in the place where it was, or else last
abbrev pub with_state : List (List ℕ × TraceState) → List ℕ → TraceState → List (List ℕ × TraceState)
with_state [] name state = (name, state) ∷ []
with_state (entry ∷ others) name state =
    if name_eq name entry.0 then (entry.0, state) ∷ others else entry ∷ with_state others name state

abbrev pub with_trace : Machine → List ℕ → TraceState → Machine
with_trace machine name state = record { traces = with_state machine.traces name state }

-- without the trace of this name; the others keep their order
abbrev pub without_state : List (List ℕ × TraceState) → List ℕ → List (List ℕ × TraceState)
without_state [] name = []
without_state (entry ∷ others) name =
    if name_eq name entry.0 then others else entry ∷ without_state others name

abbrev pub without_trace : Machine → List ℕ → Machine
without_trace machine name = record { traces = without_state machine.traces name }

-- the names of the traces, in the order of their opening
abbrev pub trace_names : Machine → List (List ℕ)
trace_names machine = map (λ entry. entry.0) machine.traces

-- the trace that a question is about
abbrev pub trace_in : TraceState → Trace
trace_in state = trace_of (initials_of state.cells) state.sequences

-- ==== the operations of a process as they are shown.

-- the name of cell c
abbrev pub cell_name : List Declared → ℕ → List ℕ
cell_name cells c = option_map_or (λ cell. cell.name) (slice_get cells c) []

-- an operation with the name of its cell
abbrev pub shown_operation : List Declared → Op → Shown
shown_operation cells op = record { cell = cell_name cells (cell_of op); op = op }

abbrev pub shown_operations : TraceState → ℕ → List Shown
shown_operations state p = map (shown_operation state.cells) (operations state.sequences p)

-- ==== for each call its first cause of refusal, or none, from the machine, the session and the arguments. The causes stand
-- in the order in which they are tried. This project's profile.

-- this refusal where its cause holds
abbrev pub cause : Bool → Refusal → Option Refusal
cause holds refusal = if holds then Some refusal else None

-- ---- open

-- no two declarations are of one name
abbrev pub names_differ : List Decl → Bool
names_differ [] = true
names_differ (decl ∷ others) = not (list_any (λ other. name_eq decl.name other.name) others) && names_differ others

-- the cells that are declared, None where a given number doesn't fit its width
abbrev pub declared_cells : List Decl → Option (List Declared)
declared_cells [] = Some []
declared_cells (decl ∷ others) =
    option_and_then (λ cell. option_map (λ cells. cell ∷ cells) (declared_cells others))
    (declared_cell decl.name decl.width decl.initial)

-- no cells, too many, two of one name, or a number that doesn't fit
abbrev pub are_bad_cells : List Decl → Bool
are_bad_cells decls =
    nat_lt (length decls) 1 || nat_lt MOST_CELLS (length decls) || not (names_differ decls) || is_none (declared_cells decls)

-- or no processes, or too many
abbrev pub is_bad_declaration : ℕ → List Decl → Bool
is_bad_declaration procs decls = nat_lt procs 1 || nat_lt MOST_PROCESSES procs || are_bad_cells decls

-- why there can't be such a trace, if so
abbrev pub trace_cause : ℕ → ℕ → List Decl → Option Refusal
trace_cause procs budget decls =
    option_or (cause (is_bad_declaration procs decls) BadDeclaration)
    (cause (not (is_budget budget)) BadBudget)

-- why there is no place for it under this name, if so
abbrev pub place_cause : Machine → List ℕ → Option Refusal
place_cause machine name =
    option_or (cause (is_some (trace_named machine name)) NameTaken)
    (cause (nat_le MOST_TRACES (length machine.traces)) TooManyTraces)

abbrev pub open_refusal : Machine → List ℕ → ℕ → ℕ → List Decl → Option Refusal
open_refusal machine name procs budget decls = option_or (trace_cause procs budget decls) (place_cause machine name)

-- ---- calls about a trace

-- a cause that looks at the trace, where it is there
abbrev pub in_trace : Machine → List ℕ → (TraceState → Option Refusal) → Option Refusal
in_trace machine name causes = option_map_or causes (trace_named machine name) (Some NoSuchTrace)

abbrev pub no_process : TraceState → ℕ → Option Refusal
no_process state p = cause (nat_le (length state.sequences) p) NoSuchProcess

-- who claimed process p
abbrev pub claimant_of : TraceState → ℕ → Option ℕ
claimant_of state p = slice_index_or state.claimants p None

-- why process p of the trace can't be claimed, if so
abbrev pub claim_cause : TraceState → ℕ → Option Refusal
claim_cause state p =
    option_or (no_process state p)
    (cause (is_some (claimant_of state p)) ProcessTaken)

abbrev pub claim_refusal : Machine → List ℕ → ℕ → Option Refusal
claim_refusal machine name p = in_trace machine name (λ state. claim_cause state p)

-- the process has another claimant than the session, or none
abbrev pub not_claimed : TraceState → ℕ → ℕ → Option Refusal
not_claimed state session p = cause (not (option_eq nat_eq (claimant_of state p) (Some session))) NotClaimed

-- why the session can't release process p of the trace, if so
abbrev pub release_cause : TraceState → ℕ → ℕ → Option Refusal
release_cause state session p = option_or (no_process state p) (not_claimed state session p)

abbrev pub release_refusal : Machine → ℕ → List ℕ → ℕ → Option Refusal
release_refusal machine session name p = in_trace machine name (λ state. release_cause state session p)

-- the refusal that is there in place of a result, if so
abbrev pub refusal_in : {T : Type 0} → Result T Refusal → Option Refusal
refusal_in (Ok result) = None
refusal_in (Err refusal) = Some refusal

-- why the session can't report this access of process p of the trace, if so
abbrev pub report_cause : TraceState → ℕ → ℕ → Access → Option Refusal
report_cause state session p access =
    option_or (no_process state p)
    (option_or (not_claimed state session p)
    (option_or (refusal_in (lowered state.cells access))
    (cause (nat_le MOST_OPERATIONS (length (operations state.sequences p))) SequenceFull)))

abbrev pub report_refusal : Machine → ℕ → List ℕ → ℕ → Access → Option Refusal
report_refusal machine session name p access = in_trace machine name (λ state. report_cause state session p access)

-- the session is not the owner
abbrev pub not_owner : TraceState → ℕ → Option Refusal
not_owner state session = cause (not (nat_eq state.owner session)) NotOwner

-- why the session can't set a mark, if so
abbrev pub mark_cause : TraceState → ℕ → Option Refusal
mark_cause state session = option_or (not_owner state session) (set_refusal state.marks)

abbrev pub mark_refusal : Machine → ℕ → List ℕ → Option Refusal
mark_refusal machine session name = in_trace machine name (λ state. mark_cause state session)

-- why the session can't go back to mark m, if so
abbrev pub back_cause : TraceState → ℕ → ℕ → Option Refusal
back_cause state session m = option_or (not_owner state session) (refusal_in (mark_at state.marks m))

abbrev pub back_refusal : Machine → ℕ → List ℕ → ℕ → Option Refusal
back_refusal machine session name m = in_trace machine name (λ state. back_cause state session m)

-- why the session can't raise the budget to n, if so
abbrev pub raise_cause : TraceState → ℕ → ℕ → Option Refusal
raise_cause state session n = option_or (not_owner state session) (refusal_in (raised state.budget n))

abbrev pub raise_refusal : Machine → ℕ → List ℕ → ℕ → Option Refusal
raise_refusal machine session name n = in_trace machine name (λ state. raise_cause state session n)

-- why there can be no question at this mark, if so; without a mark it is about the present trace
abbrev pub question_cause : TraceState → Option ℕ → Option Refusal
question_cause state None = None
question_cause state (Some m) = refusal_in (mark_at state.marks m)

-- for `ask`, `why` and `cycle`
abbrev pub question_refusal : Machine → List ℕ → Option ℕ → Option Refusal
question_refusal machine name mark = in_trace machine name (λ state. question_cause state mark)

abbrev pub show_refusal : Machine → List ℕ → ℕ → Option Refusal
show_refusal machine name p = in_trace machine name (λ state. no_process state p)

abbrev pub close_refusal : Machine → ℕ → List ℕ → Option Refusal
close_refusal machine session name = in_trace machine name (λ state. not_owner state session)

-- ---- every call

-- the first cause to refuse a session's call, if there is one
abbrev pub refusal_of : Machine → ℕ → CallData → Option Refusal
refusal_of machine session (opens name procs budget decls) = open_refusal machine name procs budget decls
refusal_of machine session (claims name p) = claim_refusal machine name p
refusal_of machine session (releases name p) = release_refusal machine session name p
refusal_of machine session (reports name p access) = report_refusal machine session name p access
refusal_of machine session (sets_mark name) = mark_refusal machine session name
refusal_of machine session (goes_back name m) = back_refusal machine session name m
refusal_of machine session (raises name n) = raise_refusal machine session name n
refusal_of machine session (asks name mark) = question_refusal machine name mark
refusal_of machine session (asks_why name mark) = question_refusal machine name mark
refusal_of machine session (asks_cycle name mark) = question_refusal machine name mark
refusal_of machine session (shows name p) = show_refusal machine name p
refusal_of machine session lists = None
refusal_of machine session (closes name) = close_refusal machine session name

-- ==== when a verdict fits a trace and its budget.

-- there is no legal schedule, and no more situations than the budget can be reached
abbrev pub IsInconsistent : Trace → ℕ → Type 0
IsInconsistent t budget = (IsConsistent t → ⊥) × (HasMoreThan t budget → ⊥)

-- these values of cells, each under the name of its cell
abbrev pub named_values : List Declared → List (ℕ × ℕ) → List (List ℕ × ℕ)
named_values cells values = map (λ value. (cell_name cells value.0, value.1)) values

-- consistent: the schedule is legal and has every operation once, and the list has its fixed values. Inconsistent: there
-- is no such schedule, and no more situations than the budget can be reached. Because: the same, and the list is all
-- situations, each once, in order. Undecided: more can be reached. The trace has these cells.
abbrev pub Fits : List Declared → Trace → ℕ → ReplyData → Type 0
Fits cells t budget (consistent schedule fixed) =
    IsSchedule t (reverse schedule) × (fixed ≡ named_values cells (fixed_values t (reverse schedule)))
Fits cells t budget inconsistent = IsInconsistent t budget
Fits cells t budget (because situations) = IsInconsistent t budget × IsAllOf t situations
Fits cells t budget undecided = HasMoreThan t budget
Fits cells t budget done = ⊥
Fits cells t budget (marked mark) = ⊥
Fits cells t budget (cycle lines hints) = ⊥
Fits cells t budget unknown = ⊥
Fits cells t budget (ops operations) = ⊥
Fits cells t budget (listed names) = ⊥
Fits cells t budget (refused refusal) = ⊥

-- these lines with these hints refute the trace, which has no legal schedule
pub record IsRefutedBy (t : Trace) (lines : List Line) (hints : List ℕ) : Type 0 where
  pub refuting : OrdersRefute t lines hints
  pub none : IsConsistent t → ⊥

-- cycle: the lines refute the trace. Unknown says nothing of it.
abbrev pub FitsCycle : Trace → ReplyData → Type 0
FitsCycle t (cycle lines hints) = IsRefutedBy t lines hints
FitsCycle t unknown = ⊤
FitsCycle t done = ⊥
FitsCycle t (marked mark) = ⊥
FitsCycle t (consistent schedule fixed) = ⊥
FitsCycle t inconsistent = ⊥
FitsCycle t undecided = ⊥
FitsCycle t (because situations) = ⊥
FitsCycle t (ops operations) = ⊥
FitsCycle t (listed names) = ⊥
FitsCycle t (refused refusal) = ⊥

-- ==== one step of the machine: from old, a session's call with this reply leads to new. Where a call has a cause of refusal,
-- the reply is the first of them and nothing changes; else the call has its effect.

-- the trace of this name is there, and this holds of it
abbrev pub InTrace : Machine → List ℕ → (TraceState → Type 0) → Type 0
InTrace machine name P = IsSomeAnd (trace_named machine name) P

-- a new trace stands last; the caller owns it
abbrev pub Opens : Machine → ℕ → List ℕ → ℕ → ℕ → List Decl → ReplyData → Machine → Type 0
Opens old session name procs budget decls reply new =
    (reply ≡ done) × IsSomeAnd (declared_cells decls) (λ cells.
    new ≡ with_trace old name (new_trace session procs budget cells))

-- the process is the caller's
abbrev pub Claims : Machine → ℕ → List ℕ → ℕ → ReplyData → Machine → Type 0
Claims old session name p reply new =
    InTrace old name (λ state. (reply ≡ done)
    × (new ≡ with_trace old name (record state { claimants = slice_set state.claimants p (Some session) })))

-- the process is nobody's
abbrev pub Releases : Machine → List ℕ → ℕ → ReplyData → Machine → Type 0
Releases old name p reply new =
    InTrace old name (λ state. (reply ≡ done)
    × (new ≡ with_trace old name (record state { claimants = slice_set state.claimants p None })))

-- the operation that the access is stands last in the sequence of the process
abbrev pub Reports : Machine → List ℕ → ℕ → Access → ReplyData → Machine → Type 0
Reports old name p access reply new =
    InTrace old name (λ state. (reply ≡ done) × IsOkAnd (lowered state.cells access) (λ op.
    new ≡ with_trace old name (record state { sequences = pushed state.sequences p op })))

-- the present lengths are a mark; the reply is its number
abbrev pub SetsMark : Machine → List ℕ → ReplyData → Machine → Type 0
SetsMark old name reply new =
    InTrace old name (λ state. (reply ≡ marked (length state.marks))
    × (new ≡ with_trace old name (record state { marks = state.marks ++ lengths_of state.sequences ∷ [] })))

-- every sequence is cut to the mark, and the marks after it go; the mark itself, claims and budget stay
abbrev pub GoesBack : Machine → List ℕ → ℕ → ReplyData → Machine → Type 0
GoesBack old name m reply new =
    InTrace old name (λ state. (reply ≡ done) × IsOkAnd (mark_at state.marks m) (λ lengths.
    new ≡ with_trace old name
    (record state { sequences = cut_lists state.sequences lengths; marks = marks_up_to state.marks m })))

-- the budget is the new number
abbrev pub Raises : Machine → List ℕ → ℕ → ReplyData → Machine → Type 0
Raises old name n reply new =
    InTrace old name (λ state. (reply ≡ done) × IsOkAnd (raised state.budget n) (λ budget.
    new ≡ with_trace old name (record state { budget = budget })))

-- this holds of the trace that a question is about: the present one, or as it stood at the mark
abbrev pub IsAbout : TraceState → Option ℕ → (Trace → Type 0) → Type 0
IsAbout state None P = P (trace_in state)
IsAbout state (Some m) P = IsOkAnd (mark_at state.marks m) (λ lengths. P (cut_to (trace_in state) lengths))

-- the verdict fits the trace and the trace's present budget; a refutation comes only with `why`
abbrev pub Asks : TraceState → Option ℕ → ReplyData → Type 0
Asks state mark reply =
    IsAbout state mark (λ t. Fits state.cells t state.budget reply) × ((situations : List Situated) → reply ≢ because situations)

-- the same with the refutation in place of `inconsistent`
abbrev pub AsksWhy : TraceState → Option ℕ → ReplyData → Type 0
AsksWhy state mark reply = IsAbout state mark (λ t. Fits state.cells t state.budget reply) × (reply ≢ inconsistent)

-- a short refutation of the trace, or the word that none was found
abbrev pub AsksCycle : TraceState → Option ℕ → ReplyData → Type 0
AsksCycle state mark reply = IsAbout state mark (λ t. FitsCycle t reply)

-- what a session's call with this reply makes of the machine where it is not refused
abbrev pub HasEffect : Machine → ℕ → CallData → ReplyData → Machine → Type 0
HasEffect old session (opens name procs budget decls) reply new = Opens old session name procs budget decls reply new
HasEffect old session (claims name p) reply new = Claims old session name p reply new
HasEffect old session (releases name p) reply new = Releases old name p reply new
HasEffect old session (reports name p access) reply new = Reports old name p access reply new
HasEffect old session (sets_mark name) reply new = SetsMark old name reply new
HasEffect old session (goes_back name m) reply new = GoesBack old name m reply new
HasEffect old session (raises name n) reply new = Raises old name n reply new
HasEffect old session (asks name mark) reply new = InTrace old name (λ state. Asks state mark reply × (new ≡ old))
HasEffect old session (asks_why name mark) reply new = InTrace old name (λ state. AsksWhy state mark reply × (new ≡ old))
HasEffect old session (asks_cycle name mark) reply new = InTrace old name (λ state. AsksCycle state mark reply × (new ≡ old))
HasEffect old session (shows name p) reply new =
    InTrace old name (λ state. (reply ≡ ops (shown_operations state p)) × (new ≡ old))
HasEffect old session lists reply new = (reply ≡ listed (trace_names old)) × (new ≡ old)
HasEffect old session (closes name) reply new = (reply ≡ done) × (new ≡ without_trace old name)

-- refused for this cause, with everything as it was; or with none the effect
abbrev pub Unless : Option Refusal → ReplyData → Type 0 → Type 0 → Type 0
Unless (Some refusal) reply unchanged effect = (reply ≡ refused refusal) × unchanged
Unless None reply unchanged effect = effect

abbrev pub IsStep : Machine → ℕ → CallData → ReplyData → Machine → Type 0
IsStep old session call reply new =
    Unless (refusal_of old session call) reply (new ≡ old) (HasEffect old session call reply new)

-- a step, or in its place the answer that memory was refused, with everything as it was
abbrev pub IsStepOrNoMemory : Machine → ℕ → CallData → ReplyData → Machine → Type 0
IsStepOrNoMemory old session call reply new =
    IsStep old session call reply new ⊎ ((reply ≡ refused NoMemory) × (new ≡ old))
