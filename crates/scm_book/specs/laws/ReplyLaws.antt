-- What a step's reply can't be: the refusal of a line that is no call or of a session too many, or the one for a full journal
-- or for refused memory. So no reply of a call is one of the first two, and each reply to a step makes an entry.
use Rattle.std.proofs.Common.{◌≡◌, ◌≢◌, ℕ, Bool, true, false, List, Option, None, Some, Result, Ok, Err, IsSomeAnd, IsOkAnd, slice_get, length, nat_le, refl, sym, ap, ◌∙◌, if◌then◌else◌}
use Rattle.std.specs.Option.{option_or, option_map_or, ok_or}
use Rattle.scm_sequences.specs.declared.refusal.Refusal.{Refusal}
use Rattle.scm_sequences.specs.declared.refusal.Refusal.TheVariants.{BadLine, JournalFull, NoMemory, TooManySessions, NoSuchTrace, NotClaimed, SequenceFull, NoSuchCell, WidthMismatch, ValueOutOfRange}
use Rattle.scm_sequences.specs.declared.limits.TheConstants.{MOST_OPERATIONS}
use Rattle.scm_sequences.specs.Sequences.{operations}
use Rattle.scm_sequences.specs.Traces.{Trace, cut_to}
use Rattle.scm_marks.specs.MarkLists.{mark_at}
use Rattle.scm_cells.specs.declared.width.Width.{Width}
use Rattle.scm_cells.specs.declared.number.Num.{Num}
use Rattle.scm_cells.specs.CellLists.{Declared}
use Rattle.scm_lowering.specs.declared.access.Access.{Access}
use Rattle.scm_lowering.specs.declared.access.Access.TheVariants.{Load, Store, Amo, ReadWrite}
use Rattle.scm_lowering.specs.Lowering.{and_then, cell_and_width, cell_for, narrowed, width_eq, lowered}
use Rattle.scm_book.specs.Machine.{CallData, opens, claims, releases, reports, sets_mark, goes_back, raises, asks, asks_why, asks_cycle, shows, lists, closes, ReplyData, done, marked, consistent, inconsistent, undecided, because, cycle, unknown, ops, listed, refused, Machine, TraceState, trace_named, trace_in, cause, refusal_in, no_process, not_claimed, report_cause, question_cause, refusal_of, Unless, IsAbout, HasEffect, IsStep, Fits, FitsCycle}
use Rattle.scm_book.specs.Journal.{BookState, makes_entry, IsCall}

-- a step may be answered so
abbrev is_of_step : ReplyData → Bool
is_of_step (refused BadLine) = false
is_of_step (refused JournalFull) = false
is_of_step (refused NoMemory) = false
is_of_step (refused TooManySessions) = false
is_of_step reply = true

-- ---- causes

-- a refusal that is there may be a step's
record IsOfStep (first : Option Refusal) : Type 0 where
  is : (refusal : Refusal) → first ≡ Some refusal → is_of_step (refused refusal) ≡ true

none-of_step : IsOfStep None
none-of_step = record { is = λ refusal found. cc }

some-of_step : (refusal : Refusal) → is_of_step (refused refusal) ≡ true → IsOfStep (Some refusal)
some-of_step refusal of_step = record { is = λ other found. let same : refusal ≡ other = cc in ap (λ r. is_of_step (refused r)) (sym same) ∙ of_step }

cause-of_step : (holds : Bool) (refusal : Refusal) → is_of_step (refused refusal) ≡ true → IsOfStep (cause holds refusal)
cause-of_step true refusal of_step = some-of_step refusal of_step
cause-of_step false refusal of_step = none-of_step

or-of_step : (a b : Option Refusal) → IsOfStep a → IsOfStep b → IsOfStep (option_or a b)
or-of_step None b first second = second
or-of_step (Some refusal) b first second = first

trace-of_step : (o : Option TraceState) (causes : TraceState → Option Refusal) → ((state : TraceState) → IsOfStep (causes state)) → IsOfStep (option_map_or causes o (Some NoSuchTrace))
trace-of_step None causes of_step = some-of_step NoSuchTrace refl
trace-of_step (Some state) causes of_step = of_step state

-- ---- results

ok_or-of_step : {T : Type 0} (o : Option T) (refusal : Refusal) → is_of_step (refused refusal) ≡ true → IsOfStep (refusal_in (ok_or o refusal))
ok_or-of_step None refusal of_step = some-of_step refusal of_step
ok_or-of_step (Some x) refusal of_step = none-of_step

if-of_step : {T : Type 0} (b : Bool) (x : T) (refusal : Refusal) → is_of_step (refused refusal) ≡ true → IsOfStep (refusal_in (if b then Ok x else Err refusal))
if-of_step true x refusal of_step = none-of_step
if-of_step false x refusal of_step = some-of_step refusal of_step

then-of_step : {T U : Type 0} (r : Result T Refusal) (f : T → Result U Refusal) → IsOfStep (refusal_in r) → ((x : T) → IsOfStep (refusal_in (f x))) → IsOfStep (refusal_in (and_then r f))
then-of_step (Ok x) f first second = second x
then-of_step (Err refusal) f first second = first

narrowed-of_step : {U : Type 0} (w : Width) (number : Num) (f : ℕ → Result U Refusal) → ((d : ℕ) → IsOfStep (refusal_in (f d))) → IsOfStep (refusal_in (and_then (narrowed w number) f))
narrowed-of_step w number f rest = then-of_step (narrowed w number) f (ok_or-of_step _ ValueOutOfRange refl) rest

found-of_step : (cells : List Declared) (name : List ℕ) → IsOfStep (refusal_in (cell_and_width cells name))
found-of_step cells name = ok_or-of_step _ NoSuchCell refl

cell-of_step : {U : Type 0} (cells : List Declared) (name : List ℕ) (w : Width) (f : ℕ → Result U Refusal) → ((c : ℕ) → IsOfStep (refusal_in (f c))) → IsOfStep (refusal_in (and_then (cell_for cells name w) f))
cell-of_step cells name w f rest =
    then-of_step (cell_for cells name w) f
    (then-of_step (cell_and_width cells name) (λ found. if width_eq found.1 w then Ok found.0 else Err WidthMismatch) (found-of_step cells name) (λ found. if-of_step (width_eq found.1 w) found.0 WidthMismatch refl))
    rest

lowered-of_step : (cells : List Declared) (access : Access) → IsOfStep (refusal_in (lowered cells access))
unfolding lowered
lowered-of_step cells (Load w name value) = cell-of_step cells name w _ (λ c. narrowed-of_step w value _ (λ d. none-of_step))
lowered-of_step cells (Store w name value) = cell-of_step cells name w _ (λ c. narrowed-of_step w value _ (λ d. none-of_step))
lowered-of_step cells (Amo kind w name operand old) = cell-of_step cells name w _ (λ c. narrowed-of_step w operand _ (λ v. narrowed-of_step w old _ (λ d. none-of_step)))
lowered-of_step cells (ReadWrite name old new) = then-of_step (cell_and_width cells name) _ (found-of_step cells name) (λ found. narrowed-of_step found.1 old _ (λ d. narrowed-of_step found.1 new _ (λ e. none-of_step)))

-- ---- calls

question-of_step : (state : TraceState) (mark : Option ℕ) → IsOfStep (question_cause state mark)
question-of_step state None = none-of_step
question-of_step state (Some m) = ok_or-of_step (slice_get state.marks m) _ refl

report-of_step : (state : TraceState) (session p : ℕ) (access : Access) → IsOfStep (report_cause state session p access)
report-of_step state session p access =
    or-of_step (no_process state p) _ (cause-of_step (nat_le (length state.sequences) p) _ refl)
    (or-of_step (not_claimed state session p) _ (cause-of_step _ NotClaimed refl)
    (or-of_step (refusal_in (lowered state.cells access)) _ (lowered-of_step state.cells access)
    (cause-of_step (nat_le MOST_OPERATIONS (length (operations state.sequences p))) SequenceFull refl)))

causes-of_step : (machine : Machine) (session : ℕ) (call : CallData) → IsOfStep (refusal_of machine session call)
causes-of_step machine session (opens name procs budget decls) = or-of_step _ _ (or-of_step _ _ (cause-of_step _ _ refl) (cause-of_step _ _ refl)) (or-of_step _ _ (cause-of_step _ _ refl) (cause-of_step _ _ refl))
causes-of_step machine session (claims name p) = trace-of_step (trace_named machine name) _ (λ state. or-of_step _ _ (cause-of_step _ _ refl) (cause-of_step _ _ refl))
causes-of_step machine session (releases name p) = trace-of_step (trace_named machine name) _ (λ state. or-of_step _ _ (cause-of_step _ _ refl) (cause-of_step _ _ refl))
causes-of_step machine session (reports name p access) = trace-of_step (trace_named machine name) _ (λ state. report-of_step state session p access)
causes-of_step machine session (sets_mark name) = trace-of_step (trace_named machine name) _ (λ state. or-of_step _ _ (cause-of_step _ _ refl) (cause-of_step _ _ refl))
causes-of_step machine session (goes_back name m) = trace-of_step (trace_named machine name) _ (λ state. or-of_step _ _ (cause-of_step _ _ refl) (ok_or-of_step (slice_get state.marks m) _ refl))
causes-of_step machine session (raises name n) = trace-of_step (trace_named machine name) _ (λ state. or-of_step _ _ (cause-of_step _ _ refl) (if-of_step _ n _ refl))
causes-of_step machine session (asks name mark) = trace-of_step (trace_named machine name) _ (λ state. question-of_step state mark)
causes-of_step machine session (asks_why name mark) = trace-of_step (trace_named machine name) _ (λ state. question-of_step state mark)
causes-of_step machine session (asks_cycle name mark) = trace-of_step (trace_named machine name) _ (λ state. question-of_step state mark)
causes-of_step machine session (shows name p) = trace-of_step (trace_named machine name) _ (λ state. cause-of_step _ _ refl)
causes-of_step machine session lists = none-of_step
causes-of_step machine session (closes name) = trace-of_step (trace_named machine name) _ (λ state. cause-of_step _ _ refl)

-- ---- effects

as_of_step : (reply other : ReplyData) → reply ≡ other → is_of_step other ≡ true → is_of_step reply ≡ true
as_of_step reply other is of_step = ap is_of_step is ∙ of_step

in_trace-of_step : (o : Option TraceState) (P : TraceState → Type 0) (reply : ReplyData) → ((state : TraceState) → P state → is_of_step reply ≡ true) → IsSomeAnd o P → is_of_step reply ≡ true
in_trace-of_step None P reply of_step effect = absurd effect
in_trace-of_step (Some state) P reply of_step effect = of_step state effect

fits-of_step : (cells : List Declared) (t : Trace) (budget : ℕ) (reply : ReplyData) → Fits cells t budget reply → is_of_step reply ≡ true
fits-of_step cells t budget done fits = absurd fits
fits-of_step cells t budget (marked mark) fits = absurd fits
fits-of_step cells t budget (consistent schedule fixed) fits = refl
fits-of_step cells t budget inconsistent fits = refl
fits-of_step cells t budget undecided fits = refl
fits-of_step cells t budget (because situations) fits = refl
fits-of_step cells t budget (cycle lines hints) fits = absurd fits
fits-of_step cells t budget unknown fits = absurd fits
fits-of_step cells t budget (ops operations) fits = absurd fits
fits-of_step cells t budget (listed names) fits = absurd fits
fits-of_step cells t budget (refused refusal) fits = absurd fits

fits_cycle-of_step : (t : Trace) (reply : ReplyData) → FitsCycle t reply → is_of_step reply ≡ true
fits_cycle-of_step t done fits = absurd fits
fits_cycle-of_step t (marked mark) fits = absurd fits
fits_cycle-of_step t (consistent schedule fixed) fits = absurd fits
fits_cycle-of_step t inconsistent fits = absurd fits
fits_cycle-of_step t undecided fits = absurd fits
fits_cycle-of_step t (because situations) fits = absurd fits
fits_cycle-of_step t (cycle lines hints) fits = refl
fits_cycle-of_step t unknown fits = refl
fits_cycle-of_step t (ops operations) fits = absurd fits
fits_cycle-of_step t (listed names) fits = absurd fits
fits_cycle-of_step t (refused refusal) fits = absurd fits

about-of_step : (state : TraceState) (mark : Option ℕ) (reply : ReplyData) (P : Trace → Type 0) → ((t : Trace) → P t → is_of_step reply ≡ true) → IsAbout state mark P → is_of_step reply ≡ true
about-of_step state None reply P of_step fits = of_step (trace_in state) fits
about-of_step state (Some m) reply P of_step fits = at (mark_at state.marks m) fits where
  at : (r : Result (List ℕ) Refusal) → IsOkAnd r (λ lengths. P (cut_to (trace_in state) lengths)) → is_of_step reply ≡ true
  at (Ok lengths) fits = of_step (cut_to (trace_in state) lengths) fits
  at (Err refusal) fits = absurd fits

verdict-of_step : (state : TraceState) (mark : Option ℕ) (reply : ReplyData) → IsAbout state mark (λ t. Fits state.cells t state.budget reply) → is_of_step reply ≡ true
verdict-of_step state mark reply fits = about-of_step state mark reply (λ t. Fits state.cells t state.budget reply) (λ t f. fits-of_step state.cells t state.budget reply f) fits

cycle-of_step : (state : TraceState) (mark : Option ℕ) (reply : ReplyData) → IsAbout state mark (λ t. FitsCycle t reply) → is_of_step reply ≡ true
cycle-of_step state mark reply fits = about-of_step state mark reply (λ t. FitsCycle t reply) (λ t f. fits_cycle-of_step t reply f) fits

effect-of_step : (old new : Machine) (session : ℕ) (call : CallData) (reply : ReplyData) → HasEffect old session call reply new → is_of_step reply ≡ true
effect-of_step old new session (opens name procs budget decls) reply effect = as_of_step reply done effect.0 refl
effect-of_step old new session (claims name p) reply effect = in_trace-of_step (trace_named old name) _ reply (λ state e. as_of_step reply done e.0 refl) effect
effect-of_step old new session (releases name p) reply effect = in_trace-of_step (trace_named old name) _ reply (λ state e. as_of_step reply done e.0 refl) effect
effect-of_step old new session (reports name p access) reply effect = in_trace-of_step (trace_named old name) _ reply (λ state e. as_of_step reply done e.0 refl) effect
effect-of_step old new session (sets_mark name) reply effect = in_trace-of_step (trace_named old name) _ reply (λ state e. as_of_step reply (marked _) e.0 refl) effect
effect-of_step old new session (goes_back name m) reply effect = in_trace-of_step (trace_named old name) _ reply (λ state e. as_of_step reply done e.0 refl) effect
effect-of_step old new session (raises name n) reply effect = in_trace-of_step (trace_named old name) _ reply (λ state e. as_of_step reply done e.0 refl) effect
effect-of_step old new session (asks name mark) reply effect = in_trace-of_step (trace_named old name) _ reply (λ state e. verdict-of_step state mark reply e.0.0) effect
effect-of_step old new session (asks_why name mark) reply effect = in_trace-of_step (trace_named old name) _ reply (λ state e. verdict-of_step state mark reply e.0.0) effect
effect-of_step old new session (asks_cycle name mark) reply effect = in_trace-of_step (trace_named old name) _ reply (λ state e. cycle-of_step state mark reply e.0) effect
effect-of_step old new session (shows name p) reply effect = in_trace-of_step (trace_named old name) _ reply (λ state e. as_of_step reply (ops _) e.0 refl) effect
effect-of_step old new session lists reply effect = as_of_step reply (listed _) effect.0 refl
effect-of_step old new session (closes name) reply effect = as_of_step reply done effect.0 refl

-- ---- steps

IsStep-of_step : (old new : Machine) (session : ℕ) (call : CallData) (reply : ReplyData) → IsStep old session call reply new → is_of_step reply ≡ true
IsStep-of_step old new session call reply step = by (refusal_of old session call) refl step where
  by : (first : Option Refusal) → refusal_of old session call ≡ first → Unless first reply (new ≡ old) (HasEffect old session call reply new) → is_of_step reply ≡ true
  by None is effect = effect-of_step old new session call reply effect
  by (Some refusal) is step = as_of_step reply (refused refusal) step.0 ((causes-of_step old session call).is refusal is)

of_step-enters : (reply : ReplyData) → is_of_step reply ≡ true → makes_entry reply ≡ true
of_step-enters (refused BadLine) of_step = refl
of_step-enters (refused JournalFull) of_step = of_step
of_step-enters (refused NoMemory) of_step = of_step
of_step-enters (refused TooManySessions) of_step = refl
of_step-enters reply of_step = refl

-- each reply to a step makes an entry
pub IsStep-enters : (old new : Machine) (session : ℕ) (call : CallData) (reply : ReplyData) → IsStep old session call reply new → makes_entry reply ≡ true
IsStep-enters old new session call reply step = of_step-enters reply (IsStep-of_step old new session call reply step)

IsStep-never : (other : ReplyData) → is_of_step other ≡ false → (old new : Machine) (session : ℕ) (call : CallData) (reply : ReplyData) → IsStep old session call reply new → reply ≢ other
IsStep-never other never old new session call reply step is = let no : false ≡ true = sym never ∙ sym (ap is_of_step is) ∙ IsStep-of_step old new session call reply step in cc

-- no call is refused as a bad line: neither by a step of the machine
pub IsStep-good : (old new : Machine) (session : ℕ) (call : CallData) (reply : ReplyData) → IsStep old session call reply new → reply ≢ refused BadLine
IsStep-good = IsStep-never (refused BadLine) refl

-- nor by a book
pub IsCall-good : (old new : BookState) (session : ℕ) (call : CallData) (reply : ReplyData) → IsCall old session call reply new → reply ≢ refused BadLine
IsCall-good old new session call reply called bad = IsStep-good old.machine new.machine session call reply (called.step (ap makes_entry bad)) bad

-- and none is refused for too many sessions
pub IsStep-sessions : (old new : Machine) (session : ℕ) (call : CallData) (reply : ReplyData) → IsStep old session call reply new → reply ≢ refused TooManySessions
IsStep-sessions = IsStep-never (refused TooManySessions) refl

pub IsCall-sessions : (old new : BookState) (session : ℕ) (call : CallData) (reply : ReplyData) → IsCall old session call reply new → reply ≢ refused TooManySessions
IsCall-sessions old new session call reply called many = IsStep-sessions old.machine new.machine session call reply (called.step (ap makes_entry many)) many
