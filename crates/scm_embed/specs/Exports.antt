-- What the exported calls do: which call numbers stand for, and what it does to what a handle holds.
use Rattle.std.specs.Prelude.{ℕ, ◌≡◌, ◌⊎◌, List, [], ◌∷◌, ◌++◌, length, Option, Result, Ok, MatchOption, IfOk, OnErr, position, ◌==◌, nat_le, if◌then◌else◌, None, Some, option_and_then, option_map, slice_get, ◌+◌, ◌-◌, IsSomeAnd, ◌<◌, ◌≤◌, drop}
use Rattle.scm_sequences.specs.declared.no_memory.NoMemory.{NoMemory}
use Rattle.scm_cells.specs.CellLists.{name_eq}
use Rattle.scm_embed.specs.declared.codes.TheConstants.{DONE, NO_MEMORY, BAD_NUMBER, NO_ROOM, CLOSED}
use Rattle.scm_sequences.specs.declared.limits.TheConstants.{MOST_CELLS}
use Rattle.scm_cells.specs.declared.initial.Initial.{Initial}
use Rattle.scm_cells.specs.declared.initial.Initial.TheVariants.{Given, Unset}
use Rattle.scm_cells.specs.declared.number.Num.TheVariants.{Plain}
use Rattle.scm_cells.specs.declared.width.Width.{Width}
use Rattle.scm_cells.specs.declared.width.Width.TheVariants.{W, D}
use Rattle.scm_book.specs.declared.call.Decl.{Decl}
use Rattle.scm_embed.specs.declared.opening.Cell.{Cell}
use Rattle.scm_sequences.specs.Sequences.{refusal_number}
use Rattle.scm_book.specs.Machine.{ReplyData, done, marked, consistent, inconsistent, undecided, because, cycle, unknown, ops, listed, refused, empty_machine, CallData, reply_data, opens, claims, releases, reports, sets_mark, goes_back, raises, asks, asks_why, asks_cycle, closes}
use Rattle.scm_amo.specs.Amos.{amos}
use Rattle.scm_lowering.specs.declared.access.Access.{Access}
use Rattle.scm_lowering.specs.declared.access.Access.TheVariants.{Load, Store, Amo, ReadWrite}
use Rattle.scm_sequences.specs.declared.refusal.Refusal.TheVariants.{NoMemory as WithoutMemory}
use Rattle.scm_sessions.specs.Asking.{good, asked_by, line_of}
use Rattle.scm_sessions.specs.Script.{Answers, AnswersCall, answer_text}
use Rattle.scm_embed.specs.declared.answerer.Answerer.{Answerer}
use Rattle.scm_sessions.specs.inner.Answering.{AnswersWith}

-- ---- the names that have numbers: a name's number is its place in this list.

-- the number of a name, None where it has none
abbrev pub place_of : List (List ℕ) → List ℕ → Option ℕ
place_of names name = position (λ other. name_eq other name) names

-- a name that has a number keeps it, and any other gets the next one, unless memory is refused
abbrev pub GivesNumber : List (List ℕ) → List ℕ → Result ℕ NoMemory → List (List ℕ) → Type 0
GivesNumber before name result after =
    MatchOption (place_of before name)
    (IfOk result (λ number. (number ≡ length before) × (after ≡ before ++ name ∷ [])) × OnErr result (after ≡ before))
    (λ place. (result ≡ Ok place) × (after ≡ before))

-- the same, with what C is answered
abbrev pub TellsNumber : List (List ℕ) → List ℕ → ℕ → ℕ → List (List ℕ) → Type 0
TellsNumber before name code number after =
    MatchOption (place_of before name)
    (((code ≡ DONE) × (number ≡ length before) × (after ≡ before ++ name ∷ [])) ⊎ ((code ≡ NO_MEMORY) × (after ≡ before)))
    (λ place. (code ≡ DONE) × (number ≡ place) × (after ≡ before))

-- ---- the cells that C declares.

abbrev pub width_of_bits : ℕ → Option Width
width_of_bits bits = if bits == 32 then Some W else if bits == 64 then Some D else None

-- what a cell holds at first
abbrev pub initial_of_cell : Cell → Initial
initial_of_cell cell = if cell.is_unset == 0 then Given (Plain cell.initial) else Unset

-- the declaration of a cell, where these names have numbers
abbrev pub declaration_of_cell : List (List ℕ) → Cell → Option Decl
declaration_of_cell names cell =
    option_and_then (λ name. option_map (λ width. record { name = name; width = width; initial = initial_of_cell cell })
    (width_of_bits cell.bits)) (slice_get names cell.name)

abbrev pub all_declarations : List (List ℕ) → List Cell → Option (List Decl)
all_declarations names [] = Some []
all_declarations names (cell ∷ cells) =
    option_and_then (λ decl. option_map (λ decls. decl ∷ decls) (all_declarations names cells)) (declaration_of_cell names cell)

-- the declarations of the cells, of which there are no more than a trace may have
abbrev pub declarations_of : List (List ℕ) → List Cell → Option (List Decl)
declarations_of names cells = if nat_le (length cells) MOST_CELLS then all_declarations names cells else None

-- ---- the number of each reply.

abbrev pub reply_code : ReplyData → ℕ
reply_code done = 0
reply_code (marked mark) = 16
reply_code (consistent schedule fixed) = 17
reply_code inconsistent = 18
reply_code undecided = 19
reply_code (because situations) = 20
reply_code (cycle lines hints) = 21
reply_code unknown = 22
reply_code (ops operations) = 23
reply_code (listed names) = 24
reply_code (refused refusal) = 32 + refusal_number refusal

-- ---- the calls that are made by numbers: which call a number stands for, and what it does to a monitor.

-- the name of this number
abbrev pub name_at : Answerer → ℕ → Option (List ℕ)
name_at answerer n = slice_get answerer.names.items n

-- the access of a kind's number to a cell
abbrev pub access_of_kind : ℕ → List ℕ → ℕ → ℕ → Option Access
access_of_kind kind cell first second =
    if kind == 0 then Some (Load W cell (Plain first))
    else if kind == 1 then Some (Load D cell (Plain first))
    else if kind == 2 then Some (Store W cell (Plain first))
    else if kind == 3 then Some (Store D cell (Plain first))
    else if kind == 4 then Some (ReadWrite cell (Plain first) (Plain second))
    else option_map (λ amo. Amo amo.0 amo.1 cell (Plain first) (Plain second)) (slice_get amos (kind - 5))

-- the call of a kind's number about a trace, with its number, which some don't need
abbrev pub call_of_kind : ℕ → List ℕ → ℕ → Option CallData
call_of_kind kind trace number =
    if kind == 0 then Some (claims trace number)
    else if kind == 1 then Some (releases trace number)
    else if kind == 2 then Some (sets_mark trace)
    else if kind == 3 then Some (goes_back trace number)
    else if kind == 4 then Some (raises trace number)
    else if kind == 5 then Some (asks trace None)
    else if kind == 6 then Some (asks trace (Some number))
    else if kind == 7 then Some (asks_why trace None)
    else if kind == 8 then Some (asks_why trace (Some number))
    else if kind == 9 then Some (asks_cycle trace None)
    else if kind == 10 then Some (asks_cycle trace (Some number))
    else if kind == 11 then Some (closes trace)
    else None

-- a number stands for nothing: the answer says so, and all is as it was
abbrev pub IsBadNumber : Answerer → ℕ → Answerer → Type 0
IsBadNumber before code after = (code ≡ BAD_NUMBER) × (after ≡ before)

-- the last answer is this reply to the session of this name
abbrev pub HoldsReply : Answerer → List ℕ → ReplyData → Type 0
HoldsReply answerer session reply = IsSomeAnd answerer.answer (λ answer. (answer.name ≡ Some session) × (reply_data answer.reply ≡ reply))

-- nobody has entered, no trace is open, nothing was answered, and no name has a number
abbrev pub IsNewMonitor : Answerer → Type 0
IsNewMonitor answerer =
    (answerer.sessions.names ≡ []) × (answerer.sessions.book.machine ≡ empty_machine) × (answerer.answer ≡ None) × (answerer.names.items ≡ [])

-- a call of the session of this name leads from one monitor to the other one, whose last answer is the reply, of which this is the
-- number
abbrev pub MakesCallWithCode : Answerer → List ℕ → CallData → ℕ → Answerer → Type 0
MakesCallWithCode before session call code after =
    (reply : ReplyData) × Answers AnswersCall before.sessions (good session call) reply after.sessions
    × HoldsReply after session reply × (code ≡ reply_code reply) × (after.names ≡ before.names)

-- memory is refused for a call of this session, with everything as it was but the last answer
abbrev pub RefusesMemory : Answerer → List ℕ → ℕ → Answerer → Type 0
RefusesMemory before session code after =
    (after.sessions ≡ before.sessions) × HoldsReply after session (refused WithoutMemory) × (code ≡ reply_code (refused WithoutMemory))
    × (after.names ≡ before.names)

-- the session of one number opens a trace that has the name of the other one, with the cells that are declared; or memory is
-- refused for these
abbrev pub OpensAt : Answerer → ℕ → ℕ → ℕ → ℕ → List Cell → ℕ → Answerer → Type 0
OpensAt before session trace procs budget cells code after =
    MatchOption (name_at before session) (IsBadNumber before code after)
    (λ s. MatchOption (name_at before trace) (IsBadNumber before code after)
    (λ t. RefusesMemory before s code after ⊎ MatchOption (declarations_of before.names.items cells) (IsBadNumber before code after)
    (λ decls. MakesCallWithCode before s (opens t procs budget decls) code after)))

-- the session of one number calls about the trace of the other one
abbrev pub CallsAt : Answerer → ℕ → ℕ → ℕ → ℕ → ℕ → Answerer → Type 0
CallsAt before session trace kind number code after =
    MatchOption (name_at before session) (IsBadNumber before code after)
    (λ s. MatchOption (name_at before trace) (IsBadNumber before code after)
    (λ t. MatchOption (call_of_kind kind t number) (IsBadNumber before code after)
    (λ call. MakesCallWithCode before s call code after)))

-- it reports an access of a process to the cell of a number
abbrev pub ReportsAt : Answerer → ℕ → ℕ → ℕ → ℕ → ℕ → ℕ → ℕ → ℕ → Answerer → Type 0
ReportsAt before session trace process kind cell first second code after =
    MatchOption (name_at before session) (IsBadNumber before code after)
    (λ s. MatchOption (name_at before trace) (IsBadNumber before code after)
    (λ t. MatchOption (name_at before cell) (IsBadNumber before code after)
    (λ c. MatchOption (access_of_kind kind c first second) (IsBadNumber before code after)
    (λ access. MakesCallWithCode before s (reports t process access) code after))))

-- ---- what the exported calls do to what a handle holds.

-- this holds of the monitor that was held and of the one that is held then; where none was, the answer is CLOSED, and none is held
abbrev pub OnHeld : Option Answerer → ℕ → Option Answerer → (Answerer → Answerer → Type 0) → Type 0
OnHeld old code new Leads =
    MatchOption old ((code ≡ CLOSED) × (new ≡ None)) (λ before. IsSomeAnd new (λ after. Leads before after))

-- a monitor is made, or memory is refused; where one is held, the answer is CLOSED, and it stays
abbrev pub MakesHeld : Option Answerer → ℕ → Option Answerer → Type 0
MakesHeld old code new =
    MatchOption old (((code ≡ DONE) × IsSomeAnd new IsNewMonitor) ⊎ ((code ≡ NO_MEMORY) × (new ≡ None)))
    (λ before. (code ≡ CLOSED) × (new ≡ Some before))

-- a line is answered, and the answer is held
abbrev pub HoldsAnswer : Answerer → List ℕ → Answerer → Type 0
HoldsAnswer before line after =
    AnswersWith AnswersCall before.sessions (asked_by (line_of line)) after.answer after.sessions × (after.names ≡ before.names)

-- the sessions, the book, the last answer and the names stay
abbrev pub KeepsAll : Answerer → Answerer → Type 0
KeepsAll before after =
    (after.sessions ≡ before.sessions) × (after.answer ≡ before.answer) × (after.names ≡ before.names)

-- the text of the last answer stands at the front of the room, whose rest is as it was; or it is longer than the room, which is
-- as it was; or memory is refused for it, and room and length are as they were
abbrev pub GivesText : Answerer → List ℕ → List ℕ → ℕ → ℕ → ℕ → Type 0
GivesText answerer room out known needed code =
    ((code ≡ DONE) × (needed ≡ length (answer_text answerer.answer)) × (needed ≤ length room) × (out ≡ answer_text answerer.answer ++ drop needed room))
    ⊎ ((code ≡ NO_ROOM) × (needed ≡ length (answer_text answerer.answer)) × (length room < needed) × (out ≡ room))
    ⊎ ((code ≡ NO_MEMORY) × (needed ≡ known) × (out ≡ room))
