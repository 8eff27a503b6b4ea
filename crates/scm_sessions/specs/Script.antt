-- Replies as text, and what the run of a script does. This project's profile.
use Rattle.std.specs.Prelude.{ℕ, ◌≡◌, List, ◌++◌, Bool, true, false, Option, Result, MatchResult, ◌==◌, if◌then◌else◌, [], ◌∷◌, length, map, codes, decimal, None, Some, unwrap_or, flat_map, ◌≢◌, ◌⊎◌, ◌↔◌, filter, IfErr, IsErrOf, not, ◌&&◌, nat_le, MatchBool}
use Rattle.std.specs.Io.KnownBytes.{Keeps, Appends, Consumes, IsAtEnd}
use Rattle.scm_sessions.specs.declared.port.Port.{Port}
use Rattle.scm_sequences.specs.declared.op.Op.{Op}
use Rattle.scm_sequences.specs.declared.op.Op.TheVariants.{R, W, Rw}
use Rattle.scm_sequences.specs.Sequences.{refusal_number, refusal_text}
use Rattle.scm_frontier.specs.Situations.{Situated}
use Rattle.scm_orders.specs.declared.place.Place.{Place}
use Rattle.scm_orders.specs.declared.derivation.Fact.{Fact}
use Rattle.scm_orders.specs.declared.derivation.Fact.TheVariants.{Before, Sees, SeesFirst, Hidden, Unseen, UnseenFirst}
use Rattle.scm_orders.specs.declared.derivation.Rule.{Rule}
use Rattle.scm_orders.specs.declared.derivation.Rule.TheVariants.{Joined, Hidden as HiddenBy, Source, AfterAll, BeforeAll, AfterSource, Assumed, Lemma}
use Rattle.scm_orders.specs.declared.derivation.Line.{Line as DerivationLine}
use Rattle.scm_orders.specs.Refuting.{hints_of}
use Rattle.scm_book.specs.declared.reply.Shown.{Shown}
use Rattle.scm_book.specs.Machine.{ReplyData, reply_data, done, marked, consistent, inconsistent, undecided, because, cycle, unknown, ops, listed, refused, CallData}
use Rattle.scm_sessions.specs.declared.replies.Answer.{Answer}
use Rattle.scm_sequences.specs.declared.refusal.Refusal.TheVariants.{BadLine, NoMemory, TooManySessions}
use Rattle.scm_sessions.specs.declared.fault.RunFault.{RunFault}
use Rattle.scm_sessions.specs.declared.fault.RunFault.TheVariants.{ReadFailed, WriteFailed, NoMemory as WithoutMemory}
use Rattle.scm_sessions.specs.Asking.{Line, lines_of, whole_lines_of, AskedData, nothing, bad, good, asked_by, name_in}
use Rattle.std.specs.List.{list_any, position_or_len}
use Rattle.scm_sequences.specs.declared.limits.TheConstants.{MOST_SESSIONS}
use Rattle.scm_cells.specs.CellLists.{name_eq}
use Rattle.scm_book.specs.Journal.{BookState, IsCall}

-- ==== what a clause reads of a port, and what a port's writer was given of a text.

-- the reader or the writer of a port
abbrev pub inner_of : {T : Type 0} → Port T → T
inner_of port = port.inner

-- whether a call of the port has failed
abbrev pub has_failed : {T : Type 0} → Port T → Bool
has_failed port = port.failed

-- how many times the port's reader was asked
abbrev pub reads_of : {T : Type 0} → Port T → ℕ
reads_of port = port.reads

-- known bytes grow by a beginning of the text
pub record AppendsPart (old new : Option (List ℕ)) (text : List ℕ) : Type 0 where
  pub front : List ℕ
  pub rest : List ℕ
  pub is_text : text ≡ front ++ rest
  pub appended : Appends old new front

-- the text went out whole; at a fault a beginning of it did
abbrev pub WritesText : {T E : Type 0} → Option (List ℕ) → Option (List ℕ) → Result T E → List ℕ → Type 0
WritesText old new outcome text = MatchResult outcome (λ _. Appends old new text) (λ _. AppendsPart old new text)

-- what calls did to the bytes of a port's writer, that had failed before or not, and has failed now or not:
-- the text went out whole, or a beginning of it where a call failed, and nothing where one had failed before
pub record Sends (old : Option (List ℕ)) (had_failed : Bool) (new : Option (List ℕ)) (has_failed : Bool) (text : List ℕ) : Type 0 where
  pub whole : has_failed ≡ false → Appends old new text
  pub part : had_failed ≡ false → has_failed ≡ true → AppendsPart old new text
  pub kept : had_failed ≡ true → Keeps old new
  pub stays : had_failed ≡ true → has_failed ≡ true

-- ==== the text of a reply. This project's profile.

-- a space and a word
abbrev pub spaced_word : List ℕ → List ℕ
spaced_word word = 32 ∷ word

-- a space and a number
abbrev pub spaced : ℕ → List ℕ
spaced n = spaced_word (decimal n)

-- an operation, with a space before it: its letters, the name of its cell, and its values
abbrev pub operation_text : List ℕ → Op → List ℕ
operation_text cell (R c d) = codes " R " ++ cell ++ spaced d
operation_text cell (W c d) = codes " W " ++ cell ++ spaced d
operation_text cell (Rw c d e) = codes " RW " ++ cell ++ spaced d ++ spaced e

abbrev pub shown_text : Shown → List ℕ
shown_text shown = operation_text shown.cell shown.op

-- a comma, unless no item of a list stands before
abbrev pub comma_after : ℕ → List ℕ
comma_after earlier = if earlier == 0 then [] else codes ","

-- the first text, then each further one with a comma before it
abbrev pub joined : List (List ℕ) → List ℕ
joined [] = []
joined (first ∷ others) = first ++ flat_map (λ text. 44 ∷ text) others

-- what a cell holds, '?' where that is open
abbrev pub content_text : Option ℕ → List ℕ
content_text None = codes "?"
content_text (Some value) = decimal value

-- a situation, with a space before it: its counts, and the contents of its cells
abbrev pub situation_text : Situated → List ℕ
situation_text s = codes " " ++ joined (map decimal s.counts) ++ codes "/" ++ joined (map content_text s.contents)

-- where an operation stands: its process and its place there, both from 0
abbrev pub place_text : Place → List ℕ
place_text place = decimal place.process ++ codes "." ++ decimal place.at

-- two operations, and between them what is said of them
abbrev pub pair_text : Place → List ℕ → Place → List ℕ
pair_text from sign to = place_text from ++ sign ++ place_text to

abbrev pub fact_text : Fact → List ℕ
fact_text (Before from to) = pair_text from (codes "<") to
fact_text (Sees write read) = pair_text write (codes "~") read
fact_text (SeesFirst read) = codes "-~" ++ place_text read
fact_text (Hidden write read) = pair_text write (codes "/") read
fact_text (Unseen write read) = pair_text write (codes "!") read
fact_text (UnseenFirst read) = codes "-!" ++ place_text read

-- the number of an earlier line, with a colon before it
abbrev pub hint_text : ℕ → List ℕ
hint_text hint = codes ":" ++ decimal hint

abbrev pub rule_text : Rule → List ℕ
rule_text Joined = codes "joined"
rule_text (HiddenBy by) = codes "hidden:" ++ place_text by
rule_text Source = codes "source"
rule_text AfterAll = codes "after-all"
rule_text BeforeAll = codes "before-all"
rule_text AfterSource = codes "after-source"
rule_text Assumed = codes "assumed"
rule_text (Lemma end) = codes "lemma" ++ hint_text end

-- a line with its hints, which are among these, and a space before it: what it says, and why
abbrev pub line_text : List ℕ → DerivationLine → List ℕ
line_text hints line = codes " " ++ fact_text line.fact ++ codes ":" ++ rule_text line.rule ++ flat_map hint_text (hints_of hints line)

-- a fixed value, with a space before it: the name of its cell, '=' and the value
abbrev pub fixed_text : List ℕ × ℕ → List ℕ
fixed_text value = spaced_word value.0 ++ codes "=" ++ decimal value.1

-- the fixed values behind a schedule, nothing where there are none
abbrev pub with_text : List (List ℕ × ℕ) → List ℕ
with_text [] = []
with_text (first ∷ others) = codes " with" ++ flat_map fixed_text (first ∷ others)

abbrev pub reply_text : ReplyData → List ℕ
reply_text done = codes "ok"
reply_text (marked mark) = codes "ok " ++ decimal mark
reply_text (consistent schedule fixed) =
    codes "consistent " ++ decimal (length schedule) ++ flat_map spaced schedule ++ with_text fixed
reply_text inconsistent = codes "inconsistent"
reply_text undecided = codes "undecided"
reply_text (because situations) =
    codes "because " ++ decimal (length situations) ++ flat_map situation_text situations
reply_text (cycle lines hints) = codes "cycle " ++ decimal (length lines) ++ flat_map (line_text hints) lines
reply_text unknown = codes "unknown"
reply_text (ops operations) = codes "ops " ++ decimal (length operations) ++ flat_map shown_text operations
reply_text (listed names) = codes "traces " ++ decimal (length names) ++ flat_map spaced_word names
reply_text (refused refusal) =
    codes "refused " ++ decimal (refusal_number refusal) ++ codes " " ++ refusal_text refusal

-- the line of a reply: the session's name or '?', a space, the text, a line feed
abbrev pub reply_line : Option (List ℕ) → ReplyData → List ℕ
reply_line name reply = unwrap_or name (codes "?") ++ codes " " ++ reply_text reply ++ 10 ∷ []

-- the line of an answer, nothing where there is none
abbrev pub answer_text : Option Answer → List ℕ
answer_text None = []
answer_text (Some answer) = reply_line answer.name (reply_data answer.reply)

-- ==== the exchanges of a run: what each line asked that has a reply, and the reply. This project's profile.

pub record Exchange : Type 0 where
  -- what a line asked
  pub asked : AskedData
  pub reply : ReplyData

abbrev pub exchange : AskedData → ReplyData → Exchange
exchange asked reply = record { asked = asked; reply = reply }

-- whether a line that asks this has a reply
abbrev pub has_reply : AskedData → Bool
has_reply nothing = false
has_reply asked = true

-- what those of the lines ask that have a reply, in order
abbrev pub asked_in : List Line → List AskedData
asked_in lines = filter has_reply (map asked_by lines)

abbrev pub asked_of : List Exchange → List AskedData
asked_of exchanges = map (λ e. e.asked) exchanges

-- the replies of these exchanges, each in its line
abbrev pub replies_text : List Exchange → List ℕ
replies_text exchanges = flat_map (λ e. reply_line (name_in e.asked) e.reply) exchanges

-- ---- how exchanges lead from a state to another one, where `Calls` says how a call of the session of a name does, and with
-- what reply

-- what is asked leads from old to new with this reply: a bad line is refused for that, a call is answered; or memory was
-- refused, and everything is as it was
abbrev pub Answers : {S : Type 0} → (S → List ℕ → CallData → ReplyData → S → Type 0) → S → AskedData → ReplyData → S → Type 0
Answers Calls old nothing reply new = ⊥
Answers Calls old (bad name) reply new = ((reply ≡ refused BadLine) ⊎ (reply ≡ refused NoMemory)) × (new ≡ old)
Answers Calls old (good name call) reply new =
    Calls old name call reply new ⊎ ((reply ≡ refused NoMemory) × (new ≡ old))

abbrev pub LeadTo : {S : Type 0} → (S → List ℕ → CallData → ReplyData → S → Type 0) → S → List Exchange → S → Type 0
LeadTo Calls old [] new = new ≡ old
LeadTo {S} Calls old (exchange ∷ others) new =
    (mid : S) × Answers Calls old exchange.asked exchange.reply mid × LeadTo Calls mid others new

-- ---- what a run does to a reader and a writer whose bytes are known; what is not known may be anything. `Run` says of the
-- exchanges what replies they have

-- the whole script was read, each of its lines that has a reply has an exchange, and the replies were written
pub record RunsWhole (script left written after : Option (List ℕ)) (Run : List Exchange → Type 0) : Type 0 where
  pub bytes : List ℕ
  pub exchanges : List Exchange
  pub consumed : Consumes script left bytes
  pub ended : IsAtEnd left
  pub asked : asked_of exchanges ≡ asked_in (lines_of bytes)
  pub appended : Appends written after (replies_text exchanges)
  pub run : Run exchanges

-- a part of the script was read, each of its whole lines that has a reply has an exchange, and the replies were written
pub record RunsWholeLines (script left written after : Option (List ℕ)) (Run : List Exchange → Type 0) : Type 0 where
  pub bytes : List ℕ
  pub exchanges : List Exchange
  pub consumed : Consumes script left bytes
  pub asked : asked_of exchanges ≡ asked_in (whole_lines_of bytes)
  pub appended : Appends written after (replies_text exchanges)
  pub run : Run exchanges

-- a part of the script was read, its first lines have exchanges, and a beginning of the replies was written
pub record RunsPart (script left written after : Option (List ℕ)) (Run : List Exchange → Type 0) : Type 0 where
  pub bytes : List ℕ
  pub lines : List Line
  pub others : List Line
  pub exchanges : List Exchange
  pub consumed : Consumes script left bytes
  -- these bytes may break off inside a line, which is no line until the script ends
  pub read : (whole_lines_of bytes ≡ lines ++ others) ⊎ (IsAtEnd left × (lines_of bytes ≡ lines ++ others))
  pub asked : asked_of exchanges ≡ asked_in lines
  pub appended : AppendsPart written after (replies_text exchanges)
  pub run : Run exchanges

-- how a run may fail that gives this: what it did until a read or a write failed, that it tells which one did, and that want
-- of memory is no cause
pub record MayFail {A : Type 0} (result : Result A RunFault) (script left written after : Option (List ℕ)) (has_reader_failed has_writer_failed : Bool) (Run : List Exchange → Type 0) : Type 0 where
  pub read_failed : IsErrOf result ReadFailed → RunsWholeLines script left written after Run
  pub write_failed : IsErrOf result WriteFailed → RunsPart script left written after Run
  pub reader_failed : IsErrOf result ReadFailed ↔ (has_reader_failed ≡ true)
  pub writer_failed : IsErrOf result WriteFailed ↔ (has_writer_failed ≡ true)
  pub memory : IfErr result (λ fault. fault ≢ WithoutMemory)

-- ==== a script run: the book and the entered names of sessions, exchange by exchange. The place of a name is the number of its
-- session. This project's profile.

pub record ScriptState : Type 0 where
  -- the entered names, in the order of their entry
  pub names : List (List ℕ)
  pub book : BookState

-- these names, and this book
abbrev pub script_state : List (List ℕ) → BookState → ScriptState
script_state names book = record { names = names; book = book }

-- the place of a name among the entered ones, or the next free place
abbrev pub session_of : List (List ℕ) → List ℕ → ℕ
session_of names name = position_or_len (name_eq name) names

abbrev pub is_entered : List (List ℕ) → List ℕ → Bool
is_entered names name = list_any (λ other. name_eq name other) names

-- the names, with this one last where it is new
abbrev pub with_name : List (List ℕ) → List ℕ → List (List ℕ)
with_name names name = if is_entered names name then names else names ++ name ∷ []

-- a new name where all names are there
abbrev pub is_turned_away : List (List ℕ) → List ℕ → Bool
is_turned_away names name = not (is_entered names name) && nat_le MOST_SESSIONS (length names)

-- a call of the session of this name leads from old to new with this reply: a new name is turned away, with everything as it
-- was; or the name is entered and the book answers the call
abbrev pub AnswersCall : ScriptState → List ℕ → CallData → ReplyData → ScriptState → Type 0
AnswersCall old name call reply new =
    MatchBool (is_turned_away old.names name)
    ((reply ≡ refused TooManySessions) × (new ≡ old))
    ((new.names ≡ with_name old.names name)
    × IsCall old.book (session_of old.names name) call reply new.book)

-- the exchanges lead from these names and this book to those
abbrev pub IsScriptRun : ScriptState → List Exchange → ScriptState → Type 0
IsScriptRun old exchanges new = LeadTo AnswersCall old exchanges new

-- they lead somewhere
abbrev pub IsScriptBeginning : ScriptState → List Exchange → Type 0
IsScriptBeginning old exchanges = (new : ScriptState) × IsScriptRun old exchanges new
