-- The evidence of a reply, as the rows of numbers that C reads.
use Rattle.std.specs.Prelude.{ℕ, ◌==◌, if◌then◌else◌, List, [], ◌∷◌, map, Option, None, Some, option_and_then, slice_get, ◌≡◌, length, MatchOption, MatchBool, option_map}
use Rattle.scm_frontier.specs.Situations.{Situated}
use Rattle.scm_orders.specs.declared.place.Place.{Place}
use Rattle.scm_orders.specs.declared.derivation.Fact.{Fact}
use Rattle.scm_orders.specs.declared.derivation.Fact.TheVariants.{Before, Sees, SeesFirst, Hidden, Unseen, UnseenFirst}
use Rattle.scm_orders.specs.declared.derivation.Rule.{Rule}
use Rattle.scm_orders.specs.declared.derivation.Rule.TheVariants.{Joined, Hidden as HiddenBy, Source, AfterAll, BeforeAll, AfterSource, Assumed, Lemma}
use Rattle.scm_orders.specs.declared.derivation.Line.{Line}
use Rattle.scm_orders.specs.Refuting.{hints_of}
use Rattle.scm_book.specs.Machine.{ReplyData, reply_data, done, marked, consistent, inconsistent, undecided, because, cycle, unknown, ops, listed, refused}
use Rattle.scm_sessions.specs.declared.replies.Answer.{Answer}
use Rattle.scm_embed.specs.declared.evidence.Piece.{Piece}
use Rattle.scm_embed.specs.declared.evidence.Piece.TheVariants.{Number, Cell, Open}
use Rattle.scm_cells.specs.CellLists.{is_name}
use Rattle.scm_embed.specs.declared.codes.TheConstants.{DONE, NO_EVIDENCE, STILL_OPEN}
use Rattle.scm_embed.specs.declared.answerer.Answerer.{Answerer}
use Rattle.scm_embed.specs.Exports.{IsBadNumber, TellsNumber}

-- ---- the evidence of a reply, as the rows of numbers that C reads.

-- a number alone, as the process of a step
abbrev pub number_row : ℕ → List Piece
number_row number = Number number ∷ []

-- a fixed value: its cell, and the value
abbrev pub fixed_row : List ℕ × ℕ → List Piece
fixed_row value = Cell value.0 ∷ Number value.1 ∷ []

-- a situation: how many operations of each process were executed
abbrev pub counts_row : Situated → List Piece
counts_row s = map Number s.counts

abbrev pub content_piece : Option ℕ → Piece
content_piece None = Open
content_piece (Some value) = Number value

-- a situation: what each cell holds
abbrev pub contents_row : Situated → List Piece
contents_row s = map content_piece s.contents

-- where no operation stands
abbrev pub nowhere : Place
nowhere = record { process = 0; at = 0 }

-- the number of what a line says, and its two operations, the first one nowhere where there is none
abbrev pub fact_parts : Fact → ℕ × Place × Place
fact_parts (Before from to) = (0, from, to)
fact_parts (Sees write read) = (1, write, read)
fact_parts (SeesFirst read) = (2, nowhere, read)
fact_parts (Hidden write read) = (3, write, read)
fact_parts (Unseen write read) = (4, write, read)
fact_parts (UnseenFirst read) = (5, nowhere, read)

-- the number of a rule, and the operation that hides, nowhere where there is none; the line that ends a block stands as a
-- place there
abbrev pub rule_parts : Rule → ℕ × Place
rule_parts Joined = (0, nowhere)
rule_parts (HiddenBy by) = (1, by)
rule_parts Source = (2, nowhere)
rule_parts AfterAll = (3, nowhere)
rule_parts BeforeAll = (4, nowhere)
rule_parts AfterSource = (5, nowhere)
rule_parts Assumed = (6, nowhere)
rule_parts (Lemma end) = (7, record { process = 0; at = end })

-- a line of a short refutation: what it says of which two operations, by which rule, and what hides
abbrev pub line_numbers : Line → List ℕ
line_numbers line =
    let says = fact_parts line.fact in
    let rule = rule_parts line.rule in
    says.0 ∷ says.1.process ∷ says.1.at ∷ says.2.process ∷ says.2.at ∷ rule.0 ∷ rule.1.process ∷ rule.1.at ∷ []

abbrev pub line_row : Line → List Piece
line_row line = map Number (line_numbers line)

-- the earlier lines that a line goes by, among the hints of all lines
abbrev pub hints_row : List ℕ → Line → List Piece
hints_row hints line = map Number (hints_of hints line)

-- the rows of this part of a reply, None where it has no such part
abbrev pub rows_of : ReplyData → ℕ → Option (List (List Piece))
rows_of (consistent schedule fixed) part =
    if part == 0 then Some (map number_row schedule)
    else if part == 1 then Some (map fixed_row fixed)
    else None
rows_of (because situations) part =
    if part == 2 then Some (map counts_row situations)
    else if part == 3 then Some (map contents_row situations)
    else None
rows_of (marked mark) part = if part == 4 then Some (number_row mark ∷ []) else None
rows_of (cycle lines hints) part =
    if part == 5 then Some (map line_row lines)
    else if part == 6 then Some (map (hints_row hints) lines)
    else None
rows_of done part = None
rows_of inconsistent part = None
rows_of undecided part = None
rows_of unknown part = None
rows_of (ops operations) part = None
rows_of (listed names) part = None
rows_of (refused refusal) part = None

-- those of the last answer, none where nothing was answered
abbrev pub evidence_of : Option Answer → ℕ → Option (List (List Piece))
evidence_of None part = None
evidence_of (Some answer) part = rows_of (reply_data answer.reply) part

-- what stands in a field of a row
abbrev pub piece_at : List (List Piece) → ℕ → ℕ → Option Piece
piece_at rows row field = option_and_then (λ pieces. slice_get pieces field) (slice_get rows row)

-- ---- what C reads of a monitor: numbers of names, and the evidence of the last reply.

-- the same sessions, book and last answer
pub record KeepsAnswer (before after : Answerer) : Type 0 where
  pub sessions : after.sessions ≡ before.sessions
  pub answer : after.answer ≡ before.answer

-- the number of the name that a word is; BAD_NUMBER just where it is none
abbrev pub NamesAt : Answerer → List ℕ → ℕ → ℕ → Answerer → Type 0
NamesAt before word code number after =
    KeepsAnswer before after × MatchBool (is_name word)
    (TellsNumber before.names.items word code number after.names.items)
    (IsBadNumber before code after)

-- how many rows a part of the last reply has; NO_EVIDENCE just where it has no such part
abbrev pub CountsAt : Answerer → ℕ → ℕ → ℕ → Type 0
CountsAt answerer part code count =
    MatchOption (option_map length (evidence_of answerer.answer part)) (code ≡ NO_EVIDENCE) (λ rows. (code ≡ DONE) × (count ≡ rows))

-- a number as it is; a cell by the number of its name, which it gets where it has none; STILL_OPEN for contents that are open
abbrev pub TellsPiece : Answerer → Piece → ℕ → ℕ → Answerer → Type 0
TellsPiece before (Number n) code number after = (code ≡ DONE) × (number ≡ n) × (after ≡ before)
TellsPiece before Open code number after = (code ≡ STILL_OPEN) × (after ≡ before)
TellsPiece before (Cell name) code number after =
    KeepsAnswer before after × TellsNumber before.names.items name code number after.names.items

-- what stands in a field of a row of a part of the last reply; BAD_NUMBER just where there is no such row or field of the part
abbrev pub ReadsAt : Answerer → ℕ → ℕ → ℕ → ℕ → ℕ → Answerer → Type 0
ReadsAt before part row field code number after =
    MatchOption (option_map (λ rows. piece_at rows row field) (evidence_of before.answer part)) ((code ≡ NO_EVIDENCE) × (after ≡ before))
    (λ found. MatchOption found (IsBadNumber before code after) (λ piece. TellsPiece before piece code number after))
