-- The lines of a script, and what each asks. This project's profile.
use Rattle.std.specs.Prelude.{ℕ, List, length, Bool, ◌||◌, ◌==◌, nat_lt, filter, Option, option_and_then, slice_get, codes, if◌then◌else◌, None, Some, ◌≢◌, [], ◌∷◌, map, All, take, drop, false, ◌&&◌, ◌+◌, position}
use Rattle.std.specs.List.{slice_split}
use Rattle.scm_lowering.specs.Accesses.{name_of_word, access_of_words}
use Rattle.std.specs.Cmp.Lexicographic.{pointwise}
use Rattle.scm_sessions.specs.declared.commands.Command.{Command}
use Rattle.scm_sessions.specs.declared.commands.Command.TheVariants.{OpenTrace, ClaimProcess, ReleaseProcess, Report, SetMark, GoBack, RaiseBudget, Ask, Why, Cycle, ShowOps, ListTraces, CloseTrace}
use Rattle.std.specs.Io.BufRead.{strip_last}
use Rattle.scm_sequences.specs.declared.limits.TheConstants.{LONGEST_LINE}
use Rattle.std.specs.Option.{option_map, option_map_or}
use Rattle.scm_cells.specs.declared.width.Width.{Width}
use Rattle.scm_cells.specs.declared.width.Width.TheVariants.{W, D}
use Rattle.scm_cells.specs.CellLists.{is_name, initial_of_word}
use Rattle.scm_cells.specs.Numbers.{count_of_word}
use Rattle.scm_book.specs.declared.call.Decl.{Decl}
use Rattle.scm_book.specs.Machine.{CallData, call_data, opens, claims, releases, reports, sets_mark, goes_back, raises, asks, asks_why, asks_cycle, shows, lists, closes}
use Rattle.scm_sessions.specs.declared.asking.Asked.{Asked}
use Rattle.scm_sessions.specs.declared.asking.Asked.TheVariants.{Nothing, Bad, Good}

-- ==== the words of a line: what stands between spaces and tabs. This project's profile.

-- a space or a tab
abbrev pub is_blank : ℕ → Bool
is_blank b = b == 32 || b == 9

-- what stands before, between and after the blanks of a line, empty ones too
abbrev pub split_at_blanks : List ℕ → List (List ℕ)
split_at_blanks bytes = slice_split is_blank bytes

-- the words of a line, in order
abbrev pub words_of : List ℕ → List (List ℕ)
words_of bytes = filter (λ field. nat_lt 0 (length field)) (split_at_blanks bytes)

-- the first word of a line where it is a name
abbrev pub name_of_line : List ℕ → Option (List ℕ)
name_of_line bytes = option_and_then name_of_word (slice_get (words_of bytes) 0)

-- ==== the commands: the word after the session's name. This project's profile.

-- whether a word is this text
abbrev pub is_word : List ℕ → List ℕ → Bool
is_word = pointwise ◌==◌

-- the command that a word is, if it is one
abbrev pub command_of_word : List ℕ → Option Command
command_of_word word =
    if is_word word (codes "open") then Some OpenTrace
    else (if is_word word (codes "claim") then Some ClaimProcess
    else (if is_word word (codes "release") then Some ReleaseProcess
    else (if is_word word (codes "do") then Some Report
    else (if is_word word (codes "mark") then Some SetMark
    else (if is_word word (codes "back") then Some GoBack
    else (if is_word word (codes "raise") then Some RaiseBudget
    else (if is_word word (codes "ask") then Some Ask
    else (if is_word word (codes "why") then Some Why
    else (if is_word word (codes "cycle") then Some Cycle
    else (if is_word word (codes "show") then Some ShowOps
    else (if is_word word (codes "list") then Some ListTraces
    else (if is_word word (codes "close") then Some CloseTrace
    else None))))))))))))

-- ==== the lines of a script. A script is a list of bytes, cut at each line feed; bytes after the last line feed are a
-- line too where there are any. A carriage return at the end of a line is dropped. A line that has more than
-- LONGEST_LINE bytes before that drop is too long. This project's profile.

pub data Line : Type 0 where
  too_long : Line
  text : List ℕ → Line

-- a line from its bytes, None where it is too long
abbrev pub line_given : Option (List ℕ) → Line
line_given None = too_long
line_given (Some bytes) = text bytes

-- a byte that is no line feed goes on in front of the first piece, or is a piece of its own
abbrev pub onto_first : ℕ → List (List ℕ) → List (List ℕ)
onto_first b [] = (b ∷ []) ∷ []
onto_first b (piece ∷ pieces) = (b ∷ piece) ∷ pieces

-- the pieces between line feeds
abbrev pub pieces_of : List ℕ → List (List ℕ)
pieces_of [] = []
pieces_of (b ∷ bytes) = if b == 10 then [] ∷ pieces_of bytes else onto_first b (pieces_of bytes)

-- the same where bytes after the last line feed don't count
abbrev pub onto_whole : ℕ → List (List ℕ) → List (List ℕ)
onto_whole b [] = []
onto_whole b (piece ∷ pieces) = (b ∷ piece) ∷ pieces

-- the pieces that a line feed ends
abbrev pub whole_pieces_of : List ℕ → List (List ℕ)
whole_pieces_of [] = []
whole_pieces_of (b ∷ bytes) = if b == 10 then [] ∷ whole_pieces_of bytes else onto_whole b (whole_pieces_of bytes)

abbrev pub line_of : List ℕ → Line
line_of piece = if nat_lt LONGEST_LINE (length piece) then too_long else text (strip_last 13 piece)

-- a line's text as it stands, without line feed and carriage return: one that is longer than a line's is no line's
abbrev pub line_of_text : List ℕ → Line
line_of_text bytes = if nat_lt LONGEST_LINE (length bytes) then too_long else text bytes

-- all lines of a script
abbrev pub lines_of : List ℕ → List Line
lines_of bytes = map line_of (pieces_of bytes)

-- the lines of a script that a line feed ends
abbrev pub whole_lines_of : List ℕ → List Line
whole_lines_of bytes = map line_of (whole_pieces_of bytes)

abbrev pub HasNoFeed : List ℕ → Type 0
HasNoFeed bytes = All (λ b. b ≢ 10) bytes

-- ==== what a line of a script asks. This project's profile.

pub data AskedData : Type 0 where
  -- no reply
  nothing : AskedData
  -- a bad line, under the name of its session where its first word is a name
  bad : Option (List ℕ) → AskedData
  -- a call of the session of this name
  good : List ℕ → CallData → AskedData

-- ---- open T procs budget DECL ..

abbrev pub width_of_letter : ℕ → Option Width
width_of_letter b = if b == 119 then Some W else (if b == 100 then Some D else None)

-- what stands before and after the colon of a declaration: a name, and the letter of a width, '=' and what the cell holds
-- at first
abbrev pub declaration_of : List ℕ → List ℕ → Option Decl
declaration_of name (letter ∷ equals ∷ rest) =
    if is_name name && equals == 61 then
    option_and_then (λ width. option_map (λ initial. record { name = name; width = width; initial = initial })
    (initial_of_word rest)) (width_of_letter letter)
    else None
declaration_of name _ = None

-- a declaration is one word, cut at its first colon
abbrev pub declaration_of_word : List ℕ → Option Decl
declaration_of_word word =
    option_and_then (λ i. declaration_of (take i word) (drop (i + 1) word)) (position (λ b. b == 58) word)

abbrev pub declarations_of_words : List (List ℕ) → Option (List Decl)
declarations_of_words [] = Some []
declarations_of_words (word ∷ words) =
    option_and_then (λ decl. option_map (λ decls. decl ∷ decls) (declarations_of_words words)) (declaration_of_word word)

abbrev pub open_of_words : List (List ℕ) → Option CallData
open_of_words (trace ∷ procs ∷ budget ∷ words) =
    if is_name trace then
    option_and_then (λ procs. option_and_then (λ budget. option_map (λ decls. opens trace procs budget decls)
    (declarations_of_words words)) (count_of_word budget)) (count_of_word procs)
    else None
open_of_words _ = None

-- ---- do T p ACCESS

abbrev pub report_of_words : List (List ℕ) → Option CallData
report_of_words (trace ∷ process ∷ words) =
    if is_name trace then
    option_and_then (λ p. option_map (λ access. reports trace p access) (access_of_words words)) (count_of_word process)
    else None
report_of_words _ = None

-- ---- claim T p, release T p, back T m, raise T n, show T p

-- a trace's name and a count
abbrev pub named_count : List (List ℕ) → Option (List ℕ × ℕ)
named_count (trace ∷ count ∷ []) =
    if is_name trace then option_map (λ n. (trace, n)) (count_of_word count) else None
named_count _ = None

abbrev pub claim_of_words : List (List ℕ) → Option CallData
claim_of_words words = option_map (λ named. claims named.0 named.1) (named_count words)

abbrev pub release_of_words : List (List ℕ) → Option CallData
release_of_words words = option_map (λ named. releases named.0 named.1) (named_count words)

abbrev pub back_of_words : List (List ℕ) → Option CallData
back_of_words words = option_map (λ named. goes_back named.0 named.1) (named_count words)

abbrev pub raise_of_words : List (List ℕ) → Option CallData
raise_of_words words = option_map (λ named. raises named.0 named.1) (named_count words)

abbrev pub show_of_words : List (List ℕ) → Option CallData
show_of_words words = option_map (λ named. shows named.0 named.1) (named_count words)

-- ---- mark T, close T

-- a trace's name alone
abbrev pub named_alone : List (List ℕ) → Option (List ℕ)
named_alone (trace ∷ []) = name_of_word trace
named_alone _ = None

abbrev pub mark_of_words : List (List ℕ) → Option CallData
mark_of_words words = option_map sets_mark (named_alone words)

abbrev pub close_of_words : List (List ℕ) → Option CallData
close_of_words words = option_map closes (named_alone words)

-- ---- ask T, ask T m, why T, why T m, cycle T, cycle T m

-- a trace's name, and perhaps a mark
abbrev pub named_mark : List (List ℕ) → Option (List ℕ × Option ℕ)
named_mark (trace ∷ []) = if is_name trace then Some (trace, None) else None
named_mark (trace ∷ mark ∷ []) =
    if is_name trace then option_map (λ m. (trace, Some m)) (count_of_word mark) else None
named_mark _ = None

abbrev pub ask_of_words : List (List ℕ) → Option CallData
ask_of_words words = option_map (λ named. asks named.0 named.1) (named_mark words)

abbrev pub why_of_words : List (List ℕ) → Option CallData
why_of_words words = option_map (λ named. asks_why named.0 named.1) (named_mark words)

abbrev pub cycle_of_words : List (List ℕ) → Option CallData
cycle_of_words words = option_map (λ named. asks_cycle named.0 named.1) (named_mark words)

-- ---- list

abbrev pub list_of_words : List (List ℕ) → Option CallData
list_of_words [] = Some lists
list_of_words _ = None

-- ---- every call

-- the call of a command with these words after it
abbrev pub call_of : Command → List (List ℕ) → Option CallData
call_of OpenTrace words = open_of_words words
call_of ClaimProcess words = claim_of_words words
call_of ReleaseProcess words = release_of_words words
call_of Report words = report_of_words words
call_of SetMark words = mark_of_words words
call_of GoBack words = back_of_words words
call_of RaiseBudget words = raise_of_words words
call_of Ask words = ask_of_words words
call_of Why words = why_of_words words
call_of Cycle words = cycle_of_words words
call_of ShowOps words = show_of_words words
call_of ListTraces words = list_of_words words
call_of CloseTrace words = close_of_words words

-- the call that the words after the session's name are
abbrev pub call_of_words : List (List ℕ) → Option CallData
call_of_words [] = None
call_of_words (word ∷ words) = option_and_then (λ command. call_of command words) (command_of_word word)

abbrev pub asked_by_words : List (List ℕ) → AskedData
asked_by_words [] = nothing
asked_by_words (session ∷ words) =
    if is_name session then option_map_or (λ call. good session call) (call_of_words words) (bad (Some session))
    else bad None

-- a line whose first byte is '#'
abbrev pub is_comment : List ℕ → Bool
is_comment [] = false
is_comment (b ∷ bytes) = b == 35

abbrev pub asked_by : Line → AskedData
asked_by too_long = bad None
asked_by (text bytes) = if is_comment bytes then nothing else asked_by_words (words_of bytes)

-- the name under which the reply stands, None for '?'
abbrev pub name_in : AskedData → Option (List ℕ)
name_in nothing = None
name_in (bad name) = name
name_in (good name call) = Some name

-- what a line was read as
abbrev pub asked_data : Asked → AskedData
asked_data Nothing = nothing
asked_data (Bad name) = bad name
asked_data (Good session call) = good session (call_data call)
