-- What is left of a script that a line reader reads from a port, and what one line takes of it.
use Rattle.std.specs.Prelude.{ℕ, ◌≡◌, ◌+◌, ◌-◌, ◌*◌, ◌<◌, List, [], ◌∷◌, ◌++◌, length, take, drop, Option, if◌then◌else◌}
use Rattle.std.specs.Io.BufRead.{strip_last}
use Rattle.std.specs.Io.KnownBytes.{Keeps, Consumes, IsAtEnd, prepend_known}
use Rattle.scm_sequences.specs.declared.limits.TheConstants.{MOST_READS}
use Rattle.scm_sessions.specs.declared.port.Port.{Port}
use Rattle.scm_sessions.specs.declared.reading.Cut.{Cut}
use Rattle.scm_sessions.specs.declared.reading.Cut.TheVariants.{Whole, Last, End}
use Rattle.scm_sessions.specs.declared.reading.LineReader.{LineReader}
use Rattle.scm_sessions.specs.declared.reading.TheConstants.{CHUNK}
use Rattle.scm_sessions.specs.Asking.{Line, too_long, text, line_of, HasNoFeed}
use Rattle.scm_sessions.specs.Script.{inner_of, reads_of}

-- the bytes that were read and not yet handed out
abbrev pub unread_of : LineReader → List ℕ
unread_of lines = drop lines.start (take lines.end lines.chunk.items)

-- the bytes that are left of the script, where they are known
abbrev pub left_of : {R : Type 0} → (R → Option (List ℕ)) → LineReader → Port R → Option (List ℕ)
left_of remaining lines port = prepend_known (unread_of lines) (remaining (inner_of port))

-- at most how many bytes can still be handed out
abbrev pub most_bytes_left : {R : Type 0} → LineReader → Port R → ℕ
most_bytes_left lines port = (MOST_READS - reads_of port) * (CHUNK + 1) + (lines.end - lines.start)

-- the line that was taken last
abbrev pub held_line : LineReader → Line
held_line lines = if lines.is_long then too_long else text (strip_last 13 lines.line.items)

-- what taking this line took of the bytes that were left: a piece and its line feed, a last piece without one,
-- or nothing at the end
abbrev pub TakesLine : Cut → Option (List ℕ) → Option (List ℕ) → Line → Type 0
TakesLine Whole old new line =
    (piece : List ℕ) × HasNoFeed piece × Consumes old new (piece ++ 10 ∷ []) × (line ≡ line_of piece)
TakesLine Last old new line =
    (piece : List ℕ) × HasNoFeed piece × (0 < length piece) × Consumes old new piece × IsAtEnd new
    × (line ≡ line_of piece)
TakesLine End old new line = IsAtEnd new × Keeps old new
