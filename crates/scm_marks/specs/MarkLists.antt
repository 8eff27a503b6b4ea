-- Marks: lengths in the order in which they were set; a mark is named by its place. This project's profile.
use Rattle.std.specs.Prelude.{ℕ, ◌+◌, List, length, take, Option, None, Some, nat_le, if◌then◌else◌, Result, slice_get}
use Rattle.std.specs.Option.{ok_or}
use Rattle.scm_sequences.specs.declared.refusal.Refusal.{Refusal}
use Rattle.scm_sequences.specs.declared.refusal.Refusal.TheVariants.{NoSuchMark, TooManyMarks}
use Rattle.scm_sequences.specs.declared.limits.TheConstants.{MOST_MARKS}

-- why no mark can be set, if so
abbrev pub set_refusal : List (List ℕ) → Option Refusal
set_refusal marks = if nat_le MOST_MARKS (length marks) then Some TooManyMarks else None

-- the lengths of mark n, or the refusal where there is none
abbrev pub mark_at : List (List ℕ) → ℕ → Result (List ℕ) Refusal
mark_at marks n = ok_or (slice_get marks n) NoSuchMark

-- the marks up to mark n, which stays
abbrev pub marks_up_to : List (List ℕ) → ℕ → List (List ℕ)
marks_up_to marks n = take (n + 1) marks
