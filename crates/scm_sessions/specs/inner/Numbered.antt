-- The lines of a script with their numbers. This project's profile.
use Rattle.std.specs.Prelude.{ℕ, ◌+◌, List, [], ◌∷◌, map, filter}
use Rattle.scm_results.specs.Totals.{capped}
use Rattle.scm_sessions.specs.declared.numbered.NumberedLine.{NumberedLine}
use Rattle.scm_sessions.specs.Asking.{Line, AskedData, asked_by, asked_data}
use Rattle.scm_sessions.specs.Script.{has_reply}

pub record Numbered : Type 0 where
  -- the number of a line in its script, from 1 on, or 2^64 - 1 where it is more
  pub number : ℕ
  -- what the line asks
  pub asked : AskedData

abbrev pub numbered : ℕ → AskedData → Numbered
numbered number asked = record { number = number; asked = asked }

-- what each of these lines asks, where the first one has this number
abbrev pub numbered_from : ℕ → List Line → List Numbered
numbered_from n [] = []
numbered_from n (line ∷ lines) = numbered (capped n) (asked_by line) ∷ numbered_from (n + 1) lines

-- those of them that have a reply, in order
abbrev pub replied : List Numbered → List Numbered
replied lines = filter (λ line. has_reply line.asked) lines

-- what those of a script's lines ask that have a reply, in order
abbrev pub numbered_in : List Line → List Numbered
numbered_in lines = replied (numbered_from 1 lines)

abbrev pub all_asked : List Numbered → List AskedData
all_asked lines = map (λ line. line.asked) lines

abbrev pub all_numbers : List Numbered → List ℕ
all_numbers lines = map (λ line. line.number) lines

-- a line as it was read
abbrev pub line_data : NumberedLine → Numbered
line_data line = numbered line.number (asked_data line.asked)
