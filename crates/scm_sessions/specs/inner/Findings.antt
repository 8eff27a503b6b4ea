-- What a run found that a tester wants to know at once: the first line that was refused, and what questions were answered. This
-- project's profile.
use Rattle.std.specs.Prelude.{ℕ, ◌≡◌, ◌+◌, List, [], ◌∷◌, length, map, Bool, true, false, ◌||◌, nat_le, if◌then◌else◌, Option, None, Some, is_some}
use Rattle.std.specs.List.{list_any, zip}
use Rattle.std.specs.Option.{option_map, option_or}
use Rattle.scm_sequences.specs.declared.refusal.Refusal.{Refusal}
use Rattle.scm_results.specs.Totals.{capped}
use Rattle.scm_book.specs.Machine.{ReplyData, inconsistent, undecided, because, cycle, refused}
use Rattle.scm_sessions.specs.declared.findings.Findings.{Findings}
use Rattle.scm_sessions.specs.declared.findings.RefusedLine.{RefusedLine}
use Rattle.scm_sessions.specs.Asking.{Line, lines_of, asked_by}
use Rattle.scm_sessions.specs.Script.{Exchange, has_reply, RunsWhole}

abbrev pub replies_of : List Exchange → List ReplyData
replies_of exchanges = map (λ e. e.reply) exchanges

-- the numbers of those of the lines that have a reply, where the first line has this number
abbrev pub numbers_from : ℕ → List Line → List ℕ
numbers_from n [] = []
numbers_from n (line ∷ lines) =
    if has_reply (asked_by line) then n ∷ numbers_from (n + 1) lines else numbers_from (n + 1) lines

abbrev pub refusal_of_reply : ReplyData → Option Refusal
refusal_of_reply (refused refusal) = Some refusal
refusal_of_reply reply = None

abbrev pub answers_inconsistent : ReplyData → Bool
answers_inconsistent inconsistent = true
answers_inconsistent (because situations) = true
answers_inconsistent (cycle lines hints) = true
answers_inconsistent reply = false

abbrev pub answers_undecided : ReplyData → Bool
answers_undecided undecided = true
answers_undecided reply = false

-- the line of this number, where it was refused
abbrev pub refused_line : ℕ → ReplyData → Option RefusedLine
refused_line n reply = option_map (λ refusal. record { number = capped n; refusal = refusal }) (refusal_of_reply reply)

-- the first of the replies that is a refusal, each reply with the number of its line
abbrev pub first_refused : List (ℕ × ReplyData) → Option RefusedLine
first_refused [] = None
first_refused (line ∷ lines) = option_or (refused_line line.0 line.1) (first_refused lines)

-- what a run over these lines found, whose exchanges these are
abbrev pub findings_of : List Line → List Exchange → Findings
findings_of lines exchanges = record {
  lines = capped (length lines);
  refused = first_refused (zip (numbers_from 1 lines) (replies_of exchanges));
  is_inconsistent = list_any answers_inconsistent (replies_of exchanges);
  is_undecided = list_any answers_undecided (replies_of exchanges);
}

-- the status that tells the worst of it
abbrev pub status_of : Findings → ℕ
status_of found =
    if is_some found.refused then 4
    else (if found.is_inconsistent then 5
    else (if found.is_undecided then 6 else 0))

-- the whole script was run, with these findings
pub record FindsWhole (script left written after : Option (List ℕ)) (Run : List Exchange → Type 0) (found : Findings) : Type 0 where
  pub runs : RunsWhole script left written after Run
  pub found_is : found ≡ findings_of (lines_of runs.bytes) runs.exchanges

-- ---- line by line

-- one line more
abbrev pub with_line : Findings → Findings
with_line found = record found { lines = capped (found.lines + 1) }

-- the reply to the last line
abbrev pub with_last_reply : Findings → ReplyData → Findings
with_last_reply found reply = record found {
  refused = option_or found.refused (refused_line found.lines reply);
  is_inconsistent = if answers_inconsistent reply then true else found.is_inconsistent;
  is_undecided = if answers_undecided reply then true else found.is_undecided;
}

-- one line more, with its reply where it has one
abbrev pub with_answer : Findings → List ReplyData → Findings
with_answer found [] = with_line found
with_answer found (reply ∷ others) = with_last_reply (with_line found) reply

-- ---- where lines are not answered in their order

-- the one of two refused lines that stands first
abbrev pub earlier : Option RefusedLine → Option RefusedLine → Option RefusedLine
earlier None other = other
earlier (Some line) None = Some line
earlier (Some line) (Some other) = if nat_le line.number other.number then Some line else Some other

-- the first of the lines that were refused, each reply with the number of its line, in any order
abbrev pub earliest_refused : List (ℕ × ReplyData) → Option RefusedLine
earliest_refused [] = None
earliest_refused (line ∷ lines) = earlier (refused_line line.0 line.1) (earliest_refused lines)

-- what is found where so many lines were read, and none is answered yet
abbrev pub unanswered : ℕ → Findings
unanswered lines = record { lines = capped lines; refused = None; is_inconsistent = false; is_undecided = false }

-- what these replies say, each with the number of its line
abbrev pub found_in : List (ℕ × ReplyData) → Findings
found_in answered = record {
  lines = 0;
  refused = earliest_refused answered;
  is_inconsistent = list_any answers_inconsistent (map (λ line. line.1) answered);
  is_undecided = list_any answers_undecided (map (λ line. line.1) answered);
}

-- with what was found in other lines too
abbrev pub with_findings : Findings → Findings → Findings
with_findings found other = record found {
  refused = earlier found.refused other.refused;
  is_inconsistent = found.is_inconsistent || other.is_inconsistent;
  is_undecided = found.is_undecided || other.is_undecided;
}
