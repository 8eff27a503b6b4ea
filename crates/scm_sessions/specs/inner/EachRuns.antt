-- A script run with a thread for each session: its lines are answered in groups by the names that they begin with. This
-- project's profile.
use Rattle.std.specs.Prelude.{ℕ, ◌≡◌, ◌⊎◌, List, length, Option}
use Rattle.std.specs.List.{list_any, zip}
use Rattle.std.specs.Io.KnownBytes.{Consumes, Appends, IsAtEnd}
use Rattle.scm_results.specs.Totals.{capped}
use Rattle.scm_sessions.specs.declared.findings.Findings.{Findings}
use Rattle.scm_sessions.specs.Asking.{Line, lines_of, whole_lines_of}
use Rattle.scm_sessions.specs.Script.{Exchange, asked_of, replies_text, AppendsPart}
use Rattle.scm_sessions.specs.inner.Numbered.{numbered_in, all_asked, all_numbers}
use Rattle.scm_sessions.specs.inner.Findings.{replies_of, earliest_refused, answers_inconsistent, answers_undecided}
use Rattle.scm_sessions.specs.inner.Groups.{grouped}

-- the whole script was read, each of its lines that has a reply has an exchange, group after group, and the replies were written
pub record RunsGroups (script left written after : Option (List ℕ)) (Run : List Exchange → Type 0) : Type 0 where
  pub bytes : List ℕ
  pub exchanges : List Exchange
  pub consumed : Consumes script left bytes
  pub ended : IsAtEnd left
  pub asked : asked_of exchanges ≡ all_asked (grouped (numbered_in (lines_of bytes)))
  pub appended : Appends written after (replies_text exchanges)
  pub run : Run exchanges

-- what a run over these lines found, whose exchanges these are, group after group: the first refused line is that of the smallest
-- number, whatever group it stands in
abbrev pub group_findings_of : List Line → List Exchange → Findings
group_findings_of lines exchanges = record {
  lines = capped (length lines);
  refused = earliest_refused (zip (all_numbers (grouped (numbered_in lines))) (replies_of exchanges));
  is_inconsistent = list_any answers_inconsistent (replies_of exchanges);
  is_undecided = list_any answers_undecided (replies_of exchanges);
}

-- the whole script was run, with these findings
pub record FindsGroups (script left written after : Option (List ℕ)) (Run : List Exchange → Type 0) (found : Findings) : Type 0 where
  pub runs : RunsGroups script left written after Run
  pub found_is : found ≡ group_findings_of (lines_of runs.bytes) runs.exchanges

-- a part of the script was read, and so it is with its whole lines
pub record RunsGroupsWholeLines (script left written after : Option (List ℕ)) (Run : List Exchange → Type 0) : Type 0 where
  pub bytes : List ℕ
  pub exchanges : List Exchange
  pub consumed : Consumes script left bytes
  pub asked : asked_of exchanges ≡ all_asked (grouped (numbered_in (whole_lines_of bytes)))
  pub appended : Appends written after (replies_text exchanges)
  pub run : Run exchanges

-- the script was read, or a part of it, and a beginning of the replies was written
pub record RunsGroupsPart (script left written after : Option (List ℕ)) (Run : List Exchange → Type 0) : Type 0 where
  pub bytes : List ℕ
  pub lines : List Line
  pub exchanges : List Exchange
  pub consumed : Consumes script left bytes
  -- its whole lines, or where it ended all of them
  pub lines_are : (lines ≡ whole_lines_of bytes) ⊎ (IsAtEnd left × (lines ≡ lines_of bytes))
  pub asked : asked_of exchanges ≡ all_asked (grouped (numbered_in lines))
  pub appended : AppendsPart written after (replies_text exchanges)
  pub run : Run exchanges
