-- The program: what its words ask for, and with which status it ends.
use Rattle.std.specs.Prelude.{◌≡◌, ◌⊎◌, ℕ, List, [], ◌∷◌, true, false, not, ◌&&◌, nat_le, if◌then◌else◌, Option, None, Some, is_some, unwrap_or, codes, Bool}
use Rattle.std.specs.Option.{option_and_then, option_map}
use Rattle.std.specs.Str.{bytes_eq}
use Rattle.clap.specs.Walk.{Rule}
use Rattle.clap.specs.Simple.{App, new_app, new_rule, on_top, with_rule}
use Rattle.clap.specs.declared.builder.action.ArgAction.TheVariants.{Help, Set, SetTrue}
use Rattle.clap.specs.declared.builder.value_parser.ValueParser.TheVariants.{Unsigned}
use Rattle.scm_cells.specs.Numbers.{count_of_word}
use Rattle.scm_monitor.specs.declared.settings.Options.{Options}
use Rattle.scm_monitor.specs.declared.settings.TheConstants.{DEFAULT_WORKERS, MOST_WORKERS}
use Rattle.scm_monitor.specs.declared.switches.Switches.{Switches}
use Rattle.scm_book.specs.Journal.{IsLegalBook}
use Rattle.scm_sessions.specs.declared.ended.Ended.{Ended}
use Rattle.scm_sessions.specs.declared.findings.Findings.{Findings}
use Rattle.scm_sessions.specs.inner.Findings.{status_of, FindsWhole}
use Rattle.scm_sessions.specs.inner.EachRuns.{FindsGroups}
use Rattle.scm_sessions.specs.inner.SharedRuns.{IsSharedRun}

-- ==== the words of the command line. This project's profile.

-- ---- which words are taken, and what they ask for

abbrev pub nothing_asked : Switches
nothing_asked = record { workers = None; each = false; check = false; journal = false }

-- the number of workers that a word says
abbrev pub workers_of_word : List ℕ → Option ℕ
workers_of_word word = option_and_then (λ n. if nat_le n MOST_WORKERS then Some n else None) (count_of_word word)

-- so many workers too, where their number wasn't asked for before
abbrev pub with_workers : Switches → ℕ → Option Switches
with_workers asked n = if is_some asked.workers then None else Some (record asked { workers = Some n })

-- what a word alone asks for too, where it wasn't there before
abbrev pub with_flag : Switches → List ℕ → Option Switches
with_flag asked word =
    if bytes_eq word (codes "--each") && not asked.each then Some (record asked { each = true })
    else (if bytes_eq word (codes "--check") && not asked.check then Some (record asked { check = true })
    else (if bytes_eq word (codes "--journal") && not asked.journal then Some (record asked { journal = true })
    else None))

-- what the words ask for after others; `--` may stand last
abbrev pub with_words : Switches → List (List ℕ) → Option Switches
with_words asked [] = Some asked
with_words asked (word ∷ []) = if bytes_eq word (codes "--") then Some asked else with_flag asked word
with_words asked (word ∷ next ∷ words) =
    if bytes_eq word (codes "--workers") then
    option_and_then (λ n. option_and_then (λ more. with_words more words) (with_workers asked n)) (workers_of_word next)
    else option_and_then (λ more. with_words more (next ∷ words)) (with_flag asked word)

abbrev pub asked_for : Switches → Options
asked_for asked = record {
  workers = unwrap_or asked.workers DEFAULT_WORKERS;
  each = asked.each;
  check = asked.check;
  journal = asked.journal;
}

-- the options that the words after the program's name ask for, None where a word isn't taken
abbrev pub options_of : List (List ℕ) → Option Options
options_of words = option_map asked_for (with_words nothing_asked words)

-- ---- help and version

abbrev pub IsHelp : List ℕ → Type 0
IsHelp word = (word ≡ codes "--help") ⊎ (word ≡ codes "-h")

abbrev pub IsVersion : List ℕ → Type 0
IsVersion word = (word ≡ codes "--version") ⊎ (word ≡ codes "-V")

-- such a word comes first, or after `--journal`; what stands behind it isn't read
abbrev pub WordComesFirst : (List ℕ → Type 0) → List (List ℕ) → Type 0
WordComesFirst Is words = (word : List ℕ) × (rest : List (List ℕ)) × Is word
    × ((words ≡ word ∷ rest) ⊎ (words ≡ codes "--journal" ∷ word ∷ rest))

-- what clap is told of the command line

abbrev pub workers_rule : Rule
workers_rule = record (new_rule (codes "workers")) {
  long = Some (codes "workers");
  action = Some Set;
  parser = Some (Unsigned 0 16);
  value_names = 1;
}

abbrev pub each_rule : Rule
each_rule = record (new_rule (codes "each")) {
  long = Some (codes "each");
  action = Some SetTrue;
}

abbrev pub check_rule : Rule
check_rule = record (new_rule (codes "check")) {
  long = Some (codes "check");
  action = Some SetTrue;
}

abbrev pub journal_rule : Rule
journal_rule = record (new_rule (codes "journal")) {
  long = Some (codes "journal");
  action = Some SetTrue;
}

abbrev pub help_rule : Rule
help_rule = record (new_rule (codes "help")) {
  short = Some 104;
  long = Some (codes "help");
  action = Some Help;
}

abbrev pub command_line : App
command_line = with_rule (with_rule (with_rule (with_rule (with_rule (on_top (λ top. record top {
  no_binary_name = true;
  disable_help_flag = true;
  has_version = true;
}) (new_app (codes "scm_monitor"))) workers_rule) each_rule) check_rule) journal_rule) help_rule

-- ==== how the program ends after a script that was run whole. This project's profile.

-- 7 where the audit disagreed, whatever was asked for; else the worst that was found, where that is asked for
abbrev pub status_at_end : Bool → Bool → Findings → ℕ
status_at_end agreed check found = if agreed then (if check then status_of found else 0) else 7

-- the script was run over a shared book, in groups or in its order, and ended so
abbrev pub RunsShared : Bool → Option (List ℕ) → Option (List ℕ) → Option (List ℕ) → Option (List ℕ) → Ended → Findings → Type 0
RunsShared true script left written after ended found = FindsGroups script left written after (IsSharedRun ended) found
RunsShared false script left written after ended found = FindsWhole script left written after (IsSharedRun ended) found

-- the script was run over a shared book as the options say, and the status tells that run's audit and findings
pub record IsStatusOfRun (script left written : Option (List ℕ)) (options : Options) (found : Findings) (status : ℕ) : Type 0 where
  pub ended : Ended
  pub after : Option (List ℕ)
  pub runs : RunsShared options.each script left written after ended found
  pub legal : IsLegalBook ended.audit.book
  pub status_is : status ≡ status_at_end ended.audit.agreed options.check found
