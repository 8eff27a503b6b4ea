use Rattle.std.proofs.Common.{◌≡◌, ◌≤◌, length, IfSome}
use Rattle.clap.specs.Walk.{texts}
use Rattle.scm_monitor.specs.declared.settings.TheConstants.{MOST_WORKERS}
use Rattle.scm_monitor.specs.Program.{with_words, nothing_asked}
use Rattle.scm_monitor.proofs.switches.read_switches.Given as goal

-- what was asked for so far, and by the words that are left, is what all words ask for
abbrev pub invariant-each : goal.invariant-each
invariant-each l = record {
  read : with_words l.asked (texts l.rest) ≡ with_words nothing_asked (texts l.fn.words);
  few : IfSome l.asked.workers (λ n. n ≤ MOST_WORKERS);
}

abbrev pub decreases-each : goal.decreases-each
decreases-each l = length l.rest
