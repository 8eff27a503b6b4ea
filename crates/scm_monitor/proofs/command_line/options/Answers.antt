use Rattle.std.proofs.Common.{map}
use Rattle.scm_monitor.proofs.Parsing.{help_asks_no_run, version_asks_no_run}
use Rattle.scm_monitor.proofs.command_line.options.Goals as goal

-- src/command_line.rt
pub returns-in-Some-clause-help : goal.returns-in-Some-clause-help
returns-in-Some-clause-help c = λ first.
    let none = help_asks_no_run (map (λ w. w.now) c.args.words.now) first in
    let some = c.read_options.ensures.read in
    let is = c.in-Some.is in absurd (cc)

-- src/command_line.rt
pub returns-in-Some-clause-version : goal.returns-in-Some-clause-version
returns-in-Some-clause-version c = λ first.
    let none = version_asks_no_run (map (λ w. w.now) c.args.words.now) first in
    let some = c.read_options.ensures.read in
    let is = c.in-Some.is in absurd (cc)
