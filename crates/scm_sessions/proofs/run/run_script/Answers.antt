use Rattle.scm_sessions.proofs.Naming.{RunsWhole-named, FindsWhole-named}
use Rattle.scm_sessions.proofs.run.run_script.Goals as goal

pub returns-clause-ok : goal.returns-clause-ok
returns-clause-ok g c =
    FindsWhole-named c.in_ok-run_lines.ensures.ok c.new-sessions.ensures c.into_parts.ensures.names c.into_parts.ensures.book

pub returns-clause-named : goal.returns-clause-named
returns-clause-named g c =
    RunsWhole-named c.in_ok-run_lines.ensures.ok.runs c.new-sessions.ensures c.into_parts.ensures.names c.into_parts.ensures.book
