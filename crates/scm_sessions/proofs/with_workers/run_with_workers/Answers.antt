use Rattle.scm_sessions.proofs.Running.{FindsWhole-map}
use Rattle.scm_sessions.proofs.Sharing.{shared_run, covered_named}
use Rattle.scm_sessions.proofs.with_workers.run_with_workers.Goals as goal

pub returns-clause-ok : goal.returns-clause-ok
returns-clause-ok g c =
    let ran = rw c.in_ok-passes.was at c.run_beside_workers-ran.ensures.ok in
    FindsWhole-map (λ exchanges lead. shared_run _ _ exchanges lead ran.numbered c.audit.ensures.agreed.0) ran.finds

pub returns-clause-named : goal.returns-clause-named
returns-clause-named g c =
    let ran = rw c.in_ok-passes.was at c.run_beside_workers-ran.ensures.ok in
    λ agreed. covered_named _ _ _ ran.each ran.numbered (c.audit.ensures.agreed.0 agreed).0
