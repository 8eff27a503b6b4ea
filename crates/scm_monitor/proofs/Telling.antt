-- The status of a run over a shared book.
use Rattle.std.proofs.Common.{◌≡◌, ℕ, List, Option, Result, Ok, Err, IfOk}
use Rattle.scm_book.specs.Journal.{IsLegalBook}
use Rattle.scm_sessions.specs.declared.ended.Ended.{Ended}
use Rattle.scm_sessions.specs.declared.fault.RunFault.{RunFault}
use Rattle.scm_sessions.specs.declared.findings.Findings.{Findings}
use Rattle.scm_monitor.specs.declared.settings.Options.{Options}
use Rattle.scm_monitor.specs.Program.{status_at_end, RunsShared, IsStatusOfRun}

pub status_told : (script left written after : Option (List ℕ)) (options : Options) (found : Findings) (ended : Ended) → RunsShared options.each script left written after ended found → IsLegalBook ended.audit.book
    → (result : Result ℕ RunFault) → IfOk result (λ status. status ≡ status_at_end ended.audit.agreed options.check found) → IfOk result (IsStatusOfRun script left written options found)
status_told script left written after options found ended runs legal (Ok status) is = record { ended = ended; after = after; runs = runs; legal = legal; status_is = is }
status_told script left written after options found ended runs legal (Err fault) is = is
