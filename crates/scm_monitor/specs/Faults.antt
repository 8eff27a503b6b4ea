-- How the program ends after a fault. This project's profile.
use Rattle.std.specs.Prelude.{ℕ, List, codes}
use Rattle.scm_sessions.specs.declared.fault.RunFault.{RunFault}
use Rattle.scm_sessions.specs.declared.fault.RunFault.TheVariants.{ReadFailed, WriteFailed, NoMemory}

abbrev pub status_of_fault : RunFault → ℕ
status_of_fault ReadFailed = 1
status_of_fault WriteFailed = 1
status_of_fault NoMemory = 3

abbrev pub text_of_fault : RunFault → List ℕ
text_of_fault ReadFailed = codes "scm_monitor: read failed"
text_of_fault WriteFailed = codes "scm_monitor: write failed"
text_of_fault NoMemory = codes "scm_monitor: no memory"
