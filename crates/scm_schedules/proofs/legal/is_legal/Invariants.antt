use Rattle.scm_sequences.specs.Traces.{cut_to, trace_of}
use Rattle.scm_schedules.proofs.WalkLaws.{Walked}
use Rattle.scm_schedules.proofs.legal.is_legal.Given as goal

abbrev pub invariant-loop-place : goal.invariant-loop-place
invariant-loop-place l = Walked (cut_to (trace_of l.initials l.sequences) l.lengths) l.places l.place-index l.walk
