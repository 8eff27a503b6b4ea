use Rattle.std.proofs.Common.{◌≡◌, length, map, reverse, take}
use Rattle.std.specs.List.{range_with_len}
use Rattle.scm_sequences.specs.Traces.{trace_of, fixed_value}
use Rattle.scm_schedules.proofs.WalkLaws.{Walked}
use Rattle.scm_schedules.proofs.fixing.open_reads.Given as goal

abbrev pub invariant-loop-place : goal.invariant-loop-place
invariant-loop-place l = record {
  walked : Walked (trace_of l.initials l.sequences) l.front l.place-index l.walk;
  fixed : l.values.items ≡ map (fixed_value (trace_of l.initials l.sequences) (reverse (take l.place-index l.front))) (range_with_len 0 (length l.initials));
}
