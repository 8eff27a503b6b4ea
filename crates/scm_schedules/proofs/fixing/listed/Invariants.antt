use Rattle.std.proofs.Common.{◌≡◌, None, filter_map, slice_index_or}
use Rattle.std.specs.Option.{option_map}
use Rattle.std.specs.List.{range_with_len}
use Rattle.scm_schedules.proofs.fixing.listed.Given as goal

abbrev pub invariant-loop-c : goal.invariant-loop-c
invariant-loop-c l = l.list.items ≡ filter_map (λ c. option_map (λ value. (c, value)) (slice_index_or l.values c None)) (range_with_len 0 l.c)
