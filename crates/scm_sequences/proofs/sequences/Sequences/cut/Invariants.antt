use Rattle.std.proofs.Common.{◌≡◌, ℕ, ◌<◌, ◌≤◌, take, slice_index}
use Rattle.scm_sequences.specs.Sequences.{operations}
use Rattle.scm_sequences.proofs.Lists.{sequences_of}
use Rattle.scm_sequences.proofs.sequences.Sequences.cut.Given as goal

abbrev pub invariant-loop-p : goal.invariant-loop-p
invariant-loop-p l = record {
  cut : (k : ℕ) → k < l.p → operations (sequences_of l.list-items) k ≡ take (slice_index l.lengths k) (operations l.fn.self k);
  rest : (k : ℕ) → l.p ≤ k → operations (sequences_of l.list-items) k ≡ operations l.fn.self k;
}
