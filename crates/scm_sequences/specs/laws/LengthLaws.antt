-- Lengths within others.
use Rattle.std.proofs.Common.{ℕ, ◌<◌, ◌≤◌, List, length, refl, sym, ap, ◌∙◌, subst, ⊎_elim, arith}
use Rattle.std.proofs.lemmas.Bool.{cases_eq}
use Rattle.std.proofs.lemmas.List.{length_push}
use Rattle.scm_sequences.specs.declared.op.Op.{Op}
use Rattle.scm_sequences.specs.Sequences.{IsWithin, operations, lengths_of, pushed}
use Rattle.scm_sequences.specs.laws.SequenceLaws.{length-lengths_of, slice_index-lengths_of, length-pushed, operations-pushed_here, operations-pushed_other}

pub IsWithin-reflexive : (lengths : List ℕ) → IsWithin lengths lengths
IsWithin-reflexive lengths = record { procs = refl; none_greater = λ p. omega arith }

pub IsWithin-transitive : (a b c : List ℕ) → IsWithin a b → IsWithin b c → IsWithin a c
IsWithin-transitive a b c first second =
    record { procs = first.procs ∙ second.procs; none_greater = λ p. omega (arith, first.none_greater p, second.none_greater p) }

-- an operation more makes no length smaller
pub IsWithin-pushed : (sequences : List (List Op)) (p : ℕ) (op : Op) → p < length sequences → IsWithin (lengths_of sequences) (lengths_of (pushed sequences p op))
IsWithin-pushed sequences p op in_p =
    record {
      procs = length-lengths_of sequences ∙ sym (length-pushed sequences p op) ∙ sym (length-lengths_of (pushed sequences p op));
      none_greater = λ q. omega (arith, longer q, slice_index-lengths_of sequences q, slice_index-lengths_of (pushed sequences p op) q);
    } where
      here : length (operations sequences p) ≤ length (operations (pushed sequences p op) p)
      here = omega (arith, ap length (operations-pushed_here sequences p op in_p), length_push (operations sequences p) op)

      longer : (q : ℕ) → length (operations sequences q) ≤ length (operations (pushed sequences p op) q)
      longer q = ⊎_elim (λ same. subst (λ r. length (operations sequences r) ≤ length (operations (pushed sequences p op) r)) (sym same) here) (λ other. omega (arith, ap length (operations-pushed_other sequences p op q other))) (cases_eq q p)
