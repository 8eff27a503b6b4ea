use Rattle.std.proofs.Common.{refl, ◌≡◌, length, sym, ap, ◌∙◌, subst, rules}
use Rattle.std.proofs.lemmas.List.{length-map}
use Rattle.scm_sequences.specs.Sequences.{NamesCellsBelow}
use Rattle.scm_sequences.specs.Traces.{trace_of}
use Rattle.scm_cells.specs.CellLists.{Declared}
use Rattle.test_set.proofs.subject.Subject.made.Goals as goal

pub invariant_of-result : goal.invariant_of-result
invariant_of-result g c =
    let as_many : length c.in_ok-reach.reach.initials ≡ length c.args.cells.now = ap length c.in_ok-reach.ensures.initials ∙ length-map c.args.cells.now (λ (cell : Declared). cell.initial) in
    let below : NamesCellsBelow c.len.result c.in_ok-sequences.sequences = search rules in (
      subst (λ n. NamesCellsBelow n c.in_ok-sequences.sequences) (c.len.ensures.len ∙ sym as_many) below,
      c.in_ok-reach.ensures.kept (trace_of c.in_ok-reach.reach.initials c.in_ok-sequences.sequences) c.in_ok-reach.ensures.initials refl,
    )
