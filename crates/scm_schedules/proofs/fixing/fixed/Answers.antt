use Rattle.std.proofs.Common.{◌≡◌, IfOk, length, reverse, subst, ap, ◌∙◌}
use Rattle.std.proofs.lemmas.List.FromFn.{length-map-range_with_len}
use Rattle.scm_sequences.specs.Traces.{Trace, trace_of, fixed_value, fixed_values}
use Rattle.scm_schedules.proofs.FixingLaws.{fixed_by, listed_to, listed-fixed_by}
use Rattle.scm_schedules.proofs.fixing.fixed.Goals as goal

pub returns : goal.returns
returns c =
    let t : Trace = trace_of c.args.initials.now c.args.sequences.now in
    let lists : listed_to c.deref.result.now (length c.deref.result.now) ≡ fixed_values t (reverse c.args.front.now) =
    ap (λ values. listed_to values (length values)) (c.deref.ensures.0 ∙ c.open_reads-values.ensures)
    ∙ listed-fixed_by t (reverse c.args.front.now) (length (fixed_by t (reverse c.args.front.now))) (length-map-range_with_len (fixed_value t (reverse c.args.front.now)) 0 (length t.initials)) in
    subst (λ items. IfOk c.listed.result (λ list. list.items ≡ items)) lists c.listed.ensures
