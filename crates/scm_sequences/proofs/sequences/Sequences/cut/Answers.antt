use Rattle.std.proofs.Common.{ℕ, ◌≡◌, ◌≢◌, ◌<◌, List, [], length, take, set, slice_index, Vec, Global, below_more, arith, subst, sym, ap, ap₂, ◌∙◌}
use Rattle.std.specs.Vec.{with_items}
use Rattle.std.proofs.lemmas.List.{map-set, get_or-set_same, get_or-set_other, ext_get_or, with_items_is}
use Rattle.scm_sequences.specs.declared.op.Op.{Op}
use Rattle.scm_sequences.specs.Sequences.{operations, cut_lists, AreSequences}
use Rattle.scm_sequences.specs.laws.SequenceLaws.{length-cut_lists, operations-cut_lists, AreSequences-cut_lists}
use Rattle.scm_sequences.proofs.Lists.{sequences_of, operations-sequences_of, length-sequences_of}
use Rattle.scm_sequences.proofs.sequences.Sequences.cut.Goals as goal

-- one vector is replaced by another
operations-set_here : (lists : List (Vec Op Global)) (p : ℕ) (new : Vec Op Global) → p < length lists → operations (sequences_of (set lists p new)) p ≡ new.items
operations-set_here lists p new within =
    ap (λ s. operations s p) (map-set (λ (v : Vec Op Global). v.items) lists p new)
    ∙ get_or-set_same (sequences_of lists) p new.items [] (subst (λ n. p < n) (sym (length-sequences_of lists)) within)

operations-set_other : (lists : List (Vec Op Global)) (p : ℕ) (new : Vec Op Global) (k : ℕ) → k ≢ p → operations (sequences_of (set lists p new)) k ≡ operations (sequences_of lists) k
operations-set_other lists p new k ne =
    ap (λ s. operations s k) (map-set (λ (v : Vec Op Global). v.items) lists p new) ∙ get_or-set_other (sequences_of lists) p k new.items [] ne

pub loop-p-init : goal.loop-p-init
loop-p-init c =
    let is : sequences_of c.deref_mut-list-items.result.now ≡ c.args.self.now = ap sequences_of c.deref_mut-list-items.ensures.value ∙ c.self.view_is in
    record {
      cut = λ k h. absurd (omega (arith, h));
      rest = λ k _. ap (λ s. operations s k) is;
    }

pub loop-p-preserved : goal.loop-p-preserved
loop-p-preserved c =
    let lists : List (Vec Op Global) = c.loop-p.list-items in
    let p : ℕ = c.loop-p.p in
    let new : Vec Op Global = c.truncate.new.self in
    let within : p < length lists = omega (arith, c.loop-p.auto.list-items, c.loop-p-test.true) in
    let here : operations (sequences_of lists) p ≡ c.list-item.result.items = operations-sequences_of lists p c.list-item.result within c.list-item.is in
    let whole : operations (sequences_of lists) p ≡ operations c.args.self.now p = c.loop-p.invariant.rest p (omega arith) in
    let short : new.items ≡ take (slice_index c.args.lengths.now p) (operations c.args.self.now p) =
    c.truncate.ensures.items ∙ ap (λ (v : Vec Op Global). take c.get.result v.items) (sym c.list-item.is)
    ∙ ap₂ (λ (n : ℕ) (ops : List Op). take n ops) c.get.ensures (sym here ∙ whole) in
    record {
      cut = below_more (λ k. operations (sequences_of (set lists p new)) k ≡ take (slice_index c.args.lengths.now k) (operations c.args.self.now k)) p
          (λ k h. let ne : k ≢ p = omega arith in operations-set_other lists p new k ne ∙ c.loop-p.invariant.cut k h)
          (operations-set_here lists p new within ∙ short);
      rest = λ k h. let ne : k ≢ p = omega arith in operations-set_other lists p new k ne ∙ c.loop-p.invariant.rest k (omega arith);
    }

-- what stands in the vectors after the loop
after : (c : goal.After-self-1) → sequences_of (with_items c.self.inside.lists c.loop-p.list-items).items ≡ cut_lists c.args.self.now c.args.lengths.now
after c =
    let lists : List (Vec Op Global) = c.loop-p.list-items in
    let old : List (Vec Op Global) = c.self.inside.lists.items in
    let kept : length lists ≡ length old = c.loop-p.auto.list-items ∙ ap length c.deref_mut-list-items.ensures.value in
    let stored : length lists ≡ c.self.inside.lists.len = omega (arith, kept, c.self.inside.lists.ok.0) in
    let as_many : length (sequences_of lists) ≡ length c.args.self.now = length-sequences_of lists ∙ kept ∙ sym (length-sequences_of old) ∙ ap length c.self.view_is in
    ap sequences_of (with_items_is c.self.inside.lists lists stored)
    ∙ ext_get_or [] (sequences_of lists) (cut_lists c.args.self.now c.args.lengths.now) (as_many ∙ sym (length-cut_lists c.args.self.now c.args.lengths.now))
    (λ k h. let below : k < c.loop-p.p = omega (arith, h, length-sequences_of lists, c.loop-p.auto.list-items, c.loop-p-test.false) in
    c.loop-p.invariant.cut k below ∙ sym (operations-cut_lists c.args.self.now c.args.lengths.now k))

pub invariant_of-self : goal.invariant_of-self
invariant_of-self c = subst AreSequences (sym (after c)) (AreSequences-cut_lists c.args.self.now c.args.lengths.now (subst AreSequences c.self.view_is c.self.invariant))

pub returns : goal.returns
returns c = after c
