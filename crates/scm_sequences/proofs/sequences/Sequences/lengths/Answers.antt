use Rattle.std.proofs.Common.{◌≡◌, ◌<◌, ◌≤◌, ◌≢◌, List, length, take, get_or, set, slice_index, Vec, Global, arith, subst, sym, ap, ◌∙◌, below_more}
use Rattle.std.proofs.lemmas.List.{get_or-set_same, get_or-set_other, length-set}
use Rattle.scm_sequences.specs.declared.op.Op.{Op}
use Rattle.scm_sequences.specs.Sequences.{operations, AreSequences, lengths_of}
use Rattle.scm_sequences.specs.laws.SequenceLaws.{AreSequences-short, slice_index-lengths_of}
use Rattle.scm_sequences.proofs.Lists.{sequences_of, operations-sequences_of, lengths_of-counted, length-sequences_of}
use Rattle.scm_sequences.proofs.sequences.Sequences.lengths.Goals as goal

are : (c : goal.After-len) → AreSequences c.args.self.now
are c = subst AreSequences c.self.view_is c.self.invariant

-- the length that was read is that of the process's operations
counted : (c : goal.After-len) → c.len.result ≡ length (operations c.args.self.now c.loop-p.p)
counted c =
    let lists : List (Vec Op Global) = c.self.inside.lists.items in
    let within : c.loop-p.p < length lists = subst (λ (vs : List (Vec Op Global)). c.loop-p.p < length vs) c.deref-list-items.ensures.value c.loop-p-test.true in
    let read : c.list-item.result ≡ get_or lists c.loop-p.p c.list-item.result = subst (λ (vs : List (Vec Op Global)). c.list-item.result ≡ get_or vs c.loop-p.p c.list-item.result) c.deref-list-items.ensures.value c.list-item.is in
    let here : operations (sequences_of lists) c.loop-p.p ≡ c.list-item.result.items = operations-sequences_of lists c.loop-p.p c.list-item.result within read in
    let len : c.len.result ≡ length c.list-item.result.items = omega (arith, c.list-item.result.ok.0) in
    len ∙ ap length (sym here) ∙ ap (λ s. length (operations s c.loop-p.p)) c.self.view_is

pub overflow_cast-counts : goal.overflow_cast-counts
overflow_cast-counts c = omega (arith, counted c, AreSequences-short c.args.self.now c.loop-p.p (are c))

pub loop-p-preserved : goal.loop-p-preserved
loop-p-preserved c =
    let is : c.len.result ≡ slice_index (lengths_of c.args.self.now) c.loop-p.p = counted c ∙ sym (slice_index-lengths_of c.args.self.now c.loop-p.p) in
    let in' : c.loop-p.p < length c.loop-p.counts = omega (arith, ap length c.deref-list-items.ensures.value, length-sequences_of c.self.inside.lists.items, c.self.invariant.procs, c.loop-p.invariant.room) in
    record {
      room = length-set c.loop-p.counts c.loop-p.p c.len.result ∙ c.loop-p.invariant.room;
      counted = below_more (λ k. slice_index (set c.loop-p.counts c.loop-p.p c.len.result) k ≡ slice_index (lengths_of c.args.self.now) k) c.loop-p.p
          (λ k h. let ne : k ≢ c.loop-p.p = omega arith in get_or-set_other c.loop-p.counts c.loop-p.p k c.len.result 0 ne ∙ c.loop-p.invariant.counted k h)
          (get_or-set_same c.loop-p.counts c.loop-p.p c.len.result 0 in' ∙ is);
    }

pub returns : goal.returns
returns c =
    let lists : List (Vec Op Global) = c.self.inside.lists.items in
    let as_many : length c.args.self.now ≡ length lists = ap length (sym c.self.view_is) ∙ length-sequences_of lists in
    let read : length c.deref-list-items.result.now ≡ length lists = ap length c.deref-list-items.ensures.value in
    let taken : c.len-2.result ≡ length c.args.self.now = omega (arith, c.self.inside.lists.ok.0) in
    let room : length c.args.self.now ≤ length c.loop-p.counts = omega (arith, length-sequences_of lists, c.self.invariant.procs, c.loop-p.invariant.room) in
    c.new.ensures ∙ ap (λ n. take n c.loop-p.counts) taken
    ∙ lengths_of-counted c.args.self.now c.loop-p.counts room (λ k h. c.loop-p.invariant.counted k (omega arith))
