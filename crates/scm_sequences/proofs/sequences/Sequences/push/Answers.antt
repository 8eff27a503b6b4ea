use Rattle.std.proofs.Common.{◌≡◌, ◌<◌, List, Bool, true, false, None, length, slice_set, is_ok, Vec, Global, if◌then◌else◌, get_or, arith, subst, sym, ap, ◌∙◌}
use Rattle.std.proofs.lemmas.Grind.{common_steps}
use Rattle.scm_sequences.specs.declared.op.Op.{Op}
use Rattle.scm_sequences.specs.declared.limits.TheConstants.{MOST_OPERATIONS}
use Rattle.scm_sequences.specs.Sequences.{AreSequences, pushed, operations, push_refusal}
use Rattle.scm_sequences.specs.laws.SequenceLaws.{AreSequences-pushed, push_refusal-from_room}
use Rattle.scm_sequences.proofs.Lists.{sequences_of, sequences_of-set, operations-sequences_of, length-sequences_of, OnOk-from, OnErr-from}
use Rattle.scm_sequences.proofs.sequences.Sequences.push.Goals as goal

within : (c : goal.After-map_err) → c.args.p < length c.self.inside.lists.items
within c = grind (arith, common_steps)

read : (c : goal.After-map_err) → c.in-Some.list.now ≡ get_or c.self.inside.lists.items c.args.p c.in-Some.list.now
read c = grind (arith, common_steps)

-- what stands in the vectors after the push
after : (c : goal.After-map_err) → sequences_of (slice_set c.self.inside.lists.items c.args.p c.push.new.self) ≡ (if is_ok c.push.result then pushed c.args.self.now c.args.p c.args.op else c.args.self.now)
after c =
    sequences_of-set c.self.inside.lists.items c.args.p c.in-Some.list.now c.push.new.self c.args.op (is_ok c.push.result) (within c) (read c) c.push.ensures.items
    ∙ ap (λ s. if is_ok c.push.result then pushed s c.args.p c.args.op else s) c.self.view_is

-- the push is not refused
free : (c : goal.After-map_err) → push_refusal c.args.self.now c.args.p ≡ None
free c =
    let lists : List (Vec Op Global) = c.self.inside.lists.items in
    let here : operations (sequences_of lists) c.args.p ≡ c.in-Some.list.now.items = operations-sequences_of lists c.args.p c.in-Some.list.now (within c) (read c) in
    let short : length c.in-Some.list.now.items < MOST_OPERATIONS = omega (arith, c.in-Some.list.now.ok.0) in
    subst (λ s. push_refusal s c.args.p ≡ None) c.self.view_is
    (push_refusal-from_room (sequences_of lists) c.args.p (subst (λ n. c.args.p < n) (sym (length-sequences_of lists)) (within c))
    (subst (λ ops. length ops < MOST_OPERATIONS) (sym here) short))

pub invariant_of-self-2 : goal.invariant_of-self-2
invariant_of-self-2 c = subst AreSequences (sym (after c)) (go (is_ok c.push.result)) where
  before : AreSequences c.args.self.now
  before = subst AreSequences c.self.view_is c.self.invariant

  go : (b : Bool) → AreSequences (if b then pushed c.args.self.now c.args.p c.args.op else c.args.self.now)
  go true = AreSequences-pushed c.args.self.now c.args.p c.args.op before (free c)
  go false = before

pub returns-clause-ok : goal.returns-clause-ok
returns-clause-ok c = OnOk-from c.map_err.result (λ ok.
    (free c, after c ∙ ap (λ b. if b then pushed c.args.self.now c.args.p c.args.op else c.args.self.now) (sym c.map_err.ensures.variant ∙ ok)))

pub returns-clause-unchanged : goal.returns-clause-unchanged
returns-clause-unchanged c = OnErr-from c.map_err.result (λ failed.
    after c ∙ ap (λ b. if b then pushed c.args.self.now c.args.p c.args.op else c.args.self.now) (sym c.map_err.ensures.variant ∙ failed))
