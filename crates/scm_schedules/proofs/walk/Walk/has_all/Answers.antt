use Rattle.std.proofs.Common.{ℕ, ◌≡◌, ◌==◌, ◌↔◌, Bool, true, List, length, slice_index, subst, sym, arith, rules, tests}
use Rattle.std.specs.List.{range_with_len, list_all}
use Rattle.std.proofs.lemmas.Iterator.{YieldsList-from_range}
use Rattle.std.proofs.lemmas.Iterator.Search.{all_from_yields_List}
use Rattle.scm_schedules.proofs.WalkLaws.{same_counts}
use Rattle.scm_schedules.proofs.walk.Walk.has_all.Goals as goal

pub returns : goal.returns
returns c =
    let counts : List ℕ = c.args.self.now.counts in
    let lengths : List ℕ = c.args.lengths.now in
    let by_test : c.all.result ≡ list_all (λ p. slice_index counts p == slice_index lengths p) (range_with_len 0 (length lengths)) =
    all_from_yields_List (λ p. slice_index counts p == slice_index lengths p) _ _ c.all.result c.all.ensures.ran
    (YieldsList-from_range 0 (length lengths) (length lengths) (cc) (omega arith)) (λ x b q k. search (rules, tests)) in
    subst (λ (b : Bool). (b ≡ true) ↔ (counts ≡ lengths)) (sym by_test) (same_counts counts lengths c.requires)
