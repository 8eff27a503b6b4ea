use Rattle.std.proofs.Common.{◌≡◌, ◌∙◌, sym, subst, List, ℕ, None, Some, false}
use Rattle.std.proofs.lemmas.Bool.Decides.{Decides-eqb}
use Rattle.std.proofs.lemmas.Slice.Eq.{strip_prefix_is}
use Rattle.scm_amo.specs.Amos.{is_spelled}
use Rattle.scm_amo.proofs.Spellings.{is_spelled-after, is_spelled-other}
use Rattle.scm_amo.proofs.names.spells.Goals as goal

pub returns-in_default : goal.returns-in_default
returns-in_default c =
    let other = strip_prefix_is Decides-eqb c.args.word.now c.as_bytes.result.now None c.in_default.ensures.cases in
    subst (λ (name : List ℕ). false ≡ is_spelled name c.args.word.now) c.as_bytes.ensures.value
    (sym (is_spelled-other _ _ other))

pub returns : goal.returns
returns c =
    let after = strip_prefix_is Decides-eqb c.args.word.now c.as_bytes.result.now (Some c.in-Some.ordering) c.in-Some.ensures.cases in
    subst (λ (name : List ℕ). c.is_ordering.result ≡ is_spelled name c.args.word.now) c.as_bytes.ensures.value
    (c.is_ordering.ensures ∙ sym (is_spelled-after _ _ _ after))
