use Rattle.std.proofs.Common.{rules, ◌≡◌, ◌∙◌, ◌⊎◌, ap, sym, subst, map, [], ◌∷◌, inl, inr}
use Rattle.clap.specs.declared.error.kind.ErrorKind.TheVariants as ErrorKind
use Rattle.clap.specs.Words.{App, kind_of}
use Rattle.clap.specs.Faults.{fault_of, is_simple_and_free}
use Rattle.clap.specs.Kinds.{HasKind, Kinds}
use Rattle.scm_monitor.proofs.Parsing.{help_fails, help_shown, version_fails, version_shown}
use Rattle.scm_monitor.proofs.command_line.refuse.Goals as goal

-- src/command_line.rt
pub returns-in_err-try_get_matches_from_mut-clause-help : goal.returns-in_err-try_get_matches_from_mut-clause-help
returns-in_err-try_get_matches_from_mut-clause-help c = λ first.
    let words = map (λ w. w.now) c.args.words.now in
    let error = c.in_err-try_get_matches_from_mut.field-0.0 in
    let app_is = c.in_ok-command.ensures.described in
    let one : HasKind (ErrorKind.DisplayHelp ∷ []) error = subst (λ (kinds : Kinds). HasKind kinds error)
    (ap (λ (a : App). fault_of a words) app_is ∙ help_shown words first)
    (c.in_err-try_get_matches_from_mut.ensures.kinds (ap is_simple_and_free app_is)) in
    let kind_is : (kind_of error ≡ ErrorKind.DisplayHelp) ⊎ (kind_of error ≡ ErrorKind.OutOfMemory) = elim one [
      | inl memory ↦ inr memory
      | inr help ↦ elim help [ inl shown ↦ inl shown | inr none ↦ absurd none ]
    ] in
    search rules

-- src/command_line.rt
pub returns-clause-help : goal.returns-clause-help
returns-clause-help c = λ first.
    let words = map (λ w. w.now) c.args.words.now in
    let app_is = c.in_ok-command.ensures.described in
    absurd (help_fails words first (ap (λ (a : App). fault_of a words) (sym app_is) ∙ c.in_ok-try_get_matches_from_mut.ensures.kinds (ap is_simple_and_free app_is)))

-- src/command_line.rt
pub returns-in_err-try_get_matches_from_mut-clause-version : goal.returns-in_err-try_get_matches_from_mut-clause-version
returns-in_err-try_get_matches_from_mut-clause-version c = λ first.
    let words = map (λ w. w.now) c.args.words.now in
    let error = c.in_err-try_get_matches_from_mut.field-0.0 in
    let app_is = c.in_ok-command.ensures.described in
    let one : HasKind (ErrorKind.DisplayVersion ∷ []) error = subst (λ (kinds : Kinds). HasKind kinds error)
    (ap (λ (a : App). fault_of a words) app_is ∙ version_shown words first)
    (c.in_err-try_get_matches_from_mut.ensures.kinds (ap is_simple_and_free app_is)) in
    let kind_is : (kind_of error ≡ ErrorKind.DisplayVersion) ⊎ (kind_of error ≡ ErrorKind.OutOfMemory) = elim one [
      | inl memory ↦ inr memory
      | inr version ↦ elim version [ inl shown ↦ inl shown | inr none ↦ absurd none ]
    ] in
    search rules

-- src/command_line.rt
pub returns-clause-version : goal.returns-clause-version
returns-clause-version c = λ first.
    let words = map (λ w. w.now) c.args.words.now in
    let app_is = c.in_ok-command.ensures.described in
    absurd (version_fails words first (ap (λ (a : App). fault_of a words) (sym app_is) ∙ c.in_ok-try_get_matches_from_mut.ensures.kinds (ap is_simple_and_free app_is)))
