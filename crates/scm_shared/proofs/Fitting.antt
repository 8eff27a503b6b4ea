-- Passes that fit a history, and what becomes of them in each step.
use Rattle.std.proofs.Common.{◌≡◌, ◌≢◌, ℕ, ◌+◌, ◌≤◌, List, [], ◌∷◌, ◌++◌, length, true, false, true≢false, refl, sym, ap, ◌∙◌, arith, length-append}
use mathlib.Core.Logic.{dite}
use native.Mathlib.Decide.{dec_lt}
use Rattle.scm_book.specs.Machine.{EntryData}
use Rattle.scm_book.specs.inner.Callers.{calls_by}
use Rattle.scm_book.specs.laws.CallerLaws.{calls_by-entry_own, calls_by-entry_other}
use Rattle.scm_shared.specs.Passes.{Known, newcomer, at_front}
use Rattle.scm_shared.specs.inner.Rule.{FitsHistory, AllFitHistory, AllGiven}
use Rattle.scm_shared.specs.inner.Steps.{but_last, last_only, caught_up, called, all_caught_up, all_at_front}
use Rattle.scm_shared.proofs.Sums.{times, mark-same, times-cons}
use Rattle.scm_shared.proofs.Prefixes.{prefix_whole, prefix_nothing, prefix_longer}

pub off : false ≡ true → ⊥
off e = true≢false (sym e)

-- ---- lists of passes

pub AllFitHistory-append : (log : List EntryData) (passes others : List Known) → AllFitHistory log passes → AllFitHistory log others → AllFitHistory log (passes ++ others)
AllFitHistory-append log [] others fit more = more
AllFitHistory-append log (p ∷ passes) others fit more = (fit.0, AllFitHistory-append log passes others fit.1 more)

pub AllFitHistory-but_last : (log : List EntryData) (passes : List Known) → AllFitHistory log passes → AllFitHistory log (but_last passes)
AllFitHistory-but_last log [] fit = tt
AllFitHistory-but_last log (p ∷ []) fit = tt
AllFitHistory-but_last log (p ∷ q ∷ passes) fit = (fit.0, AllFitHistory-but_last log (q ∷ passes) fit.1)

pub AllFitHistory-last_only : (log : List EntryData) (passes : List Known) → AllFitHistory log passes → AllFitHistory log (last_only passes)
AllFitHistory-last_only log [] fit = tt
AllFitHistory-last_only log (p ∷ []) fit = fit
AllFitHistory-last_only log (p ∷ q ∷ passes) fit = AllFitHistory-last_only log (q ∷ passes) fit.1

pub times-parted : (number : ℕ) (passes : List Known) → times number (but_last passes) + times number (last_only passes) ≡ times number passes
times-parted number [] = refl
times-parted number (p ∷ []) = omega arith
times-parted number (p ∷ q ∷ passes) =
    omega (arith, times-cons number p (but_last (q ∷ passes)), times-cons number p (q ∷ passes), times-parted number (q ∷ passes))

-- ---- passes whose numbers were given

pub AllGiven-none_late : (entered : ℕ) (passes : List Known) → ((number : ℕ) → entered ≤ number → times number passes ≡ 0) → AllGiven entered passes
AllGiven-none_late entered [] none = tt
AllGiven-none_late entered (p ∷ passes) none = (
  dite (dec_lt p.number entered) (λ given. given)
      (λ late. let at = none p.number (omega (arith, late)) in let one = mark-same p.number p.number refl in absurd (omega (arith, times-cons p.number p passes, at, one))),
  AllGiven-none_late entered passes (λ n late. let at = none n late in omega (arith, times-cons n p passes, at)),
)

-- ---- a new pass

pub newcomer_fits : (log : List EntryData) (number : ℕ) → calls_by number log ≡ [] → FitsHistory log (newcomer number)
newcomer_fits log number none = record { begins = prefix_nothing log; seen = omega arith; front = omega arith; own = refl; all = none }

-- ---- a pass has seen all

caught_up_fits : (log : List EntryData) (pass : Known) → FitsHistory log pass → FitsHistory log (caught_up log pass)
caught_up_fits log pass fit = record { begins = prefix_whole log; seen = omega arith; front = omega arith; own = fit.all; all = fit.all }

pub AllFitHistory-caught_up : (log : List EntryData) (passes : List Known) → AllFitHistory log passes → AllFitHistory log (all_caught_up log passes)
AllFitHistory-caught_up log [] fit = tt
AllFitHistory-caught_up log (p ∷ passes) fit = (caught_up_fits log p fit.0, AllFitHistory-caught_up log passes fit.1)

pub times-caught_up : (number : ℕ) (log : List EntryData) (passes : List Known) → times number (all_caught_up log passes) ≡ times number passes
times-caught_up number log [] = refl
times-caught_up number log (p ∷ passes) =
    omega (arith, times-cons number (caught_up log p) (all_caught_up log passes), times-cons number p passes, times-caught_up number log passes)

-- ---- a pass is told a length

at_front_fits : (log : List EntryData) (found : ℕ) (pass : Known) → length log ≡ found → FitsHistory log pass → FitsHistory log (at_front found pass)
at_front_fits log found pass is fit =
    let a = fit.seen in let b = fit.front in
    record { begins = fit.begins; seen = omega (arith, is, a, b); front = omega (arith, is); own = fit.own; all = fit.all }

pub AllFitHistory-at_front : (log : List EntryData) (found : ℕ) (passes : List Known) → length log ≡ found → AllFitHistory log passes → AllFitHistory log (all_at_front found passes)
AllFitHistory-at_front log found [] is fit = tt
AllFitHistory-at_front log found (p ∷ passes) is fit = (at_front_fits log found p is fit.0, AllFitHistory-at_front log found passes is fit.1)

pub times-at_front : (number found : ℕ) (passes : List Known) → times number (all_at_front found passes) ≡ times number passes
times-at_front number found [] = refl
times-at_front number found (p ∷ passes) =
    omega (arith, times-cons number (at_front found p) (all_at_front found passes), times-cons number p passes, times-at_front number found passes)

-- ---- an entry is added

-- the pass that made the call
pub called_fits : (log : List EntryData) (entry : EntryData) (pass : Known) → entry.session ≡ pass.number → FitsHistory log pass
    → FitsHistory (log ++ entry ∷ []) (called entry (log ++ entry ∷ []) pass)
called_fits log entry pass same fit =
    let calls = calls_by-entry_own pass.number log entry same ∙ ap (λ made. made ++ (entry.call, entry.reply) ∷ []) fit.all in
    record { begins = prefix_whole (log ++ entry ∷ []); seen = omega arith; front = omega arith; own = calls; all = calls }

-- and another pass
others_fit : (log : List EntryData) (entry : EntryData) (pass : Known) → entry.session ≢ pass.number → FitsHistory log pass → FitsHistory (log ++ entry ∷ []) pass
others_fit log entry pass apart fit =
    let front = fit.front in
    record {
      begins = prefix_longer pass.seen log (entry ∷ []) fit.begins;
      seen = fit.seen;
      front = omega (arith, front, length-append log (entry ∷ []));
      own = fit.own;
      all = calls_by-entry_other pass.number log entry apart ∙ fit.all;
    }

pub AllFitHistory-others : (log : List EntryData) (entry : EntryData) (passes : List Known) → times entry.session passes ≡ 0 → AllFitHistory log passes → AllFitHistory (log ++ entry ∷ []) passes
AllFitHistory-others log entry [] none fit = tt
AllFitHistory-others log entry (p ∷ passes) none fit =
    let cons = times-cons entry.session p passes in (
      others_fit log entry p (λ same. let one = mark-same p.number entry.session (sym same) in absurd (omega (arith, cons, none, one))) fit.0,
      AllFitHistory-others log entry passes (omega (arith, cons, none)) fit.1,
    )
