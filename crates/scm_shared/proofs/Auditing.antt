-- What an audit finds: whose passes were handed in.
use Rattle.std.proofs.Common.{◌≡◌, ℕ, zero, suc, ◌+◌, ◌<◌, ◌≤◌, List, [], ◌∷◌, length, Bool, true, false, cond, true≢false, refl, arith, sym, ap, ◌∙◌, ◌==◌, ◌||◌, ◌&&◌}
use Rattle.std.specs.Prelude.{All, IsTrue, ◌↔◌, count_by}
use Rattle.std.specs.List.{list_all, list_any, sum_by}
use Rattle.std.proofs.lemmas.Bool.{eqb-true, eq-eqb, ne_eqb}
use Rattle.std.proofs.lemmas.List.Sums.{sum_by-cons, count_by-le-length}
use mathlib.Core.Logic.{dite}
use native.Mathlib.Decide.{ℕ_discrete}
use Rattle.scm_book.specs.Machine.{EntryData}
use Rattle.scm_book.specs.inner.Callers.{calls_by}
use Rattle.scm_shared.specs.Passes.{Known}
use Rattle.scm_shared.specs.inner.Rule.{FitsHistory, AllFitHistory, AllGiven, AreDifferent}
use Rattle.scm_shared.specs.inner.Audits.{covers, AllMatchEntries, Agree}
use Rattle.scm_shared.proofs.Sums.{times, mark, mark-same, mark-other, times-cons}

-- passes that fit the journal made just the calls of their sessions
pub all_follow : (journal : List EntryData) (passes : List Known) → All (λ pass. FitsHistory journal pass) passes → AllMatchEntries passes journal
all_follow journal passes fit = λ k other within. sym (fit k other within).all

-- all of them fit, and all their numbers were given
pub all_fit : (log : List EntryData) (passes : List Known) → AllFitHistory log passes → All (λ pass. FitsHistory log pass) passes
all_fit log [] fit k other within = absurd (omega (arith, within))
all_fit log (pass ∷ others) fit zero other within = fit.0
all_fit log (pass ∷ others) fit (suc k) other within = all_fit log others fit.1 k other (omega (arith, within))

pub all_given : (entered : ℕ) (passes : List Known) → AllGiven entered passes → All (λ pass. pass.number < entered) passes
all_given entered [] given k other within = absurd (omega (arith, within))
all_given entered (pass ∷ others) given zero other within = given.0
all_given entered (pass ∷ others) given (suc k) other within = all_given entered others given.1 k other (omega (arith, within))

-- ---- as many calls as entries

abbrev has_number : List Known → ℕ → Bool
has_number passes number = list_any (λ (pass : Known). pass.number == number) passes

abbrev bit : Bool → ℕ
bit b = cond b 1 0

-- how many entries are of the pass's session
abbrev entries_of : List EntryData → Known → ℕ
entries_of log pass = length (calls_by pass.number log)

one_entry : (entry : EntryData) (log : List EntryData) (pass : Known) (same : Bool) → (entry.session == pass.number) ≡ same
    → entries_of (entry ∷ log) pass ≡ cond same 1 0 + entries_of log pass
one_entry entry log pass true is = rw is (omega arith)
one_entry entry log pass false is = rw is (omega arith)

-- an entry is of each pass that has its session's number
entry_of : (entry : EntryData) (log : List EntryData) (pass : Known) → entries_of (entry ∷ log) pass ≡ mark pass.number entry.session + entries_of log pass
entry_of entry log pass =
    dite (ℕ_discrete pass.number entry.session)
    (λ same. omega (arith, one_entry entry log pass true (eq-eqb entry.session pass.number (sym same)), mark-same pass.number entry.session same))
    (λ apart. omega (arith, one_entry entry log pass false (ne_eqb entry.session pass.number (λ e. apart (sym e))), mark-other pass.number entry.session apart))

one_more : (entry : EntryData) (log : List EntryData) (passes : List Known)
    → sum_by (entries_of (entry ∷ log)) passes ≡ times entry.session passes + sum_by (entries_of log) passes
one_more entry log [] = refl
one_more entry log (pass ∷ others) =
    omega (
      arith,
      sum_by-cons (entries_of (entry ∷ log)) pass others,
      sum_by-cons (entries_of log) pass others,
      entry_of entry log pass,
      times-cons entry.session pass others,
      one_more entry log others,
    )

-- a number is on one of these passes, or on none
abbrev IsOnce : ℕ → List Known → Type 0
IsOnce number passes = times number passes ≤ 1 → times number passes ≡ cond (has_number passes number) 1 0

once-cons : (number : ℕ) (pass : Known) (others : List Known) (same : Bool) → (pass.number == number) ≡ same → IsOnce number others → times number (pass ∷ others) ≤ 1
    → times number (pass ∷ others) ≡ cond (same || has_number others number) 1 0
once-cons number pass others true is rest few = omega (arith, few, times-cons number pass others, ap bit is)
once-cons number pass others false is rest few =
    let cons : times number (pass ∷ others) ≡ times number others = omega (arith, times-cons number pass others, ap bit is) in
    cons ∙ rest (omega (arith, cons, few))

once : (number : ℕ) (passes : List Known) → IsOnce number passes
once number [] few = refl
once number (pass ∷ others) few = once-cons number pass others (pass.number == number) refl (once number others) few

none_made : (passes : List Known) → sum_by (entries_of []) passes ≡ 0
none_made [] = refl
none_made (pass ∷ others) = omega (arith, sum_by-cons (entries_of []) pass others, none_made others)

-- together the passes made as many calls as there are entries of their sessions
counted : (log : List EntryData) (passes : List Known) → AreDifferent passes
    → sum_by (entries_of log) passes ≡ count_by (λ entry. has_number passes entry.session) log
counted [] passes different = none_made passes
counted (entry ∷ log) passes different =
    omega (
      arith,
      one_more entry log passes,
      once entry.session passes (different entry.session),
      counted log passes different,
      sum_by-cons (λ (e : EntryData). cond (has_number passes e.session) 1 0) entry log,
    )

same_sum : (log : List EntryData) (passes : List Known) → AllFitHistory log passes → sum_by (λ (pass : Known). length pass.made) passes ≡ sum_by (entries_of log) passes
same_sum log [] fit = refl
same_sum log (pass ∷ others) fit =
    omega (arith, sum_by-cons (λ (p : Known). length p.made) pass others, sum_by-cons (entries_of log) pass others, ap length fit.0.all, same_sum log others fit.1)

-- a test counts all just where it holds of all
module _ (test : EntryData → Bool) where
  one_test : (entry : EntryData) (log : List EntryData) (passed : Bool) → test entry ≡ passed → count_by test (entry ∷ log) ≡ cond passed 1 0 + count_by test log
  one_test entry log passed is = omega (arith, sum_by-cons (λ (e : EntryData). cond (test e) 1 0) entry log, ap bit is)

  all_counted-cons : (entry : EntryData) (log : List EntryData) (passed : Bool) → test entry ≡ passed → (list_all test log ≡ true → count_by test log ≡ length log)
      → (passed && list_all test log) ≡ true → count_by test (entry ∷ log) ≡ length log + 1
  all_counted-cons entry log true is rest all = omega (arith, one_test entry log true is, rest all)
  all_counted-cons entry log false is rest all = absurd (true≢false (sym all))

  all_counted : (log : List EntryData) → list_all test log ≡ true → count_by test log ≡ length log
  all_counted [] all = refl
  all_counted (entry ∷ log) all = omega (arith, all_counted-cons entry log (test entry) refl (all_counted log) all)

  all_hold-cons : (entry : EntryData) (log : List EntryData) (passed : Bool) → test entry ≡ passed → (count_by test log ≡ length log → list_all test log ≡ true)
      → count_by test (entry ∷ log) ≡ length log + 1 → (passed && list_all test log) ≡ true
  all_hold-cons entry log true is rest all = rest (omega (arith, one_test entry log true is, all))
  all_hold-cons entry log false is rest all = absurd (omega (arith, one_test entry log false is, all, count_by-le-length test log))

  all_hold : (log : List EntryData) → count_by test log ≡ length log → list_all test log ≡ true
  all_hold [] all = refl
  all_hold (entry ∷ log) all = all_hold-cons entry log (test entry) refl (all_hold log) (omega (arith, all))

-- an audit's yes
pub agrees : (passes : List Known) (journal : List EntryData) (calls entries : ℕ) → AllFitHistory journal passes → AreDifferent passes
    → calls ≡ sum_by (λ (pass : Known). length pass.made) passes → entries ≡ length journal
    → IsTrue (calls == entries) ↔ Agree passes journal
agrees passes journal calls entries fit different made is =
    let sum : calls ≡ count_by (λ (entry : EntryData). has_number passes entry.session) journal = made ∙ same_sum journal passes fit ∙ counted journal passes different in (
      (λ yes. (all_hold _ journal (sym sum ∙ eqb-true calls entries yes ∙ is), all_follow journal passes (all_fit journal passes fit))),
      (λ agree. eq-eqb calls entries (sum ∙ all_counted _ journal agree.0 ∙ sym is)),
    )

pub is_given : (passes : List Known) (journal : List EntryData) (agreed : Bool) → IsTrue agreed ↔ Agree passes journal → All (λ pass. FitsHistory journal pass) passes
    → covers passes journal ≡ true → IsTrue agreed
is_given passes journal agreed exact fit all = exact.1 (all, all_follow journal passes fit)
