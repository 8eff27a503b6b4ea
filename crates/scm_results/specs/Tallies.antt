-- Tallies: shares of the totals, which rise with them. This project's profile.
use Rattle.std.specs.Prelude.{ℕ, ◌≡◌, ◌+◌, List, sum_by}
use Rattle.scm_results.specs.declared.results.Results.{Results}
use Rattle.scm_results.specs.Totals.{none_counted, delivered_of}

-- what a tally counted
pub record Counted : Type 0 where
  pub taken : ℕ
  pub delivered : ℕ

-- what a source counted, and how many tallies it gave
pub record Total : Type 0 where
  pub results : Results
  pub given : ℕ

abbrev pub nothing_counted : Counted
nothing_counted = record { taken = 0; delivered = 0 }

abbrev pub nothing : Total
nothing = record { results = none_counted; given = 0 }

-- from the old to the new a tally rises by just what the totals rise by
pub record RisesAlike (old new : Results) (before after : Counted) : Type 0 where
  pub taken : after.taken + old.taken ≡ before.taken + new.taken
  pub delivered : after.delivered + delivered_of old ≡ before.delivered + delivered_of new

-- the tallies add up to what was taken, and to what was delivered
pub record AddUpTo (results : Results) (tallies : List Counted) : Type 0 where
  pub taken : sum_by (λ t. t.taken) tallies ≡ results.taken
  pub delivered : sum_by (λ t. t.delivered) tallies ≡ delivered_of results
