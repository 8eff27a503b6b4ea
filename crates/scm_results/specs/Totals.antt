-- Totals of tasks and outcomes. Each counts up to 2^64 - 1 and stays there. This project's profile.
use Rattle.std.specs.Prelude.{ℕ, ◌+◌, ◌-◌, ◌^◌, min}
use Rattle.scm_results.specs.declared.fate.Fate.{Fate}
use Rattle.scm_results.specs.declared.fate.Fate.TheVariants.{Accepted, Known, Stale, Full, Refused}
use Rattle.scm_results.specs.declared.results.Results.{Results}

-- a total of n, or the greatest where n is more
abbrev pub capped : ℕ → ℕ
capped n = min n (2 ^ 64 - 1)

abbrev pub none_counted : Results
none_counted = record { taken = 0; accepted = 0; known = 0; stale = 0; full = 0; refused = 0 }

-- n more tasks were taken
abbrev pub with_taken : Results → ℕ → Results
with_taken r n = record r { taken = capped (r.taken + n) }

-- one more outcome met this fate
abbrev pub with_fate : Results → Fate → Results
with_fate r Accepted = record r { accepted = capped (r.accepted + 1) }
with_fate r Known = record r { known = capped (r.known + 1) }
with_fate r Stale = record r { stale = capped (r.stale + 1) }
with_fate r Full = record r { full = capped (r.full + 1) }
with_fate r Refused = record r { refused = capped (r.refused + 1) }

-- the totals of two counts together
abbrev pub sum_of : Results → Results → Results
sum_of a b = record {
  taken = capped (a.taken + b.taken);
  accepted = capped (a.accepted + b.accepted);
  known = capped (a.known + b.known);
  stale = capped (a.stale + b.stale);
  full = capped (a.full + b.full);
  refused = capped (a.refused + b.refused);
}

-- how many outcomes met a fate
abbrev pub total_of : Results → Fate → ℕ
total_of r Accepted = r.accepted
total_of r Known = r.known
total_of r Stale = r.stale
total_of r Full = r.full
total_of r Refused = r.refused

-- how many outcomes were delivered, of all fates
abbrev pub delivered_of : Results → ℕ
delivered_of r = capped (r.accepted + r.known + r.stale + r.full + r.refused)
