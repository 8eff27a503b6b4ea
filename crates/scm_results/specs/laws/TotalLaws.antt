-- The laws of totals: what was delivered rises by one with each outcome, and adds up where counts are added.
use Rattle.std.proofs.Common.{◌≡◌, ◌+◌, arith}
use Rattle.scm_results.specs.declared.fate.Fate.{Fate}
use Rattle.scm_results.specs.declared.fate.Fate.TheVariants.{Accepted, Known, Stale, Full, Refused}
use Rattle.scm_results.specs.declared.results.Results.{Results}
use Rattle.scm_results.specs.Totals.{capped, with_fate, sum_of, delivered_of}

pub delivered_of-with_fate : (r : Results) (f : Fate) → delivered_of (with_fate r f) ≡ capped (delivered_of r + 1)
delivered_of-with_fate r Accepted = omega arith
delivered_of-with_fate r Known = omega arith
delivered_of-with_fate r Stale = omega arith
delivered_of-with_fate r Full = omega arith
delivered_of-with_fate r Refused = omega arith

pub delivered_of-sum_of : (a b : Results) → delivered_of (sum_of a b) ≡ capped (delivered_of a + delivered_of b)
delivered_of-sum_of a b = omega arith
