-- What lies under the lock.
use Rattle.std.specs.Prelude.{ℕ, ◌≡◌, ◌+◌}
use Rattle.scm_results.specs.Tallies.{Total}
use Rattle.scm_book.specs.Machine.{CallData, ReplyData}
use Rattle.scm_book.specs.Journal.{BookState, IsCall}
use Rattle.scm_book.specs.inner.Loans.{Loaned, IsTakingBack}

pub record LockedState : Type 0 where
  pub book : BookState
  -- how many passes entered
  pub entered : ℕ
  -- what workers took and delivered, and how many tallies were given
  pub totals : Total

-- what was lent is taken back, and then the call is made
abbrev pub IsSearchedCall : BookState → Loaned → ℕ → CallData → ReplyData → BookState → Type 0
IsSearchedCall old lent session call reply new = (mid : BookState) × IsTakingBack old lent mid × IsCall mid session call reply new

-- nothing but the book changed
pub record KeepsCounts (old new : LockedState) : Type 0 where
  pub entered : new.entered ≡ old.entered
  pub totals : new.totals ≡ old.totals

-- one more pass entered, and nothing else changed
abbrev pub with_one_entered : LockedState → LockedState
with_one_entered locked = record locked { entered = locked.entered + 1 }
