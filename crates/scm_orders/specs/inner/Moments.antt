-- When an operation stands in a schedule, and what facts and lines say of a schedule.
--
-- Schedules are written newest first, like all fronts.
use Rattle.std.specs.Prelude.{ℕ, ◌<◌, ◌≤◌, ◌≡◌, List, [], ◌∷◌, length, nat_lt, if◌then◌else◌, Option, Some, IsSome, slice_get}
use Rattle.scm_sequences.specs.Traces.{Trace, count_in}
use Rattle.scm_orders.specs.declared.place.Place.{Place}
use Rattle.scm_orders.specs.declared.derivation.Fact.{Fact}
use Rattle.scm_orders.specs.declared.derivation.Fact.TheVariants.{Before, Sees, SeesFirst, Hidden, Unseen, UnseenFirst}
use Rattle.scm_orders.specs.declared.derivation.Line.{Line}
use Rattle.scm_orders.specs.Facts.{read_at, written_at, IsAssumed}

-- how many places of the schedule stand before the operation at this place
unfoldable pub moment : List ℕ → Place → ℕ
moment [] place = 0
moment (p ∷ earlier) place = if nat_lt place.at (count_in earlier place.process) then moment earlier place else length earlier

-- in the schedule the write is the last one of the cell before the read
pub record IsLastBefore (t : Trace) (schedule : List ℕ) (cell : ℕ) (write read : Place) : Type 0 where
  pub writes : IsSome (written_at t write cell)
  pub before : moment schedule write < moment schedule read
  pub last : (w : Place) → IsSome (written_at t w cell) → moment schedule w < moment schedule read → moment schedule w ≤ moment schedule write

-- no write of the cell stands before the read
pub record HasNoneBefore (t : Trace) (schedule : List ℕ) (cell : ℕ) (read : Place) : Type 0 where
  pub none : (w : Place) → IsSome (written_at t w cell) → moment schedule read ≤ moment schedule w

-- a write of the cell stands between the two
pub record HasWriteBetween (t : Trace) (schedule : List ℕ) (cell : ℕ) (from to : Place) : Type 0 where
  pub write : Place
  pub writes : IsSome (written_at t write cell)
  pub after : moment schedule from < moment schedule write
  pub before : moment schedule write < moment schedule to

-- the operation reads a cell for which P holds
abbrev pub ReadsCell : Trace → Place → (ℕ → Type 0) → Type 0
ReadsCell t read P = (cell : ℕ) × IsSome (read_at t read cell) × P cell

-- what a fact says of a schedule
abbrev pub Says : Trace → List ℕ → Fact → Type 0
Says t schedule (Before from to) = moment schedule from < moment schedule to
Says t schedule (Sees write read) = ReadsCell t read (λ cell. IsLastBefore t schedule cell write read)
Says t schedule (SeesFirst read) = ReadsCell t read (λ cell. HasNoneBefore t schedule cell read)
Says t schedule (Hidden write read) = ReadsCell t read (λ cell. HasWriteBetween t schedule cell write read)
Says t schedule (Unseen write read) = ReadsCell t read (λ cell. IsLastBefore t schedule cell write read) → ⊥
Says t schedule (UnseenFirst read) = ReadsCell t read (λ cell. HasNoneBefore t schedule cell read) → ⊥

-- all assumptions of this block hold; outside of blocks there are none
pub record AssumptionsHold (t : Trace) (schedule : List ℕ) (lines : List Line) (block : Option ℕ) : Type 0 where
  pub each : (k : ℕ) (line : Line) → slice_get lines k ≡ Some line → IsAssumed line.rule → line.block ≡ block → Says t schedule line.fact
