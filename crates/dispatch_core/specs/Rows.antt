-- How a state keeps its jobs. No public clause cites this module.
use Rattle.std.specs.Prelude.{◌≡◌, ℕ, ◌<◌, ◌≤◌, ◌↔◌, List, length, Some, Result, Ok, Err, slice_get}
use Rattle.dispatch_core.specs.declared.event.Spot.{Spot}
use Rattle.dispatch_core.specs.declared.event.Spot.TheVariants.{Queued}
use Rattle.dispatch_core.specs.declared.error.Why.{Why}
use Rattle.dispatch_core.specs.declared.error.Why.TheVariants.{NotQueued, NotOldest}

-- the queued jobs of a row are those from this number on
pub record IsQueuedFrom (row : List Spot) (first : ℕ) : Type 0 where
  pub within : first ≤ length row
  pub queued : (number : ℕ) → number < length row → (slice_get row number ≡ Some Queued) ↔ (first ≤ number)

-- an older job of the row is queued
abbrev pub HasOlder : List Spot → ℕ → Type 0
HasOlder row number = (older : ℕ) × (older < number) × (slice_get row older ≡ Some Queued)

-- the job with this number is the oldest that is queued
abbrev pub IsOldest : List Spot → ℕ → Type 0
IsOldest row number = (slice_get row number ≡ Some Queued) × ¬ HasOlder row number

-- it is, or the reason why it is not
abbrev pub IsOldestUnless : {T : Type 0} → List Spot → ℕ → Result T Why → Type 0
IsOldestUnless row number (Ok done) = IsOldest row number
IsOldestUnless row number (Err NotQueued) = ¬ (slice_get row number ≡ Some Queued)
IsOldestUnless row number (Err NotOldest) = (slice_get row number ≡ Some Queued) × HasOlder row number
IsOldestUnless row number (Err why) = ⊥
