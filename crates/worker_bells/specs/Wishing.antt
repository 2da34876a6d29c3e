-- Which connections of a worker would be handed a job, as it noted them.
use Rattle.std.specs.Prelude.{◌≡◌, ℕ, ◌<◌, ◌≤◌, ◌==◌, cond, Bool, false, List, length, Option, Some, None, count_by, slice_get, slice_index_or}
use Rattle.limits.specs.Limits.{most_groups}
use Rattle.worker_bells.specs.declared.members.Interest.{Interest}

-- it would be handed a job of the group of this slot
abbrev pub is_of : ℕ → Option ℕ → Bool
is_of slot None = false
is_of slot (Some other) = other == slot

abbrev pub none_or_one : ℕ → Option ℕ → ℕ
none_or_one slot taken = cond (is_of slot taken) 1 0

-- how many of them would be
abbrev pub taking : ℕ → List Interest → ℕ
taking slot interests = count_by (λ interest. is_of slot interest.takes) interests

abbrev pub no_interest : Interest
no_interest = record { takes = None; waits = false }

-- they are counted for each group
pub record AreCounted (takers : List ℕ) (interests : List Interest) : Type 0 where
  pub each : (slot : ℕ) → slot < most_groups → slice_index_or takers slot 0 ≡ taking slot interests
  pub few : length interests ≤ 65535

-- one of them would be handed a job of the group of this slot
abbrev pub IsWished : ℕ → List Interest → Type 0
IsWished slot interests = (cell : ℕ) × (interest : Interest) × (slice_get interests cell ≡ Some interest) × (interest.takes ≡ Some slot)
