-- The calls of a bell, as the steps that they make.
use Rattle.std.specs.Prelude.{◌≡◌, ℕ, ◌+◌, ◌%◌, ◌==◌, ◌≤◌, ◌<◌, ◌⊎◌, ◌&&◌, not, if◌then◌else◌, Bool, true, false, Option, Some, length, slice_get, All, List, [], ◌∷◌, ◌++◌}
use Rattle.std.specs.Option.{is_some}
use Rattle.std.specs.Int.{bit_at}
use Rattle.atomic_table.specs.Seated.{TableId}
use Rattle.bell.specs.declared.wake.Call.{Call}
use Rattle.bell.specs.declared.step.BellStep.{BellStep}
use Rattle.bell.specs.declared.step.BellStep.TheVariants.{Listened, Settled, Rang, Called}
use Rattle.bell.specs.History.{rings, is_idle, was_called, wakes}
use Rattle.bell.specs.Handles.{ListenerState, RingerState, turn}

-- this step was made, after what others did since the last one
abbrev pub Makes : BellStep → List BellStep → List BellStep → Type 0
Makes step old new = (since : List BellStep) × (new ≡ step ∷ (since ++ old))

-- the worker isn't idle any more, has heard all rings so far, and knows whether the bell didn't ring since its last step, or rang a multiple of 2 ^ 32 times
abbrev pub Listens : ListenerState → Bool → ListenerState → Type 0
Listens old quiet new =
    (new.bell ≡ old.bell) × (new.worker ≡ old.worker)
    × ((since : List BellStep) × (new.history ≡ Listened old.worker ∷ (since ++ old.history)) × (quiet ≡ (rings since % turn == 0)))

-- the worker is idle, and may wait exactly where the bell didn't ring since its last step, or rang a multiple of 2 ^ 32 times
abbrev pub Settles : ListenerState → Bool → ListenerState → Type 0
Settles old may_wait new =
    (new.bell ≡ old.bell) × (new.worker ≡ old.worker)
    × ((since : List BellStep) × (new.history ≡ Settled old.worker ∷ (since ++ old.history)) × (may_wait ≡ (rings since % turn == 0)))

-- by this number, the workers that are idle then are those of the history
abbrev pub ShowsIdle : ℕ → List BellStep → Type 0
ShowsIdle found history = (worker : ℕ) → worker < 32 → (bit_at found worker == 1) ≡ is_idle worker history

-- the worker was called; it is to be woken where it was idle
abbrev pub Calls : ℕ → List BellStep → Option Call → List BellStep → Type 0
Calls worker old call new =
    (since : List BellStep) × (new ≡ Called worker ∷ (since ++ old)) × (is_some call ≡ is_idle worker (since ++ old))

-- the worker was called, and woken where it was idle
abbrev pub Wakes : ℕ → List BellStep → ℕ → List BellStep → Type 0
Wakes worker old woken new =
    (since : List BellStep) × (new ≡ Called worker ∷ (since ++ old)) × (woken ≡ (if is_idle worker (since ++ old) then 1 else 0))

-- of the workers below this number, each that was idle then was called since
abbrev pub CalledBelow : ℕ → List BellStep → List BellStep → Type 0
CalledBelow count old since = (worker : ℕ) → worker < count → is_idle worker old ≡ true → was_called worker since ≡ true

-- by the number that was found the worker is idle; and it is named by the other number, or is not named
abbrev pub is_due : (found first : ℕ) → (named : Bool) → ℕ → Bool
is_due found first true worker = (bit_at found worker == 1) && (bit_at first worker == 1)
is_due found first false worker = (bit_at found worker == 1) && not (bit_at first worker == 1)

-- of the workers below this number, each that was due was called since
abbrev pub DueBelow : (ℕ → Bool) → ℕ → List BellStep → Type 0
DueBelow due count since = (worker : ℕ) → worker < count → due worker ≡ true → was_called worker since ≡ true

-- who was due was called since, or as many were woken as were wanted
pub record CallsDue (due : ℕ → Bool) (workers wanted woken : ℕ) (old new : List BellStep) : Type 0 where
  pub since : List BellStep
  pub is : new ≡ since ++ old
  pub most : woken ≤ wanted
  pub each : (woken ≡ wanted) ⊎ DueBelow due workers since
  pub idle : woken + wakes old ≤ wakes new

-- who was idle at the moment of the ring was called since, or as many were woken as were wanted
pub record Rings (workers wanted woken : ℕ) (old new : List BellStep) : Type 0 where
  pub others : List BellStep
  pub since : List BellStep
  pub is : new ≡ since ++ Rang ∷ (others ++ old)
  pub most : woken ≤ wanted
  pub each : (woken ≡ wanted) ⊎ CalledBelow workers (others ++ old) since
  pub idle : woken + wakes (others ++ old) ≤ wakes new

-- the listeners of a bell that was just made, numbered from 0 on, in that order; and those who ring it
pub record AreListeners (bell : TableId) (count : ℕ) (listeners : List ListenerState) : Type 0 where
  pub all : length listeners ≡ count
  pub each : (worker : ℕ) → worker < count → slice_get listeners worker ≡ Some (record { bell = bell; worker = worker; history = [] })

pub record AreRingers (bell : TableId) (count : ℕ) (ringers : List RingerState) : Type 0 where
  pub all : length ringers ≡ count
  pub each : (number : ℕ) → number < count → slice_get ringers number ≡ Some (record { bell = bell; history = [] })

-- they are of this bell
abbrev pub AreListenersOf : TableId → List ListenerState → Type 0
AreListenersOf bell listeners = All (λ listener. listener.bell ≡ bell) listeners

abbrev pub AreRingersOf : TableId → List RingerState → Type 0
AreRingersOf bell ringers = All (λ ringer. ringer.bell ≡ bell) ringers
