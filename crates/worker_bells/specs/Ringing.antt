-- What a worker has of the bells of its groups: where it is idle, and where it rang.
use Rattle.std.specs.Prelude.{◌≡◌, ◌≢◌, ◌⊎◌, ℕ, ◌+◌, ◌%◌, ◌<◌, ◌≤◌, Bool, false, not, List, [], ◌∷◌, ◌++◌, Some, None, length, slice_get, slice_set, sum_by}
use Rattle.limits.specs.Limits.{most_groups}
use Rattle.bell.specs.declared.step.BellStep.{BellStep}
use Rattle.bell.specs.declared.step.BellStep.TheVariants.{Listened, Settled, Rang}
use Rattle.bell.specs.Handles.{ListenerState, RingerState, turn}
use Rattle.bell.specs.History.{rings, wakes}
use Rattle.bell.specs.Calls.{CalledBelow, Listens}
use Rattle.worker_bells.specs.declared.members.Interest.{Interest}
use Rattle.worker_bells.specs.Wishing.{IsWished}

-- a worker listened at its last step
abbrev pub HasListened : ListenerState → Type 0
HasListened listening = (known : List BellStep) × (listening.history ≡ Listened listening.worker ∷ known)

-- a worker settled at its last step, and between that and its listening before it the bell did not ring, or a multiple of 2 ^ 32 times
pub record HasSettled (listening : ListenerState) : Type 0 where
  pub known : List BellStep
  pub since : List BellStep
  pub is : listening.history ≡ Settled listening.worker ∷ (since ++ Listened listening.worker ∷ known)
  pub quiet : rings since % turn ≡ 0

-- a listener at the bell of the group of a slot
pub record ListeningState : Type 0 where
  pub slot : ℕ
  pub listening : ListenerState

-- it is at the same bell as before
pub record IsListeningOfSame (old new : ListeningState) : Type 0 where
  pub slot : new.slot ≡ old.slot
  pub bell : new.listening.bell ≡ old.listening.bell

-- it listened already; or it listens from now on, and knows whether the bell rang since it settled, but for a multiple of 2 ^ 32 times
abbrev pub Hears : ListeningState → Bool → ListeningState → Type 0
Hears old heard new =
    IsListeningOfSame old new × (((heard ≡ false) × (new ≡ old) × HasListened old.listening) ⊎ ((quiet : Bool) × (heard ≡ not quiet) × Listens old.listening quiet new.listening))

-- the same at the bell of the group of a slot, where there is a listener
abbrev pub HearsAt : ℕ → List ListeningState → Bool → List ListeningState → Type 0
HearsAt slot old heard new =
    ((heard ≡ false) × (slice_get old slot ≡ None) × (new ≡ old))
    ⊎ ((listening listening' : ListeningState) × (slice_get old slot ≡ Some listening) × Hears listening heard listening' × (new ≡ slice_set old slot listening'))

-- it has at the bell of the group of a slot
abbrev pub HasSettledAt : List ListeningState → ℕ → Type 0
HasSettledAt listenings slot = (at : ListeningState) × (slice_get listenings slot ≡ Some at) × (at.slot ≡ slot) × HasSettled at.listening

-- it has at the bell of each group of which one of its connections would be handed a job
abbrev pub IsIdle : List Interest → List ListeningState → Type 0
IsIdle interests listenings = (slot : ℕ) → slot < most_groups → IsWished slot interests → HasSettledAt listenings slot

-- a ringer at the bell of the group of a slot, to which so many workers listen
pub record RingingState : Type 0 where
  pub slot : ℕ
  pub workers : ℕ
  pub ringing : RingerState

-- it is at the same bell as before
pub record IsAtSame (old new : RingingState) : Type 0 where
  pub slot : new.slot ≡ old.slot
  pub bell : new.ringing.bell ≡ old.ringing.bell
  pub workers : new.workers ≡ old.workers

-- the bell was rung, and each worker that was idle at the ring was called since
pub record CallsAll (old new : RingingState) : Type 0 where
  pub others : List BellStep
  pub since : List BellStep
  pub is : new.ringing.history ≡ since ++ Rang ∷ (others ++ old.ringing.history)
  pub each : CalledBelow old.workers (others ++ old.ringing.history) since

-- how often calls at these bells found their workers idle
abbrev pub woken : List RingingState → ℕ
woken ringings = sum_by (λ ringing. wakes ringing.ringing.history) ringings

-- for a group, so many workers were to be woken: as many were, or all were called that were idle at its bells; no other bell was rung
pub record IsRung (slot wanted : ℕ) (old new : List RingingState) : Type 0 where
  pub count : length new ≡ length old
  pub same : (k : ℕ) (ringing : RingingState) → slice_get old k ≡ Some ringing → (ringing' : RingingState) × (slice_get new k ≡ Some ringing') × IsAtSame ringing ringing' × (ringing.slot ≢ slot → ringing' ≡ ringing)
  pub each : (wanted + woken old ≤ woken new)
      ⊎ ((k : ℕ) (ringing ringing' : RingingState) → slice_get old k ≡ Some ringing → slice_get new k ≡ Some ringing' → ringing.slot ≡ slot → CallsAll ringing ringing')

-- the same for one group after the other, from this slot on: for each so many
abbrev pub AreRung : (slot : ℕ) → List ℕ → List RingingState → List RingingState → Type 0
AreRung slot [] old new = new ≡ old
AreRung slot (wanted ∷ rest) old new = (between : List RingingState) × IsRung slot wanted old between × AreRung (slot + 1) rest between new

-- the same at one bell, where so many are still to be woken, and then so many
pub record RingsFor (slot left left' : ℕ) (old new : RingingState) : Type 0 where
  pub same : IsAtSame old new
  pub other : old.slot ≢ slot → new ≡ old
  pub woken : left + wakes old.ringing.history ≤ left' + wakes new.ringing.history
  pub fewer : left' ≤ left
  pub each : old.slot ≡ slot → (left' ≡ 0) ⊎ CallsAll old new

-- at one bell of these
pub record RingsAt (at slot left left' : ℕ) (old new : List RingingState) : Type 0 where
  pub ringing : RingingState
  pub has : slice_get old at ≡ Some ringing
  pub ringing' : RingingState
  pub rings : RingsFor slot left left' ringing ringing'
  pub is : new ≡ slice_set old at ringing'

-- what a worker has of the bells: its listeners, in the order of slots, and its ringers
pub record WorkerBellsState : Type 0 where
  pub listenings : List ListeningState
  pub ringings : List RingingState
