-- Whose ringers are at whose bells: who rings for a group reaches each worker that listens there.
use Rattle.std.specs.Prelude.{◌≡◌, ◌⊎◌, ◌<◌, ℕ, List, [], ◌∷◌, ◌++◌, Some, slice_get}
use Rattle.bell.specs.Handles.{BellId}
use Rattle.worker_bells.specs.Ringing.{ListeningState, RingingState, WorkerBellsState}

-- one of these ringers is at the bell of this listener, for the same group
pub record Reaches (ringings : List RingingState) (listening : ListeningState) : Type 0 where
  pub at : ℕ
  pub ringing : RingingState
  pub has : slice_get ringings at ≡ Some ringing
  pub bell : ringing.ringing.bell ≡ listening.listening.bell
  pub slot : ringing.slot ≡ listening.slot

-- the ringers of each of these workers reach each listener of each of them
abbrev pub AreJoined : List WorkerBellsState → Type 0
AreJoined all_own_bells =
    (i j k : ℕ) (one other : WorkerBellsState) (listening : ListeningState) → slice_get all_own_bells i ≡ Some one → slice_get all_own_bells j ≡ Some other → slice_get other.listenings k ≡ Some listening
    → Reaches one.ringings listening

-- a listener at this bell, and for the group of this slot
abbrev pub IsListeningAt : BellId → ℕ → ListeningState → Type 0
IsListeningAt bell slot listening = (listening.listening.bell ≡ bell.word) × (listening.slot ≡ slot)

-- they reach each listener but those at this bell
abbrev pub AreJoinedBut : BellId → ℕ → List WorkerBellsState → Type 0
AreJoinedBut bell slot all_own_bells =
    (i j k : ℕ) (one other : WorkerBellsState) (listening : ListeningState) → slice_get all_own_bells i ≡ Some one → slice_get all_own_bells j ≡ Some other → slice_get other.listenings k ≡ Some listening
    → Reaches one.ringings listening ⊎ IsListeningAt bell slot listening

-- a ringer at this bell, and for the group of this slot
abbrev pub IsRingingAt : BellId → ℕ → RingingState → Type 0
IsRingingAt bell slot ringing = (ringing.ringing.bell ≡ bell.word) × (ringing.slot ≡ slot)

-- the first of them, so many, have one
abbrev pub HaveRingingsAt : BellId → ℕ → ℕ → List WorkerBellsState → Type 0
HaveRingingsAt bell slot count all_own_bells =
    (i : ℕ) (one : WorkerBellsState) → i < count → slice_get all_own_bells i ≡ Some one
    → (at : ℕ) × (ringing : RingingState) × (slice_get one.ringings at ≡ Some ringing) × IsRingingAt bell slot ringing

-- a listener more, at this bell; a ringer more
abbrev pub HasListeningMore : BellId → ℕ → List ListeningState → List ListeningState → Type 0
HasListeningMore bell slot old new = (listening : ListeningState) × IsListeningAt bell slot listening × (new ≡ old ++ listening ∷ [])

abbrev pub HasRingingMore : BellId → ℕ → List RingingState → List RingingState → Type 0
HasRingingMore bell slot old new = (ringing : RingingState) × IsRingingAt bell slot ringing × (new ≡ old ++ ringing ∷ [])
