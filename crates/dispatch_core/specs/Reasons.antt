-- Why an event may not happen: of several reasons the first counts.
use Rattle.std.specs.Prelude.{◌≡◌, ℕ, ◌<◌, true, Some}
use Rattle.dispatch_core.specs.declared.event.Event.{Event}
use Rattle.dispatch_core.specs.declared.event.Event.TheVariants.{Accept, First, Ack, Refuse, Discard, Back, Again, Close}
use Rattle.dispatch_core.specs.declared.event.Spot.TheVariants.{Queued, Held, Returned}
use Rattle.dispatch_core.specs.declared.error.Why.{Why}
use Rattle.dispatch_core.specs.declared.error.Why.TheVariants.{Range, Closed, NotQueued, NotOldest, NotHeld, NotReturned}
use Rattle.dispatch_core.specs.declared.error.StepError.{StepError}
use Rattle.dispatch_core.specs.declared.error.StepError.TheVariants.{Stuck, Memory}
use Rattle.dispatch_core.specs.GroupState.{GroupState, spot_of}
use Rattle.dispatch_core.specs.Step.{IsInRange, NeedsOpen, HasOlderQueued, MayHappen}

-- the reason holds
abbrev pub Hinders : GroupState → Event → Why → Type 0
Hinders state event Range = ¬ IsInRange event
Hinders state event Closed = NeedsOpen event × (state.closed ≡ true)
Hinders state (First member job) NotQueued = ¬ (spot_of state job ≡ Some Queued)
Hinders state (First member job) NotOldest = HasOlderQueued state job
Hinders state (Ack member job) NotHeld = ¬ (spot_of state job ≡ Some (Held member))
Hinders state (Refuse member job) NotHeld = ¬ (spot_of state job ≡ Some (Held member))
Hinders state (Discard member job) NotHeld = ¬ (spot_of state job ≡ Some (Held member))
Hinders state (Back member job) NotHeld = ¬ (spot_of state job ≡ Some (Held member))
Hinders state (Again member job) NotReturned = ¬ (spot_of state job ≡ Some Returned)
Hinders state event why = ⊥

-- the order of the reasons
abbrev pub place_of : Why → ℕ
place_of Range = 0
place_of Closed = 1
place_of NotQueued = 2
place_of NotOldest = 3
place_of NotHeld = 4
place_of NotReturned = 5

-- it holds, and none before it does
pub record IsFirstReason (state : GroupState) (event : Event) (why : Why) : Type 0 where
  pub holds : Hinders state event why
  pub first : (earlier : Why) → place_of earlier < place_of why → ¬ Hinders state event earlier

-- no step allows the event, for this reason
pub record IsStuck (state : GroupState) (event : Event) (why : Why) : Type 0 where
  pub hindered : ¬ MayHappen state event
  pub reason : IsFirstReason state event why

-- only these take memory
abbrev pub TakesMemory : Event → Type 0
TakesMemory (Accept port) = Unit {0}
TakesMemory (First member job) = Unit {0}
TakesMemory (Ack member job) = ⊥
TakesMemory (Refuse member job) = ⊥
TakesMemory (Discard member job) = ⊥
TakesMemory (Back member job) = ⊥
TakesMemory (Again member job) = ⊥
TakesMemory Close = ⊥

-- an event is refused: it may not happen, or it may and would take memory
abbrev pub IsRefused : GroupState → Event → StepError → Type 0
IsRefused state event (Stuck why) = IsStuck state event why
IsRefused state event Memory = MayHappen state event × TakesMemory event
