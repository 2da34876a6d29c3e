-- The lists of events that may happen, from a group's beginning on, and the states that they lead to.
use Rattle.std.specs.Prelude.{◌≡◌, ℕ, List, [], ◌∷◌, Some, take, slice_get}
use Rattle.dispatch_core.specs.declared.event.Event.{Event}
use Rattle.dispatch_core.specs.declared.error.Why.{Why}
use Rattle.dispatch_core.specs.declared.error.ReplayError.{ReplayError}
use Rattle.dispatch_core.specs.declared.error.ReplayError.TheVariants.{Stuck, Memory, NoState}
use Rattle.dispatch_core.specs.GroupState.{GroupState, IsEmpty}
use Rattle.dispatch_core.specs.Step.{Step, MayHappen}
use Rattle.dispatch_core.specs.Reasons.{IsStuck, TakesMemory}

-- these events, one step for each, lead from old to new
abbrev pub Leads : GroupState → List Event → GroupState → Type 0
Leads old [] new = new ≡ old
Leads old (event ∷ events) new = (next : GroupState) × Step old event next × Leads next events new

-- a run of a group: its events from the beginning on, and the state that they lead to
pub record IsRun (events : List Event) (state : GroupState) : Type 0 where
  pub start : GroupState
  pub empty : IsEmpty start
  pub steps : Leads start events state

-- the events before this place are a run, and no step allows the one there
pub record StopsAt (events : List Event) (at : ℕ) (why : Why) : Type 0 where
  pub event : Event
  pub there : slice_get events at ≡ Some event
  pub state : GroupState
  pub before : IsRun (take at events) state
  pub stuck : IsStuck state event why

-- the events before this place are a run, the one there may happen, and it is one that takes memory
pub record WantsMemory (events : List Event) (at : ℕ) : Type 0 where
  pub event : Event
  pub there : slice_get events at ≡ Some event
  pub state : GroupState
  pub before : IsRun (take at events) state
  pub may : MayHappen state event
  pub takes : TakesMemory event

-- a replay that fails says where and why, or where memory was refused, or that there was none to begin with
abbrev pub Fails : List Event → ReplayError → Type 0
Fails events (Stuck at why) = StopsAt events at why
Fails events (Memory at) = WantsMemory events at
Fails events NoState = Unit {0}
