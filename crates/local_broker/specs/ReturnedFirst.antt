-- What was given back is handed out first (profile): a message is first handed out only where none waits that was given back.
use Rattle.std.specs.Prelude.{◌≡◌, ◌≢◌, ℕ, List, ◌∷◌, ◌++◌, Some, slice_get}
use Rattle.dispatch_core.specs.declared.event.Event.{Event}
use Rattle.dispatch_core.specs.declared.event.Event.TheVariants.{First}
use Rattle.dispatch_core.specs.declared.event.Job.{Job}
use Rattle.dispatch_core.specs.declared.event.Spot.TheVariants.{Returned}
use Rattle.dispatch_core.specs.GroupState.{GroupState, spot_of}
use Rattle.dispatch_core.specs.History.{IsRun}
use Rattle.group_jobs.specs.Spots.{times_returned, Lists}
use Rattle.local_group.specs.Groups.{Group}
use Rattle.local_group.specs.Spots.{jobs_in}
use Rattle.local_broker.specs.Broker.{Broker}

-- after these events no message waits that was given back
abbrev pub NoneReturned : List Event → Type 0
NoneReturned events = (state : GroupState) (job : Job) → IsRun events state → spot_of state job ≢ Some Returned

-- whenever a message is first handed out, none waits that was given back
abbrev pub HandsReturnedFirst : List Event → Type 0
HandsReturnedFirst events = (before behind : List Event) (member : ℕ) (job : Job) → events ≡ before ++ First member job ∷ behind → NoneReturned before

-- what was given back is handed out first in a group that knows what that is: its events are a run, and its list of returned messages has those,
-- and no other, that were given back and not handed out again
pub record ServesReturnedFirst (group : Group) : Type 0 where
  pub run : IsRun group.events group.state
  pub returned : Lists times_returned group.state (jobs_in group.returned)
  pub first : HandsReturnedFirst group.events

abbrev pub AllServeReturnedFirst : Broker → Type 0
AllServeReturnedFirst b = (slot : ℕ) (group : Group) → slice_get b.groups slot ≡ Some group → ServesReturnedFirst group
