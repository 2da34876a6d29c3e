-- Through which port a group accepts messages.
use Rattle.std.specs.Prelude.{◌≡◌, ℕ, List, ◌++◌, Some, slice_get, ⊤}
use Rattle.std.specs.List.{AllByRecursion}
use Rattle.dispatch_core.specs.declared.event.Event.{Event}
use Rattle.dispatch_core.specs.declared.event.Event.TheVariants.{Accept, First, Ack, Refuse, Discard, Back, Again, Close}
use Rattle.local_group.specs.Groups.{Group}
use Rattle.local_broker.specs.Broker.{Broker}

-- where an event accepts a message, it does so through this port; the message is the port's next job
abbrev pub AcceptsThrough : ℕ → Event → Type 0
AcceptsThrough port (Accept its) = its ≡ port
AcceptsThrough port (First member job) = ⊤
AcceptsThrough port (Ack member job) = ⊤
AcceptsThrough port (Refuse member job) = ⊤
AcceptsThrough port (Discard member job) = ⊤
AcceptsThrough port (Back member job) = ⊤
AcceptsThrough port (Again member job) = ⊤
AcceptsThrough port Close = ⊤

-- an event accepts no message
abbrev pub AcceptsNothing : Event → Type 0
AcceptsNothing (Accept port) = ⊥
AcceptsNothing (First member job) = ⊤
AcceptsNothing (Ack member job) = ⊤
AcceptsNothing (Refuse member job) = ⊤
AcceptsNothing (Discard member job) = ⊤
AcceptsNothing (Back member job) = ⊤
AcceptsNothing (Again member job) = ⊤
AcceptsNothing Close = ⊤

-- the group of this slot has its earlier events, and after them only such as these
pub record AddsOnly (IsSo : Event → Type 0) (old : Broker) (slot : ℕ) (group : Group) : Type 0 where
  pub before : Group
  pub was : slice_get old.groups slot ≡ Some before
  pub added : List Event
  pub events : group.events ≡ before.events ++ added
  pub are : AllByRecursion IsSo added

-- and so has each group
abbrev pub AllAddOnly : (Event → Type 0) → Broker → Broker → Type 0
AllAddOnly IsSo old new = (slot : ℕ) (group : Group) → slice_get new.groups slot ≡ Some group → AddsOnly IsSo old slot group
