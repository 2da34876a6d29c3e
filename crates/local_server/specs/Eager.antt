-- What was given back is handed out first, in each group of a server.
use Rattle.std.specs.Prelude.{◌≡◌, ℕ, Some, slice_get}
use Rattle.local_group.specs.Groups.{Group}
use Rattle.local_broker.specs.Broker.{Broker}
use Rattle.local_broker.specs.ReturnedFirst.{HandsReturnedFirst}

-- in each group, whenever a message is first handed out, none waits that was given back
abbrev pub AllHandReturnedFirst : Broker → Type 0
AllHandReturnedFirst b = (slot : ℕ) (group : Group) → slice_get b.groups slot ≡ Some group → HandsReturnedFirst group.events
