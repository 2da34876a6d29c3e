-- The close is what happens last in each group.
use Rattle.std.specs.Prelude.{◌≡◌, ℕ, [], ◌∷◌, ◌++◌, length, Some, slice_get}
use Rattle.dispatch_core.specs.declared.event.Event.TheVariants.{Close}
use Rattle.local_group.specs.Groups.{Group}
use Rattle.local_broker.specs.Broker.{Broker}

-- the group of this slot has its earlier events, and after them the close alone
pub record AddsTheClose (old : Broker) (slot : ℕ) (group : Group) : Type 0 where
  pub before : Group
  pub was : slice_get old.groups slot ≡ Some before
  pub events : group.events ≡ before.events ++ Close ∷ []

-- and so has each group, of which there are as many as before
pub record AllAddTheClose (old new : Broker) : Type 0 where
  pub as_many : length new.groups ≡ length old.groups
  pub each : (slot : ℕ) (group : Group) → slice_get new.groups slot ≡ Some group → AddsTheClose old slot group
