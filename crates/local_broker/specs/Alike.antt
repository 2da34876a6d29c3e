-- Brokers that cannot be told apart.
use Rattle.std.specs.Prelude.{◌≡◌, ℕ, List, Some, slice_get, length}
use Rattle.local_group.specs.Groups.{Group}
use Rattle.local_group.specs.Alike as groups
use Rattle.local_broker.specs.Broker.{Broker}

-- the groups of each slot are alike
pub record AreAlikeInEachSlot (these those : List Group) : Type 0 where
  pub as_many : length these ≡ length those
  pub each : (slot : ℕ) (one other : Group) → slice_get these slot ≡ Some one → slice_get those slot ≡ Some other → groups.AreAlike one other

pub record AreAlike (one other : Broker) : Type 0 where
  pub desk : one.desk ≡ other.desk
  pub routes : one.routes ≡ other.routes
  pub groups : AreAlikeInEachSlot one.groups other.groups
