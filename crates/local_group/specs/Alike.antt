-- Groups that cannot be told apart.
use Rattle.std.specs.Prelude.{◌≡◌}
use Rattle.dispatch_core.specs.Mentions.{AreSame}
use Rattle.local_group.specs.Groups.{Group}

-- they have the same messages at the same spots, and the same happened in them. How the table of the spots is written down is open: it
-- may have room for ports that accepted nothing
pub record AreAlike (one other : Group) : Type 0 where
  pub slot : one.slot ≡ other.slot
  pub capacity : one.capacity ≡ other.capacity
  pub events : one.events ≡ other.events
  pub state : AreSame one.state other.state
  pub queue : one.queue ≡ other.queue
  pub returned : one.returned ≡ other.returned
