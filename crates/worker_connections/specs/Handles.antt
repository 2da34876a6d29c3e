-- What a worker has of a broker before it begins.
use Rattle.std.specs.Prelude.{◌≡◌, List, []}
use Rattle.group_jobs.specs.Stamps.{Held}
use Rattle.session_desk.specs.Calls.{Call}
use Rattle.call_history.specs.Callers.{CallerState}
use Rattle.group_queue.specs.Ports.{PortState}
use Rattle.group_queue.specs.Places.{PlaceState}
use Rattle.broker_groups.specs.Naming.{AreUnsent}

-- nothing was published through its ports, and it made no call of the desk, for which it has one part of the right
pub record IsUnused (ports : List PortState) (desk : CallerState (Call Held PlaceState)) : Type 0 where
  pub none_sent : AreUnsent ports
  pub none_called : desk.own ≡ []
  pub one_part : desk.parts ≡ 1
