-- What becomes of a broker in a run of its server.
use Rattle.std.specs.Prelude.{◌≡◌, ℕ, List, Some, slice_get}
use Rattle.dispatch_core.specs.History.{IsRun}
use Rattle.dispatch_core.specs.Lawful.{IsLawful}
use Rattle.local_group.specs.Groups.{Group}
use Rattle.local_broker.specs.Broker.{Broker}
use Rattle.local_broker.specs.Histories.{Happening, HappensAll as HappensToBroker}

-- calls of connections and closes led from one broker to the other
abbrev pub IsReachedBy : Broker → Broker → Type 0
IsReachedBy old new = (happenings : List Happening) × HappensToBroker old happenings new

-- the events of a group are a run to where its jobs are, which is lawful
pub record RunsLawfully (group : Group) : Type 0 where
  pub run : IsRun group.events group.state
  pub lawful : IsLawful group.state

abbrev pub AllRunLawfully : Broker → Type 0
AllRunLawfully b = (slot : ℕ) (group : Group) → slice_get b.groups slot ≡ Some group → RunsLawfully group
