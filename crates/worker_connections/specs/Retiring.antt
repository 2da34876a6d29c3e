-- What a worker does with the sessions whose time is over, also where no connection is there that ticks: it retires them in a visit of its own, as a Tick does in that of a round.
use Rattle.std.specs.Prelude.{◌≡◌, ℕ, Bool, true, false, List, []}
use Rattle.std.specs.List.{AllByRecursion}
use Rattle.group_queue.specs.Ports.{GroupId}
use Rattle.group_queue.specs.Places.{PlaceState}
use Rattle.broker_groups.specs.Answers.{Sights}
use Rattle.conn_supply.specs.SupplyCalls.{SupplyCall}
use Rattle.conn_engine.specs.Ending.{Sweeps}
use Rattle.conn_laws.specs.Calls.{MakesAll, handed, matched, offered, settled}
use Rattle.conn_laws.specs.Places.{KeepsPlaces}
use Rattle.conn_laws.specs.Transcripts.{IsAside}
use Rattle.shared_supply.specs.Calls.{Calls}
use Rattle.shared_supply.specs.Workers.{Worker, Begins, Leaves, is_visiting}

module _ (group : ℕ → GroupId) (seen : Sights) where
  -- in a visit those that the desk hands out are retired, 256 at most, until it hands out none or an allocation failed; where the gate was shut nothing is done
  abbrev pub RetiresIf : (visits : Bool) → Worker → ℕ → Worker → Type 0
  RetiresIf true old now new = Sweeps (Calls group seen) old now 256 new
  RetiresIf false old now new = new ≡ old

  -- the worker enters the gate, the sessions that the desk hands out as over at this moment are retired, unless the gate was shut, and it leaves
  pub record RetiresDue (old : Worker) (now : ℕ) (new : Worker) : Type 0 where
    pub begun : Worker
    pub begins : Begins old begun
    pub mid : Worker
    pub retires : RetiresIf (is_visiting begun) begun now mid
    pub leaves : Leaves mid new

  -- the calls of that: no session is asked for or parked, nothing is offered, handed out or settled, and each place that they bring they hand in
  pub record AreOfRetiring (old : Worker) (calls : List (SupplyCall PlaceState)) (new : Worker) : Type 0 where
    pub begun : Worker
    pub begins : Begins old begun
    pub mid : Worker
    pub made : MakesAll (Calls group seen) begun calls mid
    pub leaves : Leaves mid new
    pub aside : AllByRecursion IsAside calls
    pub match : matched calls ≡ []
    pub offers : offered calls ≡ []
    pub hands : handed calls ≡ []
    pub settles : settled calls ≡ []
    pub places : KeepsPlaces [] calls []
