-- What the calls are by which a worker retires sessions.
use Rattle.std.proofs.Common.{ℕ, Bool, true, false, List, [], refl}
use Rattle.group_queue.specs.Ports.{GroupId}
use Rattle.group_queue.specs.Places.{PlaceState}
use Rattle.broker_groups.specs.Answers.{Sights}
use Rattle.conn_supply.specs.SupplyCalls.{SupplyCall}
use Rattle.conn_laws.proofs.Aside.{Aside, still, swept}
use Rattle.shared_supply.specs.Calls.{Calls}
use Rattle.shared_supply.specs.Workers.{Worker, is_visiting}
use Rattle.worker_connections.specs.Retiring.{AreOfRetiring, RetiresDue, RetiresIf}

module _ (group : ℕ → GroupId) (seen : Sights) where
  in_visit : (visits : Bool) (old new : Worker) (now : ℕ) → RetiresIf group seen visits old now new → Aside (Calls group seen) [] [] [] [] old new
  in_visit true old new now retires = swept (Calls group seen) 256 old new now retires
  in_visit false old new now same = still (Calls group seen) old new refl same

  -- it makes calls, which change nothing of the places
  pub retiring_calls : (old new : Worker) (now : ℕ) → RetiresDue group seen old now new → (calls : List (SupplyCall PlaceState)) × AreOfRetiring group seen old calls new
  retiring_calls old new now is =
      let calls = in_visit (is_visiting is.begun) is.begun is.mid now is.retires in (
        calls.supply_calls,
        record {
          begun = is.begun;
          begins = is.begins;
          mid = is.mid;
          made = calls.made;
          leaves = is.leaves;
          aside = calls.aside;
          match = calls.match;
          offers = calls.offers;
          hands = calls.hands;
          settles = calls.settles;
          places = calls.places;
        },
      )
