-- What a worker of a broker has: where it stands at the gate, what it publishes through, what it knows of the routes and of the calls of the desk, and whom it has to wake.
use Rattle.std.specs.Prelude.{◌≡◌, ◌||◌, ℕ, Bool, true, false, List, Option, Some, None}
use Rattle.gate_word.specs.declared.visitor.Visitor.{Visitor}
use Rattle.gate_word.specs.declared.visitor.Visitor.TheVariants.{Outside, Inside}
use Rattle.gate_word.specs.Seats.{GateId, Seat, new_seat}
use Rattle.gate_word.specs.Visits.{seat_in, Tries, Ends}
use Rattle.group_jobs.specs.Stamps.{Held}
use Rattle.session_desk.specs.Calls.{Call}
use Rattle.call_history.specs.Callers.{CallerState}
use Rattle.group_queue.specs.Ports.{PortState}
use Rattle.group_queue.specs.Places.{PlaceState}
use Rattle.shared_routes.specs.Known.{KnownState, AreFirst, Grows}
use Rattle.broker_groups.specs.Brokers.{no_gate}
use Rattle.shared_supply.specs.declared.wakes.Wakes.{Wakes}

pub record Worker : Type 0 where
  pub visitor : Visitor
  pub ports : List PortState
  pub known : KnownState
  -- the calls of the desk in the order of its lock, up to the worker's own last one, and which of them are its own
  pub desk : CallerState (Call Held PlaceState)
  pub wakes : Wakes
  -- how many more messages it may be handed for its members, until it is allowed others
  pub allowance : ℕ
  -- how many gathers of its places came to nothing, as an allocation failed
  pub missed : ℕ
  -- it offers no message to a group any more
  pub draining : Bool

-- a visit is going on
abbrev pub is_inside : Visitor → Bool
is_inside (Inside turn) = true
is_inside (Outside seat) = false

abbrev pub is_visiting : Worker → Bool
is_visiting worker = is_inside worker.visitor

-- where the worker stands; there always is a visitor
abbrev pub visitor_of : Option Visitor → Visitor
visitor_of (Some visitor) = visitor
visitor_of None = Outside (new_seat no_gate 0)

-- there is a visitor, and it is one of this gate
abbrev pub IsVisitorOf : GateId → Option Visitor → Type 0
IsVisitorOf gate (Some visitor) = (seat_in visitor).gate ≡ gate
IsVisitorOf gate None = ⊥

-- the worker enters, or is refused as the gate was shut, and learns of the routes what others bound: all that it was told of, it knows then
pub record Begins (old new : Worker) : Type 0 where
  pub tried : Tries old.visitor new.visitor
  pub ports : new.ports ≡ old.ports
  pub known : Grows old.known new.known
  pub told : AreFirst old.known.told new.known.shares
  pub desk : new.desk ≡ old.desk
  pub wakes : new.wakes ≡ old.wakes
  pub allowance : new.allowance ≡ old.allowance
  pub missed : new.missed ≡ old.missed
  pub draining : new.draining ≡ old.draining

-- the worker leaves
pub record Leaves (old new : Worker) : Type 0 where
  pub seat : Seat
  pub ended : Ends old.visitor seat
  pub becomes : new ≡ record old { visitor = Outside seat }

-- it drains from now on, where it is told so, and goes on as it was, where not
abbrev pub draining_if : Bool → Worker → Worker
draining_if drains worker = record worker { draining = drains || worker.draining }
