-- What a worker knows of the routes is of one table, and its right to call the desk is the same, whatever its connections do.
use Rattle.std.proofs.Common.{◌≡◌, ℕ, Bool, true, false, List, [], ◌∷◌, Option, Some, None, Result, Ok, Err, refl, ap, ◌∙◌, inl, inr}
use Rattle.mqtt_topic.specs.Names.{Share}
use Rattle.transport.specs.declared.counts.Counts.{Counts}
use Rattle.group_queue.specs.Ports.{GroupId}
use Rattle.group_queue.specs.Places.{PlaceState}
use Rattle.group_jobs.specs.Stamps.{Held}
use Rattle.session_desk.specs.Calls.{Call}
use Rattle.session_desk.specs.Calls as desk
use Rattle.call_history.specs.Callers.{CallerState}
use Rattle.broker_groups.specs.Answers.{Sights}
use Rattle.conn_supply.specs.declared.supply.BindRefusal.{BindRefusal}
use Rattle.conn_supply.specs.declared.supply.BindRefusal.TheVariants as bind
use Rattle.conn_supply.specs.SupplyCalls.{SupplyCall}
use Rattle.conn_supply.specs.SupplyCalls.SupplyCall.{Attach, Withdraw, Kicked, Park, ParkAsIs, Keep, Bury, Sweep, LendPlace, TakePlace, Bind, Find, Match, Offer, MayTake, Take, TakeBack, Settle, GiveBack}
use Rattle.conn_engine.specs.declared.input.Input.TheVariants as inputs
use Rattle.conn_laws.specs.Calls.{MakesAll as MakesCalls}
use Rattle.conn_laws.proofs.Failing.{failed}
use Rattle.conn_laws.proofs.Stepping.{stepped}
use Rattle.client_table.specs.Clients.{ClientState, IsGivenUp, moment_of}
use Rattle.conn_service.specs.Acts.{Act, Enters, Leaves as Left, Asks, Reads, Writes, Steps, Loses, Fails, Starves, IsFull, IsStopped, Stalls, GivesUp, Ends, Others}
use Rattle.conn_service.specs.Lives.{Does, DoesAll}
use Rattle.conn_service.specs.Services.{ServiceState}
use Rattle.conn_service.specs.Visits.{Stand, Outside, Behind, Treads, Walks}
use Rattle.shared_routes.specs.Cells.{RoutesId}
use Rattle.shared_routes.specs.Known.{KnownState, BindAnswers, DeclareAnswers}
use Rattle.shared_routes.specs.declared.error.BindError.{BindError}
use Rattle.shared_routes.specs.declared.error.BindError.TheVariants as routes
use Rattle.shared_routes.specs.declared.new_shares.NewShares.{NewShares}
use Rattle.shared_routes.specs.declared.new_shares.NewShares.TheVariants.{Bound, Refused}
use Rattle.shared_supply.specs.Calls.{AsksDesk, Binds, Calls, missing, waking}
use Rattle.shared_supply.specs.Waking.{asking_back, freeing}
use Rattle.shared_supply.specs.Workers.{Worker, Begins, Leaves, is_visiting}
use Rattle.worker_connections.specs.declared.cell_outcome.CellOutcome.{CellOutcome}
use Rattle.worker_connections.specs.Cells.{InCell, Turns}
use Rattle.worker_connections.specs.Retiring.{RetiresDue}
use Rattle.worker_connections.proofs.Publishing.{no_others}
use Rattle.worker_connections.proofs.Retired.{retiring_calls}

-- the table of the routes that a worker knows, and its parts of the right to call the desk
abbrev pub ties : Worker → RoutesId × ℕ
ties worker = (worker.known.table, worker.desk.parts)

both : {A C : Type 0} {a b : A} {c d : C} → a ≡ b → c ≡ d → ◌≡◌ {A = A × C} (a, c) (b, d)
both p q = λ i. (p i, q i)

-- a call of the desk leaves them
asked : (old new : Worker) (call : Call Held PlaceState) → AsksDesk old call new → ties new ≡ ties old
asked old new call is = both (ap (λ (w : Worker). w.known.table) is.1) (ap (λ (c : CallerState (Call Held PlaceState)). c.parts) is.0.is)

declared : (old : KnownState) (share : Share) (answer : Result ℕ BindError) (new : KnownState) → DeclareAnswers old share answer new → new.table ≡ old.table
declared old share (Ok slot) new (inl known) = ap (λ (k : KnownState). k.table) known.1
declared old share (Ok slot) new (inr bound) = bound.grown.table
declared old share (Err routes.NoSlot) new is = is.grown.table
declared old share (Err routes.Memory) new is = ap (λ (k : KnownState). k.table) is.1
declared old share (Err routes.NotDeclared) new is = absurd is

answered : (new_shares : NewShares) (old : KnownState) (share : Share) (answer : Result ℕ BindError) (new : KnownState) → BindAnswers new_shares old share answer new → new.table ≡ old.table
answered Bound old share answer new is = declared old share answer new is
answered Refused old share answer new is = ap (λ (k : KnownState). k.table) is.1

bound_in : (old : KnownState) (share : Share) (answer : Result ℕ BindRefusal) (new : KnownState) → Binds old share answer new → new.table ≡ old.table
bound_in old share (Ok slot) new is = answered old.table.new_shares old share (Ok slot) new is
bound_in old share (Err bind.NoSlot) new is = answered old.table.new_shares old share (Err routes.NoSlot) new is
bound_in old share (Err bind.Memory) new is = answered old.table.new_shares old share (Err routes.Memory) new is
bound_in old share (Err bind.NotDeclared) new is = answered old.table.new_shares old share (Err routes.NotDeclared) new is

missed_ties : (is_missed : Bool) (worker : Worker) → ties (missing is_missed worker) ≡ ties worker
missed_ties true worker = refl
missed_ties false worker = refl

abbrev slot_of : PlaceState → ℕ
slot_of place = place.group

module _ (group : ℕ → GroupId) (seen : Sights) where
  called : (supply_call : SupplyCall PlaceState) (old new : Worker) → Calls group seen old supply_call new → ties new ≡ ties old
  called (Attach request answer) old new is = asked (waking old (asking_back answer old.wakes)) new (desk.Attach is.0 request answer) is.2
  called (Withdraw connection) old new is = asked old new (desk.Withdraw connection) is
  called (Kicked connection answer) old new (inl same) = ap ties same.1
  called (Kicked connection answer) old new (inr told) = asked old new (desk.Kicked connection answer) told
  called (Park session now answer) old new is = asked (waking old (freeing old.wakes)) new (desk.Park session now answer) is
  called (ParkAsIs session) old new is = asked (waking old (freeing old.wakes)) new (desk.ParkAsIs session is.0) is.1
  called (Keep session) old new is = asked old new (desk.Keep session is.0) is.1
  called (Bury session) old new is = asked old new (desk.Bury session is.0) is.1
  called (Sweep now answer) old new (inl same) = ap ties same.1
  called (Sweep now answer) old new (inr told) = asked old new (desk.Sweep now answer) told
  called (LendPlace slot answer) old new is = asked old new (desk.LendPlace slot answer) is
  called (TakePlace place) old new is = asked old new (desk.TakePlace place is.0) is.1
  called (Bind share answer) old new is = both (bound_in old.known share answer new.known is.0) (ap (λ (w : Worker). w.desk.parts) is.1)
  called (Find share answer) old new is = ap ties is.1
  called (Match topic slots) old new is = ap ties is.1
  called (Offer slot connection message answer) old new is = ap ties is.1
  called (MayTake place answer) old new is = ap ties is.1
  called (Take place place' answer) old new is = ap ties is.1
  called (TakeBack place place' answer) old new is = ap ties is.1
  called (Settle place place' envelope fate) old new is = ap ties is.2 ∙ missed_ties is.0 old
  called (GiveBack place place' envelope answer) old new is = ap ties is.1

  all_called : (supply_calls : List (SupplyCall PlaceState)) (old new : Worker) → MakesCalls (Calls group seen) old supply_calls new → ties new ≡ ties old
  all_called [] old new made = ap ties made
  all_called (supply_call ∷ supply_calls) old new made = all_called supply_calls made.0 new made.2 ∙ called supply_call old made.0 made.1

  given_up : (old new : Worker) (client client' : ClientState PlaceState) (now : ℕ) → IsGivenUp (Calls group seen) slot_of old client now inputs.EndOfInput client' new → ties new ≡ ties old
  given_up old new client client' now (inl moved) =
      let calls = stepped (Calls group seen) slot_of old new client.conn.number (moment_of client now) client.conn.phase client'.conn.phase inputs.EndOfInput moved.0.packets moved.0.next moved.1.stepped in
      all_called calls.supply_calls old new calls.made
  given_up old new client client' now (inr fails) =
      let calls = failed (Calls group seen) slot_of old new client.conn.number (moment_of client now) client.conn.phase inputs.EndOfInput fails.failed in
      all_called calls.supply_calls old new calls.made

  -- a visit begins
  entered : (old new : Worker) → Begins old new → ties new ≡ ties old
  entered old new begins = both begins.known.1.table (ap (λ (c : CallerState (Call Held PlaceState)). c.parts) begins.desk)

  -- so it is after sessions were retired in a visit of their own
  pub retired_ties : (old new : Worker) (now : ℕ) → RetiresDue group seen old now new → ties new ≡ ties old
  retired_ties old new now retires =
      let calls = retiring_calls group seen old new now retires in
      let its = calls.1 in
      ap ties its.leaves.becomes ∙ all_called calls.0 its.begun its.mid its.made ∙ entered old its.begun its.begins

  module _ {T : Type 0} (counts : T → Counts) (given accepted : T → Option (List ℕ)) where
    acted : (act : Act) (old new : ServiceState PlaceState T) (supply supply' : Worker) (now : ℕ) (from to : Stand)
        → Does (Calls group seen) Begins Leaves is_visiting slot_of counts given accepted act old supply new supply' → Treads now from act to → ties supply' ≡ ties supply
    acted (Enters is_open reads) old new supply supply' now from to does treads = entered supply supply' does.begun
    acted Left old new supply supply' now from to does treads = ap ties does.ended.becomes
    acted (Asks is_kicked) old new supply supply' now from to does treads = called (Kicked old.client.conn.number is_kicked) supply supply' does.asked
    acted (Reads size got bytes) old new supply supply' now from to does treads = ap ties does.same
    acted (Writes at put) old new supply supply' now from to does treads = ap ties does.same
    acted (Steps at input these next) old new supply supply' now from to does treads =
        let calls = stepped (Calls group seen) slot_of supply supply' old.client.conn.number (moment_of old.client at) old.client.conn.phase new.client.conn.phase input these next does.moved.stepped in
        all_called calls.supply_calls supply supply' calls.made
    acted (Loses at input these next) old new supply supply' now from to does treads =
        let calls = stepped (Calls group seen) slot_of supply supply' old.client.conn.number (moment_of old.client at) old.client.conn.phase new.client.conn.phase input these next does.moved.stepped in
        all_called calls.supply_calls supply supply' calls.made
    acted (Fails at input) old new supply supply' now from to does treads =
        let calls = failed (Calls group seen) slot_of supply supply' old.client.conn.number (moment_of old.client at) old.client.conn.phase input does.failed.failed in
        all_called calls.supply_calls supply supply' calls.made
    acted (Starves got bytes) old new supply supply' now from to does treads = ap ties does.same
    acted (IsFull at) old new supply supply' now from to does treads = given_up supply supply' old.client new.client at does.given_up
    acted IsStopped old new supply supply' now from to does treads = ap ties does.same
    acted (Stalls at) old new supply supply' now from to does treads = ap ties does.same
    acted (GivesUp at) old new supply supply' now from to does treads = given_up supply supply' old.client new.client at does.given_up
    acted Ends old new supply supply' now from to does treads = ap ties does.same
    acted Others old new supply supply' now from to does treads = absurd (no_others group seen now from to treads)

    walked : (acts : List Act) (old new : ServiceState PlaceState T) (supply supply' : Worker) (now : ℕ) (from to : Stand)
        → DoesAll (Calls group seen) Begins Leaves is_visiting slot_of counts given accepted acts old supply new supply' → Walks now from acts to → ties supply' ≡ ties supply
    walked [] old new supply supply' now from to does walks = ap ties does.1
    walked (act ∷ acts) old new supply supply' now from to does walks =
        walked acts does.0 new does.1 supply' now walks.0 to does.3 walks.2 ∙ acted act old does.0 supply does.1 now from walks.0 does.2 walks.1

    turned : (now : ℕ) (before : Option (ServiceState PlaceState T)) (supply : Worker) (cell_outcome : CellOutcome T) (after : Option (ServiceState PlaceState T)) (supply' : Worker)
        → Turns (Calls group seen) Begins Leaves is_visiting slot_of counts given accepted now before supply cell_outcome after supply' → ties supply' ≡ ties supply
    turned now None supply cell_outcome after supply' is = ap ties is.2
    turned now (Some service) supply cell_outcome after supply' is =
        let round = is.1 in
        walked round.led.acts service is.0 supply supply' now Outside Behind round.led.does round.led.walks

    -- so it is after a round of the connection in a cell
    pub same_ties : (now cell : ℕ) (cells cells' : List (Option (ServiceState PlaceState T))) (supply : Worker) (cell_outcome : CellOutcome T) (supply' : Worker)
        → InCell cells cell (λ before after. Turns (Calls group seen) Begins Leaves is_visiting slot_of counts given accepted now before supply cell_outcome after supply') cells'
        → ties supply' ≡ ties supply
    same_ties now cell cells cells' supply cell_outcome supply' is = turned now is.before supply cell_outcome is.after supply' is.becomes
