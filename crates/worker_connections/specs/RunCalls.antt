-- What a worker's run asks of its supply, call by call.
use Rattle.std.specs.Prelude.{◌≡◌, ◌⊎◌, ℕ, List, [], ◌∷◌, ◌++◌, Option, Some}
use Rattle.transport.specs.declared.counts.Counts.{Counts}
use Rattle.mqtt_packet.specs.declared.packet.Packet.{Packet}
use Rattle.group_queue.specs.Ports.{GroupId}
use Rattle.group_queue.specs.Places.{PlaceState}
use Rattle.broker_groups.specs.Answers.{Sights}
use Rattle.conn_supply.specs.declared.reply.Then.{Then}
use Rattle.conn_supply.specs.SupplyCalls.{SupplyCall}
use Rattle.conn_supply.specs.SupplyCalls.SupplyCall.{Kicked}
use Rattle.conn_engine.specs.declared.input.Input.{Input}
use Rattle.conn_engine.specs.declared.input.Input.TheVariants as inputs
use Rattle.conn_engine.specs.declared.phase.ConnPhase.TheVariants.{Ended}
use Rattle.conn_laws.specs.Calls.{StepCalls, FailedCalls, handed}
use Rattle.client_table.specs.Clients.{moment_of}
use Rattle.conn_service.specs.Acts.{Act, Asks, Steps, Loses, Fails, IsFull, GivesUp, Others}
use Rattle.conn_service.specs.Lives.{Does}
use Rattle.conn_service.specs.Services.{ServiceState}
use Rattle.conn_service.specs.declared.served.Served.{Served}
use Rattle.shared_supply.specs.Calls.{Calls}
use Rattle.shared_supply.specs.Workers.{Worker, Begins, Leaves, is_visiting}
use Rattle.worker_connections.specs.Cells.{InCell}
use Rattle.worker_connections.specs.Chains.{Deed, MadeRound, RetiredDue, LeavesCell, Makes, Run, RunState}
use Rattle.worker_connections.specs.Retiring.{AreOfRetiring}

module _ {T : Type 0} (group : ℕ → GroupId) (seen : Sights) where
  -- the calls of a step of the connection at this moment, by which these packets are sent: each message that they hand out is in one of these packets, or is discarded, any other message that they
  -- settle is the one that the PUBACK came for, and the places are kept
  abbrev pub AreOfStep : ℕ → Input → List Packet → Then → ServiceState PlaceState T → Worker → List (SupplyCall PlaceState) → ServiceState PlaceState T → Worker → Type 0
  AreOfStep now input sent next old supply calls new supply' =
      (step : StepCalls (Calls group seen) supply old.client.conn.number old.client.conn.phase (moment_of old.client now) input sent next new.client.conn.phase supply') × (calls ≡ step.supply_calls)

  -- those of a step in which an allocation failed, and which ended the connection
  abbrev pub AreOfFailure : ℕ → Input → ServiceState PlaceState T → Worker → List (SupplyCall PlaceState) → ServiceState PlaceState T → Worker → Type 0
  AreOfFailure now input old supply calls new supply' =
      (step : FailedCalls (Calls group seen) supply old.client.conn.number old.client.conn.phase (moment_of old.client now) input supply') × (calls ≡ step.supply_calls) × (new.client.conn.phase ≡ Ended)

  -- those of the last step of a connection that is given up, which sends nothing and hands nothing out
  abbrev pub AreOfLastStep : ℕ → ServiceState PlaceState T → Worker → List (SupplyCall PlaceState) → ServiceState PlaceState T → Worker → Type 0
  AreOfLastStep now old supply calls new supply' =
      (handed calls ≡ [])
      × (((next : Then) × AreOfStep now inputs.EndOfInput [] next old supply calls new supply') ⊎ AreOfFailure now inputs.EndOfInput old supply calls new supply')

  -- the calls of an act; what others do to the supply is none of a round
  abbrev pub AreOfAct : Act → ServiceState PlaceState T → Worker → List (SupplyCall PlaceState) → ServiceState PlaceState T → Worker → Type 0
  AreOfAct (Steps now input sent next) old supply calls new supply' = AreOfStep now input sent next old supply calls new supply'
  AreOfAct (Loses now input sent next) old supply calls new supply' = AreOfStep now input sent next old supply calls new supply'
  AreOfAct (Fails now input) old supply calls new supply' = AreOfFailure now input old supply calls new supply'
  AreOfAct (IsFull now) old supply calls new supply' = AreOfLastStep now old supply calls new supply'
  AreOfAct (GivesUp now) old supply calls new supply' = AreOfLastStep now old supply calls new supply'
  AreOfAct (Asks is_kicked) old supply calls new supply' = calls ≡ Kicked old.client.conn.number is_kicked ∷ []
  AreOfAct Others old supply calls new supply' = ⊥
  AreOfAct _ old supply calls new supply' = calls ≡ []

module _ {T : Type 0} (group : ℕ → GroupId) (seen : Sights) (counts : T → Counts) (given accepted : T → Option (List ℕ)) where
  -- those of these acts, one after the other
  abbrev pub AreOfActs : List Act → ServiceState PlaceState T → Worker → List (SupplyCall PlaceState) → ServiceState PlaceState T → Worker → Type 0
  AreOfActs [] old supply calls new supply' = (calls ≡ []) × (new ≡ old) × (supply' ≡ supply)
  AreOfActs (act ∷ acts) old supply calls new supply' =
      (between : ServiceState PlaceState T) × (mid : Worker) × (these those : List (SupplyCall PlaceState)) × (calls ≡ these ++ those)
      × Does (Calls group seen) Begins Leaves is_visiting (λ (p : PlaceState). p.group) counts given accepted act old supply between mid
      × AreOfAct group seen act old supply these between mid × AreOfActs acts between mid those new supply'

  -- a connection in a cell went on by a round of these acts, and has left the cell, or not
  abbrev pub AreOfRound : List Act → Option Served → Worker → List (SupplyCall PlaceState) → Worker → Option (ServiceState PlaceState T) → Option (ServiceState PlaceState T) → Type 0
  AreOfRound acts how supply calls supply' before after =
      (service behind : ServiceState PlaceState T) × (before ≡ Some service) × AreOfActs acts service supply calls behind supply' × LeavesCell how behind after

  -- those of a deed, which are those of its round, where it is one, or of its visit, where sessions were retired in one
  abbrev pub AreOfDeed : Deed T → RunState T → List (SupplyCall PlaceState) → RunState T → Type 0
  AreOfDeed (MadeRound cell now acts how) old calls new = InCell old.cells cell (AreOfRound acts how old.supply calls new.supply) new.cells
  AreOfDeed (RetiredDue now) old calls new = AreOfRetiring group seen old.supply calls new.supply
  AreOfDeed _ old calls new = calls ≡ []

  -- those of these deeds, one after the other
  abbrev pub AreOfDeeds : List (Deed T) → RunState T → List (SupplyCall PlaceState) → RunState T → Type 0
  AreOfDeeds [] old calls new = (calls ≡ []) × (new ≡ old)
  AreOfDeeds (deed ∷ deeds) old calls new =
      (mid : RunState T) × (these those : List (SupplyCall PlaceState)) × (calls ≡ these ++ those)
      × Makes group seen counts given accepted deed old mid × AreOfDeed deed old these mid × AreOfDeeds deeds mid those new

  -- **The calls of a run**: all that its connections asked of the supply, by the acts of its rounds, and those by which the worker retired sessions, one after the other
  abbrev pub AreCallsOf : Run T → List (SupplyCall PlaceState) → Type 0
  AreCallsOf run calls = AreOfDeeds run.deeds run.first calls run.last
