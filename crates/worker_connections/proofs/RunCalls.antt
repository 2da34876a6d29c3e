-- Each run of a worker has its calls: those of its steps, one after the other.
use Rattle.std.proofs.Common.{ℕ, List, [], ◌∷◌, ◌++◌, Option, refl, sym, subst, inl, inr}
use Rattle.transport.specs.declared.counts.Counts.{Counts}
use Rattle.group_queue.specs.Ports.{GroupId}
use Rattle.group_queue.specs.Places.{PlaceState}
use Rattle.broker_groups.specs.Answers.{Sights}
use Rattle.conn_supply.specs.SupplyCalls.{SupplyCall}
use Rattle.conn_supply.specs.SupplyCalls.SupplyCall.{Kicked}
use Rattle.conn_engine.specs.declared.input.Input.TheVariants as inputs
use Rattle.conn_engine.specs.Step.{Steps as ConnSteps}
use Rattle.conn_laws.proofs.Ended.{ends_by, silent}
use Rattle.conn_laws.proofs.Failing.{failed, failed_at_the_end}
use Rattle.conn_laws.proofs.Stepping.{none_at_the_end, stepped}
use Rattle.client_table.specs.Clients.{IsGivenUp, moment_of}
use Rattle.conn_service.specs.Acts.{Act, Enters, Leaves as Left, Asks, Reads, Writes, Steps, Loses, Fails, Starves, IsFull, IsStopped, Stalls, GivesUp, Ends, Others}
use Rattle.conn_service.specs.Lives.{Does, DoesAll}
use Rattle.conn_service.specs.Services.{ServiceState}
use Rattle.conn_service.specs.Visits.{Stand, Outside, Behind, Treads, Walks}
use Rattle.shared_supply.specs.Calls.{Calls}
use Rattle.shared_supply.specs.Workers.{Worker, Begins, Leaves, is_visiting}
use Rattle.worker_connections.specs.Chains.{Deed, Opened, Closed, Allowed, MadeRound, Passed, RetiredDue, Called, Notified, NotifiedAll, Waited, Makes, MakesAll, IsRun, Run, RunState}
use Rattle.worker_connections.proofs.Publishing.{no_others}
use Rattle.worker_connections.proofs.Retired.{retiring_calls}
use Rattle.worker_connections.specs.RunCalls.{AreOfAct, AreOfActs, AreOfDeed, AreOfDeeds, AreOfLastStep, AreCallsOf}

abbrev slot_of : PlaceState → ℕ
slot_of place = place.group

module _ {T : Type 0} (group : ℕ → GroupId) (seen : Sights) (counts : T → Counts) (given accepted : T → Option (List ℕ)) where
  the_last : (at : ℕ) (old new : ServiceState PlaceState T) (supply supply' : Worker) → IsGivenUp (Calls group seen) slot_of supply old.client at inputs.EndOfInput new.client supply'
      → (calls : List (SupplyCall PlaceState)) × AreOfLastStep group seen at old supply calls new supply'
  the_last at old new supply supply' (inl moved) =
      let now = moment_of old.client at in
      let none = silent (Calls group seen) slot_of supply supply' old.client.conn.number now old.client.conn.phase new.client.conn.phase moved.0.packets moved.0.next moved.1.stepped in
      let steps = subst (λ packets. ConnSteps (Calls group seen) slot_of supply old.client.conn.number old.client.conn.phase now inputs.EndOfInput packets moved.0.next new.client.conn.phase supply') none moved.1.stepped in
      let step = stepped (Calls group seen) slot_of supply supply' old.client.conn.number now old.client.conn.phase new.client.conn.phase inputs.EndOfInput [] moved.0.next steps in
      let over = ends_by (Calls group seen) slot_of supply supply' old.client.conn.number now old.client.conn.phase new.client.conn.phase inputs.EndOfInput [] moved.0.next steps tt in
      (step.supply_calls, (none_at_the_end new.client.conn.phase now step.supply_calls step.outcomes over step.fit step.handed_out, inl (moved.0.next, (step, refl))))
  the_last at old new supply supply' (inr fails) =
      let step = failed_at_the_end (Calls group seen) slot_of supply supply' old.client.conn.number (moment_of old.client at) old.client.conn.phase fails.failed in
      (step.0.supply_calls, (step.1, inr (step.0, refl, fails.over)))

  acted : (act : Act) (old new : ServiceState PlaceState T) (supply supply' : Worker) (now : ℕ) (from to : Stand)
      → Does (Calls group seen) Begins Leaves is_visiting slot_of counts given accepted act old supply new supply' → Treads now from act to
      → (calls : List (SupplyCall PlaceState)) × AreOfAct group seen act old supply calls new supply'
  acted (Enters is_open reads) old new supply supply' now from to does treads = ([], refl)
  acted Left old new supply supply' now from to does treads = ([], refl)
  acted (Asks is_kicked) old new supply supply' now from to does treads = (Kicked old.client.conn.number is_kicked ∷ [], refl)
  acted (Reads size got bytes) old new supply supply' now from to does treads = ([], refl)
  acted (Writes at put) old new supply supply' now from to does treads = ([], refl)
  acted (Steps at input sent next) old new supply supply' now from to does treads =
      let step = stepped (Calls group seen) slot_of supply supply' old.client.conn.number (moment_of old.client at) old.client.conn.phase new.client.conn.phase input sent next does.moved.stepped in
      (step.supply_calls, (step, refl))
  acted (Loses at input sent next) old new supply supply' now from to does treads =
      let step = stepped (Calls group seen) slot_of supply supply' old.client.conn.number (moment_of old.client at) old.client.conn.phase new.client.conn.phase input sent next does.moved.stepped in
      (step.supply_calls, (step, refl))
  acted (Fails at input) old new supply supply' now from to does treads =
      let step = failed (Calls group seen) slot_of supply supply' old.client.conn.number (moment_of old.client at) old.client.conn.phase input does.failed.failed in
      (step.supply_calls, (step, refl, does.failed.over))
  acted (Starves got bytes) old new supply supply' now from to does treads = ([], refl)
  acted (IsFull at) old new supply supply' now from to does treads = the_last at old new supply supply' does.given_up
  acted IsStopped old new supply supply' now from to does treads = ([], refl)
  acted (Stalls at) old new supply supply' now from to does treads = ([], refl)
  acted (GivesUp at) old new supply supply' now from to does treads = the_last at old new supply supply' does.given_up
  acted Ends old new supply supply' now from to does treads = ([], refl)
  acted Others old new supply supply' now from to does treads = absurd (no_others group seen now from to treads)

  all_acted : (acts : List Act) (old new : ServiceState PlaceState T) (supply supply' : Worker) (now : ℕ) (from to : Stand)
      → DoesAll (Calls group seen) Begins Leaves is_visiting slot_of counts given accepted acts old supply new supply' → Walks now from acts to
      → (calls : List (SupplyCall PlaceState)) × AreOfActs group seen counts given accepted acts old supply calls new supply'
  all_acted [] old new supply supply' now from to does walks = ([], (refl, does.0, does.1))
  all_acted (act ∷ acts) old new supply supply' now from to does walks =
      let these = acted act old does.0 supply does.1 now from walks.0 does.2 walks.1 in
      let those = all_acted acts does.0 new does.1 supply' now walks.0 to does.3 walks.2 in
      (these.0 ++ those.0, (does.0, does.1, these.0, those.0, refl, does.2, these.1, those.1))

  done : (deed : Deed T) (old new : RunState T) → Makes group seen counts given accepted deed old new → (calls : List (SupplyCall PlaceState)) × AreOfDeed group seen counts given accepted deed old calls new
  done (Opened arrived cell now) old new does = ([], refl)
  done (Closed arrived number) old new does = ([], refl)
  done (Allowed most) old new does = ([], refl)
  done (MadeRound cell now acts how) old new does =
      let made = does.0 in
      let goes = made.becomes in
      let asked = all_acted goes.round.led.acts goes.service goes.behind old.supply new.supply now Outside Behind goes.round.led.does goes.round.led.walks in (
        asked.0,
        record {
          before = made.before;
          after = made.after;
          has = made.has;
          becomes = (
            goes.service,
            goes.behind,
            goes.here,
            subst (λ (those : List Act). AreOfActs group seen counts given accepted those goes.service old.supply asked.0 goes.behind new.supply) (sym goes.acts_are) asked.1,
            goes.leaves,
          );
          is = made.is;
        },
      )
  done (Passed cell) old new does = ([], refl)
  done (RetiredDue now) old new does = retiring_calls group seen old.supply new.supply now does.0
  done (Called slot) old new does = ([], refl)
  done (Notified most others) old new does = ([], refl)
  done NotifiedAll old new does = ([], refl)
  done (Waited at_most now drains) old new does = ([], refl)

  all_done : (deeds : List (Deed T)) (old new : RunState T) → MakesAll group seen counts given accepted deeds old new → (calls : List (SupplyCall PlaceState)) × AreOfDeeds group seen counts given accepted deeds old calls new
  all_done [] old new does = ([], (refl, does))
  all_done (deed ∷ deeds) old new does =
      let these = done deed old does.0 does.1 in
      let those = all_done deeds does.0 new does.2 in
      (these.0 ++ those.0, (does.0, these.0, those.0, refl, does.1, these.1, those.1))

  -- each run has its calls
  pub calls_of : (run : Run T) → IsRun group seen counts given accepted run → (calls : List (SupplyCall PlaceState)) × AreCallsOf group seen counts given accepted run calls
  calls_of run is = all_done run.deeds run.first run.last is.made
