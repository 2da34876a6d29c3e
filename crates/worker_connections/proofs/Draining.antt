-- A worker that drains accepts nothing and goes on to drain, and it drains just from a wait on whose poller told it so.
use Rattle.std.proofs.Common.{◌≡◌, ◌≤◌, ℕ, Bool, true, false, ◌||◌, List, [], ◌∷◌, Option, Result, Ok, Err, refl, sym, ap, subst, ◌∙◌, inl, inr}
use Rattle.std.specs.List.{AllByRecursion}
use Rattle.transport.specs.declared.counts.Counts.{Counts}
use Rattle.group_jobs.specs.declared.message.Message.{Message}
use Rattle.group_jobs.specs.declared.stamp.Stamp.{Stamp}
use Rattle.group_queue.specs.declared.error.NotTaken.{NotTaken}
use Rattle.group_queue.specs.declared.error.OfferError.{OfferError}
use Rattle.group_queue.specs.declared.error.OfferError.TheVariants as error
use Rattle.group_queue.specs.Ports.{GroupId, PortState}
use Rattle.group_queue.specs.Places.{PlaceState}
use Rattle.broker_groups.specs.Answers.{Sights}
use Rattle.broker_groups.specs.Offering.{told, told_as}
use Rattle.conn_supply.specs.declared.supply.OfferRefusal.TheVariants as refusal
use Rattle.conn_supply.specs.SupplyCalls.{SupplyCall}
use Rattle.conn_supply.specs.SupplyCalls.SupplyCall.{Attach, Withdraw, Kicked, Park, ParkAsIs, Keep, Bury, Sweep, LendPlace, TakePlace, Bind, Find, Match, Offer, MayTake, Take, TakeBack, Settle, GiveBack}
use Rattle.conn_engine.specs.declared.input.Input.TheVariants as inputs
use Rattle.conn_laws.specs.Calls.{MakesAll as MakesCalls}
use Rattle.conn_laws.proofs.Failing.{failed}
use Rattle.conn_laws.proofs.Stepping.{stepped}
use Rattle.client_table.specs.Clients.{ClientState, IsGivenUp, moment_of}
use Rattle.conn_service.specs.Acts.{Act, Enters, Leaves as Left, Asks, Reads, Writes, Steps, Loses, Fails, Starves, IsFull, IsStopped, Stalls, GivesUp, Ends, Others}
use Rattle.conn_service.specs.Lives.{Does, DoesAll}
use Rattle.conn_service.specs.Services.{ServiceState}
use Rattle.conn_service.specs.Visits.{Stand, Outside, Behind, Treads, Walks}
use Rattle.group_jobs.specs.Stamps.{Held}
use Rattle.session_desk.specs.Attaching.{Request}
use Rattle.session_desk.specs.Calls as desk
use Rattle.session_desk.specs.declared.attached.Attached.{Attached}
use Rattle.session_desk.specs.declared.error.DeskError.{DeskError}
use Rattle.session_desk.specs.declared.newcomers.Newcomers.TheVariants.{Refused}
use Rattle.shared_supply.specs.Calls.{Calls, IsToldOfDesk, OffersIn, missing}
use Rattle.shared_supply.specs.Workers.{Worker, Begins, Leaves, is_visiting}
use Rattle.worker_connections.specs.Chains.{Deed, Opened, Closed, Allowed, MadeRound, Passed, RetiredDue, Called, Notified, NotifiedAll, Waited, Makes, MakesAll, RunState}
use Rattle.worker_connections.specs.Draining.{tells_to_drain}
use Rattle.worker_connections.specs.Retiring.{RetiresDue}
use Rattle.worker_connections.proofs.Publishing.{no_others}
use Rattle.worker_connections.proofs.Retired.{retiring_calls}

-- it drains as before, and where it drains, nothing came into its ports
record StaysShut (old new : Worker) : Type 0 where
  as_before : new.draining ≡ old.draining
  accepted_none : old.draining ≡ true → new.ports ≡ old.ports

same : (old new : Worker) → new ≡ old → StaysShut old new
same old new is = record { as_before = ap (λ (w : Worker). w.draining) is; accepted_none = λ drains. ap (λ (w : Worker). w.ports) is }

both : (old mid new : Worker) → StaysShut old mid → StaysShut mid new → StaysShut old new
both old mid new first second = record {
  as_before = second.as_before ∙ first.as_before;
  accepted_none = λ drains. second.accepted_none (first.as_before ∙ drains) ∙ first.accepted_none drains;
}

missed : (is_missed : Bool) (worker : Worker) → StaysShut worker (missing is_missed worker)
missed true worker = record { as_before = refl; accepted_none = λ drains. refl }
missed false worker = record { as_before = refl; accepted_none = λ drains. refl }

abbrev slot_of : PlaceState → ℕ
slot_of place = place.group

-- no group answers as a closed broker does
told_otherwise : (refused : OfferError) → refusal.Shut ≡ told_as refused → ⊥
told_otherwise error.Full is = cc is
told_otherwise error.LifeSpent is = cc is

answered_otherwise : (given : Result Stamp NotTaken) → Err refusal.Shut ≡ told given → ⊥
answered_otherwise (Ok stamp) is = cc is
answered_otherwise (Err refused) is = told_otherwise refused.error (cc is)

module _ (group : ℕ → GroupId) (seen : Sights) where
  -- a worker that does not drain answers so where there is no group alone
  pub shut_without_group : (old : List PortState) (slot : ℕ) (message : Message) (new : List PortState) → OffersIn group seen false old slot message (Err refusal.Shut) new → 8 ≤ slot
  shut_without_group old slot message new (inl is) = is.0
  shut_without_group old slot message new (inr is) = absurd (answered_otherwise is.1.0 is.1.2)

  -- a worker that drains has the desk begin no session for a newcomer
  pub begins_none : (old new : Worker) (request : Request) (answer : Result (Attached Held PlaceState) DeskError) → Calls group seen old (Attach request answer) new → old.draining ≡ true
      → IsToldOfDesk old.desk (desk.Attach Refused request answer) new.desk
  begins_none old new request answer asks drains = subst (λ newcomers. IsToldOfDesk old.desk (desk.Attach newcomers request answer) new.desk) (asks.1 drains) asks.2.0

  called : (supply_call : SupplyCall PlaceState) (old new : Worker) → Calls group seen old supply_call new → StaysShut old new
  called (Attach request answer) old new is = record { as_before = ap (λ (w : Worker). w.draining) is.2.1; accepted_none = λ drains. ap (λ (w : Worker). w.ports) is.2.1 }
  called (Withdraw connection) old new is = record { as_before = ap (λ (w : Worker). w.draining) is.1; accepted_none = λ drains. ap (λ (w : Worker). w.ports) is.1 }
  called (Kicked connection answer) old new (inl stays) = same old new stays.1
  called (Kicked connection answer) old new (inr told) = record { as_before = ap (λ (w : Worker). w.draining) told.1; accepted_none = λ drains. ap (λ (w : Worker). w.ports) told.1 }
  called (Park session now answer) old new is = record { as_before = ap (λ (w : Worker). w.draining) is.1; accepted_none = λ drains. ap (λ (w : Worker). w.ports) is.1 }
  called (ParkAsIs session) old new is = record { as_before = ap (λ (w : Worker). w.draining) is.1.1; accepted_none = λ drains. ap (λ (w : Worker). w.ports) is.1.1 }
  called (Keep session) old new is = record { as_before = ap (λ (w : Worker). w.draining) is.1.1; accepted_none = λ drains. ap (λ (w : Worker). w.ports) is.1.1 }
  called (Bury session) old new is = record { as_before = ap (λ (w : Worker). w.draining) is.1.1; accepted_none = λ drains. ap (λ (w : Worker). w.ports) is.1.1 }
  called (Sweep now answer) old new (inl stays) = same old new stays.1
  called (Sweep now answer) old new (inr told) = record { as_before = ap (λ (w : Worker). w.draining) told.1; accepted_none = λ drains. ap (λ (w : Worker). w.ports) told.1 }
  called (LendPlace slot answer) old new is = record { as_before = ap (λ (w : Worker). w.draining) is.1; accepted_none = λ drains. ap (λ (w : Worker). w.ports) is.1 }
  called (TakePlace place) old new is = record { as_before = ap (λ (w : Worker). w.draining) is.1.1; accepted_none = λ drains. ap (λ (w : Worker). w.ports) is.1.1 }
  called (Bind share answer) old new is = record { as_before = ap (λ (w : Worker). w.draining) is.1; accepted_none = λ drains. ap (λ (w : Worker). w.ports) is.1 }
  called (Find share answer) old new is = same old new is.1
  called (Match topic slots) old new is = same old new is.1
  called (Offer slot connection message answer) old new is = record {
    as_before = ap (λ (w : Worker). w.draining) is.1;
    accepted_none = λ drains. (subst (λ (d : Bool). OffersIn group seen d old.ports slot message answer new.ports) drains is.0).1;
  }
  called (MayTake place answer) old new is = same old new is.1
  called (Take place place' answer) old new is = record { as_before = ap (λ (w : Worker). w.draining) is.1; accepted_none = λ drains. ap (λ (w : Worker). w.ports) is.1 }
  called (TakeBack place place' answer) old new is = record { as_before = ap (λ (w : Worker). w.draining) is.1; accepted_none = λ drains. ap (λ (w : Worker). w.ports) is.1 }
  called (Settle place place' envelope fate) old new is = subst (λ (w : Worker). StaysShut old w) (sym is.2) (missed is.0 old)
  called (GiveBack place place' envelope answer) old new is = record { as_before = ap (λ (w : Worker). w.draining) is.1; accepted_none = λ drains. ap (λ (w : Worker). w.ports) is.1 }

  all_called : (supply_calls : List (SupplyCall PlaceState)) (old new : Worker) → MakesCalls (Calls group seen) old supply_calls new → StaysShut old new
  all_called [] old new made = same old new made
  all_called (supply_call ∷ supply_calls) old new made = both old made.0 new (called supply_call old made.0 made.1) (all_called supply_calls made.0 new made.2)

  given_up : (old new : Worker) (client client' : ClientState PlaceState) (now : ℕ) → IsGivenUp (Calls group seen) slot_of old client now inputs.EndOfInput client' new → StaysShut old new
  given_up old new client client' now (inl moved) =
      let calls = stepped (Calls group seen) slot_of old new client.conn.number (moment_of client now) client.conn.phase client'.conn.phase inputs.EndOfInput moved.0.packets moved.0.next moved.1.stepped in
      all_called calls.supply_calls old new calls.made
  given_up old new client client' now (inr fails) =
      let calls = failed (Calls group seen) slot_of old new client.conn.number (moment_of client now) client.conn.phase inputs.EndOfInput fails.failed in
      all_called calls.supply_calls old new calls.made

  -- a visit begins, and ends
  entered : (old new : Worker) → Begins old new → StaysShut old new
  entered old new begins = record { as_before = begins.draining; accepted_none = λ drains. begins.ports }

  left : (old new : Worker) → Leaves old new → StaysShut old new
  left old new leaves = record { as_before = ap (λ (w : Worker). w.draining) leaves.becomes; accepted_none = λ drains. ap (λ (w : Worker). w.ports) leaves.becomes }

  -- sessions are retired in a visit of their own
  retired : (old new : Worker) (now : ℕ) → RetiresDue group seen old now new → StaysShut old new
  retired old new now retires =
      let calls = retiring_calls group seen old new now retires in
      let its = calls.1 in
      both old its.begun new (entered old its.begun its.begins) (both its.begun its.mid new (all_called calls.0 its.begun its.mid its.made) (left its.mid new its.leaves))

  module _ {T : Type 0} (counts : T → Counts) (given accepted : T → Option (List ℕ)) where
    acted : (act : Act) (old new : ServiceState PlaceState T) (supply supply' : Worker) (now : ℕ) (from to : Stand)
        → Does (Calls group seen) Begins Leaves is_visiting slot_of counts given accepted act old supply new supply' → Treads now from act to → StaysShut supply supply'
    acted (Enters is_open reads) old new supply supply' now from to does treads = entered supply supply' does.begun
    acted Left old new supply supply' now from to does treads = left supply supply' does.ended
    acted (Asks is_kicked) old new supply supply' now from to does treads = called (Kicked old.client.conn.number is_kicked) supply supply' does.asked
    acted (Reads size got bytes) old new supply supply' now from to does treads = same supply supply' does.same
    acted (Writes at put) old new supply supply' now from to does treads = same supply supply' does.same
    acted (Steps at input these next) old new supply supply' now from to does treads =
        let calls = stepped (Calls group seen) slot_of supply supply' old.client.conn.number (moment_of old.client at) old.client.conn.phase new.client.conn.phase input these next does.moved.stepped in
        all_called calls.supply_calls supply supply' calls.made
    acted (Loses at input these next) old new supply supply' now from to does treads =
        let calls = stepped (Calls group seen) slot_of supply supply' old.client.conn.number (moment_of old.client at) old.client.conn.phase new.client.conn.phase input these next does.moved.stepped in
        all_called calls.supply_calls supply supply' calls.made
    acted (Fails at input) old new supply supply' now from to does treads =
        let calls = failed (Calls group seen) slot_of supply supply' old.client.conn.number (moment_of old.client at) old.client.conn.phase input does.failed.failed in
        all_called calls.supply_calls supply supply' calls.made
    acted (Starves got bytes) old new supply supply' now from to does treads = same supply supply' does.same
    acted (IsFull at) old new supply supply' now from to does treads = given_up supply supply' old.client new.client at does.given_up
    acted IsStopped old new supply supply' now from to does treads = same supply supply' does.same
    acted (Stalls at) old new supply supply' now from to does treads = same supply supply' does.same
    acted (GivesUp at) old new supply supply' now from to does treads = given_up supply supply' old.client new.client at does.given_up
    acted Ends old new supply supply' now from to does treads = same supply supply' does.same
    acted Others old new supply supply' now from to does treads = absurd (no_others group seen now from to treads)

    walked : (acts : List Act) (old new : ServiceState PlaceState T) (supply supply' : Worker) (now : ℕ) (from to : Stand)
        → DoesAll (Calls group seen) Begins Leaves is_visiting slot_of counts given accepted acts old supply new supply' → Walks now from acts to → StaysShut supply supply'
    walked [] old new supply supply' now from to does walks = same supply supply' does.1
    walked (act ∷ acts) old new supply supply' now from to does walks =
        both supply does.1 supply' (acted act old does.0 supply does.1 now from walks.0 does.2 walks.1) (walked acts does.0 new does.1 supply' now walks.0 to does.3 walks.2)

    -- a deed: where it tells to drain, that is so from then on
    record GoesShut (told : Bool) (old new : Worker) : Type 0 where
      as_told : new.draining ≡ (told || old.draining)
      accepted_none : old.draining ≡ true → new.ports ≡ old.ports

    untold : (old new : Worker) → StaysShut old new → GoesShut false old new
    untold old new stays = record { as_told = stays.as_before; accepted_none = stays.accepted_none }

    supply_kept : (old new : RunState T) → new.supply ≡ old.supply → GoesShut false old.supply new.supply
    supply_kept old new is = untold old.supply new.supply (same old.supply new.supply is)

    done : (deed : Deed T) (old new : RunState T) → Makes group seen counts given accepted deed old new → GoesShut (tells_to_drain deed) old.supply new.supply
    done (Opened arrived cell now) old new does = supply_kept old new (ap (λ (s : RunState T). s.supply) does.3)
    done (Closed arrived number) old new does = supply_kept old new (ap (λ (s : RunState T). s.supply) does.2)
    done (Allowed most) old new does = record { as_told = ap (λ (s : RunState T). s.supply.draining) does; accepted_none = λ drains. ap (λ (s : RunState T). s.supply.ports) does }
    done (MadeRound cell now acts how) old new does =
        let goes = does.0.becomes in
        untold old.supply new.supply (walked goes.round.led.acts goes.service goes.behind old.supply new.supply now Outside Behind goes.round.led.does goes.round.led.walks)
    done (Passed cell) old new does = supply_kept old new (ap (λ (s : RunState T). s.supply) does.1)
    done (RetiredDue now) old new does = untold old.supply new.supply (retired old.supply new.supply now does.0)
    done (Called slot) old new does = record { as_told = ap (λ (s : RunState T). s.supply.draining) does; accepted_none = λ drains. ap (λ (s : RunState T). s.supply.ports) does }
    done (Notified most others) old new does =
        record { as_told = ap (λ (s : RunState T). s.supply.draining) does.1; accepted_none = λ drains. ap (λ (s : RunState T). s.supply.ports) does.1 }
    done NotifiedAll old new does = record { as_told = ap (λ (s : RunState T). s.supply.draining) does; accepted_none = λ drains. ap (λ (s : RunState T). s.supply.ports) does }
    done (Waited at_most now drains) old new does =
        record { as_told = ap (λ (s : RunState T). s.supply.draining) does.2; accepted_none = λ shut. ap (λ (s : RunState T). s.supply.ports) does.2 }

    stays_true : (told was : Bool) → was ≡ true → (told || was) ≡ true
    stays_true true was drains = refl
    stays_true false was drains = drains

    -- it drains to the end, and nothing more comes into its ports
    pub accepts_nothing : (deeds : List (Deed T)) (old new : RunState T) → MakesAll group seen counts given accepted deeds old new → old.supply.draining ≡ true
        → (new.supply.ports ≡ old.supply.ports) × (new.supply.draining ≡ true)
    accepts_nothing [] old new does drains = (ap (λ (s : RunState T). s.supply.ports) does, ap (λ (s : RunState T). s.supply.draining) does ∙ drains)
    accepts_nothing (deed ∷ deeds) old new does drains =
        let one = done deed old does.0 does.1 in
        let others = accepts_nothing deeds does.0 new does.2 (one.as_told ∙ stays_true (tells_to_drain deed) old.supply.draining drains) in
        (others.0 ∙ one.accepted_none drains, others.1)

    -- where no wait told it to drain, it goes on as before
    pub goes_on_untold : (deeds : List (Deed T)) (old new : RunState T) → MakesAll group seen counts given accepted deeds old new → AllByRecursion (λ deed. tells_to_drain deed ≡ false) deeds
        → new.supply.draining ≡ old.supply.draining
    goes_on_untold [] old new does untold_all = ap (λ (s : RunState T). s.supply.draining) does
    goes_on_untold (deed ∷ deeds) old new does untold_all =
        let one = done deed old does.0 does.1 in
        goes_on_untold deeds does.0 new does.2 untold_all.1 ∙ (one.as_told ∙ ap (λ (told : Bool). (told || old.supply.draining)) untold_all.0)

    -- from a wait on that told it to drain, it does
    pub drains_when_told : (deed : Deed T) (old new : RunState T) → Makes group seen counts given accepted deed old new → tells_to_drain deed ≡ true → new.supply.draining ≡ true
    drains_when_told deed old new does told = (done deed old new does).as_told ∙ ap (λ (it : Bool). (it || old.supply.draining)) told
