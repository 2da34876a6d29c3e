-- No session of an open connection is ending: the desk hands out none that is, and no step of a connection makes one so.
use Rattle.std.proofs.Common.{◌≡◌, ◌+◌, ℕ, false, List, [], ◌∷◌, Option, Some, None, Result, Ok, Err, All, slice_get, refl, sym, subst}
use Rattle.std.specs.Bool.{⊤}
use Rattle.std.specs.List.{AllByRecursion}
use Rattle.std.proofs.lemmas.List.Elements.{All-set, All-replicate}
use Rattle.transport.specs.declared.counts.Counts.{Counts}
use Rattle.mqtt_packet.specs.declared.packet.Packet.{Packet}
use Rattle.group_jobs.specs.Stamps.{Held}
use Rattle.member_window.specs.Contents.{after_up}
use Rattle.member_window.specs.Marks.{Mark}
use Rattle.session_desk.specs.Attaching.{Request}
use Rattle.session_desk.specs.declared.attached.Attached.{Attached}
use Rattle.session_desk.specs.declared.attached.Attached.TheVariants.{New, Resumed, Replace, Busy}
use Rattle.session_desk.specs.declared.error.DeskError.{DeskError}
use Rattle.session_desk.specs.declared.session.Session.{Session}
use Rattle.group_queue.specs.Ports.{GroupId}
use Rattle.group_queue.specs.Places.{PlaceState}
use Rattle.broker_groups.specs.Answers.{Sights}
use Rattle.broker_groups.specs.Outs.{HasOut}
use Rattle.conn_supply.specs.declared.reply.Then.{Then}
use Rattle.conn_supply.specs.SupplyCalls.SupplyCall.{Attach}
use Rattle.conn_engine.specs.declared.input.Input.{Input}
use Rattle.conn_engine.specs.declared.phase.ConnectedClient.{ConnectedClient}
use Rattle.conn_engine.specs.declared.phase.ConnPhase.{ConnPhase}
use Rattle.conn_engine.specs.declared.phase.ConnPhase.TheVariants.{Unconnected, Waiting, Connected, Ended}
use Rattle.conn_engine.specs.declared.phase.Opening.{Opening}
use Rattle.conn_engine.specs.Step.{Steps}
use Rattle.conn_laws.specs.Marks.{IsWithin}
use Rattle.conn_laws.specs.Transcripts.{connected_of, IsNotEnding, SessionSteps, session_given}
use Rattle.conn_laws.proofs.Transcripts.{transcribed}
use Rattle.conn_service.specs.Acts.{Act}
use Rattle.conn_service.specs.Lives.{Does, DoesAll}
use Rattle.conn_service.specs.Services.{ServiceState}
use Rattle.conn_service.specs.declared.served.Served.{Served}
use Rattle.conn_service.proofs.Marks.{IsUp, stays_up}
use Rattle.conn_service.proofs.Phases.{kept_on}
use Rattle.shared_desk.proofs.Pasts.{was_ready}
use Rattle.shared_supply.specs.Calls.{Calls}
use Rattle.shared_supply.specs.Workers.{Worker, Begins, Leaves, is_visiting}
use Rattle.worker_connections.specs.Cells.{Opens}
use Rattle.worker_connections.specs.Arrivals.{opening_at}
use Rattle.worker_connections.specs.Chains.{Deed, Opened, Closed, Allowed, MadeRound, Passed, RetiredDue, Called, Notified, NotifiedAll, Waited, IsFirst, LeavesCell, Makes, MakesAll, RunState}
use Rattle.worker_connections.proofs.Parts.{at_cell}

-- a client that has its session has the window, and the session is not ending
abbrev IfUp : Option (ConnectedClient PlaceState) → Type 0
IfUp None = ⊤
IfUp (Some connected) = IsUp connected.session.window

abbrev pub IsGoing : ConnPhase PlaceState → Type 0
IsGoing phase = IfUp (connected_of phase)

pub not_ending : (phase : ConnPhase PlaceState) → IsGoing phase → IsNotEnding phase
not_ending (Unconnected opened) going = tt
not_ending (Waiting request ticks) going = tt
not_ending (Connected connected) going = going.1
not_ending Ended going = tt

abbrev slot_of : PlaceState → ℕ
slot_of place = place.group

abbrev number_of : PlaceState → ℕ
number_of place = place.number

same_session : (one other : Session Held PlaceState) → Some one ≡ Some other → one ≡ other
same_session one other is = cc

module _ (group : ℕ → GroupId) (seen : Sights) where
  -- what the desk hands out is not ending
  handed_out : (old new : Worker) (request : Request) (answer : Result (Attached Held PlaceState) DeskError) (session : Session Held PlaceState)
      → Calls group seen old (Attach request answer) new → session_given answer ≡ Some session → session.window.retired ≡ false
  handed_out old new request (Ok (New fresh ended)) session asked given =
      subst (λ (s : Session Held PlaceState). s.window.retired ≡ false) (same_session fresh session given)
      (was_ready HasOut slot_of number_of asked.0 old.desk new.desk request (Ok (New fresh ended)) asked.2.0).0.going
  handed_out old new request (Ok (Resumed parked)) session asked given =
      subst (λ (s : Session Held PlaceState). s.window.retired ≡ false) (same_session parked session given)
      (was_ready HasOut slot_of number_of asked.0 old.desk new.desk request (Ok (Resumed parked)) asked.2.0).going
  handed_out old new request (Ok (Replace holder)) session asked given = absurd (cc given)
  handed_out old new request (Ok Busy) session asked given = absurd (cc given)
  handed_out old new request (Err error) session asked given = absurd (cc given)

  session_on : (from to : Worker) (number : ℕ) (one other : Option (ConnectedClient PlaceState)) (marks : List (Mark Held))
      → SessionSteps (Calls group seen) from number one other marks to → IfUp one → IfUp other
  session_on from to number None None marks steps up = tt
  session_on from to number None (Some connected) marks begun up =
      let going = handed_out begun.asks.before begun.mid begun.asks.request begun.answer begun.session begun.asks.asked begun.given in
      stays_up begun.calls (after_up begun.session.window connected.terms.receive_maximum) connected.session.window (refl, going) begun.within begun.made
  session_on from to number (Some connected) (Some connected') marks goes up =
      stays_up goes.calls connected.session.window connected'.session.window up (subst (AllByRecursion IsWithin) goes.marks_are goes.within) goes.made
  session_on from to number (Some connected) None marks ends up = tt

  stepped_on : (number now : ℕ) (phase phase' : ConnPhase PlaceState) (input : Input) (sent : List Packet) (next : Then) (from to : Worker)
      → Steps (Calls group seen) slot_of from number phase now input sent next phase' to → IsGoing phase → IsGoing phase'
  stepped_on number now phase phase' input sent next from to stepped going =
      let it = transcribed (Calls group seen) slot_of from to number now phase phase' input sent next stepped (not_ending phase going) in
      session_on from to number (connected_of phase) (connected_of phase') it.marks it.session going

  module _ {T : Type 0} (counts : T → Counts) (given accepted : T → Option (List ℕ)) where
    -- so it is after each act, and after all of a round
    pub going_on : (act : Act) (old new : ServiceState PlaceState T) (supply supply' : Worker) → IsGoing old.client.conn.phase
        → Does (Calls group seen) Begins Leaves is_visiting slot_of counts given accepted act old supply new supply' → IsGoing new.client.conn.phase
    going_on act old new supply supply' going does =
        kept_on (Calls group seen) Begins Leaves is_visiting slot_of counts given accepted IsGoing tt
        (λ number now phase phase' input sent next from to stepped kept. stepped_on number now phase phase' input sent next from to stepped kept)
        act old new supply supply' going does

    going_all : (acts : List Act) (old new : ServiceState PlaceState T) (supply supply' : Worker) → IsGoing old.client.conn.phase
        → DoesAll (Calls group seen) Begins Leaves is_visiting slot_of counts given accepted acts old supply new supply' → IsGoing new.client.conn.phase
    going_all [] old new supply supply' going does = subst (λ (s : ServiceState PlaceState T). IsGoing s.client.conn.phase) (sym does.0) going
    going_all (act ∷ acts) old new supply supply' going does = going_all acts does.0 new does.1 supply' (going_on act old does.0 supply does.1 going does.2) does.3

    -- and so it is in each cell
    abbrev IfGoing : Option (ServiceState PlaceState T) → Type 0
    IfGoing None = ⊤
    IfGoing (Some service) = IsGoing service.client.conn.phase

    abbrev pub AreGoing : List (Option (ServiceState PlaceState T)) → Type 0
    AreGoing cells = All IfGoing cells

    opened_going : (number : ℕ) (opening : Opening) (watched : T) (before after : Option (ServiceState PlaceState T)) → Opens number opening watched before after → IfGoing after
    opened_going number opening watched before None opens = tt
    opened_going number opening watched before (Some service) opens = subst (λ (s : ServiceState PlaceState T). IsGoing s.client.conn.phase) (sym opens.1) tt

    left_going : (how : Option Served) (behind : ServiceState PlaceState T) (after : Option (ServiceState PlaceState T)) → LeavesCell how behind after
        → IsGoing behind.client.conn.phase → IfGoing after
    left_going None behind after leaves going = subst IfGoing (sym leaves) going
    left_going (Some how) behind after leaves going = subst IfGoing (sym leaves.2) tt

    pub cell_going : (cells : List (Option (ServiceState PlaceState T))) (cell : ℕ) (before : Option (ServiceState PlaceState T)) (service : ServiceState PlaceState T) → AreGoing cells
        → slice_get cells cell ≡ Some before → before ≡ Some service → IsGoing service.client.conn.phase
    cell_going cells cell before service all has here = subst IfGoing here (at_cell IfGoing cells cell before all has)

    made_going : (deed : Deed T) (old new : RunState T) → Makes group seen counts given accepted deed old new → AreGoing old.cells → AreGoing new.cells
    made_going (Opened arrived cell now) old new does all =
        let made = does.2 in
        subst AreGoing (sym made.is)
        (All-set IfGoing old.cells cell made.after (opened_going (old.first + cell) (opening_at now arrived) does.0 made.before made.after made.becomes) all)
    made_going (Closed arrived number) old new does all = subst (λ (s : RunState T). AreGoing s.cells) (sym does.2) all
    made_going (Allowed most) old new does all = subst (λ (s : RunState T). AreGoing s.cells) (sym does) all
    made_going (MadeRound cell now acts how) old new does all =
        let made = does.0 in
        let goes = made.becomes in
        let first = cell_going old.cells cell made.before goes.service all made.has goes.here in
        subst AreGoing (sym made.is)
        (All-set IfGoing old.cells cell made.after
        (left_going how goes.behind made.after goes.leaves (going_all goes.round.led.acts goes.service goes.behind old.supply new.supply first goes.round.led.does)) all)
    made_going (Passed cell) old new does all =
        let made = does.0 in
        subst AreGoing (sym made.is) (All-set IfGoing old.cells cell made.after (subst IfGoing (sym made.becomes.1) tt) all)
    made_going (RetiredDue now) old new does all = subst (λ (s : RunState T). AreGoing s.cells) (sym does.1) all
    made_going (Called slot) old new does all = subst (λ (s : RunState T). AreGoing s.cells) (sym does) all
    made_going (Notified most others) old new does all = subst (λ (s : RunState T). AreGoing s.cells) (sym does.1) all
    made_going NotifiedAll old new does all = subst (λ (s : RunState T). AreGoing s.cells) (sym does) all
    made_going (Waited at_most now drains) old new does all = subst (λ (s : RunState T). AreGoing s.cells) (sym does.2) all

    all_going : (deeds : List (Deed T)) (old new : RunState T) → MakesAll group seen counts given accepted deeds old new → AreGoing old.cells → AreGoing new.cells
    all_going [] old new does all = subst (λ (s : RunState T). AreGoing s.cells) (sym does) all
    all_going (deed ∷ deeds) old new does all = all_going deeds does.0 new does.2 (made_going deed old does.0 does.1 all)

    -- at each state of a run
    pub run_going : (deeds : List (Deed T)) (old new : RunState T) → IsFirst old → MakesAll group seen counts given accepted deeds old new → AreGoing new.cells
    run_going deeds old new begun does =
        all_going deeds old new does (subst AreGoing (sym begun.free) (All-replicate IfGoing begun.count None tt))
