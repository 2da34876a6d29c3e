-- What a step makes of a connection: one act.
use Rattle.std.proofs.Common.{◌≡◌, ◌≢◌, ℕ, ◌<◌, Bool, true, false, List, [], ◌∷◌, ◌++◌, length, Option, Some, None, Result, Ok, Err, MatchResult, refl, sym, ap, subst, ◌∙◌, inl, inr}
use Rattle.mqtt_packet.specs.declared.packet.Packet.{Packet}
use Rattle.mqtt_wire.specs.Stream.{Unread}
use Rattle.transport.specs.declared.counts.Counts.{Counts}
use Rattle.conn_supply.specs.declared.reply.Then.{Then}
use Rattle.conn_supply.specs.SupplyCalls.{SupplyCall}
use Rattle.conn_supply.specs.declared.supply.NoMemory.{NoMemory}
use Rattle.conn_engine.specs.declared.input.Input.{Input}
use Rattle.conn_engine.specs.declared.input.Input.TheVariants as inputs
use Rattle.conn_engine.specs.declared.phase.ConnPhase.TheVariants.{Ended}
use Rattle.conn_engine.specs.Step.{IsNoPacket}
use Rattle.client_table.specs.Clients.{ClientState, step_output, ClientSteps, ClientFailsToStep, IsGivenUp}
use Rattle.client_table.specs.Streams.{IsInFront, FailsToReadOne}
use Rattle.conn_service.specs.declared.served.Served.TheVariants as served
use Rattle.conn_service.specs.Services.{ServiceState, bytes_of, write_room}
use Rattle.conn_service.specs.Acts.{Act, Enters, Leaves, Steps, Loses, Fails, IsFull, GivesUp, packets_in}
use Rattle.conn_service.specs.Visits.{Behind, Inside, Parting, Parted, IsSteppedIn}
use Rattle.conn_service.specs.Moments.{ticked_by, since_step}
use Rattle.conn_service.specs.Lives.{TakesFront, MayStep, IsDue}
use Rattle.conn_service.specs.Advances.{LeadsBy}
use Rattle.conn_service.proofs.Leading.{leads_one, leads_on}

-- what takes nothing from the front leaves what is unread
pub takes_nothing : (input : Input) (unread unread' : Unread) → IsNoPacket input → unread' ≡ unread → TakesFront unread input unread'
takes_nothing (inputs.Packet packet) unread unread' none same = absurd none
takes_nothing (inputs.Fault fault) unread unread' none same = absurd none
takes_nothing inputs.Tick unread unread' none same = same
takes_nothing inputs.EndOfInput unread unread' none same = same
takes_nothing inputs.Closing unread unread' none same = same

takes_front : (input : Input) (unread unread' : Unread) → IsInFront unread input unread' → TakesFront unread input unread'
takes_front (inputs.Packet packet) unread unread' front = front
takes_front (inputs.Fault fault) unread unread' front = front
takes_front inputs.Tick unread unread' front = absurd front
takes_front inputs.EndOfInput unread unread' front = absurd front
takes_front inputs.Closing unread unread' front = absurd front

-- a packet or a fault makes no Tick
no_tick : (input : Input) (unread unread' : Unread) (now ticked : ℕ) → IsInFront unread input unread' → ticked_by input now ticked ≡ ticked
no_tick (inputs.Packet packet) unread unread' now ticked front = refl
no_tick (inputs.Fault fault) unread unread' now ticked front = refl
no_tick inputs.Tick unread unread' now ticked front = absurd front
no_tick inputs.EndOfInput unread unread' now ticked front = absurd front
no_tick inputs.Closing unread unread' now ticked front = absurd front

module _ {S P T : Type 0} (call : S → SupplyCall P → S → Type 0) (begins ends : S → S → Type 0) (visiting : S → Bool) (slot_of : P → ℕ)
    (counts : T → Counts) (given accepted : T → Option (List ℕ)) where
  -- what may be stepped is stepped where it may stand
  stepped_in : (input : Input) (now : ℕ) (service : ServiceState P T) (supply : S) (is_open : Bool) → visiting supply ≡ is_open
      → MayStep call begins ends visiting slot_of counts given accepted input now service supply → IsSteppedIn input is_open
  stepped_in (inputs.Packet packet) now service supply is_open is may = sym is ∙ may.0
  stepped_in (inputs.Fault fault) now service supply is_open is may = sym is ∙ may.0
  stepped_in inputs.Tick now service supply is_open is may = sym is ∙ may.0
  stepped_in inputs.EndOfInput now service supply is_open is may = sym is ∙ may.0
  stepped_in inputs.Closing now service supply is_open is may = sym is ∙ may

  -- one step, whose packets wait to be written
  pub stepped : (Holds : List Act → Type 0) (now : ℕ) (input : Input) (packets : List Packet) (next : Then) (old inside : ServiceState P T) (client : ClientState P) (outgoing : List ℕ) (since ticked : ℕ) (supply supply' : S) (is_open : Bool) → Holds (Steps now input packets next ∷ []) → visiting supply ≡ is_open
      → inside ≡ old → IsDue call begins ends visiting slot_of counts given accepted input now old supply → TakesFront inside.client.unread input client.unread
      → ClientSteps call slot_of supply inside.client now input (step_output inside.client.conn.number packets next) client supply'
      → outgoing ≡ inside.outgoing ++ bytes_of packets → since ≡ since_step inside.outgoing now inside.since → ticked ≡ ticked_by input now inside.ticked
      → LeadsBy call begins ends visiting slot_of counts given accepted Holds now (Inside is_open) (Inside is_open) old supply (record inside { client = client; outgoing = outgoing; since = since; ticked = ticked }) supply'
  unfolding leads_one
  stepped Holds now input packets next old inside client outgoing since ticked supply supply' is_open holds is_visiting is due front moved outgoing_is since_is ticked_is =
      subst (λ (s : ServiceState P T). LeadsBy call begins ends visiting slot_of counts given accepted Holds now (Inside is_open) (Inside is_open) s supply (record inside { client = client; outgoing = outgoing; since = since; ticked = ticked }) supply') is
      (record {
        led = leads_one call begins ends visiting slot_of counts given accepted (Steps now input packets next) inside (record inside { client = client; outgoing = outgoing; since = since; ticked = ticked }) supply supply'
            (record {
              due = subst (λ (s : ServiceState P T). IsDue call begins ends visiting slot_of counts given accepted input now s supply) (sym is) due;
              front = front;
              moved = moved;
              becomes = λ i. record inside { client = client; outgoing = outgoing_is i; since = since_is i; ticked = ticked_is i };
            }) (refl, stepped_in input now old supply is_open is_visiting due.may, refl);
        told = holds;
      })

  -- one step, for whose packets there was no memory
  pub lost : (Holds : List Act → Type 0) (now : ℕ) (input : Input) (packets : List Packet) (next : Then) (old inside : ServiceState P T) (client : ClientState P) (outgoing : List ℕ) (ticked : ℕ) (supply supply' : S) (is_open : Bool) → Holds (Loses now input packets next ∷ []) → visiting supply ≡ is_open
      → inside ≡ old → IsDue call begins ends visiting slot_of counts given accepted input now old supply → TakesFront inside.client.unread input client.unread
      → ClientSteps call slot_of supply inside.client now input (step_output inside.client.conn.number packets next) client supply'
      → outgoing ≡ inside.outgoing → write_room < length (inside.outgoing ++ bytes_of packets) → ticked ≡ ticked_by input now inside.ticked
      → LeadsBy call begins ends visiting slot_of counts given accepted Holds now (Inside is_open) (Inside is_open) old supply (record inside { client = client; outgoing = outgoing; ticked = ticked; ending = Some served.Memory }) supply'
  unfolding leads_one
  lost Holds now input packets next old inside client outgoing ticked supply supply' is_open holds is_visiting is due front moved outgoing_is full ticked_is =
      subst (λ (s : ServiceState P T). LeadsBy call begins ends visiting slot_of counts given accepted Holds now (Inside is_open) (Inside is_open) s supply (record inside { client = client; outgoing = outgoing; ticked = ticked; ending = Some served.Memory }) supply') is
      (record {
        led = leads_one call begins ends visiting slot_of counts given accepted (Loses now input packets next) inside (record inside { client = client; outgoing = outgoing; ticked = ticked; ending = Some served.Memory }) supply supply'
            (record {
              due = subst (λ (s : ServiceState P T). IsDue call begins ends visiting slot_of counts given accepted input now s supply) (sym is) due;
              front = front;
              moved = moved;
              full = full;
              becomes = λ i. record inside { client = client; outgoing = outgoing_is i; ticked = ticked_is i; ending = Some served.Memory };
            }) (refl, stepped_in input now old supply is_open is_visiting due.may, refl);
        told = holds;
      })

  -- one step in which an allocation failed
  pub failed : (Holds : List Act → Type 0) (now : ℕ) (input : Input) (old inside : ServiceState P T) (client : ClientState P) (ticked : ℕ) (supply supply' : S) (is_open : Bool) → Holds (Fails now input ∷ []) → visiting supply ≡ is_open
      → inside ≡ old → IsDue call begins ends visiting slot_of counts given accepted input now old supply → TakesFront inside.client.unread input client.unread
      → ClientFailsToStep call slot_of supply inside.client now input client supply' → ticked ≡ ticked_by input now inside.ticked
      → LeadsBy call begins ends visiting slot_of counts given accepted Holds now (Inside is_open) (Inside is_open) old supply (record inside { client = client; ticked = ticked; ending = Some served.Memory }) supply'
  unfolding leads_one
  failed Holds now input old inside client ticked supply supply' is_open holds is_visiting is due front fails ticked_is =
      subst (λ (s : ServiceState P T). LeadsBy call begins ends visiting slot_of counts given accepted Holds now (Inside is_open) (Inside is_open) s supply (record inside { client = client; ticked = ticked; ending = Some served.Memory }) supply') is
      (record {
        led = leads_one call begins ends visiting slot_of counts given accepted (Fails now input) inside (record inside { client = client; ticked = ticked; ending = Some served.Memory }) supply supply'
            (record {
              due = subst (λ (s : ServiceState P T). IsDue call begins ends visiting slot_of counts given accepted input now s supply) (sym is) due;
              front = front;
              failed = fails;
              becomes = λ i. record inside { client = client; ticked = ticked_is i; ending = Some served.Memory };
            }) (refl, stepped_in input now old supply is_open is_visiting due.may, refl);
        told = holds;
      })

  -- what stands in front may be stepped where there is room
  due_front : (input : Input) (now : ℕ) (service : ServiceState P T) (unread' : Unread) (supply : S) → IsInFront service.client.unread input unread' → service.ending ≡ None
      → service.client.conn.phase ≢ Ended → visiting supply ≡ true → length service.outgoing < write_room
      → IsDue call begins ends visiting slot_of counts given accepted input now service supply
  due_front (inputs.Packet packet) now service unread' supply front going not_over visited room = record { going = going; not_over = not_over; may = (visited, room) }
  due_front (inputs.Fault fault) now service unread' supply front going not_over visited room = record { going = going; not_over = not_over; may = (visited, room) }
  due_front inputs.Tick now service unread' supply front going not_over visited room = absurd front
  due_front inputs.EndOfInput now service unread' supply front going not_over visited room = absurd front
  due_front inputs.Closing now service unread' supply front going not_over visited room = absurd front

  due_inside : (input : Input) (now : ℕ) (old inside : ServiceState P T) (unread' : Unread) (supply : S) → inside ≡ old → IsInFront inside.client.unread input unread' → old.ending ≡ None
      → old.client.conn.phase ≢ Ended → visiting supply ≡ true → length old.outgoing < write_room
      → IsDue call begins ends visiting slot_of counts given accepted input now old supply
  due_inside input now old inside unread' supply is front going not_over visited room =
      due_front input now old unread' supply (subst (λ (s : ServiceState P T). IsInFront s.client.unread input unread') is front) going not_over visited room

  -- the packet or the fault in front is stepped
  pub stepped_front : (Holds : List Act → Type 0) (now : ℕ) (packets : List Packet) (next : Then) (old inside : ServiceState P T) (client : ClientState P) (outgoing : List ℕ) (since : ℕ) (supply supply' : S)
      → ((input : Input) → IsInFront inside.client.unread input client.unread → Holds (Steps now input packets next ∷ [])) → inside ≡ old → old.ending ≡ None → old.client.conn.phase ≢ Ended → visiting supply ≡ true → length old.outgoing < write_room
      → ((input : Input) × IsInFront inside.client.unread input client.unread × ClientSteps call slot_of supply inside.client now input (step_output inside.client.conn.number packets next) client supply')
      → outgoing ≡ inside.outgoing ++ bytes_of packets → since ≡ since_step inside.outgoing now inside.since
      → LeadsBy call begins ends visiting slot_of counts given accepted Holds now (Inside true) (Inside true) old supply (record inside { client = client; outgoing = outgoing; since = since }) supply'
  stepped_front Holds now packets next old inside client outgoing since supply supply' holds is going not_over visited room front outgoing_is since_is =
      stepped Holds now front.0 packets next old inside client outgoing since inside.ticked supply supply' true (holds front.0 front.1) visited is
      (due_inside front.0 now old inside client.unread supply is front.1 going not_over visited room) (takes_front front.0 inside.client.unread client.unread front.1) front.2 outgoing_is since_is
      (sym (no_tick front.0 inside.client.unread client.unread now inside.ticked front.1))

  pub lost_front : (Holds : List Act → Type 0) (now : ℕ) (packets : List Packet) (next : Then) (old inside : ServiceState P T) (client : ClientState P) (outgoing : List ℕ) (supply supply' : S)
      → ((input : Input) → IsInFront inside.client.unread input client.unread → Holds (Loses now input packets next ∷ [])) → inside ≡ old → old.ending ≡ None → old.client.conn.phase ≢ Ended → visiting supply ≡ true → length old.outgoing < write_room
      → ((input : Input) × IsInFront inside.client.unread input client.unread × ClientSteps call slot_of supply inside.client now input (step_output inside.client.conn.number packets next) client supply')
      → outgoing ≡ inside.outgoing → write_room < length (inside.outgoing ++ bytes_of packets)
      → LeadsBy call begins ends visiting slot_of counts given accepted Holds now (Inside true) (Inside true) old supply (record inside { client = client; outgoing = outgoing; ending = Some served.Memory }) supply'
  lost_front Holds now packets next old inside client outgoing supply supply' holds is going not_over visited room front outgoing_is full =
      lost Holds now front.0 packets next old inside client outgoing inside.ticked supply supply' true (holds front.0 front.1) visited is
      (due_inside front.0 now old inside client.unread supply is front.1 going not_over visited room) (takes_front front.0 inside.client.unread client.unread front.1) front.2 outgoing_is full
      (sym (no_tick front.0 inside.client.unread client.unread now inside.ticked front.1))

  -- an allocation failed for it
  pub failed_front : (Holds : List Act → Type 0) (now : ℕ) (old inside : ServiceState P T) (client : ClientState P) (supply supply' : S)
      → Holds (IsFull now ∷ []) → ((input : Input) → IsInFront inside.client.unread input client.unread → Holds (Fails now input ∷ [])) → inside ≡ old → old.ending ≡ None → old.client.conn.phase ≢ Ended → visiting supply ≡ true → length old.outgoing < write_room
      → FailsToReadOne call slot_of supply inside.client now client supply'
      → LeadsBy call begins ends visiting slot_of counts given accepted Holds now (Inside true) (Inside true) old supply (record inside { client = client; ending = Some served.Memory }) supply'
  unfolding leads_one
  failed_front Holds now old inside client supply supply' full fails is going not_over visited room (inl given_up) =
      subst (λ (s : ServiceState P T). LeadsBy call begins ends visiting slot_of counts given accepted Holds now (Inside true) (Inside true) s supply (record inside { client = client; ending = Some served.Memory }) supply') is
      (record {
        led = leads_one call begins ends visiting slot_of counts given accepted (IsFull now) inside (record inside { client = client; ending = Some served.Memory }) supply supply'
            (record {
              going = ap (λ (s : ServiceState P T). s.ending) is ∙ going;
              not_over = λ over. not_over (sym (ap (λ (s : ServiceState P T). s.client.conn.phase) is) ∙ over);
              given_up = given_up;
              becomes = refl;
            }) (refl, refl, refl);
        told = full;
      })
  failed_front Holds now old inside client supply supply' full fails is going not_over visited room (inr front) =
      failed Holds now front.0 old inside client inside.ticked supply supply' true (fails front.0 front.1) visited is (due_inside front.0 now old inside client.unread supply is front.1 going not_over visited room)
      (takes_front front.0 inside.client.unread client.unread front.1) front.2 (sym (no_tick front.0 inside.client.unread client.unread now inside.ticked front.1))

  -- a connection without its last step is given up, within a visit
  pub abandoned : (now : ℕ) (is_open : Bool) (old inside : ServiceState P T) (client : ClientState P) (supply between mid supply' : S)
      → inside ≡ old → old.ending ≢ None → inside.client.conn.phase ≢ Ended → begins supply between → visiting between ≡ is_open
      → IsGivenUp call slot_of between inside.client now inputs.EndOfInput client mid → ends mid supply'
      → LeadsBy call begins ends visiting slot_of counts given accepted (λ acts. packets_in acts ≡ 0) now Behind Behind old supply (record inside { client = client; drained = false }) supply'
  unfolding leads_on leads_one
  abandoned now is_open old inside client supply between mid supply' is ended not_over entered told given_up left =
      let begun = record inside { drained = false } in
      let gone = record inside { client = client; drained = false } in
      subst (λ (s : ServiceState P T). LeadsBy call begins ends visiting slot_of counts given accepted (λ acts. packets_in acts ≡ 0) now Behind Behind s supply gone supply') is
      (record {
        led = leads_on call begins ends visiting slot_of counts given accepted {now = now} {a = Behind} {b = Parting} {c = Behind} inside begun gone supply between supply'
            (leads_one call begins ends visiting slot_of counts given accepted {now = now} {from = Behind} {to = Parting} (Enters is_open true) inside begun supply between (record { begun = entered; told = told; becomes = refl }) refl)
            (leads_on call begins ends visiting slot_of counts given accepted {now = now} {a = Parting} {b = Parted} {c = Behind} begun gone gone between mid supply'
            (leads_one call begins ends visiting slot_of counts given accepted {now = now} {from = Parting} {to = Parted} (GivesUp now) begun gone between mid
            (record { ended = λ going. ended (sym (ap (λ (s : ServiceState P T). s.ending) is) ∙ going); not_over = not_over; given_up = given_up; becomes = refl }) (refl, refl))
            (leads_one call begins ends visiting slot_of counts given accepted {now = now} {from = Parted} {to = Behind} Leaves gone gone mid supply' (record { ended = left; same = refl }) refl));
        told = refl;
      })

  -- whatever came of a last step, the connection was given up by it
  pub given_up_by : (result : Result Then NoMemory) (now : ℕ) (packets : List Packet) (client client' : ClientState P) (supply supply' : S)
      → MatchResult result (λ next. ClientSteps call slot_of supply client now inputs.EndOfInput (step_output client.conn.number packets next) client' supply')
      (λ _. (packets ≡ []) × ClientFailsToStep call slot_of supply client now inputs.EndOfInput client' supply')
      → IsGivenUp call slot_of supply client now inputs.EndOfInput client' supply'
  given_up_by (Ok next) now packets client client' supply supply' moved = inl (step_output client.conn.number packets next, moved)
  given_up_by (Err error) now packets client client' supply supply' failed = inr failed.1
