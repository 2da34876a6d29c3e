-- A session that is no member stays none, with its connection and with the desk, until it joins a group.
use Rattle.std.proofs.Common.{◌≡◌, ◌≢◌, ℕ, ◌+◌, ◌-◌, ◌<◌, nat_lt, Bool, true, false, List, [], ◌∷◌, Option, Some, None, Result, Ok, Err, refl, sym, ap, subst, ◌∙◌, inl, ⊎_elim, arith}
use Rattle.std.specs.FinMap as map
use Rattle.std.proofs.lemmas.Option.{same_Some}
use Rattle.mqtt_packet.specs.declared.packet.ConnectRefusal.{ConnectRefusal}
use Rattle.mqtt_packet.specs.declared.packet.Packet.{Packet}
use Rattle.mqtt_packet.specs.declared.packet.Packet.TheVariants as packets
use Rattle.mqtt_packet.specs.declared.packet.Publish.{Publish}
use Rattle.group_jobs.specs.declared.message.Message.{Message}
use Rattle.group_jobs.specs.Stamps.{Held}
use Rattle.member_window.specs.Contents.{Contents}
use Rattle.session_desk.specs.declared.attached.Attached.{Attached}
use Rattle.session_desk.specs.declared.attached.Attached.TheVariants.{New, Resumed, Replace, Busy}
use Rattle.session_desk.specs.declared.error.DeskError.{DeskError}
use Rattle.session_desk.specs.declared.error.DeskError.TheVariants as errors
use Rattle.session_desk.specs.declared.row.Row.{Row}
use Rattle.session_desk.specs.declared.row.Holder.TheVariants.{Parked}
use Rattle.session_desk.specs.declared.session.Session.{Session}
use Rattle.session_desk.specs.declared.session.Membership.{Membership}
use Rattle.session_desk.specs.declared.session.Membership.TheVariants.{NotMember, Member, Leaving}
use Rattle.session_desk.specs.Attaching.{Request}
use Rattle.session_desk.specs.Books.{Books}
use Rattle.session_desk.specs.Hands.{DeskLaw}
use Rattle.session_desk.specs.Keeping.{Parks, ParksAsIs, EndsLent, parked_at}
use Rattle.session_desk.specs.Rows.{Rows, HasRow, away, with_holder}
use Rattle.session_desk.proofs.Seen.{after_insert}
use Rattle.users.specs.Table.{Rights}
use Rattle.users.specs.Rights.{may_publish}
use Rattle.conn_rules.specs.declared.connecting.FirstAnswer.{FirstAnswer}
use Rattle.conn_rules.specs.declared.connecting.FirstAnswer.TheVariants as first
use Rattle.conn_rules.specs.declared.publishing.PublishAnswer.{PublishAnswer}
use Rattle.conn_rules.specs.declared.publishing.PublishAnswer.TheVariants as answers
use Rattle.conn_rules.specs.declared.client_limits.ClientLimits.{ClientLimits}
use Rattle.conn_rules.specs.Connecting.{first_answer}
use Rattle.conn_rules.specs.Faults.{fault_refusal}
use Rattle.conn_rules.specs.KeepAlive.{is_late, is_overdue}
use Rattle.conn_rules.specs.Publishing.{publish_answer, message_of}
use Rattle.conn_rules.specs.Subscribing.{subscribe_refusal, unsubscribe_refusal}
use Rattle.conn_supply.specs.declared.reply.Reply.{Reply}
use Rattle.conn_supply.specs.declared.reply.Then.{Then}
use Rattle.conn_supply.specs.declared.reply.Then.TheVariants.{Go, Close, Kicked}
use Rattle.conn_supply.specs.Acknowledging.{Settles, AcknowledgesFor}
use Rattle.conn_supply.specs.Publishing.{AnswersPublish, Offers, OffersIf}
use Rattle.conn_supply.specs.SupplyCalls.{SupplyCall}
use Rattle.conn_supply.specs.SupplyCalls.SupplyCall.{Attach, Withdraw, Park, ParkAsIs, Kicked as WasKicked}
use Rattle.conn_engine.specs.declared.input.Input.{Input}
use Rattle.conn_engine.specs.declared.input.Input.TheVariants as inputs
use Rattle.conn_engine.specs.declared.phase.ConnectRequest.{ConnectRequest}
use Rattle.conn_engine.specs.declared.phase.ConnectedClient.{ConnectedClient}
use Rattle.conn_engine.specs.declared.phase.Opening.{Opening}
use Rattle.conn_engine.specs.declared.phase.ConnPhase.{ConnPhase}
use Rattle.conn_engine.specs.declared.phase.ConnPhase.TheVariants.{Unconnected, Waiting, Connected, Ended}
use Rattle.conn_engine.specs.Answering.{DisconnectsIf, Disconnects, Answers}
use Rattle.conn_engine.specs.Connecting.{holds_message_too_long, most_ticks, Accepts, WaitsAs, ResumesAs, AttachedAs, Attaches}
use Rattle.conn_engine.specs.Ending.{down, Parts}
use Rattle.conn_engine.specs.Step.{hearing, hand_out_terms, IsRefusedIf, WaitsForConnect, AnswersFirst, IsParted, Concludes, AnswersPacket, AnswersTick, AnswersUnlessKicked, IsHeard, Reacts, Hands}
use Rattle.conn_laws.specs.Transcripts.{IsAside, session_given, LeadsAside}
use Rattle.conn_laws.proofs.Aside as asides
use Rattle.conn_laws.proofs.HandingOut.{handed_out}
use Rattle.local_broker.specs.Places.{GroupPlace}
use Rattle.local_broker.specs.Broker.{Broker}
use Rattle.local_broker.specs.Calls.{Calls}
use Rattle.local_server.specs.Happening.{slot_of}
use Rattle.local_server.specs.TakenSteps.{TakenStep, IsLawfulStep}
use Rattle.local_server.specs.Unsubscribed.{HandsOutNothing, Joins, session_at, IsOfSession}
use Rattle.local_server.proofs.Asked.{lawful, led_aside, gives, gives_none, parked_as_is, handed_back}
use Rattle.local_server.proofs.Given.{IsFirst}
use Rattle.local_server.proofs.Lent.{IsParkedAs}
use Rattle.local_server.proofs.Unsubscribed.{IsNoMember, IsOut, GrantsNone, answered, nothing_after, stays_out, grants_none}

abbrev Desk : Type 0
Desk = Books Held GroupPlace

abbrev Kept : Type 0
Kept = Session Held GroupPlace

-- what the desk parks under this number is no member
abbrev RowsOut : ℕ → Desk → Type 0
RowsOut n desk = (session : Kept) → IsParkedAs desk.rows n session → IsNoMember session.membership

-- there was a session of this number, and where the desk has it parked, it is no member
pub record IsOutThere (n : ℕ) (desk : Desk) : Type 0 where
  pub law : DeskLaw desk.rows desk.made
  pub rows : RowsOut n desk
  pub made : n < desk.made

-- if this session has this number, it is no member
abbrev IfIts : ℕ → Kept → Type 0
IfIts n session = session.identity.number ≡ n → IsNoMember session.membership

module _ (n : ℕ) where
  same_desk : (old new : Broker) → new.desk ≡ old.desk → IsOutThere n old.desk → IsOutThere n new.desk
  same_desk old new same was = subst (IsOutThere n) (sym same) was

  same_broker : (old new : Broker) → new ≡ old → IsOutThere n old.desk → IsOutThere n new.desk
  same_broker old new same was = subst (λ (b : Broker). IsOutThere n b.desk) (sym same) was

  leads : (old new : Broker) → LeadsAside Calls old new → IsOutThere n old.desk → IsOutThere n new.desk
  leads old new aside was =
      let keeps = led_aside old new aside was.law in
      record {
        law = keeps.1;
        rows = λ session is. was.rows session (keeps.0.parked n session is);
        made = (let same = keeps.0.made in let less = was.made in omega (arith, same, less));
      }

  one_call : (supply_call : SupplyCall GroupPlace) (old new : Broker) → IsAside supply_call → Calls old supply_call new → IsOutThere n old.desk → IsOutThere n new.desk
  one_call supply_call old new aside does was = leads old new (record { supply_calls = supply_call ∷ []; made = (new, does, refl); aside = (aside, tt) }) was

  -- a session is handed in
  written : (old new : Desk) (session : Kept) (row : Row Held GroupPlace) → ((its : Kept) → row.held_by ≡ Parked its → its.membership ≡ session.membership)
      → new.rows ≡ map.insert old.rows session.identity.number row → IfIts n session → RowsOut n old → RowsOut n new
  written old new session row member is out was its parked =
      let there = subst (λ (r : Rows Held GroupPlace). IsParkedAs r n its) is parked in
      ⊎_elim
      (λ (here : (n ≡ session.identity.number) × (row ≡ there.row)).
      subst IsNoMember (sym (member its (ap (λ (r : Row Held GroupPlace). r.held_by) here.1 ∙ there.parked))) (out (sym here.0)))
      (λ (other : (n ≢ session.identity.number) × HasRow old.rows n there.row). was its (record { row = there.row; has = other.1; parked = there.parked }))
      (after_insert old.rows session.identity.number n row there.row there.has)

  same_membership : (session its : Kept) → Parked session ≡ Parked its → its.membership ≡ session.membership
  same_membership session its e = cc

  parks : (old new : Desk) (session : Kept) (now : ℕ) (answer : Option Kept) → IfIts n session → Parks old session now answer new → RowsOut n old → RowsOut n new
  parks old new session now None out does was =
      written old new session (with_holder does.lent.row (Parked (parked_at session now))) (λ its e. same_membership (parked_at session now) its e) (ap (λ (b : Desk). b.rows) does.after) out was
  parks old new session now (Some back) out does was =
      ⊎_elim
      (λ (ends : EndsLent old session new). written old new session (away ends.lent.row.client) (λ its e. absurd (cc)) (ap (λ (b : Desk). b.rows) ends.after) out was)
      (λ stays. subst (RowsOut n) (sym stays.1) was)
      does.1

  parks_as_is : (old new : Desk) (session : Kept) (answer : Option Kept) → IfIts n session → ParksAsIs old session answer new → RowsOut n old → RowsOut n new
  parks_as_is old new session None out does was =
      written old new session (with_holder does.lent.row (Parked session)) (λ its e. same_membership session its e) (ap (λ (b : Desk). b.rows) does.after) out was
  parks_as_is old new session (Some back) out does was = subst (RowsOut n) (sym does.2) was

  parked : (old new : Broker) (session : Kept) (now : ℕ) (answer : Option Kept) → IfIts n session → Calls old (Park session now answer) new → IsOutThere n old.desk → IsOutThere n new.desk
  parked old new session now answer out does was =
      let handed = handed_back old new session (inl (now, answer, does)) was.law in
      record {
        law = handed.1;
        rows = parks old.desk new.desk session now answer out does.makes was.rows;
        made = (let same = handed.0.made in let less = was.made in omega (arith, same, less));
      }

  kept_as_is : (old new : Broker) (session : Kept) → IfIts n session → Calls old (ParkAsIs session) new → IsOutThere n old.desk → IsOutThere n new.desk
  kept_as_is old new session out does was =
      let handed = parked_as_is old new session does was.law in
      record {
        law = handed.1;
        rows = parks_as_is old.desk new.desk session does.0 out does.1.makes was.rows;
        made = (let same = handed.0.made in let less = was.made in omega (arith, same, less));
      }

  parted : (old new : Broker) (session : Kept) (now : ℕ) → IfIts n session → Parts Calls old session now new → IsOutThere n old.desk → IsOutThere n new.desk
  parted old new session now out parts was =
      let rest = asides.parted_as Calls parts.0 parts.1 new parts.3 in
      leads parts.1 new (record { supply_calls = rest.supply_calls; made = rest.made; aside = rest.aside }) (parked old parts.1 (down session) now parts.0 out parts.2 was)

  -- what holds after a reply
  abbrev After : ConnPhase GroupPlace → Broker → Type 0
  After phase new = IsOutThere n new.desk × (session_at phase ≡ Some n → IsOut phase)

  over : (phase : ConnPhase GroupPlace) (new : Broker) → phase ≡ Ended → IsOutThere n new.desk → After phase new
  over phase new is there = (there, λ its. subst IsOut (sym is) tt)

  at_none : (phase is : ConnPhase GroupPlace) (new : Broker) → phase ≡ is → session_at is ≡ None → IsOutThere n new.desk → After phase new
  at_none phase is new same none there = (there, λ its. absurd (let e = sym its ∙ ap session_at same ∙ none in cc))

  -- a session is given
  given : (old new : Broker) (request : Request) (answer : Result (Attached Held GroupPlace) DeskError) (session : Kept) → session_given answer ≡ Some session
      → Calls old (Attach request answer) new → IsOutThere n old.desk → IsOutThere n new.desk × IfIts n session
  given old new request answer session is does was =
      let gives_it = gives old new request request.connection answer session refl is was.law does in (
        record {
          law = lawful (Attach request answer) old new does was.law;
          rows = λ its there. was.rows its (gives_it.parked n its there).1;
          made = (let more = gives_it.made in let less = was.made in omega (arith, more, less));
        },
        λ same.
            ⊎_elim
            (λ (first_one : IsFirst old.desk session). absurd (let number = first_one.number in let less = was.made in omega (arith, number, less, same)))
            (λ (had : IsParkedAs old.desk.rows session.identity.number session). was.rows session (subst (λ (k : ℕ). IsParkedAs old.desk.rows k session) same had))
            gives_it.from,
      )

  none_given : (old new : Broker) (request : Request) (answer : Result (Attached Held GroupPlace) DeskError) → session_given answer ≡ None
      → Calls old (Attach request answer) new → IsOutThere n old.desk → IsOutThere n new.desk
  none_given old new request answer none does was =
      let keeps = gives_none old new request answer none does in
      record {
        law = lawful (Attach request answer) old new does was.law;
        rows = λ session is. was.rows session (keeps.parked n session is);
        made = (let same = keeps.made in let less = was.made in omega (arith, same, less));
      }

  begun : (phase : ConnPhase GroupPlace) (reply : Reply) (new : Broker) (request : ConnectRequest) (present : Bool) (session : Kept) → Accepts request present session phase reply → IfIts n session
      → IsOutThere n new.desk → After phase new
  begun phase reply new request present session is out there =
      (there, λ its. subst IsOut (sym is.begun) (out (same_Some session.identity.number n (sym (ap session_at is.begun) ∙ its))))

  waits : (fewer : Bool) (phase : ConnPhase GroupPlace) (reply : Reply) (new : Broker) (request : ConnectRequest) (ticks : ℕ) → WaitsAs fewer request ticks phase reply → IsOutThere n new.desk → After phase new
  waits true phase reply new request ticks is there = at_none phase (Waiting request ticks) new is.0 refl there
  waits false phase reply new request ticks is there = over phase new is.over there

  resumes : (refused : Bool) (old new : Broker) (request : ConnectRequest) (session : Kept) (phase : ConnPhase GroupPlace) (reply : Reply) → ResumesAs Calls refused old request session phase reply new
      → IfIts n session → IsOutThere n old.desk → After phase new
  resumes true old new request session phase reply is out there = over phase new is.1.over (kept_as_is old new (down session) out is.0 there)
  resumes false old new request session phase reply is out there = begun phase reply new request true session is.1 out (same_broker old new is.0 there)

  attached_as : (answer : Result (Attached Held GroupPlace) DeskError) (old mid new : Broker) (desk_request : Request) (request : ConnectRequest) (ticks : ℕ) (phase : ConnPhase GroupPlace) (reply : Reply)
      → Calls old (Attach desk_request answer) mid → AttachedAs Calls mid request ticks answer phase reply new → IsOutThere n old.desk → After phase new
  attached_as (Ok (New session before)) old mid new desk_request request ticks phase reply asked is was =
      let there = given old mid desk_request _ session refl asked was in
      let rest = asides.retired_earlier Calls before mid new is.0 in
      begun phase reply new request false session is.1 there.1 (leads mid new (record { supply_calls = rest.supply_calls; made = rest.made; aside = rest.aside }) there.0)
  attached_as (Ok (Resumed session)) old mid new desk_request request ticks phase reply asked is was =
      let there = given old mid desk_request _ session refl asked was in
      resumes (holds_message_too_long request.terms.maximum_packet_size session.window) mid new request session phase reply is there.1 there.0
  attached_as (Ok (Replace holder)) old mid new desk_request request ticks phase reply asked is was =
      waits (nat_lt ticks most_ticks) phase reply new request ticks is.0 (same_broker mid new is.1 (none_given old mid desk_request _ refl asked was))
  attached_as (Ok Busy) old mid new desk_request request ticks phase reply asked is was =
      over phase new is.0.over (same_broker mid new is.1 (none_given old mid desk_request _ refl asked was))
  attached_as (Err errors.Full) old mid new desk_request request ticks phase reply asked is was =
      over phase new is.0.over (same_broker mid new is.1 (none_given old mid desk_request _ refl asked was))
  attached_as (Err errors.NoPlace) old mid new desk_request request ticks phase reply asked is was =
      over phase new is.0.over (same_broker mid new is.1 (none_given old mid desk_request _ refl asked was))
  attached_as (Err errors.NoName) old mid new desk_request request ticks phase reply asked is was =
      over phase new is.0.over (same_broker mid new is.1 (none_given old mid desk_request _ refl asked was))
  attached_as (Err errors.Memory) old mid new desk_request request ticks phase reply asked is was = absurd is

  attaches : (old new : Broker) (number now : ℕ) (request : ConnectRequest) (ticks : ℕ) (phase : ConnPhase GroupPlace) (reply : Reply) → Attaches Calls old number now request ticks phase reply new
      → IsOutThere n old.desk → After phase new
  attaches old new number now request ticks phase reply is was = attached_as is.answer old is.mid new _ request ticks phase reply is.asked_for is.answered was

  -- the session of a connection stays that session
  disconnects_if : (given_so : Bool) (connected connected' : ConnectedClient GroupPlace) (seconds : ℕ) (reply : Reply) → DisconnectsIf given_so connected seconds connected' reply
      → connected'.session.identity ≡ connected.session.identity
  disconnects_if true connected connected' seconds reply is = ap (λ (c : ConnectedClient GroupPlace). c.session.identity) is.0
  disconnects_if false connected connected' seconds reply is = ap (λ (c : ConnectedClient GroupPlace). c.session.identity) is.0

  disconnects : (expiry : Option ℕ) (connected connected' : ConnectedClient GroupPlace) (reply : Reply) → Disconnects connected expiry connected' reply
      → connected'.session.identity ≡ connected.session.identity
  disconnects None connected connected' reply is = ap (λ (c : ConnectedClient GroupPlace). c.session.identity) is.0
  disconnects (Some seconds) connected connected' reply is = disconnects_if _ connected connected' seconds reply is

  same_session : (packet : Packet) (old new : Broker) (number now : ℕ) (connected connected' : ConnectedClient GroupPlace) (reply : Reply)
      → Answers Calls slot_of old number connected now packet connected' reply new → connected'.session.identity ≡ connected.session.identity
  same_session (packets.Publish publish) old new number now connected connected' reply is = ap (λ (c : ConnectedClient GroupPlace). c.session.identity) is.1
  same_session (packets.Puback puback) old new number now connected connected' reply is =
      ap (λ (c : ConnectedClient GroupPlace). c.session.identity) is.2 ∙ ap (λ (s : Kept). s.identity) is.1.same
  same_session (packets.Subscribe subscribe) old new number now connected connected' reply is = ap (λ (c : ConnectedClient GroupPlace). c.session.identity) is.3
  same_session (packets.Unsubscribe unsubscribe) old new number now connected connected' reply is = ap (λ (c : ConnectedClient GroupPlace). c.session.identity) is.2
  same_session packets.Pingreq old new number now connected connected' reply is = ap (λ (c : ConnectedClient GroupPlace). c.session.identity) is.0
  same_session (packets.Disconnect disconnect) old new number now connected connected' reply is =
      disconnects disconnect.properties.session_expiry_interval connected connected' reply is.0
  same_session (packets.Connect connect) old new number now connected connected' reply is = ap (λ (c : ConnectedClient GroupPlace). c.session.identity) is.0
  same_session (packets.Connack connack) old new number now connected connected' reply is = ap (λ (c : ConnectedClient GroupPlace). c.session.identity) is.0
  same_session (packets.Suback suback) old new number now connected connected' reply is = ap (λ (c : ConnectedClient GroupPlace). c.session.identity) is.0
  same_session (packets.Unsuback unsuback) old new number now connected connected' reply is = ap (λ (c : ConnectedClient GroupPlace). c.session.identity) is.0
  same_session packets.Pingresp old new number now connected connected' reply is = ap (λ (c : ConnectedClient GroupPlace). c.session.identity) is.0
  same_session (packets.Foreign kind) old new number now connected connected' reply is = ap (λ (c : ConnectedClient GroupPlace). c.session.identity) is.0
  same_session (packets.OtherVersion version) old new number now connected connected' reply is = ap (λ (c : ConnectedClient GroupPlace). c.session.identity) is.0
  same_session packets.WithWill old new number now connected connected' reply is = ap (λ (c : ConnectedClient GroupPlace). c.session.identity) is.0

  -- what the answer to a packet makes of the desk
  offers : (slots : List ℕ) (old new : Broker) (connection taken : ℕ) (message : Message) → Offers Calls old connection message slots taken new → new.desk ≡ old.desk
  offers [] old new connection taken message is = ap (λ (b : Broker). b.desk) is.1
  offers (slot ∷ slots) old new connection taken message is = offers slots is.1 new connection is.3 message is.6 ∙ is.4.1.desk

  offers_if : (allowed : Bool) (identifier : ℕ) (old new : Broker) (number now : ℕ) (publish : Publish) (reply : Reply) → OffersIf Calls allowed old number now publish identifier reply new → new.desk ≡ old.desk
  offers_if true identifier old new number now publish reply is =
      offers is.slots is.mid new number is.taken (message_of now publish) is.offered ∙ ap (λ (b : Broker). b.desk) is.matched.1
  offers_if false identifier old new number now publish reply is = ap (λ (b : Broker). b.desk) is.1

  publishes : (rights : Rights) (answer : PublishAnswer) (old new : Broker) (number now : ℕ) (publish : Publish) (reply : Reply) → AnswersPublish Calls rights old number now publish answer reply new → new.desk ≡ old.desk
  publishes rights (answers.Close code) old new number now publish reply is = ap (λ (b : Broker). b.desk) is.1
  publishes rights (answers.Offer identifier) old new number now publish reply is = offers_if (may_publish rights publish.topic) identifier old new number now publish reply is

  settles : (found : Option Held) (old new : Broker) (place place' : GroupPlace) (code : ℕ) → Settles Calls old place code found place' new → new.desk ≡ old.desk
  settles None old new place place' code is = ap (λ (b : Broker). b.desk) is.1
  settles (Some envelope) old new place place' code is = is.2.desk

  acknowledges : (membership membership' : Membership GroupPlace) (old new : Broker) (window window' : Contents Held) (identifier code : ℕ)
      → AcknowledgesFor Calls old membership window identifier code membership' window' new → new.desk ≡ old.desk
  acknowledges NotMember membership' old new window window' identifier code is = ap (λ (b : Broker). b.desk) is.2
  acknowledges (Member place) membership' old new window window' identifier code is = settles is.1.found old new place is.0 code is.1.settled
  acknowledges (Leaving place) membership' old new window window' identifier code is = settles is.1.found old new place is.0 code is.1.settled

  answers_there : (packet : Packet) (old new : Broker) (number now : ℕ) (connected connected' : ConnectedClient GroupPlace) (reply : Reply)
      → Answers Calls slot_of old number connected now packet connected' reply new → IsOutThere n old.desk → IsOutThere n new.desk
  answers_there (packets.Publish publish) old new number now connected connected' reply is was = same_desk old new (publishes connected.rights (publish_answer publish) old new number now publish reply is.0) was
  answers_there (packets.Puback puback) old new number now connected connected' reply is was =
      same_desk old new
      (acknowledges connected.session.membership is.0.membership old new connected.session.window is.0.window puback.packet_identifier puback.reason_code is.1.settles) was
  answers_there (packets.Subscribe subscribe) old new number now connected connected' reply is was =
      let calls = asides.subscribed_as Calls slot_of connected.rights (subscribe_refusal subscribe) old new connected.session.membership connected.session.subscription subscribe reply is.0 is.1 is.2 in
      leads old new (record { supply_calls = calls.supply_calls; made = calls.made; aside = calls.aside }) was
  answers_there (packets.Unsubscribe unsubscribe) old new number now connected connected' reply is was =
      let calls = asides.unsubscribed_as Calls slot_of (unsubscribe_refusal unsubscribe) old new connected.session.membership unsubscribe reply is.0 is.1 in
      leads old new (record { supply_calls = calls.supply_calls; made = calls.made; aside = calls.aside }) was
  answers_there packets.Pingreq old new number now connected connected' reply is was = same_broker old new is.2 was
  answers_there (packets.Disconnect disconnect) old new number now connected connected' reply is was = same_broker old new is.1 was
  answers_there (packets.Connect connect) old new number now connected connected' reply is was = same_broker old new is.2 was
  answers_there (packets.Connack connack) old new number now connected connected' reply is was = same_broker old new is.2 was
  answers_there (packets.Suback suback) old new number now connected connected' reply is was = same_broker old new is.2 was
  answers_there (packets.Unsuback unsuback) old new number now connected connected' reply is was = same_broker old new is.2 was
  answers_there packets.Pingresp old new number now connected connected' reply is was = same_broker old new is.2 was
  answers_there (packets.Foreign kind) old new number now connected connected' reply is was = same_broker old new is.2 was
  answers_there (packets.OtherVersion version) old new number now connected connected' reply is was = same_broker old new is.2 was
  answers_there packets.WithWill old new number now connected connected' reply is was = same_broker old new is.2 was

  -- a connection goes on, or parts from its session
  goes_on : (old new : Broker) (connected : ConnectedClient GroupPlace) (phase : ConnPhase GroupPlace) → IfIts n connected.session → phase ≡ Connected connected → new ≡ old → IsOutThere n old.desk → After phase new
  goes_on old new connected phase out is same was =
      (same_broker old new same was, λ its. subst IsOut (sym is) (out (same_Some connected.session.identity.number n (sym (ap session_at is) ∙ its))))

  is_parted : (old new : Broker) (connected : ConnectedClient GroupPlace) (now : ℕ) (phase : ConnPhase GroupPlace) → IfIts n connected.session → IsParted Calls slot_of old connected now phase new
      → IsOutThere n old.desk → After phase new
  is_parted old new connected now phase out is was = over phase new is.1 (parted old new connected.session now out is.0 was)

  concludes : (next : Then) (old new : Broker) (connected : ConnectedClient GroupPlace) (now : ℕ) (phase : ConnPhase GroupPlace) → IfIts n connected.session
      → Concludes Calls slot_of old connected now next phase new → IsOutThere n old.desk → After phase new
  concludes Go old new connected now phase out is was = goes_on old new connected phase out is.0 is.1 was
  concludes Close old new connected now phase out is was = is_parted old new connected now phase out is was
  concludes Kicked old new connected now phase out is was = is_parted old new connected now phase out is was

  heard : (overdue : Bool) (old new : Broker) (connected : ConnectedClient GroupPlace) (now : ℕ) (phase : ConnPhase GroupPlace) (reply : Reply) → IfIts n connected.session
      → IsHeard Calls slot_of overdue old connected now phase reply new → IsOutThere n old.desk → After phase new
  heard true old new connected now phase reply out is was = is_parted old new connected now phase out is.1 was
  heard false old new connected now phase reply out is was = goes_on old new connected phase out is.1 is.2 was

  unless_kicked : (kicked : Bool) (old new : Broker) (connected : ConnectedClient GroupPlace) (now : ℕ) (Does : ConnPhase GroupPlace → Reply → Broker → Type 0) (phase : ConnPhase GroupPlace) (reply : Reply)
      → IfIts n connected.session → (Does phase reply new → After phase new) → AnswersUnlessKicked Calls slot_of kicked old connected now Does phase reply new → IsOutThere n old.desk → After phase new
  unless_kicked true old new connected now Does phase reply out then is was = is_parted old new connected now phase out is.1 was
  unless_kicked false old new connected now Does phase reply out then is was = then is

  refused_if : (refusal : Option ConnectRefusal) (phase : ConnPhase GroupPlace) (reply : Reply) → IsRefusedIf refusal phase reply → phase ≡ Ended
  refused_if None phase reply is = is.over
  refused_if (Some refusal) phase reply is = is.over

  waits_for_connect : (late : Bool) (opened : Opening) (phase : ConnPhase GroupPlace) (reply : Reply) (new : Broker) → WaitsForConnect late opened phase reply → IsOutThere n new.desk → After phase new
  waits_for_connect true opened phase reply new is there = over phase new is.over there
  waits_for_connect false opened phase reply new is there = at_none phase (Unconnected opened) new is.0 refl there

  answers_first : (answer : FirstAnswer) (old new : Broker) (number : ℕ) (limits : ClientLimits) (now : ℕ) (packet : Packet) (phase : ConnPhase GroupPlace) (reply : Reply)
      → AnswersFirst Calls slot_of answer old number limits now packet phase reply new → IsOutThere n old.desk → After phase new
  answers_first first.Close old new number limits now packet phase reply is was = over phase new is.0.over (same_broker old new is.1 was)
  answers_first (first.Refuse refusal) old new number limits now packet phase reply is was = over phase new is.0.over (same_broker old new is.1 was)
  answers_first first.Attach old new number limits now packet phase reply is was = attaches old new number now _ 0 phase reply is.2 was

  swept : (old new : Broker) (now : ℕ) (calls : asides.Aside Calls [] [] [] [] old new) → IsOutThere n old.desk → IsOutThere n new.desk
  swept old new now calls was = leads old new (record { supply_calls = calls.supply_calls; made = calls.made; aside = calls.aside }) was

  reply_out : (phase : ConnPhase GroupPlace) (input : Input) (old new : Broker) (number now : ℕ) (between : ConnPhase GroupPlace) (reply : Reply) → (session_at phase ≡ Some n → IsOut phase)
      → (session_at phase ≡ Some n → GrantsNone input reply) → Reacts Calls slot_of old number phase now input between reply new → IsOutThere n old.desk → After between new
  reply_out (Unconnected opened) (inputs.Packet packet) old new number now between reply out none is was =
      answers_first (first_answer opened.limits.users packet) old new number opened.limits now packet between reply is was
  reply_out (Unconnected opened) (inputs.Fault fault) old new number now between reply out none is was =
      over between new (refused_if (fault_refusal fault) between reply is.0) (same_broker old new is.1 was)
  reply_out (Unconnected opened) inputs.Tick old new number now between reply out none is was =
      waits_for_connect (is_late (now - opened.at)) opened between reply new is.1 (swept old new now (asides.swept Calls 256 old new now is.0) was)
  reply_out (Unconnected opened) inputs.EndOfInput old new number now between reply out none is was = over between new is.0.over (same_broker old new is.1 was)
  reply_out (Unconnected opened) inputs.Closing old new number now between reply out none is was = over between new is.0.over (same_broker old new is.1 was)
  reply_out (Waiting request ticks) (inputs.Packet packet) old new number now between reply out none is was = absurd is
  reply_out (Waiting request ticks) (inputs.Fault fault) old new number now between reply out none is was = absurd is
  reply_out (Waiting request ticks) inputs.Tick old new number now between reply out none is was =
      let due = swept old is.0 now (asides.swept Calls 256 old is.0 now is.1) was in
      let asked = attaches is.0 is.2.mid number now request (ticks + 1) between reply is.2.attaches due in
      (swept is.2.mid new now (asides.withdrawn Calls between is.2.mid new number is.2.withdraws) asked.0, asked.1)
  reply_out (Waiting request ticks) inputs.EndOfInput old new number now between reply out none is was = over between new is.1.over (one_call (Withdraw number) old new tt is.0 was)
  reply_out (Waiting request ticks) inputs.Closing old new number now between reply out none is was = over between new is.1.over (one_call (Withdraw number) old new tt is.0 was)
  reply_out (Connected connected) (inputs.Packet packet) old new number now between reply out none is was =
      let mid = is.1 in
      let there = one_call (WasKicked number is.0) old mid tt is.2 was in
      let its : IfIts n connected.session = λ same. out (ap (λ (k : ℕ). let some : Option ℕ = Some k in some) same) in
      unless_kicked is.0 mid new connected now _ between reply its
      (λ (does : AnswersPacket Calls slot_of mid number connected now packet between reply new).
      let identity = same_session packet mid does.1 number now (hearing connected now) does.0 reply does.2 in
      concludes reply.next does.1 new does.0 now between
      (λ same.
      let here : session_at (Connected connected) ≡ Some n = ap (λ (k : ℕ). let some : Option ℕ = Some k in some) (sym (ap (λ i. i.number) identity) ∙ same) in
      answered packet mid does.1 number now (hearing connected now) does.0 reply (out here) (none here) does.2)
      does.3 (answers_there packet mid does.1 number now (hearing connected now) does.0 reply does.2 there))
      is.3 there
  reply_out (Connected connected) (inputs.Fault fault) old new number now between reply out none is was =
      is_parted old new connected now between (λ same. out (ap (λ (k : ℕ). let some : Option ℕ = Some k in some) same)) is.1 was
  reply_out (Connected connected) inputs.Tick old new number now between reply out none is was =
      let mid = is.1 in
      let there = one_call (WasKicked number is.0) old mid tt is.2 was in
      let its : IfIts n connected.session = λ same. out (ap (λ (k : ℕ). let some : Option ℕ = Some k in some) same) in
      unless_kicked is.0 mid new connected now _ between reply its
      (λ (does : AnswersTick Calls slot_of mid connected now between reply new).
      heard (is_overdue connected.terms.keep_alive (now - connected.heard)) does.0 new connected now between reply its does.2
      (swept mid does.0 now (asides.swept Calls 256 mid does.0 now does.1) there))
      is.3 there
  reply_out (Connected connected) inputs.EndOfInput old new number now between reply out none is was =
      is_parted old new connected now between (λ same. out (ap (λ (k : ℕ). let some : Option ℕ = Some k in some) same)) is.1 was
  reply_out (Connected connected) inputs.Closing old new number now between reply out none is was =
      over between new is.2 (kept_as_is old new (down connected.session) (λ same. out (ap (λ (k : ℕ). let some : Option ℕ = Some k in some) same)) is.1 was)
  reply_out Ended input old new number now between reply out none is was = over between new is.0.over (same_broker old new is.1 was)

  -- what is handed out then
  hands_there : (between : ConnPhase GroupPlace) (now : ℕ) (old new : Broker) (sent : List Packet) (phase : ConnPhase GroupPlace) → Hands Calls slot_of old between now sent phase new → IsOutThere n old.desk
      → IsOutThere n new.desk × (session_at phase ≡ session_at between)
  hands_there (Unconnected opened) now old new sent phase is was = (same_broker old new is.2 was, ap session_at is.1)
  hands_there (Waiting request ticks) now old new sent phase is was = (same_broker old new is.2 was, ap session_at is.1)
  hands_there (Connected connected) now old new sent phase is was =
      let out = handed_out Calls (hand_out_terms connected now) old new connected.session.membership connected.session.window sent is.0 is.1 is.2 in
      (leads old new (record { supply_calls = out.calls.supply_calls; made = out.calls.made; aside = out.calls.aside }) was, ap session_at is.3)
  hands_there Ended now old new sent phase is was = (same_broker old new is.2 was, ap session_at is.1)

  -- a step
  pub session_step : (step : TakenStep) → IsLawfulStep step → IsOutThere n step.broker_before.desk → (session_at step.phase_before ≡ Some n → IsOut step.phase_before)
      → (IsOfSession n step → ¬ Joins step)
      → IsOutThere n step.broker_after.desk × (session_at step.phase_after ≡ Some n → IsOut step.phase_after) × (IsOfSession n step → HandsOutNothing step)
  session_step step steps was out no_join =
      let reply = reply_out step.phase_before step.input step.broker_before steps.mid step.connection step.at steps.between steps.reply out
      (λ its. grants_none step steps (no_join (inl its))) steps.reacts was in
      let hands = hands_there steps.between step.at steps.mid step.broker_after steps.sent step.phase_after steps.hands reply.0 in
      let after : session_at step.phase_after ≡ Some n → IsOut step.phase_after × HandsOutNothing step = λ its. nothing_after step steps (reply.1 (sym hands.1 ∙ its)) in (
        hands.0,
        λ its. (after its).0,
        λ its.
            ⊎_elim
            (λ (before : session_at step.phase_before ≡ Some n). (stays_out step steps (out before) (no_join (inl before))).1)
            (λ (then : session_at step.phase_after ≡ Some n). (after then).1)
            its,
      )
