-- What an input makes of the session of a connection, before anything is handed out.
use Rattle.std.proofs.Common.{◌≡◌, ℕ, ◌-◌, Bool, true, false, List, [], ◌∷◌, ◌++◌, Option, Some, None, ◌⊎◌, refl, sym, ap, subst, ◌∙◌, inl, inr, ⊎_elim}
use Rattle.mqtt_packet.specs.declared.packet.ConnectRefusal.{ConnectRefusal}
use Rattle.mqtt_packet.specs.declared.packet.Packet.{Packet}
use Rattle.mqtt_packet.specs.declared.packet.Packet.TheVariants as packets
use Rattle.mqtt_packet.specs.declared.packet.Puback.{Puback}
use Rattle.mqtt_packet.specs.declared.packet.Publish.{Publish}
use Rattle.users.specs.Table.{Rights}
use Rattle.users.specs.Rights.{may_publish}
use Rattle.group_jobs.specs.declared.fate.Fate.{Fate}
use Rattle.group_jobs.specs.declared.message.Message.{Message}
use Rattle.group_jobs.specs.Stamps.{Held}
use Rattle.member_window.specs.Contents.{held_of}
use Rattle.member_window.specs.Marks.{Mark, Acked}
use Rattle.member_window.specs.Calls.{Acks, Ack}
use Rattle.member_window.proofs.Lists.{contains_identifier}
use Rattle.session_desk.specs.declared.session.Session.{Session}
use Rattle.session_desk.specs.declared.session.Membership.{Membership}
use Rattle.session_desk.specs.declared.session.Membership.TheVariants.{NotMember, Member, Leaving}
use Rattle.conn_rules.specs.declared.client_limits.ClientLimits.{ClientLimits}
use Rattle.conn_rules.specs.declared.connecting.FirstAnswer.{FirstAnswer}
use Rattle.conn_rules.specs.declared.connecting.FirstAnswer.TheVariants as first
use Rattle.conn_rules.specs.declared.publishing.PublishAnswer.{PublishAnswer}
use Rattle.conn_rules.specs.declared.publishing.PublishAnswer.TheVariants as answers
use Rattle.conn_rules.specs.Acknowledging.{fate_of}
use Rattle.conn_rules.specs.Connecting.{first_answer}
use Rattle.conn_rules.specs.Faults.{fault_refusal}
use Rattle.conn_rules.specs.KeepAlive.{is_late, is_overdue}
use Rattle.conn_rules.specs.Publishing.{publish_answer, message_of}
use Rattle.conn_rules.specs.Subscribing.{subscribe_refusal, unsubscribe_refusal}
use Rattle.conn_supply.specs.declared.reply.Then.{Then}
use Rattle.conn_supply.specs.declared.reply.Then.TheVariants.{Go, Close, Kicked}
use Rattle.conn_supply.specs.declared.reply.Reply.{Reply}
use Rattle.conn_supply.specs.SupplyCalls.{SupplyCall}
use Rattle.conn_supply.specs.SupplyCalls.SupplyCall.{Settle}
use Rattle.conn_supply.specs.Acknowledging.{Settles, AcknowledgesFor}
use Rattle.conn_supply.specs.Publishing.{AnswersPublish, Offers, OffersIf}
use Rattle.conn_engine.specs.declared.input.Input.{Input}
use Rattle.conn_engine.specs.declared.input.Input.TheVariants as inputs
use Rattle.conn_engine.specs.declared.phase.ConnectedClient.{ConnectedClient}
use Rattle.conn_engine.specs.declared.phase.Opening.{Opening}
use Rattle.conn_engine.specs.declared.phase.ConnPhase.{ConnPhase}
use Rattle.conn_engine.specs.declared.phase.ConnPhase.TheVariants.{Unconnected, Waiting, Connected, Ended}
use Rattle.conn_engine.specs.Answering.{DisconnectsIf, Disconnects, Answers}
use Rattle.conn_engine.specs.Ending.{down}
use Rattle.conn_engine.specs.Step.{hearing, IsParted, IsRefusedIf, WaitsForConnect, AnswersFirst, Concludes, AnswersPacket, AnswersTick, IsHeard, AnswersUnlessKicked, Reacts}
use Rattle.conn_laws.specs.Calls.{settlement_of, hand_out_of, handed, MakesAll, Confirms, SettlesOne, SettlesNone}
use Rattle.conn_laws.specs.Marks.{publishes_of, fresh_of, acknowledged_of, IsAckedBy}
use Rattle.conn_laws.specs.Transcripts.{connected_of, IsNotEnding, IsAside, SessionSteps}
use Rattle.conn_laws.proofs.Aside.{joins, all_of_both, none_in_both}
use Rattle.conn_laws.proofs.Aside as asides
use Rattle.conn_laws.proofs.Stepping.{none_before}
use Rattle.conn_laws.proofs.Turning.{Apart, apart, apart_one, still, apart_behind, quiet_one, SessionStep, is_at, stays_out, attached, goes_on, handed_in, parted}
use Rattle.conn_laws.specs.Places.{has_place}

module _ {S P : Type 0} (call : S → SupplyCall P → S → Type 0) where
  -- what is acknowledged is settled, and nothing else is but these discards
  abbrev pub SettlesAs : ConnPhase P → Input → Then → List (Mark Held) → List (SupplyCall P) → List (Held × Fate) → Type 0
  SettlesAs phase input next marks supply_calls discards =
      (SettlesOne phase input supply_calls discards × ((acked : ℕ × ℕ) × (acknowledged_of marks ≡ acked ∷ []) × IsAckedBy input acked))
      ⊎ (SettlesNone phase input supply_calls next discards × (acknowledged_of marks ≡ []))

  -- a PUBACK for what the session holds comes only in a step by which the connection is taken over
  abbrev NoneUnless : ConnPhase P → Input → Then → Type 0
  NoneUnless phase input next = (envelope : Held) (fate : Fate) → Confirms phase input envelope fate → next ≡ Kicked

  -- what becomes of the session
  pub record SessionStepped (old : S) (number : ℕ) (phase : ConnPhase P) (input : Input) (next : Then) (phase' : ConnPhase P) (new : S) : Type 0 where
    pub marks : List (Mark Held)
    pub session : SessionSteps call old number (connected_of phase) (connected_of phase') marks new
    pub no_publish : (now : ℕ) → publishes_of now marks ≡ []
    pub none_fresh : fresh_of marks ≡ []
    pub supply_calls : List (SupplyCall P)
    pub made : MakesAll call old supply_calls new
    pub hands : handed supply_calls ≡ []
    pub settles : SettlesAs phase input next marks supply_calls []

  session_steps : (old new : S) (number : ℕ) (phase : ConnPhase P) (input : Input) (next : Then) (phase' : ConnPhase P) → NoneUnless phase input next
      → SessionStep call old number (connected_of phase) (connected_of phase') new → SessionStepped old number phase input next phase' new
  session_steps old new number phase input next phase' unless session_step =
      record {
        marks = session_step.marks;
        session = session_step.session;
        no_publish = session_step.no_publish;
        none_fresh = session_step.none_fresh;
        supply_calls = session_step.calls.supply_calls;
        made = session_step.calls.made;
        hands = session_step.calls.hands;
        settles = inr (record { settles = session_step.calls.settles; unless = unless }, session_step.none_acked);
      }

  -- after the answer to a packet the connection has the session that it had, and the window is what it was
  record Kept (old : S) (session : Session Held P) (after : ConnectedClient P) (new : S) : Type 0 where
    calls : Apart call old new
    same : after.session.identity ≡ session.identity
    window : after.session.window ≡ session.window

  kept : (old new : S) (session : Session Held P) (after was : ConnectedClient P) → after ≡ was → was.session.identity ≡ session.identity → was.session.window ≡ session.window → Apart call old new
      → Kept old session after new
  kept old new session after was is same window calls =
      record { calls = calls; same = ap (λ (l : ConnectedClient P). l.session.identity) is ∙ same; window = ap (λ (l : ConnectedClient P). l.session.window) is ∙ window }

  -- no PUBACK came for what the session holds
  abbrev NoneConfirmed : ConnectedClient P → Packet → Type 0
  NoneConfirmed connected packet = (envelope : Held) (fate : Fate) → Confirms (Connected connected) (inputs.Packet packet) envelope fate → ⊥

  -- the window is without the message that this PUBACK is for, which is settled
  record Settled (old : S) (connected : ConnectedClient P) (puback : Puback) (after : ConnectedClient P) (new : S) : Type 0 where
    envelope : Held
    place : P
    place' : P
    has : has_place connected.session.membership ≡ true
    acks : Acks connected.session.window puback.packet_identifier (Some envelope) after.session.window
    settled : call old (Settle place place' envelope (fate_of puback.reason_code)) new
    same : after.session.identity ≡ connected.session.identity

  settled_in : (found : Option Held) (old new : S) (connected after : ConnectedClient P) (puback : Puback) (place place' : P) → has_place connected.session.membership ≡ true
      → after.session.identity ≡ connected.session.identity → Acks connected.session.window puback.packet_identifier found after.session.window
      → Settles call old place puback.reason_code found place' new → (Kept old connected.session after new × NoneConfirmed connected (packets.Puback puback)) ⊎ Settled old connected puback after new
  settled_in None old new connected after puback place place' has same acks settles = inl (
    record { calls = still call old new settles.1; same = same; window = acks.1 },
    λ envelope fate confirms. acks.0 (contains_identifier (held_of connected.session.window) puback.packet_identifier envelope confirms.1),
  )
  settled_in (Some envelope) old new connected after puback place place' has same acks settles =
      inr (record { envelope = envelope; place = place; place' = place'; has = has; acks = acks; settled = settles; same = same })

  acknowledged : (membership : Membership P) (old new : S) (connected after : ConnectedClient P) (puback : Puback) → connected.session.membership ≡ membership → after.session.identity ≡ connected.session.identity
      → AcknowledgesFor call old membership connected.session.window puback.packet_identifier puback.reason_code after.session.membership after.session.window new
      → (Kept old connected.session after new × NoneConfirmed connected (packets.Puback puback)) ⊎ Settled old connected puback after new
  acknowledged NotMember old new connected after puback is same does =
      inl (record { calls = still call old new does.2; same = same; window = does.1 }, λ envelope fate confirms. let no : true ≡ false = sym confirms.0 ∙ ap has_place is in cc)
  acknowledged (Member place) old new connected after puback is same does =
      settled_in does.1.found old new connected after puback place does.0 (ap has_place is) same does.1.acked does.1.settled
  acknowledged (Leaving place) old new connected after puback is same does =
      settled_in does.1.found old new connected after puback place does.0 (ap has_place is) same does.1.acked does.1.settled

  -- its step goes on
  settled_steps : (old mid new : S) (number : ℕ) (connected : ConnectedClient P) (puback : Puback) (next : Then) (after : ConnectedClient P) → connected.session.window.retired ≡ false → Apart call old mid
      → Settled mid connected puback after new → SessionStepped old number (Connected connected) (inputs.Packet (packets.Puback puback)) next (Connected after) new
  settled_steps old mid new number connected puback next after sound earlier does =
      let settling : SupplyCall P = Settle does.place does.place' does.envelope (fate_of puback.reason_code) in
      record {
        marks = Acked puback.packet_identifier puback.reason_code ∷ [];
        session = record {
          aside = record {
            supply_calls = earlier.calls.supply_calls ++ settling ∷ [];
            made = joins call earlier.calls.supply_calls (settling ∷ []) old mid new earlier.calls.made (new, does.settled, refl);
            aside = all_of_both IsAside earlier.calls.supply_calls (settling ∷ []) earlier.aside (tt, tt);
          };
          same = does.same;
          calls = Ack puback.packet_identifier puback.reason_code (Some does.envelope) ∷ [];
          made = (sound, (after.session.window, does.acks, refl));
          marks_are = refl;
          within = (tt, tt);
        };
        no_publish = λ now. refl;
        none_fresh = refl;
        supply_calls = earlier.calls.supply_calls ++ settling ∷ [];
        made = joins call earlier.calls.supply_calls (settling ∷ []) old mid new earlier.calls.made (new, does.settled, refl);
        hands = none_in_both hand_out_of earlier.calls.supply_calls (settling ∷ []) earlier.calls.hands refl;
        settles = inl (
          record {
            envelope = does.envelope;
            fate = fate_of puback.reason_code;
            confirmed = (does.has, does.acks.0, refl);
            settles = none_before settlement_of earlier.calls.supply_calls (settling ∷ []) _ earlier.calls.settles refl;
          },
          ((puback.packet_identifier, puback.reason_code), refl, refl),
        );
      }

  -- a message is offered to groups
  offered : (slots : List ℕ) (old new : S) (number : ℕ) (message : Message) (taken : ℕ) → Offers call old number message slots taken new → Apart call old new
  offered [] old new number message taken offers = still call old new offers.1
  offered (slot ∷ slots) old new number message taken offers =
      apart_behind call old offers.1 new (apart_one call old offers.1 _ offers.4 tt refl refl) (offered slots offers.1 new number message offers.3 offers.6)

  offered_if : (allowed : Bool) (identifier : ℕ) (old new : S) (number now : ℕ) (publish : Publish) (reply : Reply) → OffersIf call allowed old number now publish identifier reply new → Apart call old new
  offered_if true identifier old new number now publish reply does =
      apart_behind call old does.mid new (apart_one call old does.mid _ does.matched tt refl refl) (offered does.slots does.mid new number (message_of now publish) does.taken does.offered)
  offered_if false identifier old new number now publish reply does = still call old new does.1

  published : (rights : Rights) (answer : PublishAnswer) (old new : S) (number now : ℕ) (publish : Publish) (reply : Reply) → AnswersPublish call rights old number now publish answer reply new
      → Apart call old new
  published rights (answers.Close code) old new number now publish reply does = still call old new does.1
  published rights (answers.Offer identifier) old new number now publish reply does = offered_if (may_publish rights publish.topic) identifier old new number now publish reply does

  disconnected_if : (given : Bool) (old new : S) (connected after : ConnectedClient P) (seconds : ℕ) (reply : Reply) → DisconnectsIf given connected seconds after reply → new ≡ old → Kept old connected.session after new
  disconnected_if true old new connected after seconds reply does same = kept old new connected.session after _ does.0 refl refl (still call old new same)
  disconnected_if false old new connected after seconds reply does same = kept old new connected.session after _ does.0 refl refl (still call old new same)

  disconnected : (expiry : Option ℕ) (old new : S) (connected after : ConnectedClient P) (reply : Reply) → Disconnects connected expiry after reply → new ≡ old → Kept old connected.session after new
  disconnected None old new connected after reply does same = kept old new connected.session after _ does.0 refl refl (still call old new same)
  disconnected (Some seconds) old new connected after reply does same = disconnected_if _ old new connected after seconds reply does same

  -- the answer to a packet: only that to a PUBACK changes the window
  abbrev SettlesBy : S → ConnectedClient P → Packet → ConnectedClient P → Reply → S → Type 0
  SettlesBy old connected packet after reply new = (puback : Puback) × (packet ≡ packets.Puback puback) × Settled old connected puback after new × (reply.next ≡ Go)

  module _ (slot_of : P → ℕ) where
    answered : (packet : Packet) (old new : S) (number now : ℕ) (connected after : ConnectedClient P) (reply : Reply) → Answers call slot_of old number (hearing connected now) now packet after reply new
        → (Kept old connected.session after new × NoneConfirmed connected packet) ⊎ SettlesBy old connected packet after reply new
    answered (packets.Publish publish) old new number now connected after reply is =
        inl (kept old new connected.session after _ is.1 refl refl (published connected.rights (publish_answer publish) old new number now publish reply is.0), λ e f c. c)
    answered (packets.Puback puback) old new number now connected after reply is =
        ⊎_elim
        (λ (keeps : Kept old connected.session after new × NoneConfirmed connected (packets.Puback puback)). inl keeps)
        (λ (does : Settled old connected puback after new). inr (puback, refl, does, ap (λ (r : Reply). r.next) is.3))
        (acknowledged connected.session.membership old new connected after puback refl (ap (λ (l : ConnectedClient P). l.session.identity) is.2 ∙ ap (λ (s : Session Held P). s.identity) is.1.same)
        (subst (λ (l : ConnectedClient P). AcknowledgesFor call old connected.session.membership connected.session.window puback.packet_identifier puback.reason_code l.session.membership l.session.window new)
        (sym is.2) is.1.settles))
    answered (packets.Subscribe subscribe) old new number now connected after reply is =
        inl (
          kept old new connected.session after _ is.3 refl refl
              (apart call old new (asides.subscribed_as call slot_of connected.rights (subscribe_refusal subscribe) old new connected.session.membership connected.session.subscription subscribe reply is.0 is.1 is.2)),
          λ e f c. c,
        )
    answered (packets.Unsubscribe unsubscribe) old new number now connected after reply is =
        inl (
          kept old new connected.session after _ is.2 refl refl
              (apart call old new (asides.unsubscribed_as call slot_of (unsubscribe_refusal unsubscribe) old new connected.session.membership unsubscribe reply is.0 is.1)),
          λ e f c. c,
        )
    answered packets.Pingreq old new number now connected after reply is = inl (kept old new connected.session after _ is.0 refl refl (still call old new is.2), λ e f c. c)
    answered (packets.Disconnect disconnect) old new number now connected after reply is =
        inl (disconnected disconnect.properties.session_expiry_interval old new (hearing connected now) after reply is.0 is.1, λ e f c. c)
    answered (packets.Connect connect) old new number now connected after reply is = inl (kept old new connected.session after _ is.0 refl refl (still call old new is.2), λ e f c. c)
    answered (packets.Connack connack) old new number now connected after reply is = inl (kept old new connected.session after _ is.0 refl refl (still call old new is.2), λ e f c. c)
    answered (packets.Suback suback) old new number now connected after reply is = inl (kept old new connected.session after _ is.0 refl refl (still call old new is.2), λ e f c. c)
    answered (packets.Unsuback unsuback) old new number now connected after reply is = inl (kept old new connected.session after _ is.0 refl refl (still call old new is.2), λ e f c. c)
    answered packets.Pingresp old new number now connected after reply is = inl (kept old new connected.session after _ is.0 refl refl (still call old new is.2), λ e f c. c)
    answered (packets.Foreign kind) old new number now connected after reply is = inl (kept old new connected.session after _ is.0 refl refl (still call old new is.2), λ e f c. c)
    answered (packets.OtherVersion version) old new number now connected after reply is = inl (kept old new connected.session after _ is.0 refl refl (still call old new is.2), λ e f c. c)
    answered packets.WithWill old new number now connected after reply is = inl (kept old new connected.session after _ is.0 refl refl (still call old new is.2), λ e f c. c)

    -- the session is parked
    parts : (old mid new : S) (number now : ℕ) (connected : ConnectedClient P) (phase : ConnPhase P) → Apart call old mid → IsParted call slot_of mid connected now phase new
        → SessionStep call old number (Some connected) (connected_of phase) new
    parts old mid new number now connected phase earlier is = is_at call old new number (Some connected) phase _ is.1 (parted call old mid new number now connected connected refl refl earlier is.0)

    concluded : (next : Then) (old mid new : S) (number now : ℕ) (connected after : ConnectedClient P) (phase : ConnPhase P) → after.session.identity ≡ connected.session.identity
        → after.session.window ≡ connected.session.window → Apart call old mid → Concludes call slot_of mid after now next phase new
        → SessionStep call old number (Some connected) (connected_of phase) new
    concluded Go old mid new number now connected after phase same window calls is =
        is_at call old new number (Some connected) phase _ is.0 (goes_on call old new number connected after same window (apart_behind call old mid new calls (still call mid new is.1)))
    concluded Close old mid new number now connected after phase same window calls is =
        is_at call old new number (Some connected) phase _ is.1 (parted call old mid new number now connected after same window calls is.0)
    concluded Kicked old mid new number now connected after phase same window calls is =
        is_at call old new number (Some connected) phase _ is.1 (parted call old mid new number now connected after same window calls is.0)

    packet_answered : (was_kicked : Bool) (old mid new : S) (number now : ℕ) (connected : ConnectedClient P) (packet : Packet) (phase : ConnPhase P) (reply : Reply)
        → connected.session.window.retired ≡ false → Apart call old mid
        → AnswersUnlessKicked call slot_of was_kicked mid connected now (AnswersPacket call slot_of mid number connected now packet) phase reply new
        → SessionStepped old number (Connected connected) (inputs.Packet packet) reply.next phase new
    packet_answered true old mid new number now connected packet phase reply sound earlier is =
        session_steps old new number (Connected connected) (inputs.Packet packet) reply.next phase (λ envelope fate confirms. ap (λ (r : Reply). r.next) is.0)
        (parts old mid new number now connected phase earlier is.1)
    packet_answered false old mid new number now connected packet phase reply sound earlier is =
        ⊎_elim
        (λ (keeps : Kept mid connected.session is.0 is.1 × NoneConfirmed connected packet).
        session_steps old new number (Connected connected) (inputs.Packet packet) reply.next phase (λ envelope fate confirms. absurd (keeps.1 envelope fate confirms))
        (concluded reply.next old is.1 new number now connected is.0 phase keeps.0.same keeps.0.window (apart_behind call old mid is.1 earlier keeps.0.calls) is.3))
        (λ (does : SettlesBy mid connected packet is.0 reply is.1).
        let goes : Concludes call slot_of is.1 is.0 now Go phase new = subst (λ next. Concludes call slot_of is.1 is.0 now next phase new) does.3 is.3 in
        let turned = settled_steps old mid is.1 number connected does.0 reply.next is.0 sound earlier does.2 in
        let told = subst (λ p. SessionStepped old number (Connected connected) (inputs.Packet p) reply.next (Connected is.0) is.1) (sym does.1) turned in
        subst (λ s. SessionStepped old number (Connected connected) (inputs.Packet packet) reply.next s new) (sym goes.0)
        (subst (λ s. SessionStepped old number (Connected connected) (inputs.Packet packet) reply.next (Connected is.0) s) (sym goes.1) told))
        (answered packet mid is.1 number now connected is.0 reply is.2)

    heard : (overdue : Bool) (old mid new : S) (number now : ℕ) (connected : ConnectedClient P) (phase : ConnPhase P) (reply : Reply) → Apart call old mid
        → IsHeard call slot_of overdue mid connected now phase reply new → SessionStep call old number (Some connected) (connected_of phase) new
    heard true old mid new number now connected phase reply earlier is = parts old mid new number now connected phase earlier is.1
    heard false old mid new number now connected phase reply earlier is =
        is_at call old new number (Some connected) phase _ is.1 (goes_on call old new number connected connected refl refl (apart_behind call old mid new earlier (still call mid new is.2)))

    tick_answered : (was_kicked : Bool) (old mid new : S) (number now : ℕ) (connected : ConnectedClient P) (phase : ConnPhase P) (reply : Reply) → Apart call old mid
        → AnswersUnlessKicked call slot_of was_kicked mid connected now (AnswersTick call slot_of mid connected now) phase reply new → SessionStep call old number (Some connected) (connected_of phase) new
    tick_answered true old mid new number now connected phase reply earlier is = parts old mid new number now connected phase earlier is.1
    tick_answered false old mid new number now connected phase reply earlier is =
        heard (is_overdue connected.terms.keep_alive (now - connected.heard)) old is.0 new number now connected phase reply
        (apart_behind call old mid is.0 earlier (apart call mid is.0 (asides.swept call 256 mid is.0 now is.1))) is.2

    -- a connection without its session
    over : (old new : S) (number : ℕ) (phase : ConnPhase P) → phase ≡ Ended → Apart call old new → SessionStep call old number None (connected_of phase) new
    over old new number phase is calls = is_at call old new number None phase _ is (stays_out call old new number calls)

    first_answered : (answer : FirstAnswer) (old new : S) (number : ℕ) (limits : ClientLimits) (now : ℕ) (packet : Packet) (phase : ConnPhase P) (reply : Reply)
        → AnswersFirst call slot_of answer old number limits now packet phase reply new → SessionStep call old number None (connected_of phase) new
    first_answered first.Close old new number limits now packet phase reply is = over old new number phase is.0.over (still call old new is.1)
    first_answered (first.Refuse refusal) old new number limits now packet phase reply is = over old new number phase is.0.over (still call old new is.1)
    first_answered first.Attach old new number limits now packet phase reply is =
        attached call old old new new number now _ 0 phase reply (still call old old refl) is.2 (still call new new refl)

    refused_if : (refusal : Option ConnectRefusal) (phase : ConnPhase P) (reply : Reply) → IsRefusedIf refusal phase reply → phase ≡ Ended
    refused_if (Some refusal) phase reply refused = refused.over
    refused_if None phase reply closed = closed.over

    waits_for_connect : (late : Bool) (old new : S) (number : ℕ) (opened : Opening) (phase : ConnPhase P) (reply : Reply) → WaitsForConnect late opened phase reply → Apart call old new
        → SessionStep call old number None (connected_of phase) new
    waits_for_connect true old new number opened phase reply closed calls = over old new number phase closed.over calls
    waits_for_connect false old new number opened phase reply waits calls = is_at call old new number None phase _ waits.0 (stays_out call old new number calls)

    pub reacted : (phase : ConnPhase P) (input : Input) (old new : S) (number now : ℕ) (between : ConnPhase P) (reply : Reply) → IsNotEnding phase
        → Reacts call slot_of old number phase now input between reply new → SessionStepped old number phase input reply.next between new
    reacted (Unconnected opened) (inputs.Packet packet) old new number now between reply sound is =
        session_steps old new number _ _ reply.next between (λ e f c. absurd c) (first_answered (first_answer opened.limits.users packet) old new number opened.limits now packet between reply is)
    reacted (Unconnected opened) (inputs.Fault fault) old new number now between reply sound is =
        session_steps old new number _ _ reply.next between (λ e f c. absurd c) (over old new number between (refused_if (fault_refusal fault) between reply is.0) (still call old new is.1))
    reacted (Unconnected opened) inputs.Tick old new number now between reply sound is =
        session_steps old new number _ _ reply.next between (λ e f c. absurd c) (waits_for_connect (is_late (now - opened.at)) old new number opened between reply is.1 (apart call old new (asides.swept call 256 old new now is.0)))
    reacted (Unconnected opened) inputs.EndOfInput old new number now between reply sound is = session_steps old new number _ _ reply.next between (λ e f c. absurd c) (over old new number between is.0.over (still call old new is.1))
    reacted (Unconnected opened) inputs.Closing old new number now between reply sound is = session_steps old new number _ _ reply.next between (λ e f c. absurd c) (over old new number between is.0.over (still call old new is.1))
    reacted (Waiting request ticks) (inputs.Packet packet) old new number now between reply sound is = absurd is
    reacted (Waiting request ticks) (inputs.Fault fault) old new number now between reply sound is = absurd is
    reacted (Waiting request ticks) inputs.Tick old new number now between reply sound is =
        session_steps old new number _ _ reply.next between (λ e f c. absurd c)
        (attached call old is.0 is.2.mid new number now request _ between reply (apart call old is.0 (asides.swept call 256 old is.0 now is.1)) is.2.attaches
        (apart call is.2.mid new (asides.withdrawn call between is.2.mid new number is.2.withdraws)))
    reacted (Waiting request ticks) inputs.EndOfInput old new number now between reply sound is =
        session_steps old new number _ _ reply.next between (λ e f c. absurd c) (over old new number between is.1.over (apart_one call old new _ is.0 tt refl refl))
    reacted (Waiting request ticks) inputs.Closing old new number now between reply sound is =
        session_steps old new number _ _ reply.next between (λ e f c. absurd c) (over old new number between is.1.over (apart_one call old new _ is.0 tt refl refl))
    reacted (Connected connected) (inputs.Packet packet) old new number now between reply sound is =
        packet_answered is.0 old is.1 new number now connected packet between reply sound (apart_one call old is.1 _ is.2 tt refl refl) is.3
    reacted (Connected connected) (inputs.Fault fault) old new number now between reply sound is =
        session_steps old new number _ _ reply.next between (λ e f c. absurd c) (parts old old new number now connected between (still call old old refl) is.1)
    reacted (Connected connected) inputs.Tick old new number now between reply sound is =
        session_steps old new number _ _ reply.next between (λ e f c. absurd c) (tick_answered is.0 old is.1 new number now connected between reply (apart_one call old is.1 _ is.2 tt refl refl) is.3)
    reacted (Connected connected) inputs.EndOfInput old new number now between reply sound is =
        session_steps old new number _ _ reply.next between (λ e f c. absurd c) (parts old old new number now connected between (still call old old refl) is.1)
    reacted (Connected connected) inputs.Closing old new number now between reply sound is =
        session_steps old new number _ _ reply.next between (λ e f c. absurd c)
        (is_at call old new number (Some connected) between _ is.2
        (handed_in call old old new new number connected (down connected.session) refl refl (still call old old refl) (inr is.1) (quiet_one call old new _ is.1 refl refl) (still call new new refl)))
    reacted Ended input old new number now between reply sound is = session_steps old new number _ _ reply.next between (λ e f c. absurd c) (over old new number between is.0.over (still call old new is.1))
