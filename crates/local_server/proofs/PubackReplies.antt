-- No reply is a PUBACK, but that to a PUBLISH.
use Rattle.std.proofs.Common.{◌≡◌, ℕ, Bool, true, false, [], Option, Some, None, Result, Ok, Err, refl, ap, ◌∙◌, nat_lt}
use Rattle.std.specs.Option.{option_to_list}
use Rattle.mqtt_packet.specs.declared.packet.Packet.{Packet}
use Rattle.mqtt_packet.specs.declared.packet.Packet.TheVariants as packets
use Rattle.mqtt_packet.specs.declared.packet.ConnectRefusal.{ConnectRefusal}
use Rattle.group_jobs.specs.Stamps.{Held}
use Rattle.session_desk.specs.declared.attached.Attached.{Attached}
use Rattle.session_desk.specs.declared.attached.Attached.TheVariants.{New, Resumed, Replace, Busy}
use Rattle.session_desk.specs.declared.error.DeskError.{DeskError}
use Rattle.session_desk.specs.declared.error.DeskError.TheVariants as errors
use Rattle.session_desk.specs.declared.session.Membership.{Membership}
use Rattle.session_desk.specs.declared.session.Session.{Session}
use Rattle.users.specs.Table.{Rights}
use Rattle.conn_rules.specs.declared.connecting.FirstAnswer.{FirstAnswer}
use Rattle.conn_rules.specs.declared.connecting.FirstAnswer.TheVariants as first
use Rattle.conn_rules.specs.declared.client_limits.ClientLimits.{ClientLimits}
use Rattle.conn_rules.specs.Connecting.{first_answer}
use Rattle.conn_rules.specs.Faults.{fault_refusal}
use Rattle.conn_rules.specs.Subscribing.{subscribe_refusal, unsubscribe_refusal}
use Rattle.mqtt_packet.specs.declared.packet.Publish.{Publish}
use Rattle.mqtt_packet.specs.declared.packet.Subscribe.{Subscribe}
use Rattle.mqtt_packet.specs.declared.packet.Unsubscribe.{Unsubscribe}
use Rattle.conn_supply.specs.declared.reply.Reply.{Reply}
use Rattle.conn_supply.specs.SupplyCalls.{SupplyCall}
use Rattle.conn_supply.specs.Subscribing.{SubscribesAs, UnsubscribesAs}
use Rattle.conn_engine.specs.declared.input.Input.{Input}
use Rattle.conn_engine.specs.declared.input.Input.TheVariants as inputs
use Rattle.conn_engine.specs.declared.phase.ConnectRequest.{ConnectRequest}
use Rattle.conn_engine.specs.declared.phase.ConnectedClient.{ConnectedClient}
use Rattle.conn_engine.specs.declared.phase.Opening.{Opening}
use Rattle.conn_engine.specs.declared.phase.ConnPhase.{ConnPhase}
use Rattle.conn_engine.specs.declared.phase.ConnPhase.TheVariants.{Unconnected, Waiting, Connected, Ended}
use Rattle.conn_engine.specs.Answering.{DisconnectsIf, Disconnects, Answers}
use Rattle.conn_engine.specs.Connecting.{holds_message_too_long, most_ticks, IsRefused, Accepts, WaitsAs, ResumesAs, AttachedAs}
use Rattle.conn_engine.specs.Step.{hearing, IsClosed, IsRefusedIf, WaitsForConnect, AnswersFirst, AnswersPacket, AnswersTick, AnswersUnlessKicked, IsHeard, Reacts}
use Rattle.local_server.specs.Acceptance.{pubacks_in}

-- the packet of a reply, if there is one, is no PUBACK
abbrev pub IsNoPuback : Reply → Type 0
IsNoPuback reply = pubacks_in (option_to_list reply.packet) ≡ []

-- no PUBLISH came
abbrev pub IsNoPublish : Input → Type 0
IsNoPublish input = (publish : Publish) → input ≡ inputs.Packet (packets.Publish publish) → ⊥

told : (reply was : Reply) → reply ≡ was → IsNoPuback was → IsNoPuback reply
told reply was is none = ap (λ r. pubacks_in (option_to_list r.packet)) is ∙ none

closes : {P : Type 0} (phase : ConnPhase P) (reply : Reply) → IsClosed phase reply → IsNoPuback reply
closes phase reply is = told reply _ is.told refl

refuses : {P : Type 0} (phase : ConnPhase P) (reply : Reply) (refusal : ConnectRefusal) → IsRefused refusal phase reply → IsNoPuback reply
refuses phase reply refusal is = told reply _ is.told refl

accepts : {P : Type 0} (phase : ConnPhase P) (reply : Reply) (request : ConnectRequest) (present : Bool) (session : Session Held P)
    → Accepts request present session phase reply → IsNoPuback reply
accepts phase reply request present session is = told reply _ is.told refl

waits : {P : Type 0} (fewer : Bool) (phase : ConnPhase P) (reply : Reply) (request : ConnectRequest) (ticks : ℕ) → WaitsAs fewer request ticks phase reply → IsNoPuback reply
waits true phase reply request ticks is = told reply _ is.1 refl
waits false phase reply request ticks is = refuses phase reply _ is

refused_if : {P : Type 0} (refusal : Option ConnectRefusal) (phase : ConnPhase P) (reply : Reply) → IsRefusedIf refusal phase reply → IsNoPuback reply
refused_if (Some refusal) phase reply is = refuses phase reply refusal is
refused_if None phase reply is = closes phase reply is

waits_for_connect : {P : Type 0} (late : Bool) (opened : Opening) (phase : ConnPhase P) (reply : Reply) → WaitsForConnect late opened phase reply → IsNoPuback reply
waits_for_connect true opened phase reply is = closes phase reply is
waits_for_connect false opened phase reply is = told reply _ is.1 refl

disconnects_if : {P : Type 0} (given : Bool) (connected connected' : ConnectedClient P) (seconds : ℕ) (reply : Reply) → DisconnectsIf given connected seconds connected' reply → IsNoPuback reply
disconnects_if true connected connected' seconds reply is = told reply _ is.1 refl
disconnects_if false connected connected' seconds reply is = told reply _ is.1 refl

disconnects : {P : Type 0} (expiry : Option ℕ) (connected connected' : ConnectedClient P) (reply : Reply) → Disconnects connected expiry connected' reply → IsNoPuback reply
disconnects None connected connected' reply is = told reply _ is.1 refl
disconnects (Some seconds) connected connected' reply is = disconnects_if _ connected connected' seconds reply is

module _ {S P : Type 0} (call : S → SupplyCall P → S → Type 0) (slot_of : P → ℕ) where
  -- what a connection without its session answers
  resumes : (no : Bool) (old new : S) (request : ConnectRequest) (session : Session Held P) (phase : ConnPhase P) (reply : Reply)
      → ResumesAs call no old request session phase reply new → IsNoPuback reply
  resumes true old new request session phase reply is = refuses phase reply _ is.1
  resumes false old new request session phase reply is = accepts phase reply request true session is.1

  attached : (answer : Result (Attached Held P) DeskError) (old new : S) (request : ConnectRequest) (ticks : ℕ) (phase : ConnPhase P) (reply : Reply)
      → AttachedAs call old request ticks answer phase reply new → IsNoPuback reply
  attached (Ok (New session ended)) old new request ticks phase reply is = accepts phase reply request false session is.1
  attached (Ok (Resumed session)) old new request ticks phase reply is =
      resumes (holds_message_too_long request.terms.maximum_packet_size session.window) old new request session phase reply is
  attached (Ok (Replace holder)) old new request ticks phase reply is = waits (nat_lt ticks most_ticks) phase reply request ticks is.0
  attached (Ok Busy) old new request ticks phase reply is = refuses phase reply _ is.0
  attached (Err errors.Full) old new request ticks phase reply is = refuses phase reply _ is.0
  attached (Err errors.NoPlace) old new request ticks phase reply is = refuses phase reply _ is.0
  attached (Err errors.NoName) old new request ticks phase reply is = refuses phase reply _ is.0
  attached (Err errors.Memory) old new request ticks phase reply is = absurd is

  pub answers_first : (answer : FirstAnswer) (old new : S) (number : ℕ) (limits : ClientLimits) (now : ℕ) (packet : Packet) (phase : ConnPhase P) (reply : Reply)
      → AnswersFirst call slot_of answer old number limits now packet phase reply new → IsNoPuback reply
  answers_first first.Close old new number limits now packet phase reply is = closes phase reply is.0
  answers_first (first.Refuse refusal) old new number limits now packet phase reply is = refuses phase reply refusal is.0
  answers_first first.Attach old new number limits now packet phase reply is = attached is.2.answer is.2.mid new _ 0 phase reply is.2.answered

  -- what a connection with its session answers
  subscribed : (rights : Rights) (refusal : Option ℕ) (old new : S) (membership membership' : Membership P) (subscription subscription' : Option ℕ) (subscribe : Subscribe) (reply : Reply)
      → SubscribesAs call slot_of refusal rights old membership subscription subscribe reply membership' subscription' new → IsNoPuback reply
  subscribed rights (Some code) old new membership membership' subscription subscription' subscribe reply is = told reply _ is.0 refl
  subscribed rights None old new membership membership' subscription subscription' subscribe reply is = told reply _ is.1 refl

  unsubscribed : (refusal : Option ℕ) (old new : S) (membership membership' : Membership P) (unsubscribe : Unsubscribe) (reply : Reply)
      → UnsubscribesAs call slot_of refusal old membership unsubscribe reply membership' new → IsNoPuback reply
  unsubscribed (Some code) old new membership membership' unsubscribe reply is = told reply _ is.0 refl
  unsubscribed None old new membership membership' unsubscribe reply is = told reply _ is.1 refl

  answered : (packet : Packet) (old new : S) (number now : ℕ) (connected after : ConnectedClient P) (reply : Reply) → IsNoPublish (inputs.Packet packet) → Answers call slot_of old number connected now packet after reply new → IsNoPuback reply
  answered (packets.Publish publish) old new number now connected after reply other is = absurd (other publish refl)
  answered (packets.Puback puback) old new number now connected after reply other is = told reply _ is.3 refl
  answered (packets.Subscribe subscribe) old new number now connected after reply other is =
      subscribed connected.rights (subscribe_refusal subscribe) old new connected.session.membership is.0 connected.session.subscription is.1 subscribe reply is.2
  answered (packets.Unsubscribe unsubscribe) old new number now connected after reply other is =
      unsubscribed (unsubscribe_refusal unsubscribe) old new connected.session.membership is.0 unsubscribe reply is.1
  answered packets.Pingreq old new number now connected after reply other is = told reply _ is.1 refl
  answered (packets.Disconnect disconnect) old new number now connected after reply other is = disconnects disconnect.properties.session_expiry_interval connected after reply is.0
  answered (packets.Connect connect) old new number now connected after reply other is = told reply _ is.1 refl
  answered (packets.Connack connack) old new number now connected after reply other is = told reply _ is.1 refl
  answered (packets.Suback suback) old new number now connected after reply other is = told reply _ is.1 refl
  answered (packets.Unsuback unsuback) old new number now connected after reply other is = told reply _ is.1 refl
  answered packets.Pingresp old new number now connected after reply other is = told reply _ is.1 refl
  answered (packets.Foreign kind) old new number now connected after reply other is = told reply _ is.1 refl
  answered (packets.OtherVersion version) old new number now connected after reply other is = told reply _ is.1 refl
  answered packets.WithWill old new number now connected after reply other is = told reply _ is.1 refl

  heard : (overdue : Bool) (old new : S) (connected : ConnectedClient P) (now : ℕ) (phase : ConnPhase P) (reply : Reply) → IsHeard call slot_of overdue old connected now phase reply new → IsNoPuback reply
  heard true old new connected now phase reply is = told reply _ is.0 refl
  heard false old new connected now phase reply is = told reply _ is.0 refl

  unless_kicked : (kicked : Bool) (old new : S) (connected : ConnectedClient P) (now : ℕ) (Does : ConnPhase P → Reply → S → Type 0) (phase : ConnPhase P) (reply : Reply)
      → (Does phase reply new → IsNoPuback reply) → AnswersUnlessKicked call slot_of kicked old connected now Does phase reply new → IsNoPuback reply
  unless_kicked true old new connected now Does phase reply does is = told reply _ is.0 refl
  unless_kicked false old new connected now Does phase reply does is = does is

  pub replied : (phase : ConnPhase P) (input : Input) (old new : S) (number now : ℕ) (between : ConnPhase P) (reply : Reply) → IsNoPublish input
      → Reacts call slot_of old number phase now input between reply new → IsNoPuback reply
  replied (Unconnected opened) (inputs.Packet packet) old new number now between reply other is = answers_first (first_answer opened.limits.users packet) old new number opened.limits now packet between reply is
  replied (Unconnected opened) (inputs.Fault fault) old new number now between reply other is = refused_if (fault_refusal fault) between reply is.0
  replied (Unconnected opened) inputs.Tick old new number now between reply other is = waits_for_connect _ opened between reply is.1
  replied (Unconnected opened) inputs.EndOfInput old new number now between reply other is = closes between reply is.0
  replied (Unconnected opened) inputs.Closing old new number now between reply other is = closes between reply is.0
  replied (Waiting request ticks) (inputs.Packet packet) old new number now between reply other is = absurd is
  replied (Waiting request ticks) (inputs.Fault fault) old new number now between reply other is = absurd is
  replied (Waiting request ticks) inputs.Tick old new number now between reply other is =
      let again = is.2.attaches in attached again.answer again.mid _ _ _ between reply again.answered
  replied (Waiting request ticks) inputs.EndOfInput old new number now between reply other is = closes between reply is.1
  replied (Waiting request ticks) inputs.Closing old new number now between reply other is = closes between reply is.1
  replied (Connected connected) (inputs.Packet packet) old new number now between reply other is =
      unless_kicked is.0 is.1 new connected now _ between reply (λ (does : AnswersPacket call slot_of is.1 number connected now packet between reply new).
      answered packet is.1 does.1 number now (hearing connected now) does.0 reply other does.2) is.3
  replied (Connected connected) (inputs.Fault fault) old new number now between reply other is = told reply _ is.0 refl
  replied (Connected connected) inputs.Tick old new number now between reply other is =
      unless_kicked is.0 is.1 new connected now _ between reply (λ (does : AnswersTick call slot_of is.1 connected now between reply new).
      heard _ does.0 new connected now between reply does.2) is.3
  replied (Connected connected) inputs.EndOfInput old new number now between reply other is = told reply _ is.0 refl
  replied (Connected connected) inputs.Closing old new number now between reply other is = told reply _ is.0 refl
  replied Ended input old new number now between reply other is = closes between reply is.0
