-- What a connection whose client has its session answers to a packet (chapter 3).
use Rattle.std.specs.Prelude.{◌≡◌, ℕ, Bool, true, false, Option, Some, None}
use Rattle.mqtt_packet.specs.declared.packet.Packet.{Packet}
use Rattle.mqtt_packet.specs.declared.packet.Packet.TheVariants as packets
use Rattle.group_jobs.specs.Stamps.{Held}
use Rattle.session_desk.specs.declared.session.Session.{Session}
use Rattle.session_desk.specs.declared.session.Membership.{Membership}
use Rattle.conn_rules.specs.Connecting.{is_given_expiry, granted_expiry}
use Rattle.conn_supply.specs.declared.reply.Reply.{Reply}
use Rattle.conn_supply.specs.SupplyCalls.{SupplyCall}
use Rattle.conn_supply.specs.Memberships.{with_membership, with_subscription}
use Rattle.conn_supply.specs.Replies.{going_on, closed, closing_with}
use Rattle.conn_supply.specs.Publishing.{FailsToPublish, Publishes}
use Rattle.conn_supply.specs.Acknowledging.{Acknowledges}
use Rattle.conn_supply.specs.Subscribing.{Subscribes, Unsubscribes, AnswersSome}
use Rattle.conn_engine.specs.declared.phase.ConnectedClient.{ConnectedClient}

-- the same connection, with this session
abbrev pub with_session : {P : Type 0} → ConnectedClient P → Session Held P → ConnectedClient P
with_session connected session = record { session = session; terms = connected.terms; rights = connected.rights; heard = connected.heard }

-- its session has this membership, or this expiry in seconds
abbrev pub joining : {P : Type 0} → ConnectedClient P → Membership P → ConnectedClient P
joining connected membership = with_session connected (with_membership connected.session membership)

-- and this Subscription Identifier
abbrev pub subscribing : {P : Type 0} → ConnectedClient P → Membership P → Option ℕ → ConnectedClient P
subscribing connected membership subscription = with_session connected (with_subscription (with_membership connected.session membership) subscription)

abbrev pub expiring : {P : Type 0} → ConnectedClient P → ℕ → ConnectedClient P
expiring connected seconds = with_session connected (record {
  identity = connected.session.identity;
  expiry = record { seconds = seconds; parked = connected.session.expiry.parked };
  window = connected.session.window;
  membership = connected.session.membership;
  subscription = connected.session.subscription;
})

-- 3.14.2.2.2: an expiry at the end takes the place of the session's, but a session that ends with its connection may not be given one
abbrev pub DisconnectsIf : {P : Type 0} → Bool → ConnectedClient P → ℕ → ConnectedClient P → Reply → Type 0
DisconnectsIf true connected seconds connected' reply = (connected' ≡ connected) × (reply ≡ closing_with 0x82)
DisconnectsIf false connected seconds connected' reply = (connected' ≡ expiring connected (granted_expiry connected.terms seconds)) × (reply ≡ closed None)

abbrev pub Disconnects : {P : Type 0} → ConnectedClient P → Option ℕ → ConnectedClient P → Reply → Type 0
Disconnects connected None connected' reply = (connected' ≡ connected) × (reply ≡ closed None)
Disconnects connected (Some seconds) connected' reply = DisconnectsIf (is_given_expiry seconds connected.terms) connected seconds connected' reply

module _ {S P : Type 0} (call : S → SupplyCall P → S → Type 0) (slot_of : P → ℕ) where
  -- a packet of the connection with this number that came at this moment. What a client has no business to send, a second CONNECT among it, is a Protocol Error (4.13)
  abbrev pub Answers : S → ℕ → ConnectedClient P → ℕ → Packet → ConnectedClient P → Reply → S → Type 0
  Answers old number connected now (packets.Publish publish) connected' reply new = Publishes call connected.rights old number now publish reply new × (connected' ≡ connected)
  Answers old number connected now (packets.Puback puback) connected' reply new =
      (session : Session Held P) × Acknowledges call old connected.session puback.packet_identifier puback.reason_code session new
      × (connected' ≡ with_session connected session) × (reply ≡ going_on None)
  Answers old number connected now (packets.Subscribe subscribe) connected' reply new =
      (membership : Membership P) × (subscription : Option ℕ)
      × Subscribes call slot_of connected.rights old connected.session.membership connected.session.subscription subscribe reply membership subscription new
      × (connected' ≡ subscribing connected membership subscription)
  Answers old number connected now (packets.Unsubscribe unsubscribe) connected' reply new =
      (membership : Membership P) × Unsubscribes call slot_of old connected.session.membership unsubscribe reply membership new
      × (connected' ≡ joining connected membership)
  Answers old number connected now packets.Pingreq connected' reply new = (connected' ≡ connected) × (reply ≡ going_on (Some packets.Pingresp)) × (new ≡ old)
  Answers old number connected now (packets.Disconnect disconnect) connected' reply new = Disconnects connected disconnect.properties.session_expiry_interval connected' reply × (new ≡ old)
  Answers old number connected now other connected' reply new = (connected' ≡ connected) × (reply ≡ closing_with 0x82) × (new ≡ old)

  -- where an allocation failed: a PUBLISH was offered to some groups, some entries of a SUBSCRIBE were answered, and nothing else was done
  abbrev pub FailsToAnswer : S → ℕ → ConnectedClient P → ℕ → Packet → ConnectedClient P → S → Type 0
  FailsToAnswer old number connected now (packets.Publish publish) connected' new = FailsToPublish call connected.rights old number now publish new × (connected' ≡ connected)
  FailsToAnswer old number connected now (packets.Subscribe subscribe) connected' new =
      (membership : Membership P) × AnswersSome call slot_of connected.rights old connected.session.membership subscribe.subscriptions membership new
      × (connected' ≡ joining connected membership)
  FailsToAnswer old number connected now (packets.Unsubscribe unsubscribe) connected' new = (connected' ≡ connected) × (new ≡ old)
  FailsToAnswer old number connected now other connected' new = ⊥
