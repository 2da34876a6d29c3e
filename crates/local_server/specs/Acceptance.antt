-- What a PUBACK says of the message of a PUBLISH: which groups accepted it (sections 3.3.4 and 3.4.2.1).
use Rattle.std.specs.Prelude.{◌≡◌, ◌≢◌, ◌⊎◌, ℕ, Bool, true, false, List, [], ◌∷◌, ◌++◌, filter_map, Option, Some, None, Contains, slice_get}
use Rattle.std.specs.List.{AllByRecursion}
use Rattle.mqtt_packet.specs.declared.packet.Delivery.TheVariants.{AtLeastOnce}
use Rattle.mqtt_packet.specs.declared.packet.Packet.{Packet}
use Rattle.mqtt_packet.specs.declared.packet.Packet.TheVariants as packets
use Rattle.mqtt_packet.specs.declared.packet.Puback.{Puback}
use Rattle.mqtt_packet.specs.declared.packet.Publish.{Publish}
use Rattle.mqtt_topic.specs.Routes.{routed, places_of}
use Rattle.local_group.specs.Groups.{Group}
use Rattle.conn_rules.specs.Packets.{puback}
use Rattle.conn_supply.specs.declared.reply.Then.TheVariants.{Go}
use Rattle.conn_engine.specs.declared.input.Input.TheVariants as inputs
use Rattle.conn_laws.specs.Calls.{is_allowed}
use Rattle.local_broker.specs.Broker.{Broker}
use Rattle.local_server.specs.Messages.{accepted_in_all}
use Rattle.local_server.specs.TakenSteps.{TakenStep}

-- what a group accepted, as its events tell: for each message the port through which it came
abbrev pub ports_of : Option Group → List ℕ
ports_of None = []
ports_of (Some group) = accepted_in_all group.events

abbrev pub ports_in : ℕ → Broker → List ℕ
ports_in slot b = ports_of (slice_get b.groups slot)

-- between these two moments the group of this slot accepted one message of this connection, through whose port it did; or none
abbrev pub AcceptsOne : Broker → ℕ → Broker → ℕ → Type 0
AcceptsOne old connection new slot = ports_in slot new ≡ ports_in slot old ++ connection ∷ []

abbrev pub AcceptsNone : Broker → Broker → ℕ → Type 0
AcceptsNone old new slot = ports_in slot new ≡ ports_in slot old

-- the slots of the shares whose filter matches a topic, in rising order
abbrev pub matching : List ℕ → Broker → List ℕ
matching topic b = places_of 0 (routed topic b.routes)

-- What a PUBACK of this Reason Code says of the groups of these slots, to which a message of this connection was offered. No two of the three hold at once, since a group
-- that accepted one message did not accept none.
pub data Says (old : Broker) (connection : ℕ) (new : Broker) (slots : List ℕ) (code : ℕ) : Type 0 where
  -- 10: no filter matches (3.4.2.1)
  NoneMatches : slots ≡ [] → code ≡ 0x10 → Says old connection new slots code
  -- 00: each of the groups accepted it, and there is one
  AllAccept : slots ≢ [] → AllByRecursion (AcceptsOne old connection new) slots → code ≡ 0x00 → Says old connection new slots code
  -- 97: one of them did not (profile)
  OneRefuses : (slot : ℕ) → Contains slots slot → AcceptsNone old new slot → AllByRecursion (λ each. AcceptsOne old connection new each ⊎ AcceptsNone old new each) slots → code ≡ 0x97
      → Says old connection new slots code

-- the same where the client may publish to the topic, and 87 where it may not: then no group accepted it (3.4.2.1)
abbrev pub SaysIf : (allowed : Bool) → Broker → ℕ → Broker → List ℕ → ℕ → Type 0
SaysIf true old connection new slots code = Says old connection new slots code
SaysIf false old connection new slots code = ((slot : ℕ) → AcceptsNone old new slot) × (code ≡ 0x87)

-- the PUBACK packets among those that are sent
abbrev pub puback_in : Packet → Option Puback
puback_in (packets.Puback puback) = Some puback
puback_in other = None

abbrev pub pubacks_in : List Packet → List Puback
pubacks_in sent = filter_map puback_in sent

-- a PUBLISH of QoS 1 came in a step, and is acknowledged in it first, once, by a PUBACK of its Packet Identifier that says what became of its message; and no group whose
-- filter does not match accepts anything
pub record Acknowledges (step : TakenStep) : Type 0 where
  pub publish : Publish
  pub came : step.input ≡ inputs.Packet (packets.Publish publish)
  pub identifier : ℕ
  pub delivery : publish.delivery ≡ AtLeastOnce identifier
  pub code : ℕ
  pub later : List Packet
  pub sent : step.packets ≡ puback identifier code ∷ later
  pub once : pubacks_in later ≡ []
  pub says : SaysIf (is_allowed step.phase_before publish) step.broker_before step.connection step.broker_after (matching publish.topic step.broker_before) code
  pub elsewhere : (slot : ℕ) → ¬ Contains (matching publish.topic step.broker_before) slot → AcceptsNone step.broker_before step.broker_after slot

-- nothing is acknowledged in a step, and nothing is accepted in it; and where a PUBLISH of QoS 1 came, the connection does not go on
pub record AcknowledgesNothing (step : TakenStep) : Type 0 where
  pub sent : pubacks_in step.packets ≡ []
  pub accepted : (slot : ℕ) → AcceptsNone step.broker_before step.broker_after slot
  pub unless : (publish : Publish) (identifier : ℕ) → step.input ≡ inputs.Packet (packets.Publish publish) → publish.delivery ≡ AtLeastOnce identifier → step.next ≢ Go

-- a group accepts a message in the very step in which its PUBLISH is acknowledged, and in no other; and each PUBLISH of QoS 1 after whose step the connection goes on is
-- acknowledged in that step
abbrev pub AcknowledgesWhatIsAccepted : TakenStep → Type 0
AcknowledgesWhatIsAccepted step = Acknowledges step ⊎ AcknowledgesNothing step
