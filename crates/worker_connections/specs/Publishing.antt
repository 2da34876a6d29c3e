-- How messages come into the ports of a worker: by the PUBLISH packets that its connections step, each through the ports of the groups whose filters match its topic, and by
-- nothing else; and what their PUBACKs say of them (3.3.4, 3.4.2.1 and 4.7).
use Rattle.std.specs.Prelude.{◌≡◌, ◌⊎◌, ℕ, ◌+◌, ◌<◌, max, Bool, List, [], ◌∷◌, ◌++◌, length, Option, Result}
use Rattle.transport.specs.declared.counts.Counts.{Counts}
use Rattle.mqtt_packet.specs.declared.packet.Packet.{Packet}
use Rattle.mqtt_packet.specs.declared.packet.Packet.TheVariants as packets
use Rattle.mqtt_packet.specs.declared.packet.Publish.{Publish}
use Rattle.mqtt_topic.specs.Routes.{places_of, routed}
use Rattle.group_jobs.specs.declared.message.Message.{Message}
use Rattle.group_jobs.specs.declared.stamp.Stamp.{Stamp}
use Rattle.group_queue.specs.Ports.{GroupId, PortState}
use Rattle.group_queue.specs.Places.{PlaceState}
use Rattle.broker_groups.specs.Answers.{Sights}
use Rattle.conn_rules.specs.declared.publishing.PublishAnswer.TheVariants.{Offer}
use Rattle.conn_rules.specs.Packets.{puback}
use Rattle.conn_rules.specs.Publishing.{publish_answer, puback_code, message_of}
use Rattle.conn_supply.specs.declared.supply.OfferRefusal.{OfferRefusal}
use Rattle.conn_supply.specs.Publishing.{Took}
use Rattle.conn_engine.specs.declared.input.Input.{Input}
use Rattle.conn_engine.specs.declared.input.Input.TheVariants as inputs
use Rattle.conn_service.specs.Acts.{Act, Steps, Loses, Fails}
use Rattle.conn_service.specs.Services.{ServiceState}
use Rattle.shared_routes.specs.Known.{KnownState}
use Rattle.shared_supply.specs.Calls.{OffersIn}
use Rattle.shared_supply.specs.Workers.{Worker}
use Rattle.worker_connections.specs.Chains.{Deed, RetiredDue, Makes, MakesAll, Run, RunState}
use Rattle.worker_connections.specs.EachAct.{EachActOf}

-- what a worker publishes through, what it knows of the routes, and whether it drains
pub record PublisherState : Type 0 where
  pub ports : List PortState
  pub known : KnownState
  pub draining : Bool

abbrev pub publisher_of : Worker → PublisherState
publisher_of worker = record { ports = worker.ports; known = worker.known; draining = worker.draining }

-- the slots of the groups whose filters match the topic of a PUBLISH, of those that are known
abbrev pub slots_matched : PublisherState → Publish → List ℕ
slots_matched publisher publish = places_of 0 (routed publish.topic publisher.known.shares)

-- these packets begin with a PUBACK of success: its Reason Code is below 80 (2.4)
abbrev pub IsPromised : List Packet → Type 0
IsPromised sent = (identifier code : ℕ) × (others : List Packet) × (code < 0x80) × (sent ≡ puback identifier code ∷ others)

module _ (group : ℕ → GroupId) (seen : Sights) where
  -- a message is offered through the ports of these slots, in their order, by a worker that drains, or does not, and so many of their groups take it
  abbrev pub PutsInto : (is_draining : Bool) → List PortState → Message → List ℕ → ℕ → List PortState → Type 0
  PutsInto is_draining ports message [] taken ports' = (taken ≡ 0) × (ports' ≡ ports)
  PutsInto is_draining ports message (slot ∷ slots) taken ports' =
      (answer : Result Stamp OfferRefusal) × (mid : List PortState) × (first rest : ℕ)
      × OffersIn group seen is_draining ports slot message answer mid × Took answer first × PutsInto is_draining mid message slots rest ports' × (taken ≡ first + rest)

  -- the same, whatever is answered
  abbrev pub PutsSome : (is_draining : Bool) → List PortState → Message → List ℕ → List PortState → Type 0
  PutsSome is_draining ports message [] ports' = ports' ≡ ports
  PutsSome is_draining ports message (slot ∷ slots) ports' =
      (answer : Result Stamp OfferRefusal) × (mid : List PortState) × OffersIn group seen is_draining ports slot message answer mid × PutsSome is_draining mid message slots ports'

  -- a PUBLISH that came at this moment, and whose message was offered through the port of each group that matches, once, and how many of these groups took it: its PUBACK, in front of all that the step
  -- sent, says that, and nothing else came into the ports
  pub record IsPublished (now : ℕ) (publish : Publish) (sent : List Packet) (old new : PublisherState) : Type 0 where
    pub identifier : ℕ
    pub brought : publish_answer publish ≡ Offer identifier
    pub taken : ℕ
    pub puts : PutsInto old.draining old.ports (message_of now publish) (slots_matched old publish) taken new.ports
    pub others : List Packet
    pub answered : sent ≡ puback identifier (puback_code (length (slots_matched old publish)) taken) ∷ others

  -- what a step at this moment made of the ports, by which these packets were sent: a PUBLISH was published; or they are as they were, and then no PUBLISH was promised
  abbrev pub PublishesAt : ℕ → Input → List Packet → PublisherState → PublisherState → Type 0
  PublishesAt now input sent old new =
      ((publish : Publish) × (input ≡ inputs.Packet (packets.Publish publish)) × IsPublished now publish sent old new)
      ⊎ ((new.ports ≡ old.ports) × ((publish : Publish) → input ≡ inputs.Packet (packets.Publish publish) → ¬ IsPromised sent))

  -- a PUBLISH that was cut short, as an allocation failed: its message was offered through the ports of the first of the groups that match, once each, or of all of them
  pub record IsCutShort (now : ℕ) (publish : Publish) (old new : PublisherState) : Type 0 where
    pub slots : List ℕ
    pub others : List ℕ
    pub matched : slots_matched old publish ≡ slots ++ others
    pub puts : PutsSome old.draining old.ports (message_of now publish) slots new.ports

  -- what a step made of them in which an allocation failed: a PUBLISH was cut short, and nothing was sent; or they are as they were
  abbrev pub PublishesSome : ℕ → Input → PublisherState → PublisherState → Type 0
  PublishesSome now input old new = ((publish : Publish) × (input ≡ inputs.Packet (packets.Publish publish)) × IsCutShort now publish old new) ⊎ (new.ports ≡ old.ports)

  -- what an act made of them of a connection to which something came last at this moment; what is known of the routes, others may add to when a visit begins, and a SUBSCRIBE does
  abbrev pub Publishes : ℕ → Act → PublisherState → PublisherState → Type 0
  Publishes latest (Steps now input sent next) old new = PublishesAt (max latest now) input sent old new
  Publishes latest (Loses now input sent next) old new = PublishesAt (max latest now) input sent old new
  Publishes latest (Fails now input) old new = PublishesSome (max latest now) input old new
  Publishes latest _ old new = new.ports ≡ old.ports

  -- the same of the ports of the worker that makes the act, and of what that knows of the routes then
  abbrev pub PublishesIn : {T : Type 0} → Act → ServiceState PlaceState T → Worker → ServiceState PlaceState T → Worker → Type 0
  PublishesIn act old supply new supply' = Publishes old.client.conn.latest act (publisher_of supply) (publisher_of supply')

module _ {T : Type 0} (group : ℕ → GroupId) (seen : Sights) (counts : T → Counts) (given accepted : T → Option (List ℕ)) where
  -- **What was accepted was published**: at each deed of the run, all that the ports of a worker accepted came into them by the acts of a round, one after the other; where
  -- sessions are retired (`retiring`), and at any other deed (`Makes`), the ports stay as they are
  pub record IsPublishedBy (run : Run T) : Type 0 where
    pub published : (these those : List (Deed T)) (deed : Deed T) (old new : RunState T) → run.deeds ≡ these ++ (deed ∷ those)
        → MakesAll group seen counts given accepted these run.first old → Makes group seen counts given accepted deed old new
        → EachActOf group seen counts given accepted (PublishesIn group seen) deed old new
    pub retiring : (these those : List (Deed T)) (now : ℕ) (old new : RunState T) → run.deeds ≡ these ++ (RetiredDue now ∷ those)
        → MakesAll group seen counts given accepted these run.first old → Makes group seen counts given accepted (RetiredDue now) old new
        → new.supply.ports ≡ old.supply.ports
