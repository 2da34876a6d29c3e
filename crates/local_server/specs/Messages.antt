-- Which messages a run accepts, and that they are what it sends (sections 3.3, 4.3.2 and 4.4).
use Rattle.std.specs.Prelude.{◌≡◌, ℕ, ◌<◌, nat_eq, ◌&&◌, if◌then◌else◌, List, [], ◌∷◌, ◌++◌, length, filter_map, Option, Some, None, slice_get, Contains}
use Rattle.std.specs.List.{AllByRecursion, AllPairs, flat_map}
use Rattle.limits.specs.Limits.{most_groups}
use Rattle.mqtt_packet.specs.declared.packet.Packet.TheVariants as packets
use Rattle.mqtt_packet.specs.declared.packet.Publish.{Publish}
use Rattle.dispatch_core.specs.declared.event.Event.{Event}
use Rattle.dispatch_core.specs.declared.event.Event.TheVariants.{Accept, First, Ack, Refuse, Discard, Back, Again, Close}
use Rattle.group_jobs.specs.declared.message.Message.{Message}
use Rattle.group_jobs.specs.declared.stamp.Stamp.{Stamp}
use Rattle.group_jobs.specs.Stamps.{Held}
use Rattle.local_group.specs.Groups.{Group}
use Rattle.member_window.specs.Marks.{Mark, Up, Sent, Acked, Down}
use Rattle.conn_rules.specs.Publishing.{message_of}
use Rattle.conn_engine.specs.declared.input.Input.{Input}
use Rattle.conn_engine.specs.declared.input.Input.TheVariants as inputs
use Rattle.client_table.specs.Clients.{StepOutput}
use Rattle.local_server.specs.declared.event.TimedEvent.{TimedEvent}
use Rattle.local_server.specs.Servers.{ServerState}
use Rattle.local_server.specs.Happening.{HappensAll}
use Rattle.local_server.specs.ConnSteps.{ConnStep}
use Rattle.local_server.specs.Settling.{SettlesWhatIsAcknowledged}

-- a message that the group of this slot accepted, and the port through which it did
pub record Accepted : Type 0 where
  pub group : ℕ
  pub port : ℕ
  pub message : Message

-- the messages that a group accepted through a port, in their order: the number of a job is the place of its message here
abbrev pub message_if : ℕ → ℕ → Accepted → Option Message
message_if group port accepted = if nat_eq accepted.group group && nat_eq accepted.port port then Some accepted.message else None

abbrev pub messages_through : ℕ → ℕ → List Accepted → List Message
messages_through group port accepted = filter_map (message_if group port) accepted

-- the message was accepted under this stamp
abbrev pub IsAcceptedAs : List Accepted → Stamp → Message → Type 0
IsAcceptedAs accepted stamp message = slice_get (messages_through stamp.group stamp.port accepted) stamp.number ≡ Some message

-- through which port a group accepts a message in an event
abbrev pub accepted_in : Event → Option ℕ
accepted_in (Accept port) = Some port
accepted_in (First member job) = None
accepted_in (Ack member job) = None
accepted_in (Refuse member job) = None
accepted_in (Discard member job) = None
accepted_in (Back member job) = None
accepted_in (Again member job) = None
accepted_in Close = None

abbrev pub accepted_in_all : List Event → List ℕ
accepted_in_all events = filter_map accepted_in events

-- an accepted message as the group of this slot sees it: the port
abbrev pub accepted_seen_by : ℕ → Accepted → Option ℕ
accepted_seen_by slot accepted = if nat_eq accepted.group slot then Some accepted.port else None

-- it is the message of the PUBLISH that came in at this moment, through the port of its connection
pub record IsBroughtBy (connection now : ℕ) (input : Input) (accepted : Accepted) : Type 0 where
  pub publish : Publish
  pub came : input ≡ inputs.Packet (packets.Publish publish)
  pub message : accepted.message ≡ message_of now publish
  pub port : accepted.port ≡ connection
  pub group : accepted.group < most_groups

-- these were accepted in one step: the message that came, once by each of some groups, in the order of their slots
pub record IsBrought (connection now : ℕ) (input : Input) (accepted : List Accepted) : Type 0 where
  pub each : AllByRecursion (IsBroughtBy connection now input) accepted
  pub ordered : AllPairs (λ one other. one.group < other.group) accepted

-- what is accepted in these steps, in their order
abbrev pub AllAccept : List ConnStep → List Accepted → Type 0
AllAccept [] accepted = accepted ≡ []
AllAccept (conn_step ∷ conn_steps) accepted =
    (these later : List Accepted) × IsBrought conn_step.connection conn_step.at conn_step.input these × AllAccept conn_steps later × (accepted ≡ these ++ later)

-- what steps send, for the first time and again
abbrev pub sent_in : Mark Held → Option Held
sent_in (Up receive_maximum) = None
sent_in (Sent identifier dup envelope) = Some envelope
sent_in (Acked identifier code) = None
sent_in Down = None

abbrev pub all_sent : List ConnStep → List Held
all_sent conn_steps = flat_map (λ conn_step. filter_map sent_in conn_step.marks) conn_steps

-- what holds of a run: what is sent is what was accepted
pub record SendsWhatWasAccepted (first : ServerState) (events : List TimedEvent) (outputs : List StepOutput) (last : ServerState) (run : HappensAll first events outputs last) : Type 0 where
  -- the transcripts of the sessions, and what is settled in them
  pub settling : SettlesWhatIsAcknowledged first events outputs last run
  -- what the eight groups accepted, in its order, each the message of a PUBLISH that came
  pub eight : length last.broker.groups ≡ 8
  pub accepted : List Accepted
  pub brought : AllAccept settling.transcripts.conn_steps accepted
  -- the events of each group tell which of these are its own, in that order
  pub accepts : (slot : ℕ) (group : Group) → slice_get last.broker.groups slot ≡ Some group → accepted_in_all group.events ≡ filter_map (accepted_seen_by slot) accepted
  -- and whatever is sent under a stamp, with DUP 0 or 1, is the message that was accepted under it
  pub sent : (envelope : Held) → Contains (all_sent settling.transcripts.conn_steps) envelope → IsAcceptedAs accepted envelope.stamp envelope.message
