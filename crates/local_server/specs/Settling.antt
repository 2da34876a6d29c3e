-- What is settled in a run: as the `Acked` marks of the sessions' transcripts have it, and as the events of the groups do (sections 3.4 and 4.3.2).
use Rattle.std.specs.Prelude.{◌≡◌, ◌≢◌, ℕ, nat_eq, if◌then◌else◌, List, [], ◌∷◌, ◌++◌, filter_map, Option, Some, None, slice_get, Contains, ⊤}
use Rattle.std.specs.List.{list_any}
use Rattle.mqtt_packet.specs.declared.packet.Packet.TheVariants as packets
use Rattle.dispatch_core.specs.declared.event.Event.{Event}
use Rattle.dispatch_core.specs.declared.event.Event.TheVariants.{Accept, First, Ack, Refuse, Discard, Back, Again, Close}
use Rattle.dispatch_core.specs.declared.event.Job.{Job}
use Rattle.group_jobs.specs.declared.fate.Fate.{Fate}
use Rattle.group_jobs.specs.declared.fate.Fate.TheVariants as fate
use Rattle.group_jobs.specs.Stamps.{Held, job_of}
use Rattle.local_group.specs.Groups.{Group}
use Rattle.member_window.specs.Contents.{held_of}
use Rattle.member_window.specs.Marks.{held}
use Rattle.session_desk.specs.declared.row.Row.{Row}
use Rattle.session_desk.specs.declared.session.Session.{Session}
use Rattle.session_desk.specs.declared.session.Membership.{Membership}
use Rattle.session_desk.specs.declared.session.Membership.TheVariants.{NotMember, Member, Leaving}
use Rattle.session_desk.specs.Rows.{HasRow, session_in}
use Rattle.conn_rules.specs.Acknowledging.{fate_of}
use Rattle.conn_supply.specs.declared.reply.Then.TheVariants.{Go}
use Rattle.conn_engine.specs.declared.input.Input.{Input}
use Rattle.conn_engine.specs.declared.input.Input.TheVariants as inputs
use Rattle.conn_engine.specs.declared.phase.ConnectedClient.{ConnectedClient}
use Rattle.conn_laws.specs.Calls.{discards_of}
use Rattle.conn_laws.specs.Marks.{acknowledged_of}
use Rattle.client_table.specs.Clients.{StepOutput}
use Rattle.local_broker.specs.Places.{GroupPlace}
use Rattle.local_broker.specs.Broker.{Broker}
use Rattle.local_broker.specs.Histories.{HasOut}
use Rattle.local_server.specs.declared.event.TimedEvent.{TimedEvent}
use Rattle.local_server.specs.Servers.{ServerState}
use Rattle.local_server.specs.Happening.{HappensAll}
use Rattle.local_server.specs.ConnSteps.{ConnStep}
use Rattle.local_server.specs.Transcripts.{transcript_of, connected_at, KeepsTranscripts}

-- what is settled, and how
abbrev pub Settlement : Type 0
Settlement = Held × Fate

-- which member settles which job in an event of a group, and how
abbrev pub settled_in : Event → Option (ℕ × Job × Fate)
settled_in (Accept port) = None
settled_in (First member job) = None
settled_in (Ack member job) = Some (member, job, fate.Acknowledged)
settled_in (Refuse member job) = Some (member, job, fate.Refused)
settled_in (Discard member job) = Some (member, job, fate.Discarded)
settled_in (Back member job) = None
settled_in (Again member job) = None
settled_in Close = None

abbrev pub settled_in_all : List Event → List (ℕ × Job × Fate)
settled_in_all events = filter_map settled_in events

-- a settlement as the group of this slot sees it: the place, the job and the fate
abbrev pub settled_seen_by : ℕ → Settlement → Option (ℕ × Job × Fate)
settled_seen_by slot settlement = if nat_eq settlement.0.stamp.group slot then Some (settlement.0.place, job_of settlement.0.stamp, settlement.1) else None

-- what is settled where a session that holds these messages acknowledges: by one `Acked` at most, and the message under its identifier, which is
-- acknowledged where its Reason Code is below 0x80, and refused else
abbrev pub AreSettled : List (ℕ × Held) → List (ℕ × ℕ) → List Settlement → Type 0
AreSettled entries [] settled = settled ≡ []
AreSettled entries (acked ∷ []) settled = (envelope : Held) × Contains entries (acked.0, envelope) × (settled ≡ (envelope, fate_of acked.1) ∷ [])
AreSettled entries (acked ∷ another ∷ others) settled = ⊥

-- which PUBACK comes in for a message that a session holds: its identifier, and its Reason Code
abbrev pub confirmed_by : List (ℕ × Held) → Input → List (ℕ × ℕ)
confirmed_by entries (inputs.Packet (packets.Puback puback)) =
    if list_any (λ entry. nat_eq entry.0 puback.packet_identifier) entries then (puback.packet_identifier, puback.reason_code) ∷ [] else []
confirmed_by entries input = []

-- what a step acknowledges is the PUBACK that comes in it for a message that its session holds, and nothing else; where the connection does not go
-- on after that step, nothing
pub record AcknowledgesWhatCame (conn_step : ConnStep) (entries : List (ℕ × Held)) : Type 0 where
  pub goes_on : conn_step.next ≡ Go → acknowledged_of conn_step.marks ≡ confirmed_by entries conn_step.input
  pub ends : conn_step.next ≢ Go → acknowledged_of conn_step.marks ≡ []

-- what each of these steps acknowledges and settles, after those before, in their order; and after that what it discards
abbrev pub AllSettle : List ConnStep → List ConnStep → List Settlement → Type 0
AllSettle before [] settled = settled ≡ []
AllSettle before (conn_step ∷ conn_steps) settled =
    let entries = held [] (transcript_of conn_step.session before) in
    (now later : List Settlement) × AcknowledgesWhatCame conn_step entries × AreSettled entries (acknowledged_of conn_step.marks) now
    × AllSettle (before ++ conn_step ∷ []) conn_steps later × (settled ≡ (now ++ discards_of conn_step.outcomes) ++ later)

-- these messages are out at a place: it was handed each, and has neither settled it nor given it back
abbrev pub AreOut : Broker → GroupPlace → List (ℕ × Held) → Type 0
AreOut b place entries = (identifier : ℕ) (envelope : Held) → Contains entries (identifier, envelope) → HasOut b place envelope

-- what a session with this membership holds is out at its place, and who is no member holds nothing
abbrev pub AreOutFor : Broker → Membership GroupPlace → List (ℕ × Held) → Type 0
AreOutFor b NotMember entries = entries ≡ []
AreOutFor b (Member place) entries = AreOut b place entries
AreOutFor b (Leaving place) entries = AreOut b place entries

-- so it is with the session of a connection
abbrev pub HeldIsOut : Broker → Option (ConnectedClient GroupPlace) → Type 0
HeldIsOut b None = ⊤
HeldIsOut b (Some connected) = AreOutFor b connected.session.membership (held_of connected.session.window)

-- what holds of a run: what is acknowledged is settled
pub record SettlesWhatIsAcknowledged (first : ServerState) (events : List TimedEvent) (outputs : List StepOutput) (last : ServerState) (run : HappensAll first events outputs last) : Type 0 where
  -- the transcripts of the sessions, over the steps of their connections
  pub transcripts : KeepsTranscripts first events outputs last run
  -- what the steps acknowledge, in their order: the PUBACKs that came for what their sessions held, each for the message under its identifier, with
  -- the fate of its Reason Code; and what each of them discards of what it was handed
  pub settled : List Settlement
  pub acknowledged : AllSettle [] transcripts.conn_steps settled
  -- and the events of each group that end a hand-out by a fate are those, in that order
  pub fates : (slot : ℕ) (group : Group) → slice_get last.broker.groups slot ≡ Some group → settled_in_all group.events ≡ filter_map (settled_seen_by slot) settled
  -- what a session holds is out at the place of its session, whose connection is open or has ended
  pub held_out : (connection : ℕ) → HeldIsOut last.broker (connected_at last.clients connection)
  pub parked_out : (number : ℕ) (row : Row Held GroupPlace) (session : Session Held GroupPlace) → HasRow last.broker.desk.rows number row
      → session_in row.held_by ≡ Some session → AreOutFor last.broker session.membership (held_of session.window)
