-- The transcripts of the sessions of a server, along a whole run (sections 4.4 and 4.9).
use Rattle.std.specs.Prelude.{◌≡◌, ◌≢◌, ℕ, nat_eq, if◌then◌else◌, List, [], ◌∷◌, ◌++◌, map, filter_map, Option, Some, None, slice_get, ⊤}
use Rattle.std.specs.List.{AllByRecursion, flat_map}
use Rattle.dispatch_core.specs.declared.event.Job.{Job}
use Rattle.group_jobs.specs.Stamps.{Held, job_of, under}
use Rattle.local_group.specs.Groups.{Group}
use Rattle.member_window.specs.Marks.{Mark, Up, Sent, Acked, Down, window_down, window_after_all}
use Rattle.member_window.specs.Transcript.{IsLegal}
use Rattle.member_window.specs.Runs.{window_state}
use Rattle.session_desk.specs.declared.row.Row.{Row}
use Rattle.session_desk.specs.declared.row.Holder.TheVariants.{Parked}
use Rattle.session_desk.specs.declared.session.Session.{Session}
use Rattle.session_desk.specs.declared.session.Membership.{Membership}
use Rattle.session_desk.specs.declared.session.Membership.TheVariants.{NotMember, Member, Leaving}
use Rattle.session_desk.specs.Rows.{HasRow}
use Rattle.conn_supply.specs.declared.reply.Then.TheVariants.{Go}
use Rattle.conn_engine.specs.declared.phase.ConnectedClient.{ConnectedClient}
use Rattle.conn_laws.specs.Quotas.{quota_of, KeepsQuota}
use Rattle.conn_laws.specs.Calls.{hand_outs_of, sent_of}
use Rattle.conn_laws.specs.Marks.{fresh_of, IsWithin}
use Rattle.conn_laws.specs.Transcripts.{connected_of}
use Rattle.client_table.specs.Clients.{ClientState, StepOutput}
use Rattle.local_broker.specs.HandOuts.{handed_in_all}
use Rattle.local_broker.specs.Places.{GroupPlace}
use Rattle.local_broker.specs.Broker.{is_open}
use Rattle.local_server.specs.declared.event.TimedEvent.{TimedEvent}
use Rattle.local_server.specs.Servers.{Clients, ServerState}
use Rattle.local_server.specs.Happening.{HappensAll}
use Rattle.local_server.specs.ConnSteps.{ConnStep, AllTell, AreMadeAt, conn_steps_of}
use Rattle.local_server.specs.Streams.{EventIsAnsweredIf, AllAreAnswered}

-- the transcript of the session with this number: its marks, over however many connections
abbrev pub marks_for : ℕ → ConnStep → List (Mark Held)
marks_for number conn_step = if nat_eq conn_step.session number then conn_step.marks else []

abbrev pub transcript_of : ℕ → List ConnStep → List (Mark Held)
transcript_of number conn_steps = flat_map (marks_for number) conn_steps

-- what a step is that adds marks where its connection has this session, or none: a session is given with `Up`, and the connection stays with
-- it until `Down`, which is where it does not go on
abbrev pub Begins : List (Mark Held) → Type 0
Begins [] = ⊥
Begins (Up receive_maximum ∷ others) = AllByRecursion IsWithin others
Begins (Sent identifier dup envelope ∷ others) = ⊥
Begins (Acked identifier code ∷ others) = ⊥
Begins (Down ∷ others) = ⊥

abbrev pub IsStepOf : Option ℕ → ConnStep → Option ℕ → Type 0
IsStepOf None conn_step None = conn_step.marks ≡ []
IsStepOf None conn_step (Some session) = (conn_step.session ≡ session) × Begins conn_step.marks × (conn_step.next ≡ Go)
IsStepOf (Some session) conn_step (Some session') = (conn_step.session ≡ session) × (session' ≡ session) × AllByRecursion IsWithin conn_step.marks × (conn_step.next ≡ Go)
IsStepOf (Some session) conn_step None = (conn_step.session ≡ session) × (conn_step.marks ≡ Down ∷ []) × (conn_step.next ≢ Go)

-- the steps of one connection lead from the session that it has to the one that it has then
abbrev pub AreStepsOf : Option ℕ → List ConnStep → Option ℕ → Type 0
AreStepsOf before [] after = after ≡ before
AreStepsOf before (conn_step ∷ conn_steps) after = (between : Option ℕ) × IsStepOf before conn_step between × AreStepsOf between conn_steps after

-- what the connection of this number has, where it is open and its client has its session
abbrev pub connected_in : Option (Option (ClientState GroupPlace)) → Option (ConnectedClient GroupPlace)
connected_in None = None
connected_in (Some None) = None
connected_in (Some (Some client)) = connected_of client.conn.phase

abbrev pub connected_at : Clients → ℕ → Option (ConnectedClient GroupPlace)
connected_at clients connection = connected_in (slice_get clients connection)

-- the number of its session
abbrev pub session_of : {P : Type 0} → Option (ConnectedClient P) → Option ℕ
session_of None = None
session_of (Some connected) = Some connected.session.identity.number

-- the place at which a session is handed messages: who leaves is handed no more (profile)
abbrev pub place_in : Membership GroupPlace → Option GroupPlace
place_in NotMember = None
place_in (Member place) = Some place
place_in (Leaving place) = None

abbrev pub place_of : Option (ConnectedClient GroupPlace) → Option GroupPlace
place_of None = None
place_of (Some connected) = place_in connected.session.membership

-- where these steps lead, the place is this one
abbrev pub last_place : List ConnStep → Option GroupPlace
last_place [] = None
last_place (conn_step ∷ []) = conn_step.place
last_place (conn_step ∷ other ∷ others) = last_place (other ∷ others)

-- a message was handed to this place
abbrev pub IsAt : Option GroupPlace → Held → Type 0
IsAt None envelope = ⊥
IsAt (Some place) envelope = (envelope.stamp.group ≡ place.slot) × (envelope.place ≡ place.number)

-- what is handed out in a step
abbrev pub handed_in_step : ConnStep → List Held
handed_in_step conn_step = map (λ (h : GroupPlace × Held). h.1) (hand_outs_of conn_step.outcomes)

-- that is what the place of its session was handed, and nothing else
abbrev pub IsHandedItsOwn : ConnStep → Type 0
IsHandedItsOwn conn_step = AllByRecursion (IsAt conn_step.place) (handed_in_step conn_step)

-- a message without its Subscription Identifier
abbrev pub plain : Held → Held
plain envelope = under None envelope

-- a step sends for the first time what it was handed, in that order, but for what is discarded of it
abbrev pub SendsWhatItWasHanded : ConnStep → Type 0
SendsWhatItWasHanded conn_step = map plain (fresh_of conn_step.marks) ≡ map plain (map (λ (h : GroupPlace × Held). h.1) (sent_of conn_step.outcomes))

-- the session of a connection stands where its transcript leads: what is held, what is owed, and the quota, which is that of the CONNECT, and no
-- more is owed
abbrev pub StandsAsTold : List ConnStep → Option (ConnectedClient GroupPlace) → Type 0
StandsAsTold conn_steps None = ⊤
StandsAsTold conn_steps (Some connected) =
    (window_after_all (window_down []) (transcript_of connected.session.identity.number conn_steps) ≡ window_state connected.session.window)
    × KeepsQuota (quota_of connected.terms) connected.session.window

-- a message that is handed out, as the group of this slot sees it: the place, and the job
abbrev pub seen_by : ℕ → Held → Option (ℕ × Job)
seen_by slot envelope = if nat_eq envelope.stamp.group slot then Some (envelope.place, job_of envelope.stamp) else None

-- what all steps are handed, in their order
abbrev pub all_handed : List ConnStep → List Held
all_handed conn_steps = flat_map handed_in_step conn_steps

-- what holds at a moment of a run: these steps led the server to where it is
pub record AccountFor (conn_steps : List ConnStep) (server : ServerState) : Type 0 where
  -- the transcript of each session is legal (4.4, 4.9)
  pub legal : (number : ℕ) → IsLegal [] (transcript_of number conn_steps)
  -- each connection has one session from the CONNECT that it was given with to its end, and adds to the transcript of that one alone
  pub own : (connection : ℕ) → AreStepsOf None (conn_steps_of connection conn_steps) (session_of (connected_at server.clients connection))
  -- no two connections have one session
  pub alone : (one other : ℕ) (these those : ConnectedClient GroupPlace) → connected_at server.clients one ≡ Some these → connected_at server.clients other ≡ Some those
      → these.session.identity.number ≡ those.session.identity.number → one ≡ other
  -- where the transcripts lead, the sessions of the open connections are
  pub stands : (connection : ℕ) → StandsAsTold conn_steps (connected_at server.clients connection)
  -- and those that the desk keeps parked
  pub parked : (number : ℕ) (row : Row Held GroupPlace) (session : Session Held GroupPlace) → HasRow server.broker.desk.rows number row
      → row.held_by ≡ Parked session
      → window_after_all (window_down []) (transcript_of session.identity.number conn_steps) ≡ window_state session.window
  -- each step is handed only what its session's place was handed, and sends that for the first time, but for what it discards; and that place is what the session has,
  -- until its next step
  pub placed : AllByRecursion IsHandedItsOwn conn_steps
  pub sends : AllByRecursion SendsWhatItWasHanded conn_steps
  pub at : (connection : ℕ) → last_place (conn_steps_of connection conn_steps) ≡ place_of (connected_at server.clients connection)
  -- the hand-outs among a group's events, first and later ones, are what the steps are handed, in that order
  pub handed : (slot : ℕ) (group : Group) → slice_get server.broker.groups slot ≡ Some group
      → handed_in_all group.events ≡ filter_map (seen_by slot) (all_handed conn_steps)

-- what holds of the transcripts of a run
pub record KeepsTranscripts (first : ServerState) (events : List TimedEvent) (outputs : List StepOutput) (last : ServerState) (run : HappensAll first events outputs last) : Type 0 where
  pub conn_steps : List ConnStep
  -- each step, with the PUBLISH packets that it wrote
  pub told : AllTell outputs conn_steps
  -- they answer what came, each at its moment
  pub came : AllAreAnswered first events outputs last run conn_steps
  -- and they led the server to where it is
  pub account : AccountFor conn_steps last

-- Along a run, from a server that these steps led to where it is: each event adds the steps of its own steps after those before, of which none
-- is told anew, they were made at the moment of the server's clock then, and they answer what came in it; and at each moment, before the first event and after each one, the steps till then led the server to where it is.
abbrev pub AccountAlong : (conn_steps : List ConnStep) (old : ServerState) (events : List TimedEvent) (outputs : List StepOutput) (new : ServerState) → HappensAll old events outputs new → Type 0
AccountAlong conn_steps old [] outputs new run = AccountFor conn_steps old
AccountAlong conn_steps old (first ∷ others) outputs new run =
    let mid = run.0 in
    let now = run.1 in
    let later = run.2 in
    AccountFor conn_steps old
    × (more : List ConnStep) × AllTell now more × AreMadeAt mid.clock more × EventIsAnsweredIf (is_open old.broker) first.event old.clients more mid.clients
    × AccountAlong (conn_steps ++ more) mid others later new run.4
