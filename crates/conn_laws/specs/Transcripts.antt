-- What a step makes of the session of its connection, and what it adds to the transcript of that session (sections 4.4, 4.8.2 and 4.9).
use Rattle.std.specs.Prelude.{◌≡◌, ◌⊎◌, ℕ, false, List, [], ◌∷◌, map, Option, Some, None, Result, Ok, Err, ⊤}
use Rattle.std.specs.List.{AllByRecursion}
use Rattle.mqtt_packet.specs.declared.packet.Packet.{Packet}
use Rattle.group_jobs.specs.Stamps.{Held, under}
use Rattle.member_window.specs.Contents.{after_up, after_down}
use Rattle.member_window.specs.Marks.{Mark, Up, Down}
use Rattle.member_window.specs.Calls.{Call}
use Rattle.member_window.specs.Runs.{transcript_of}
use Rattle.member_window.specs.Runs as windows
use Rattle.session_desk.specs.Attaching.{Request}
use Rattle.session_desk.specs.declared.attached.Attached.{Attached}
use Rattle.session_desk.specs.declared.attached.Attached.TheVariants.{New, Resumed, Replace, Busy}
use Rattle.session_desk.specs.declared.error.DeskError.{DeskError}
use Rattle.session_desk.specs.declared.session.Session.{Session}
use Rattle.session_desk.specs.declared.session.Membership.{Membership}
use Rattle.session_desk.specs.declared.session.Membership.TheVariants.{Member}
use Rattle.conn_supply.specs.declared.reply.Then.{Then}
use Rattle.conn_supply.specs.SupplyCalls.{SupplyCall}
use Rattle.conn_supply.specs.SupplyCalls.SupplyCall.{Attach, Park, ParkAsIs, Take, TakeBack, Settle}
use Rattle.conn_engine.specs.declared.input.Input.{Input}
use Rattle.conn_engine.specs.declared.phase.ConnectedClient.{ConnectedClient}
use Rattle.conn_engine.specs.declared.phase.ConnPhase.{ConnPhase}
use Rattle.conn_engine.specs.declared.phase.ConnPhase.TheVariants.{Unconnected, Waiting, Connected, Ended}
use Rattle.conn_engine.specs.Ending.{down}
use Rattle.conn_laws.specs.Calls.{MakesAll, handed, Outcome, hand_outs_of, sent_of, discards_of, AreSentIfFit, SettlesOne, SettlesNone}
use Rattle.conn_laws.specs.Marks.{publishes_in, publishes_of, fresh_of, acknowledged_of, IsWithin, IsAckedBy}

-- what a connection has, where its client has its session
abbrev pub connected_of : {P : Type 0} → ConnPhase P → Option (ConnectedClient P)
connected_of (Unconnected opened) = None
connected_of (Waiting request ticks) = None
connected_of (Connected connected) = Some connected
connected_of Ended = None

-- the Subscription Identifier of the session of a connection (3.8.2.1.2)
abbrev pub subscription_of : {P : Type 0} → Option (ConnectedClient P) → Option ℕ
subscription_of None = None
subscription_of (Some connected) = connected.session.subscription

-- the session of a client that is connected is not ending
abbrev pub IsNotEnding : {P : Type 0} → ConnPhase P → Type 0
IsNotEnding (Unconnected opened) = ⊤
IsNotEnding (Waiting request ticks) = ⊤
IsNotEnding (Connected connected) = connected.session.window.retired ≡ false
IsNotEnding Ended = ⊤

-- this place is the member's, as far as this number of a place tells, its slot or its number in the group
abbrev pub HasOneAs : {P : Type 0} → (P → ℕ) → Membership P → P → Type 0
HasOneAs {P} of membership place = (its : P) × (membership ≡ Member its) × (of its ≡ of place)

-- and so is it the place of the session of a connection
abbrev pub IsMemberAt : {P : Type 0} → (P → ℕ) → Option (ConnectedClient P) → P → Type 0
IsMemberAt of None place = ⊥
IsMemberAt of (Some connected) place = HasOneAs of connected.session.membership place

-- the session that was handed out to whoever asked for one
abbrev pub session_given : {P : Type 0} → Result (Attached Held P) DeskError → Option (Session Held P)
session_given (Ok (New session ended)) = Some session
session_given (Ok (Resumed session)) = Some session
session_given (Ok (Replace holder)) = None
session_given (Ok Busy) = None
session_given (Err error) = None

-- a call by which no session is asked for, and none is handed in that may be asked for again
abbrev pub IsAside : {P : Type 0} → SupplyCall P → Type 0
IsAside (Attach request answer) = ⊥
IsAside (Park session now answer) = ⊥
IsAside (ParkAsIs session) = ⊥
IsAside other = ⊤

-- a place that is asked for a message, or settles one, has the same number of this kind after it
abbrev pub KeepsNumber : {P : Type 0} → (P → ℕ) → SupplyCall P → Type 0
KeepsNumber of (Take place place' answer) = of place' ≡ of place
KeepsNumber of (TakeBack place place' answer) = of place' ≡ of place
KeepsNumber of (Settle place place' envelope fate) = of place' ≡ of place
KeepsNumber of other = ⊤

module _ {S P : Type 0} (call : S → SupplyCall P → S → Type 0) where
  abbrev pub KeepsNumbers : (P → ℕ) → Type 0
  KeepsNumbers of = (old new : S) (supply_call : SupplyCall P) → call old supply_call new → KeepsNumber of supply_call

  -- calls by which no session is asked for, and none is handed in that may be asked for again
  pub record LeadsAside (old new : S) : Type 0 where
    pub supply_calls : List (SupplyCall P)
    pub made : MakesAll call old supply_calls new
    pub aside : AllByRecursion IsAside supply_calls

  -- the connection of this number asks for a session
  pub record AsksForOne (old : S) (number : ℕ) (answer : Result (Attached Held P) DeskError) (new : S) : Type 0 where
    pub request : Request
    pub whose : request.connection ≡ number
    pub before : S
    pub aside : LeadsAside old before
    pub asked : call before (Attach request answer) new

  -- a session is handed in that may be asked for again
  abbrev pub HandsIn : S → Session Held P → S → Type 0
  HandsIn old session new = ((now : ℕ) × (answer : Option (Session Held P)) × call old (Park session now answer) new) ⊎ call old (ParkAsIs session) new

  -- a session is given: its transcript goes on with `Up`, and the Receive Maximum of the connection's terms
  pub record SessionBegins (old : S) (number : ℕ) (connected : ConnectedClient P) (marks : List (Mark Held)) (new : S) : Type 0 where
    pub answer : Result (Attached Held P) DeskError
    pub session : Session Held P
    pub mid : S
    pub asks : AsksForOne old number answer mid
    pub given : session_given answer ≡ Some session
    pub aside : LeadsAside mid new
    pub same : connected.session.identity ≡ session.identity
    pub calls : List (Call Held)
    pub made : windows.MakesAll (after_up session.window connected.terms.receive_maximum) calls connected.session.window
    pub marks_are : marks ≡ Up connected.terms.receive_maximum ∷ transcript_of calls
    pub within : AllByRecursion IsWithin (transcript_of calls)

  -- the session goes on
  pub record SessionGoesOn (old : S) (connected connected' : ConnectedClient P) (marks : List (Mark Held)) (new : S) : Type 0 where
    pub aside : LeadsAside old new
    pub same : connected'.session.identity ≡ connected.session.identity
    pub calls : List (Call Held)
    pub made : windows.MakesAll connected.session.window calls connected'.session.window
    pub marks_are : marks ≡ transcript_of calls
    pub within : AllByRecursion IsWithin marks

  -- the connection ends, and its session is handed in: its transcript goes on with `Down`
  pub record SessionEnds (old : S) (connected : ConnectedClient P) (marks : List (Mark Held)) (new : S) : Type 0 where
    pub session : Session Held P
    pub before : S
    pub behind : S
    pub aside : LeadsAside old before
    pub handed_in : HandsIn before session behind
    pub later : LeadsAside behind new
    pub same : session.identity ≡ connected.session.identity
    pub is_down : session.window ≡ after_down connected.session.window
    pub marks_are : marks ≡ Down ∷ []

  -- a session is asked for, and the connection has none after that: none was given, or one that went back at once
  pub record AsksInVain (old : S) (number : ℕ) (new : S) : Type 0 where
    pub answer : Result (Attached Held P) DeskError
    pub mid : S
    pub asks : AsksForOne old number answer mid
    pub vain : ((session_given answer ≡ None) × LeadsAside mid new)
        ⊎ ((session : Session Held P) × (behind : S) × (answer ≡ Ok (Resumed session)) × call mid (ParkAsIs (down session)) behind × LeadsAside behind new)

  -- the session of the connection, before and after a step
  abbrev pub SessionSteps : S → ℕ → Option (ConnectedClient P) → Option (ConnectedClient P) → List (Mark Held) → S → Type 0
  SessionSteps old number None None marks new = (marks ≡ []) × (LeadsAside old new ⊎ AsksInVain old number new)
  SessionSteps old number None (Some connected) marks new = SessionBegins old number connected marks new
  SessionSteps old number (Some connected) (Some connected') marks new = SessionGoesOn old connected connected' marks new
  SessionSteps old number (Some connected) None marks new = SessionEnds old connected marks new

  -- what a step at this moment adds to the transcript of the session that its connection has
  pub record Transcribes (old : S) (number : ℕ) (phase : ConnPhase P) (now : ℕ) (input : Input) (sent : List Packet) (next : Then) (phase' : ConnPhase P) (new : S) : Type 0 where
    pub marks : List (Mark Held)
    pub session : SessionSteps old number (connected_of phase) (connected_of phase') marks new
    -- the PUBLISH packets of the step are those of its marks, in their order
    pub publishes : publishes_in sent ≡ publishes_of now marks
    pub supply_calls : List (SupplyCall P)
    pub made : MakesAll call old supply_calls new
    -- of what is handed out, what the client may be sent is sent for the first time, in that order, under the session's Subscription Identifier, and the rest is discarded; and all
    -- is handed to the place of this session, as far as any number of a place tells that stays where the place is asked for a message, or settles one: its slot, its number in the group
    pub outcomes : List (Outcome P)
    pub handed_out : handed supply_calls ≡ hand_outs_of outcomes
    pub fit : AreSentIfFit phase' now outcomes
    pub hands : map (λ (h : P × Held). under (subscription_of (connected_of phase')) h.1) (sent_of outcomes) ≡ fresh_of marks
    pub own : (of : P → ℕ) → KeepsNumbers of → AllByRecursion (λ (h : P × Held). IsMemberAt of (connected_of phase') h.0) (hand_outs_of outcomes)
    -- what is acknowledged is settled, by the PUBACK that came; and nothing else is but what is discarded, after it. No PUBACK for what the session holds is passed over, unless
    -- another connection took the session
    pub settles : (SettlesOne phase input supply_calls (discards_of outcomes) × ((acked : ℕ × ℕ) × (acknowledged_of marks ≡ acked ∷ []) × IsAckedBy input acked))
        ⊎ (SettlesNone phase input supply_calls next (discards_of outcomes) × (acknowledged_of marks ≡ []))
