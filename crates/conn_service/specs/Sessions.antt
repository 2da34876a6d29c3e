-- What one step of a life does for the session of its connection, and what all of them send of it (sections 4.4 and 4.9).
use Rattle.std.specs.Prelude.{◌≡◌, ◌⊎◌, ℕ, Bool, true, false, List, [], ◌∷◌, ◌++◌, Option, None, Some, ⊤}
use Rattle.std.specs.List.{AllByRecursion, flat_map}
use Rattle.mqtt_packet.specs.declared.packet.Connect.{Connect}
use Rattle.mqtt_packet.specs.declared.packet.Packet.TheVariants as packets
use Rattle.transport.specs.declared.counts.Counts.{Counts}
use Rattle.group_jobs.specs.Stamps.{Held}
use Rattle.member_window.specs.Contents.{IsSound}
use Rattle.member_window.specs.Marks.{Mark, Up, Sent, Acked, Down}
use Rattle.member_window.specs.Transcript.{IsLegalFrom}
use Rattle.member_window.specs.Runs.{window_state}
use Rattle.session_desk.specs.declared.session.Session.{Session}
use Rattle.conn_rules.specs.Connecting.{is_served, terms_of}
use Rattle.conn_rules.specs.declared.client_limits.ClientLimits.{ClientLimits}
use Rattle.conn_supply.specs.declared.reply.Then.{Then}
use Rattle.conn_supply.specs.SupplyCalls.{SupplyCall}
use Rattle.conn_engine.specs.declared.input.Input.TheVariants as inputs
use Rattle.conn_engine.specs.declared.phase.ConnectedClient.{ConnectedClient}
use Rattle.conn_engine.specs.declared.phase.ConnPhase.{ConnPhase}
use Rattle.conn_laws.specs.Calls.{FailedCalls}
use Rattle.conn_laws.specs.Transcripts.{connected_of, IsNotEnding, SessionBegins, Transcribes}
use Rattle.conn_laws.specs.Marks.{publishes_in}
use Rattle.client_table.specs.Clients.{moment_of}
use Rattle.conn_service.specs.Services.{ServiceState}
use Rattle.conn_service.specs.Acts.{Act, Steps, Loses, Fails, IsFull, GivesUp, input_in, packets_sent}
use Rattle.conn_service.specs.Lives.{Does, DoesAll}

module _ {S P : Type 0} (call : S → SupplyCall P → S → Type 0) where
  -- where a connection is given up at this moment, the end of the stream is its last step, which sends nothing: that does the same for its session, or an allocation failed in it
  abbrev pub TellsOfLastStep : ℕ → ConnPhase P → ℕ → S → ConnPhase P → S → Type 0
  TellsOfLastStep number phase now supply phase' supply' =
      ((next : Then) × (IsNotEnding phase → Transcribes call supply number phase now inputs.EndOfInput [] next phase' supply'))
      ⊎ FailedCalls call supply number phase now inputs.EndOfInput supply'

module _ {S P T : Type 0} (call : S → SupplyCall P → S → Type 0) where
  -- a step adds to the transcript of its session, where that is not ending: its PUBLISH packets are those of the marks; what is handed out is what
  -- is sent for the first time; what is acknowledged is settled; and where it ends the connection, the session is handed in with all that it holds. A
  -- step in which an allocation failed made calls of its table, and no others; and so it is where the connection is given up
  abbrev pub TellsItsSession : Act → ServiceState P T → S → ServiceState P T → S → Type 0
  TellsItsSession (Steps now input packets next) old supply new supply' =
      IsNotEnding old.client.conn.phase → Transcribes call supply old.client.conn.number old.client.conn.phase (moment_of old.client now) input packets next new.client.conn.phase supply'
  TellsItsSession (Loses now input packets next) old supply new supply' =
      IsNotEnding old.client.conn.phase → Transcribes call supply old.client.conn.number old.client.conn.phase (moment_of old.client now) input packets next new.client.conn.phase supply'
  TellsItsSession (Fails now input) old supply new supply' = FailedCalls call supply old.client.conn.number old.client.conn.phase (moment_of old.client now) input supply'
  TellsItsSession (IsFull now) old supply new supply' = TellsOfLastStep call old.client.conn.number old.client.conn.phase (moment_of old.client now) supply new.client.conn.phase supply'
  TellsItsSession (GivesUp now) old supply new supply' = TellsOfLastStep call old.client.conn.number old.client.conn.phase (moment_of old.client now) supply new.client.conn.phase supply'
  TellsItsSession _ old supply new supply' = ⊤

-- this CONNECT is what one of these acts steps
abbrev pub Comes : Connect → List Act → Type 0
Comes connect [] = ⊥
Comes connect (act ∷ acts) = (input_in act ≡ inputs.Packet (packets.Connect connect) ∷ []) ⊎ Comes connect acts

-- no connection begins with this mark
abbrev pub IsNotUp : Mark Held → Type 0
IsNotUp (Up receive_maximum) = ⊥
IsNotUp (Sent identifier dup envelope) = ⊤
IsNotUp (Acked identifier code) = ⊤
IsNotUp Down = ⊤

module _ {S P : Type 0} (call : S → SupplyCall P → S → Type 0) where
  -- what the last step of a connection that is given up adds to the transcript of its session; nothing, where an allocation failed
  abbrev pub LastStepAdds : ℕ → ConnPhase P → ℕ → S → ConnPhase P → S → List (Mark Held) → Type 0
  LastStepAdds number phase now supply phase' supply' marks =
      ((next : Then) × (step : Transcribes call supply number phase now inputs.EndOfInput [] next phase' supply') × (marks ≡ step.marks))
      ⊎ (FailedCalls call supply number phase now inputs.EndOfInput supply' × (marks ≡ []))

module _ {S P T : Type 0} (call : S → SupplyCall P → S → Type 0) where
  -- an act adds these marks to the transcript of its session: those that its step transcribes, as of the moment of that step. Its PUBLISH packets are those of
  -- the marks (`publishes`); at most one is `Acked`, and that is the PUBACK that the step is given, of which none for what is held is passed over (`settles`); `Up`
  -- comes where the session is given, with the Receive Maximum of the connection's terms, and `Down` where the step ends the connection (`session`). An act that
  -- steps nothing, or in which an allocation failed, adds none
  abbrev pub Adds : Act → ServiceState P T → S → ServiceState P T → S → List (Mark Held) → Type 0
  Adds (Steps now input packets next) old supply new supply' marks =
      (step : Transcribes call supply old.client.conn.number old.client.conn.phase (moment_of old.client now) input packets next new.client.conn.phase supply') × (marks ≡ step.marks)
  Adds (Loses now input packets next) old supply new supply' marks =
      (step : Transcribes call supply old.client.conn.number old.client.conn.phase (moment_of old.client now) input packets next new.client.conn.phase supply') × (marks ≡ step.marks)
  Adds (Fails now input) old supply new supply' marks =
      FailedCalls call supply old.client.conn.number old.client.conn.phase (moment_of old.client now) input supply' × (marks ≡ [])
  Adds (IsFull now) old supply new supply' marks = LastStepAdds call old.client.conn.number old.client.conn.phase (moment_of old.client now) supply new.client.conn.phase supply' marks
  Adds (GivesUp now) old supply new supply' marks = LastStepAdds call old.client.conn.number old.client.conn.phase (moment_of old.client now) supply new.client.conn.phase supply' marks
  Adds _ old supply new supply' marks = marks ≡ []

  -- by this act the connection, which had no session, is given one, and has it after that: the supply hands it out in the step, and the marks begin with `Up`
  pub record Gives (act : Act) (old : ServiceState P T) (supply : S) (new : ServiceState P T) (supply' : S) : Type 0 where
    pub none : connected_of old.client.conn.phase ≡ None
    pub connected : ConnectedClient P
    pub has : connected_of new.client.conn.phase ≡ Some connected
    pub marks : List (Mark Held)
    pub adds : Adds act old supply new supply' marks
    pub begun : SessionBegins call supply old.client.conn.number connected marks supply'

module _ {S P T : Type 0} (call : S → SupplyCall P → S → Type 0) (begins ends : S → S → Type 0) (visiting : S → Bool) (slot_of : P → ℕ)
    (counts : T → Counts) (given accepted : T → Option (List ℕ)) where
  -- these acts, one after the other, lead from the one to the other
  abbrev pub LeadsBy : List Act → ServiceState P T → S → ServiceState P T → S → Type 0
  LeadsBy acts old supply new supply' = DoesAll call begins ends visiting slot_of counts given accepted acts old supply new supply'

  -- each of these acts adds its own marks
  abbrev pub EachAdds : (acts : List Act) (old : ServiceState P T) (supply : S) (new : ServiceState P T) (supply' : S) → LeadsBy acts old supply new supply' → List (List (Mark Held)) → Type 0
  EachAdds [] old supply new supply' does [] = ⊤
  EachAdds [] old supply new supply' does (marks ∷ others) = ⊥
  EachAdds (act ∷ acts) old supply new supply' does [] = ⊥
  EachAdds (act ∷ acts) old supply new supply' does (marks ∷ others) =
      Adds call act old supply does.0 does.1 marks × EachAdds acts does.0 does.1 new supply' does.3 others

  -- in this life the connection is given a session: some acts come before that, one gives it, and the others come after it
  pub record GivesSession (acts : List Act) (old : ServiceState P T) (supply : S) (new : ServiceState P T) (supply' : S) : Type 0 where
    pub earlier : List Act
    pub act : Act
    pub later : List Act
    pub parts : acts ≡ earlier ++ act ∷ later
    pub before : ServiceState P T
    pub supply_before : S
    pub after : ServiceState P T
    pub supply_after : S
    pub till_then : LeadsBy earlier old supply before supply_before
    pub does : Does call begins ends visiting slot_of counts given accepted act before supply_before after supply_after
    pub from_then : LeadsBy later after supply_after new supply'
    pub gives : Gives call act before supply_before after supply_after

  -- the session as it was given
  abbrev pub session_of : {acts : List Act} {old new : ServiceState P T} {supply supply' : S} → GivesSession acts old supply new supply' → Session Held P
  session_of life = life.gives.begun.session

  -- by none of these acts the connection is given one
  abbrev pub NoneGives : (acts : List Act) (old : ServiceState P T) (supply : S) (new : ServiceState P T) (supply' : S) → LeadsBy acts old supply new supply' → Type 0
  NoneGives [] old supply new supply' does = ⊤
  NoneGives (act ∷ acts) old supply new supply' does = (¬ Gives call act old supply does.0 does.1) × NoneGives acts does.0 does.1 new supply' does.3

  -- this session was asked for under the connection's number; the connection has the terms of a CONNECT that came by then, under these limits, of a client that is served: where
  -- users are given, it has the name and the password of one (3.1.3.5, 3.1.3.6); no PUBLISH is sent before the session is given; and no later act gives the connection another
  pub record IsGivenOnce (limits : ClientLimits) {acts : List Act} {old new : ServiceState P T} {supply supply' : S} (life : GivesSession acts old supply new supply') : Type 0 where
    pub whose : life.gives.begun.asks.request.connection ≡ old.client.conn.number
    pub connect : Connect
    pub comes : Comes connect (life.earlier ++ life.act ∷ [])
    pub served : is_served limits.users connect ≡ true
    pub terms_are : life.gives.connected.terms ≡ terms_of limits connect
    pub none_before : publishes_in (packets_sent life.earlier) ≡ []
    pub no_other : NoneGives life.later life.after life.supply_after new supply' life.from_then

  -- from the act that gives the session on, each act adds its own marks, of which `Up` is the first and no other; and all of them, one after the other, are legal
  -- from what the window of the session held
  pub record SendsLegally {acts : List Act} {old new : ServiceState P T} {supply supply' : S} (life : GivesSession acts old supply new supply') : Type 0 where
    pub added : List (List (Mark Held))
    pub adds : EachAdds life.later life.after life.supply_after new supply' life.from_then added
    pub no_other_up : AllByRecursion IsNotUp (flat_map (λ marks. marks) added)
    pub legal : IsLegalFrom (window_state (session_of life).window) (life.gives.marks ++ flat_map (λ marks. marks) added)

  -- no PUBLISH is sent in the life of a connection that was opened with these limits, or it is given a session in it; that is given once; and what is sent is legal from
  -- what it held, where its window is sound, as every `Window` of a program is, and not ending
  pub record IsLegalLife (limits : ClientLimits) (acts : List Act) (old : ServiceState P T) (supply : S) (new : ServiceState P T) (supply' : S) : Type 0 where
    pub of_session : (publishes_in (packets_sent acts) ≡ []) ⊎ GivesSession acts old supply new supply'
    pub is_once : (life : GivesSession acts old supply new supply') → IsGivenOnce limits life
    pub is_legal : (life : GivesSession acts old supply new supply') → IsSound (session_of life).window → (session_of life).window.retired ≡ false → SendsLegally life
