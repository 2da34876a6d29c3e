-- One step of a connection: its reply, and what is handed out after it.
use Rattle.std.specs.Prelude.{◌≡◌, ◌⊎◌, ℕ, ◌-◌, max, Bool, true, false, List, [], ◌++◌, Option, Some, None, Result, Ok, Err, ⊤}
use Rattle.std.specs.Option.{option_to_list}
use Rattle.limits.specs.Limits.{most_retired}
use Rattle.mqtt_packet.specs.declared.packet.Connect.{Connect}
use Rattle.mqtt_packet.specs.declared.packet.ConnectRefusal.{ConnectRefusal}
use Rattle.mqtt_packet.specs.declared.packet.Packet.{Packet}
use Rattle.mqtt_packet.specs.declared.packet.Packet.TheVariants as packets
use Rattle.group_jobs.specs.Stamps.{Held}
use Rattle.member_window.specs.Contents.{Contents}
use Rattle.session_desk.specs.declared.session.Membership.{Membership}
use Rattle.conn_rules.specs.declared.connecting.FirstAnswer.{FirstAnswer}
use Rattle.conn_rules.specs.declared.connecting.FirstAnswer.TheVariants as first
use Rattle.conn_rules.specs.Connecting.{client_rights, first_answer, overrides_of, terms_of}
use Rattle.conn_rules.specs.declared.hand_outs.HandOutTerms.{HandOutTerms}
use Rattle.conn_rules.specs.declared.client_limits.ClientLimits.{ClientLimits}
use Rattle.conn_rules.specs.Faults.{fault_code, fault_refusal}
use Rattle.conn_rules.specs.KeepAlive.{is_overdue, is_late}
use Rattle.conn_rules.specs.Packets.{disconnect}
use Rattle.conn_supply.specs.declared.reply.Then.{Then}
use Rattle.conn_supply.specs.declared.reply.Then.TheVariants.{Go, Close, Kicked}
use Rattle.conn_supply.specs.declared.reply.Reply.{Reply}
use Rattle.conn_supply.specs.declared.supply.NoMemory.{NoMemory}
use Rattle.conn_supply.specs.SupplyCalls.{SupplyCall}
use Rattle.conn_supply.specs.SupplyCalls.SupplyCall.{Withdraw, ParkAsIs, Kicked as WasKicked}
use Rattle.conn_supply.specs.Memberships.{with_window, with_membership}
use Rattle.conn_supply.specs.Replies.{going_on, closed, taken_over, closing_with}
use Rattle.conn_supply.specs.HandOuts.{HandsOut, HandsSome}
use Rattle.conn_engine.specs.declared.input.Input.{Input}
use Rattle.conn_engine.specs.declared.input.Input.TheVariants as inputs
use Rattle.conn_engine.specs.declared.phase.ConnectRequest.{ConnectRequest}
use Rattle.conn_engine.specs.declared.phase.ConnectedClient.{ConnectedClient}
use Rattle.conn_engine.specs.declared.phase.Opening.{Opening}
use Rattle.conn_engine.specs.declared.phase.ConnPhase.{ConnPhase}
use Rattle.conn_engine.specs.declared.phase.ConnPhase.TheVariants.{Unconnected, Waiting, Connected, Ended}
use Rattle.conn_engine.specs.Phases.{IsWaiting}
use Rattle.conn_engine.specs.Ending.{down, Parts, Sweeps}
use Rattle.conn_engine.specs.Connecting.{IsRefused, Attaches, FailsToAttach, TriesAgain, FailsAgain}
use Rattle.conn_engine.specs.Answering.{Answers, FailsToAnswer, with_session}

-- what a CONNECT asks for that comes at this moment, where the broker has these limits
abbrev pub request_of : ClientLimits → Connect → ℕ → ConnectRequest
request_of limits connect now = record {
  client = connect.client_identifier;
  clean_start = connect.clean_start;
  terms = terms_of limits connect;
  overrides = overrides_of limits connect;
  rights = client_rights limits.users connect;
  came = now;
}

-- a packet came at this moment; where the clock went back, the later one stands
abbrev pub hearing : {P : Type 0} → ConnectedClient P → ℕ → ConnectedClient P
hearing connected now = record { session = connected.session; terms = connected.terms; rights = connected.rights; heard = max connected.heard now }

-- what a client is sent its messages under at this moment: its subscription's identifier (3.3.2.3.8), and its Maximum Packet Size (3.1.2.11.4)
abbrev pub hand_out_terms : {P : Type 0} → ConnectedClient P → ℕ → HandOutTerms
hand_out_terms connected now = record { at = now; subscription = connected.session.subscription; maximum_packet_size = connected.terms.maximum_packet_size }

-- the session of a connection has this membership and this window
abbrev pub after_hand_out : {P : Type 0} → ConnectedClient P → Membership P → Contents Held → ConnectedClient P
after_hand_out connected membership window = with_session connected (with_membership (with_window connected.session window) membership)

-- the connection is closed with no answer
pub record IsClosed {P : Type 0} (phase : ConnPhase P) (reply : Reply) : Type 0 where
  pub over : phase ≡ Ended
  pub told : reply ≡ closed None

-- it is refused, or closed with no answer
abbrev pub IsRefusedIf : {P : Type 0} → Option ConnectRefusal → ConnPhase P → Reply → Type 0
IsRefusedIf (Some refusal) phase reply = IsRefused refusal phase reply
IsRefusedIf None phase reply = IsClosed phase reply

-- it is closed where the CONNECT has not come in time, and waits for it else
abbrev pub WaitsForConnect : {P : Type 0} → Bool → Opening → ConnPhase P → Reply → Type 0
WaitsForConnect true opened phase reply = IsClosed phase reply
WaitsForConnect false opened phase reply = (phase ≡ Unconnected opened) × (reply ≡ going_on None)

-- the connection goes on after a reply
abbrev pub GoesOn : Result Reply NoMemory → Type 0
GoesOn (Ok reply) = reply.next ≡ Go
GoesOn (Err refusal) = ⊥

-- no packet came, and no fault
abbrev pub IsNoPacket : Input → Type 0
IsNoPacket (inputs.Packet packet) = ⊥
IsNoPacket (inputs.Fault fault) = ⊥
IsNoPacket inputs.Tick = ⊤
IsNoPacket inputs.EndOfInput = ⊤
IsNoPacket inputs.Closing = ⊤

-- a packet or a Tick is stepped within a visit of the supply: messages may be offered and handed out
abbrev pub NeedsVisit : Input → Type 0
NeedsVisit (inputs.Packet packet) = ⊤
NeedsVisit (inputs.Fault fault) = ⊥
NeedsVisit inputs.Tick = ⊤
NeedsVisit inputs.EndOfInput = ⊥
NeedsVisit inputs.Closing = ⊥

-- what comes in while a connection waits for a session is stepped once the wait is over
abbrev pub IsWanted : {P : Type 0} → ConnPhase P → Input → Type 0
IsWanted phase input = IsWaiting phase → IsNoPacket input

module _ {S P : Type 0} (call : S → SupplyCall P → S → Type 0) (slot_of : P → ℕ) where
  -- the session is parked, and the connection is over
  abbrev pub IsParted : S → ConnectedClient P → ℕ → ConnPhase P → S → Type 0
  IsParted old connected now phase new = Parts call old connected.session now new × (phase ≡ Ended)

  -- the first packet
  abbrev pub AnswersFirst : FirstAnswer → S → ℕ → ClientLimits → ℕ → Packet → ConnPhase P → Reply → S → Type 0
  AnswersFirst first.Close old number limits now packet phase reply new = IsClosed phase reply × (new ≡ old)
  AnswersFirst (first.Refuse refusal) old number limits now packet phase reply new = IsRefused refusal phase reply × (new ≡ old)
  AnswersFirst first.Attach old number limits now packet phase reply new =
      (connect : Connect) × (packet ≡ packets.Connect connect) × Attaches call old number now (request_of limits connect now) 0 phase reply new

  -- the connection goes on, or its session is parked
  abbrev pub Concludes : S → ConnectedClient P → ℕ → Then → ConnPhase P → S → Type 0
  Concludes old connected now Go phase new = (phase ≡ Connected connected) × (new ≡ old)
  Concludes old connected now Close phase new = IsParted old connected now phase new
  Concludes old connected now Kicked phase new = IsParted old connected now phase new

  -- a packet of a connection whose session nobody else asked for
  abbrev pub AnswersPacket : S → ℕ → ConnectedClient P → ℕ → Packet → ConnPhase P → Reply → S → Type 0
  AnswersPacket old number connected now packet phase reply new =
      (after : ConnectedClient P) × (mid : S) × Answers call slot_of old number (hearing connected now) now packet after reply mid × Concludes mid after now reply.next phase new

  -- the client has been silent for too long, or not (3.1.2.10)
  abbrev pub IsHeard : Bool → S → ConnectedClient P → ℕ → ConnPhase P → Reply → S → Type 0
  IsHeard true old connected now phase reply new = (reply ≡ closing_with 0x8D) × IsParted old connected now phase new
  IsHeard false old connected now phase reply new = (reply ≡ going_on None) × (phase ≡ Connected connected) × (new ≡ old)

  -- a Tick: what is due is swept first
  abbrev pub AnswersTick : S → ConnectedClient P → ℕ → ConnPhase P → Reply → S → Type 0
  AnswersTick old connected now phase reply new =
      (mid : S) × Sweeps call old now most_retired mid × IsHeard (is_overdue connected.terms.keep_alive (now - connected.heard)) mid connected now phase reply new

  -- another connection has asked for the session: it is taken over (3.1.4); the input is not looked at
  abbrev pub IsKicked : S → ConnectedClient P → ℕ → ConnPhase P → Reply → S → Type 0
  IsKicked old connected now phase reply new = (reply ≡ taken_over (disconnect 0x8E)) × IsParted old connected now phase new

  -- what a connection does at a packet or a Tick, where its session is its own, and else
  abbrev pub AnswersUnlessKicked : Bool → S → ConnectedClient P → ℕ → (ConnPhase P → Reply → S → Type 0) → ConnPhase P → Reply → S → Type 0
  AnswersUnlessKicked true old connected now Does phase reply new = IsKicked old connected now phase reply new
  AnswersUnlessKicked false old connected now Does phase reply new = Does phase reply new

  -- what an input does: the phase from then on, and the reply
  abbrev pub Reacts : S → ℕ → ConnPhase P → ℕ → Input → ConnPhase P → Reply → S → Type 0
  Reacts old number (Unconnected opened) now (inputs.Packet packet) phase reply new =
      AnswersFirst (first_answer opened.limits.users packet) old number opened.limits now packet phase reply new
  Reacts old number (Unconnected opened) now (inputs.Fault fault) phase reply new = IsRefusedIf (fault_refusal fault) phase reply × (new ≡ old)
  Reacts old number (Unconnected opened) now inputs.Tick phase reply new = Sweeps call old now most_retired new × WaitsForConnect (is_late (now - opened.at)) opened phase reply
  Reacts old number (Unconnected opened) now inputs.EndOfInput phase reply new = IsClosed phase reply × (new ≡ old)
  Reacts old number (Unconnected opened) now inputs.Closing phase reply new = IsClosed phase reply × (new ≡ old)
  Reacts old number (Waiting request ticks) now (inputs.Packet packet) phase reply new = ⊥
  Reacts old number (Waiting request ticks) now (inputs.Fault fault) phase reply new = ⊥
  Reacts old number (Waiting request ticks) now inputs.Tick phase reply new =
      (mid : S) × Sweeps call old now most_retired mid × TriesAgain call mid number now request ticks phase reply new
  Reacts old number (Waiting request ticks) now inputs.EndOfInput phase reply new = call old (Withdraw number) new × IsClosed phase reply
  Reacts old number (Waiting request ticks) now inputs.Closing phase reply new = call old (Withdraw number) new × IsClosed phase reply
  Reacts old number (Connected connected) now (inputs.Packet packet) phase reply new =
      (kicked : Bool) × (mid : S) × call old (WasKicked number kicked) mid
      × AnswersUnlessKicked kicked mid connected now (AnswersPacket mid number connected now packet) phase reply new
  Reacts old number (Connected connected) now (inputs.Fault fault) phase reply new = (reply ≡ closing_with (fault_code fault)) × IsParted old connected now phase new
  Reacts old number (Connected connected) now inputs.Tick phase reply new =
      (kicked : Bool) × (mid : S) × call old (WasKicked number kicked) mid
      × AnswersUnlessKicked kicked mid connected now (AnswersTick mid connected now) phase reply new
  Reacts old number (Connected connected) now inputs.EndOfInput phase reply new = (reply ≡ closed None) × IsParted old connected now phase new
  Reacts old number (Connected connected) now inputs.Closing phase reply new =
      (reply ≡ closing_with 0x8B) × call old (ParkAsIs (down connected.session)) new × (phase ≡ Ended)
  Reacts old number Ended now input phase reply new = IsClosed phase reply × (new ≡ old)

  -- what is handed out at this moment, after the reply, where the connection goes on with its session
  abbrev pub Hands : S → ConnPhase P → ℕ → List Packet → ConnPhase P → S → Type 0
  Hands old (Connected connected) now sent phase new =
      (membership : Membership P) × (window : Contents Held)
      × HandsOut call (hand_out_terms connected now) old connected.session.membership connected.session.window sent membership window new
      × (phase ≡ Connected (after_hand_out connected membership window))
  Hands old (Unconnected opened) now sent phase new = (sent ≡ []) × (phase ≡ Unconnected opened) × (new ≡ old)
  Hands old (Waiting request ticks) now sent phase new = (sent ≡ []) × (phase ≡ Waiting request ticks) × (new ≡ old)
  Hands old Ended now sent phase new = (sent ≡ []) × (phase ≡ Ended) × (new ≡ old)

  -- one step: the packets of the reply, and then those that are handed out
  pub record Steps (old : S) (number : ℕ) (phase : ConnPhase P) (now : ℕ) (input : Input) (packets : List Packet) (next : Then) (phase' : ConnPhase P) (new : S) : Type 0 where
    pub reply : Reply
    pub between : ConnPhase P
    pub mid : S
    pub sent : List Packet
    pub reacts : Reacts old number phase now input between reply mid
    pub hands : Hands mid between now sent phase' new
    pub written : packets ≡ option_to_list reply.packet ++ sent
    pub followed : next ≡ reply.next

  -- a connection that is given up: its session is parked, and it waits for none
  abbrev pub GivesUp : S → ℕ → ConnPhase P → ℕ → S → Type 0
  GivesUp old number (Unconnected opened) now new = new ≡ old
  GivesUp old number (Waiting request ticks) now new = call old (Withdraw number) new
  GivesUp old number (Connected connected) now new = Parts call old connected.session now new
  GivesUp old number Ended now new = new ≡ old

  -- a connection that ends as the broker closes: its session is parked as it is, and it waits for none
  abbrev pub ShutsDown : S → ℕ → ConnPhase P → S → Type 0
  ShutsDown old number (Unconnected opened) new = new ≡ old
  ShutsDown old number (Waiting request ticks) new = call old (Withdraw number) new
  ShutsDown old number (Connected connected) new = call old (ParkAsIs (down connected.session)) new
  ShutsDown old number Ended new = new ≡ old

  -- a connection that ends at an input, since there is no memory to answer it
  abbrev pub CutsOff : S → ℕ → ConnPhase P → ℕ → Input → S → Type 0
  CutsOff old number phase now (inputs.Packet packet) new = GivesUp old number phase now new
  CutsOff old number phase now (inputs.Fault fault) new = GivesUp old number phase now new
  CutsOff old number phase now inputs.Tick new = GivesUp old number phase now new
  CutsOff old number phase now inputs.EndOfInput new = GivesUp old number phase now new
  CutsOff old number phase now inputs.Closing new = ShutsDown old number phase new

  -- where an allocation failed for the answer to a packet
  abbrev pub FailsOnPacket : S → ℕ → ConnectedClient P → ℕ → Packet → S → Type 0
  FailsOnPacket old number connected now packet new =
      (after : ConnectedClient P) × (mid : S) × FailsToAnswer call slot_of old number (hearing connected now) now packet after mid × Parts call mid after.session now new

  -- where an allocation failed for the first packet
  abbrev pub FailsFirst : S → ℕ → ClientLimits → ℕ → Packet → S → Type 0
  FailsFirst old number limits now packet new =
      (connect : Connect) × (packet ≡ packets.Connect connect) × FailsToAttach call old number now (request_of limits connect now) new

  -- where an allocation failed for the reply
  abbrev pub FailsToReact : S → ℕ → ConnPhase P → ℕ → Input → S → Type 0
  FailsToReact old number (Unconnected opened) now (inputs.Packet packet) new = FailsFirst old number opened.limits now packet new
  FailsToReact old number (Waiting request ticks) now inputs.Tick new = (mid : S) × Sweeps call old now most_retired mid × FailsAgain call mid number now request new
  FailsToReact old number (Connected connected) now (inputs.Packet packet) new =
      (mid : S) × call old (WasKicked number false) mid × FailsOnPacket mid number connected now packet new
  FailsToReact old number other now input new = ⊥

  -- where an allocation failed for what is handed out: nothing that the session holds is lost, and it is parked
  abbrev pub HandsLess : S → ConnPhase P → ℕ → S → Type 0
  HandsLess old (Connected connected) now new =
      (membership : Membership P) × (window : Contents Held) × (mid : S)
      × HandsSome call (hand_out_terms connected now) old connected.session.membership connected.session.window membership window mid
      × Parts call mid (after_hand_out connected membership window).session now new
  HandsLess old (Unconnected opened) now new = ⊥
  HandsLess old (Waiting request ticks) now new = ⊥
  HandsLess old Ended now new = ⊥

  pub record FailsToHand (old : S) (number : ℕ) (phase : ConnPhase P) (now : ℕ) (input : Input) (new : S) : Type 0 where
    pub reply : Reply
    pub between : ConnPhase P
    pub mid : S
    pub reacts : Reacts old number phase now input between reply mid
    pub hands : HandsLess mid between now new

  -- where an allocation failed in a step
  abbrev pub FailsToStep : S → ℕ → ConnPhase P → ℕ → Input → S → Type 0
  FailsToStep old number phase now input new =
      CutsOff old number phase now input new ⊎ (FailsToReact old number phase now input new ⊎ FailsToHand old number phase now input new)
