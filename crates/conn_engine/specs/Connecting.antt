-- What a connection answers to a CONNECT, and to a Tick while it waits for a session (sections 3.1 and 3.2, profile).
use Rattle.std.specs.Prelude.{◌≡◌, ℕ, ◌+◌, nat_lt, Bool, true, false, List, [], ◌∷◌, Option, Some, None, Result, Ok, Err}
use Rattle.std.specs.List.{list_any}
use Rattle.mqtt_packet.specs.Texts.{is_text}
use Rattle.mqtt_packet.specs.declared.packet.ConnectRefusal.{ConnectRefusal}
use Rattle.mqtt_packet.specs.declared.packet.ConnectRefusal.TheVariants as refusals
use Rattle.group_jobs.specs.Stamps.{Held}
use Rattle.member_window.specs.Contents.{Contents, held_of, after_up}
use Rattle.session_desk.specs.Sessions.{Who}
use Rattle.session_desk.specs.Attaching.{asked}
use Rattle.session_desk.specs.declared.attached.Attached.{Attached}
use Rattle.session_desk.specs.declared.attached.Attached.TheVariants.{New, Resumed, Replace, Busy}
use Rattle.session_desk.specs.declared.error.DeskError.{DeskError}
use Rattle.session_desk.specs.declared.error.DeskError.TheVariants as errors
use Rattle.session_desk.specs.declared.session.Session.{Session}
use Rattle.conn_rules.specs.HandOuts.{is_message_too_long}
use Rattle.conn_rules.specs.Packets.{accepting, refusing}
use Rattle.conn_rules.specs.declared.terms.Terms.{Terms}
use Rattle.conn_supply.specs.declared.reply.Reply.{Reply}
use Rattle.conn_supply.specs.SupplyCalls.{SupplyCall}
use Rattle.conn_supply.specs.SupplyCalls.SupplyCall.{Attach, ParkAsIs, Withdraw}
use Rattle.conn_supply.specs.Replies.{going_on, closed}
use Rattle.conn_engine.specs.declared.phase.ConnectRequest.{ConnectRequest}
use Rattle.conn_engine.specs.declared.phase.ConnPhase.{ConnPhase}
use Rattle.conn_engine.specs.declared.phase.ConnPhase.TheVariants.{Unconnected, Waiting, Connected, Ended}
use Rattle.conn_engine.specs.Ending.{down, Retires, Parts}

-- how many Ticks a connection waits for a session (profile)
abbrev pub most_ticks : ℕ
most_ticks = 100

-- the session of a connection that begins: its quota is made of this CONNECT's Receive Maximum, its expiry is this CONNECT's (3.1.2.11), and its
-- interval begins anew when the connection ends
abbrev pub opened : {P : Type 0} → Session Held P → Terms → Session Held P
opened session terms = record {
  identity = session.identity;
  expiry = record { seconds = terms.session_expiry_interval; parked = None };
  window = after_up session.window terms.receive_maximum;
  membership = session.membership;
  subscription = session.subscription;
}

-- the name of a client, where it is a text
abbrev pub name_if : Bool → List ℕ → Option (List ℕ)
name_if true name = Some name
name_if false name = None

-- a client without an identifier is told the one that it was given (3.2.2.3.7)
abbrev pub assigned : List ℕ → Who → Option (List ℕ)
assigned [] who = name_if (is_text who.client) who.client
assigned (byte ∷ bytes) who = None

-- a session holds a message whose PUBLISH, as it was sent first, is longer than a client of this Maximum Packet Size takes (3.1.2.11.4)
abbrev pub holds_message_too_long : Option ℕ → Contents Held → Bool
holds_message_too_long maximum window = list_any (λ entry. is_message_too_long maximum entry.1.subscription entry.1.message) (held_of window)

-- the connection is refused, and closed (3.2.2.2)
pub record IsRefused {P : Type 0} (refusal : ConnectRefusal) (phase : ConnPhase P) (reply : Reply) : Type 0 where
  pub over : phase ≡ Ended
  pub told : reply ≡ closed (Some (refusing refusal))

-- the connection begins, with this session
pub record Accepts {P : Type 0} (request : ConnectRequest) (present : Bool) (session : Session Held P) (phase : ConnPhase P) (reply : Reply) : Type 0 where
  pub begun : phase ≡ Connected (record { session = opened session request.terms; terms = request.terms; rights = request.rights; heard = request.came })
  pub told : reply ≡ going_on (Some (accepting present (assigned request.client session.identity) request.overrides))

-- the connection waits while it has found its session lent at fewer Ticks than that, and is refused then
abbrev pub WaitsAs : {P : Type 0} → Bool → ConnectRequest → ℕ → ConnPhase P → Reply → Type 0
WaitsAs true request ticks phase reply = (phase ≡ Waiting request ticks) × (reply ≡ going_on None)
WaitsAs false request ticks phase reply = IsRefused refusals.ServerBusy phase reply

module _ {S P : Type 0} (call : S → SupplyCall P → S → Type 0) where
  -- the session that a client had, where it had one, is retired
  abbrev pub RetiresEarlier : S → Option (Session Held P) → S → Type 0
  RetiresEarlier old None new = new ≡ old
  RetiresEarlier old (Some ended) new = (gone : Bool) × Retires call old ended gone new

  -- a session that holds what is too long for its client is not for it, and stays as it was (profile)
  abbrev pub ResumesAs : Bool → S → ConnectRequest → Session Held P → ConnPhase P → Reply → S → Type 0
  ResumesAs true old request session phase reply new = call old (ParkAsIs (down session)) new × IsRefused refusals.ImplementationSpecificError phase reply
  ResumesAs false old request session phase reply new = (new ≡ old) × Accepts request true session phase reply

  -- what becomes of a connection that was given this answer; at so many Ticks before, its session was still lent
  abbrev pub AttachedAs : S → ConnectRequest → ℕ → Result (Attached Held P) DeskError → ConnPhase P → Reply → S → Type 0
  AttachedAs old request ticks (Ok (New session ended)) phase reply new = RetiresEarlier old ended new × Accepts request false session phase reply
  AttachedAs old request ticks (Ok (Resumed session)) phase reply new =
      ResumesAs (holds_message_too_long request.terms.maximum_packet_size session.window) old request session phase reply new
  AttachedAs old request ticks (Ok (Replace holder)) phase reply new = WaitsAs (nat_lt ticks most_ticks) request ticks phase reply × (new ≡ old)
  AttachedAs old request ticks (Ok Busy) phase reply new = IsRefused refusals.ServerBusy phase reply × (new ≡ old)
  AttachedAs old request ticks (Err errors.Full) phase reply new = IsRefused refusals.ServerBusy phase reply × (new ≡ old)
  AttachedAs old request ticks (Err errors.NoPlace) phase reply new = IsRefused refusals.ServerBusy phase reply × (new ≡ old)
  AttachedAs old request ticks (Err errors.NoName) phase reply new = IsRefused refusals.ClientIdentifierNotValid phase reply × (new ≡ old)
  AttachedAs old request ticks (Err errors.Memory) phase reply new = ⊥

  -- a session is asked for
  pub record Attaches (old : S) (number now : ℕ) (request : ConnectRequest) (ticks : ℕ) (phase : ConnPhase P) (reply : Reply) (new : S) : Type 0 where
    pub answer : Result (Attached Held P) DeskError
    pub mid : S
    pub asked_for : call old (Attach (asked number request.client request.clean_start now) answer) mid
    pub answered : AttachedAs mid request ticks answer phase reply new

  -- where an allocation failed, a session that was lent is parked, or ending
  abbrev pub FailsWith : S → ℕ → ConnectRequest → Result (Attached Held P) DeskError → S → Type 0
  FailsWith old now request (Ok (New session ended)) new = (mid : S) × RetiresEarlier old ended mid × Parts call mid (opened session request.terms) now new
  FailsWith old now request (Ok (Resumed session)) new = Parts call old (opened session request.terms) now new
  FailsWith old now request (Ok (Replace holder)) new = ⊥
  FailsWith old now request (Ok Busy) new = ⊥
  FailsWith old now request (Err errors.Full) new = ⊥
  FailsWith old now request (Err errors.NoPlace) new = ⊥
  FailsWith old now request (Err errors.NoName) new = ⊥
  FailsWith old now request (Err errors.Memory) new = new ≡ old

  pub record FailsToAttach (old : S) (number now : ℕ) (request : ConnectRequest) (new : S) : Type 0 where
    pub answer : Result (Attached Held P) DeskError
    pub mid : S
    pub asked_for : call old (Attach (asked number request.client request.clean_start now) answer) mid
    pub failed : FailsWith mid now request answer new

  -- a connection that does not wait any more waits for no session
  abbrev pub Withdraws : S → ℕ → ConnPhase P → S → Type 0
  Withdraws old number (Waiting request ticks) new = new ≡ old
  Withdraws old number (Unconnected opened) new = call old (Withdraw number) new
  Withdraws old number (Connected connected) new = call old (Withdraw number) new
  Withdraws old number Ended new = call old (Withdraw number) new

  -- a connection that waits asks for its session again
  pub record TriesAgain (old : S) (number now : ℕ) (request : ConnectRequest) (ticks : ℕ) (phase : ConnPhase P) (reply : Reply) (new : S) : Type 0 where
    pub mid : S
    pub attaches : Attaches old number now request (ticks + 1) phase reply mid
    pub withdraws : Withdraws mid number phase new

  -- where an allocation failed
  pub record FailsAgain (old : S) (number now : ℕ) (request : ConnectRequest) (new : S) : Type 0 where
    pub mid : S
    pub failed : FailsToAttach old number now request mid
    pub withdrawn : call mid (Withdraw number) new
