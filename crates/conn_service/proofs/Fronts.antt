-- After what stands in front, less is unread where the connection goes on; and else it is over.
use Rattle.std.proofs.Common.{◌≡◌, ◌≢◌, ℕ, ◌<◌, List, length, length-append, Result, Ok, refl, ap, subst, arith}
use Rattle.mqtt_packet.specs.declared.packet.Packet.{Packet}
use Rattle.mqtt_wire.specs.Stream.{Unread, Takes}
use Rattle.conn_supply.specs.declared.reply.Then.{Then}
use Rattle.conn_supply.specs.declared.reply.Then.TheVariants.{Go}
use Rattle.conn_supply.specs.SupplyCalls.{SupplyCall}
use Rattle.conn_engine.specs.declared.input.Input.{Input}
use Rattle.conn_engine.specs.declared.input.Input.TheVariants as inputs
use Rattle.conn_engine.specs.declared.phase.ConnPhase.TheVariants.{Ended}
use Rattle.conn_laws.proofs.Ended.{ends, ends_by}
use Rattle.client_table.specs.Clients.{ClientState, moment_of, step_output, ClientSteps}
use Rattle.client_table.specs.Streams.{IsInFront}

pub ok_is : {A B : Type 0} {a b : A} → ◌≡◌ {A = Result A B} (Ok a) (Ok b) → a ≡ b
ok_is same = cc

-- a packet that is taken shortens what is unread
takes_some : (packet : Packet) (unread unread' : Unread) → Takes unread packet unread' → length unread'.bytes < length unread.bytes
takes_some packet unread unread' taken =
    let whole = ap length taken.parts in
    let front = ap length taken.spelled.parts in
    let both = length-append taken.front unread'.bytes in
    omega arith

module _ {S P : Type 0} (call : S → SupplyCall P → S → Type 0) (slot_of : P → ℕ) where
  -- a connection that goes on is not over
  pub not_over : (now : ℕ) (input : Input) (packets : List Packet) (client client' : ClientState P) (supply supply' : S)
      → ClientSteps call slot_of supply client now input (step_output client.conn.number packets Go) client' supply' → client'.conn.phase ≢ Ended
  not_over now input packets client client' supply supply' moved over =
      (ends call slot_of supply supply' client.conn.number (moment_of client now) client.conn.phase client'.conn.phase input packets Go moved.stepped).0 over refl

  shorter : (now : ℕ) (input : Input) (packets : List Packet) (client client' : ClientState P) (supply supply' : S) → IsInFront client.unread input client'.unread
      → ClientSteps call slot_of supply client now input (step_output client.conn.number packets Go) client' supply' → length client'.unread.bytes < length client.unread.bytes
  shorter now (inputs.Packet packet) packets client client' supply supply' front moved = takes_some packet client.unread client'.unread front
  shorter now (inputs.Fault fault) packets client client' supply supply' front moved =
      absurd (not_over now (inputs.Fault fault) packets client client' supply supply' moved
      (ends_by call slot_of supply supply' client.conn.number (moment_of client now) client.conn.phase client'.conn.phase (inputs.Fault fault) packets Go moved.stepped tt))
  shorter now inputs.Tick packets client client' supply supply' front moved = absurd front
  shorter now inputs.EndOfInput packets client client' supply supply' front moved = absurd front
  shorter now inputs.Closing packets client client' supply supply' front moved = absurd front

  abbrev pub IsSteppedFront : ℕ → List Packet → Then → ClientState P → ClientState P → S → S → Type 0
  IsSteppedFront now packets next client client' supply supply' =
      (input : Input) × IsInFront client.unread input client'.unread × ClientSteps call slot_of supply client now input (step_output client.conn.number packets next) client' supply'

  pub front_goes : (now : ℕ) (packets : List Packet) (next : Then) (old client client' : ClientState P) (supply supply' : S) → client ≡ old
      → IsSteppedFront now packets next client client' supply supply' → next ≡ Go → (client'.conn.phase ≢ Ended) × (length client'.unread.bytes < length old.unread.bytes)
  front_goes now packets next old client client' supply supply' is front goes =
      let moved = subst (λ (n : Then). ClientSteps call slot_of supply client now front.0 (step_output client.conn.number packets n) client' supply') goes front.2 in (
        not_over now front.0 packets client client' supply supply' moved,
        subst (λ (c : ClientState P). length client'.unread.bytes < length c.unread.bytes) is (shorter now front.0 packets client client' supply supply' front.1 moved),
      )

  pub front_stops : (now : ℕ) (packets : List Packet) (next : Then) (client client' : ClientState P) (supply supply' : S)
      → IsSteppedFront now packets next client client' supply supply' → next ≢ Go → client'.conn.phase ≡ Ended
  front_stops now packets next client client' supply supply' front stops =
      (ends call slot_of supply supply' client.conn.number (moment_of client now) client.conn.phase client'.conn.phase front.0 packets next front.2.stepped).1 stops
