-- A client: its connection, and the stream of its bytes.
use Rattle.std.specs.Prelude.{◌≡◌, ℕ, ◌⊎◌, max, List, [], None}
use Rattle.mqtt_packet.specs.declared.packet.Packet.{Packet}
use Rattle.mqtt_wire.specs.Stream.{Unread}
use Rattle.conn_supply.specs.declared.reply.Then.{Then}
use Rattle.conn_supply.specs.SupplyCalls.{SupplyCall}
use Rattle.conn_engine.specs.declared.input.Input.{Input}
use Rattle.conn_engine.specs.declared.phase.ConnPhase.TheVariants.{Ended}
use Rattle.conn_engine.specs.Phases.{ConnState}
use Rattle.conn_engine.specs.Step.{Steps, FailsToStep}

-- a connection, and the bytes of its client that it has not read yet
pub record ClientState (P : Type 0) : Type 0 where
  pub conn : ConnState P
  pub unread : Unread

-- a client whose connection was opened, and that sent nothing yet
abbrev pub arrived : {P : Type 0} → ConnState P → ClientState P
arrived conn = record { conn = conn; unread = record { bytes = []; fault = None } }

-- what one step of a connection wrote, and what became of the connection
pub record StepOutput : Type 0 where
  pub connection : ℕ
  pub packets : List Packet
  pub next : Then

-- these packets were written in a step of the connection with this number, and this became of it
abbrev pub step_output : ℕ → List Packet → Then → StepOutput
step_output connection packets next = record { connection = connection; packets = packets; next = next }

-- the moment of a step: where the clock went back, the latest one of the connection
abbrev pub moment_of : {P : Type 0} → ClientState P → ℕ → ℕ
moment_of client now = max client.conn.latest now

module _ {S P : Type 0} (call : S → SupplyCall P → S → Type 0) (slot_of : P → ℕ) where
  -- one step of a client's connection; what is unread is another matter
  pub record ClientSteps (old : S) (client : ClientState P) (now : ℕ) (input : Input) (output : StepOutput) (client' : ClientState P) (new : S) : Type 0 where
    pub told : output.connection ≡ client.conn.number
    pub same : client'.conn.number ≡ client.conn.number
    pub latest : client'.conn.latest ≡ moment_of client now
    pub stepped : Steps call slot_of old client.conn.number client.conn.phase (moment_of client now) input output.packets output.next client'.conn.phase new

  -- an allocation failed in a step: nothing was written, and the connection has ended
  pub record ClientFailsToStep (old : S) (client : ClientState P) (now : ℕ) (input : Input) (client' : ClientState P) (new : S) : Type 0 where
    pub same : client'.conn.number ≡ client.conn.number
    pub latest : client'.conn.latest ≡ moment_of client now
    pub over : client'.conn.phase ≡ Ended
    pub failed : FailsToStep call slot_of old client.conn.number client.conn.phase (moment_of client now) input new

  -- an allocation failed between two steps: this input ends the connection, and nothing is written of it
  abbrev pub IsGivenUp : S → ClientState P → ℕ → Input → ClientState P → S → Type 0
  IsGivenUp old client now input client' new = ((output : StepOutput) × ClientSteps old client now input output client' new) ⊎ ClientFailsToStep old client now input client' new
