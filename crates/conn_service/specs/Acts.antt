-- What happens to a connection while it is served, act by act, and what can be read off a list of them.
use Rattle.std.specs.Prelude.{ℕ, ◌+◌, Bool, List, [], ◌∷◌, length, Option, Some, None, filter_map, ⊤}
use Rattle.std.specs.List.{flat_map}
use Rattle.mqtt_packet.specs.declared.packet.Packet.{Packet}
use Rattle.mqtt_fields.specs.declared.fault.StreamFault.{StreamFault}
use Rattle.transport.specs.declared.answers.Got.{Got}
use Rattle.transport.specs.declared.answers.Put.{Put}
use Rattle.conn_supply.specs.declared.reply.Then.{Then}
use Rattle.conn_engine.specs.declared.input.Input.{Input}
use Rattle.conn_engine.specs.declared.input.Input.TheVariants as inputs
use Rattle.conn_service.specs.declared.served.Served.{Served}
use Rattle.conn_service.specs.declared.served.Served.TheVariants as served
use Rattle.conn_service.specs.Moments.{ending_read, ending_write}

pub data Act : Type 0 where
  -- a visit of the supply begins, unless that is shut; where the round reads, it forgets that an earlier read came short
  Enters : (is_open reads : Bool) → Act
  -- and ends it
  Leaves : Act
  -- whether another connection asked for its session is asked of the supply
  Asks : (is_kicked : Bool) → Act
  -- one read of the transport into a buffer of this size, and the bytes that it gave
  Reads : (size : ℕ) → (got : Got) → (bytes : List ℕ) → Act
  -- one write of what waits
  Writes : (now : ℕ) → (put : Put) → Act
  -- one step, whose packets wait to be written from then on
  Steps : (now : ℕ) → (input : Input) → (packets : List Packet) → (next : Then) → Act
  -- one step, for whose packets there was no memory, as they are more than there is room for; nothing is written any more
  Loses : (now : ℕ) → (input : Input) → (packets : List Packet) → (next : Then) → Act
  -- one step in which an allocation failed; nothing is written any more
  Fails : (now : ℕ) → (input : Input) → Act
  -- one read of the transport, for whose bytes there was no memory; nothing is written any more
  Starves : (got : Got) → (bytes : List ℕ) → Act
  -- there was no memory for the packet in front, and the connection is given up; nothing is written any more
  IsFull : (now : ℕ) → Act
  -- the crossing let nothing pass; nothing is written any more
  IsStopped : Act
  -- the transport took nothing for too long; nothing is written any more
  Stalls : (now : ℕ) → Act
  -- after such an end, the connection is given up, if it has not ended yet
  GivesUp : (now : ℕ) → Act
  -- the connection has ended, and all that it said is written
  Ends : Act
  -- others use the supply
  Others : Act

-- the bytes that a read gave
abbrev pub read_in : Act → List ℕ
read_in (Reads size got bytes) = bytes
read_in (Starves got bytes) = bytes
read_in _ = []

-- the input of a step
abbrev pub input_in : Act → List Input
input_in (Steps now input packets next) = input ∷ []
input_in (Loses now input packets next) = input ∷ []
input_in (Fails now input) = input ∷ []
input_in (IsFull now) = inputs.EndOfInput ∷ []
input_in (GivesUp now) = inputs.EndOfInput ∷ []
input_in _ = []

-- a packet that is an input
abbrev pub packet_in : Input → List Packet
packet_in (inputs.Packet packet) = packet ∷ []
packet_in (inputs.Fault fault) = []
packet_in inputs.Tick = []
packet_in inputs.EndOfInput = []
packet_in inputs.Closing = []

-- a fault that is one
abbrev pub fault_in : Input → List StreamFault
fault_in (inputs.Packet packet) = []
fault_in (inputs.Fault fault) = fault ∷ []
fault_in inputs.Tick = []
fault_in inputs.EndOfInput = []
fault_in inputs.Closing = []

-- what a step said, whether it could be written or not
abbrev pub packets_sent_in : Act → List Packet
packets_sent_in (Steps now input packets next) = packets
packets_sent_in (Loses now input packets next) = packets
packets_sent_in _ = []

-- how an act ends the connection, if it does
abbrev pub ending_in : Act → Option Served
ending_in (Reads size got bytes) = ending_read got
ending_in (Writes now put) = ending_write put
ending_in (Loses now input packets next) = Some served.Memory
ending_in (Fails now input) = Some served.Memory
ending_in (Starves got bytes) = Some served.Memory
ending_in (IsFull now) = Some served.Memory
ending_in IsStopped = Some served.NoCrossing
ending_in (Stalls now) = Some served.Stalled
ending_in Ends = Some served.Ended
ending_in _ = None

-- of all acts: the bytes that were read, the inputs of the steps, the packets and the faults among them, and what was said
abbrev pub bytes_read : List Act → List ℕ
bytes_read acts = flat_map read_in acts

abbrev pub inputs_of : List Act → List Input
inputs_of acts = flat_map input_in acts

abbrev pub packets_read : List Act → List Packet
packets_read acts = flat_map packet_in (inputs_of acts)

abbrev pub faults_met : List Act → List StreamFault
faults_met acts = flat_map fault_in (inputs_of acts)

-- how many packets were stepped, a fault among them that stands in the place of one
abbrev pub packets_in : List Act → ℕ
packets_in acts = length (packets_read acts) + length (faults_met acts)

abbrev pub packets_sent : List Act → List Packet
packets_sent acts = flat_map packets_sent_in acts

abbrev pub endings_of : List Act → List Served
endings_of acts = filter_map ending_in acts

-- the first of these acts is a write
abbrev pub IsWrite : Act → Type 0
IsWrite (Writes now put) = ⊤
IsWrite _ = ⊥

abbrev pub BeginsByWriting : List Act → Type 0
BeginsByWriting [] = ⊥
BeginsByWriting (act ∷ acts) = IsWrite act
