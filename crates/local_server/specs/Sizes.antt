-- How long the packets are that a run sends (section 2.1.4).
use Rattle.std.specs.Prelude.{◌≤◌, List}
use Rattle.std.specs.List.{AllByRecursion}
use Rattle.mqtt_packet.specs.declared.packet.Packet.{Packet}
use Rattle.mqtt_wire.specs.Writing.{remaining_length}
use Rattle.conn_laws.specs.Sizes.{IsShort}
use Rattle.client_table.specs.Clients.{StepOutput}

-- each packet that is said is so
abbrev pub AllSent : (Packet → Type 0) → List StepOutput → Type 0
AllSent IsSo outputs = AllByRecursion (λ one. AllByRecursion IsSo one.packets) outputs

abbrev pub AllShort : List StepOutput → Type 0
AllShort outputs = AllSent IsShort outputs

-- a packet that can be written: its Remaining Length can be said (2.1.4)
abbrev pub IsWritable : Packet → Type 0
IsWritable packet = remaining_length packet ≤ 268435455

abbrev pub AllWritable : List StepOutput → Type 0
AllWritable outputs = AllSent IsWritable outputs
