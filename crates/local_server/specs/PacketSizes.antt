-- No packet is longer than its client takes: the Maximum Packet Size that a connection's client has named, along the steps of the connection (section 3.1.2.11.4).
use Rattle.std.specs.Prelude.{ℕ, ◌≤◌, List, [], ◌∷◌, length, Option, Some, None, ⊤}
use Rattle.std.specs.List.{AllByRecursion}
use Rattle.mqtt_packet.specs.declared.packet.Packet.{Packet}
use Rattle.mqtt_packet.specs.declared.packet.Packet.TheVariants as packets
use Rattle.mqtt_wire.specs.Writing.{written}
use Rattle.conn_engine.specs.declared.input.Input.{Input}
use Rattle.conn_engine.specs.declared.input.Input.TheVariants as inputs
use Rattle.conn_engine.specs.declared.phase.ConnPhase.{ConnPhase}
use Rattle.conn_engine.specs.declared.phase.ConnPhase.TheVariants.{Unconnected, Waiting, Connected, Ended}
use Rattle.conn_laws.specs.PacketSizes.{maximum_named, HasMaximum}
use Rattle.local_broker.specs.Places.{GroupPlace}
use Rattle.local_server.specs.TakenSteps.{TakenStep}

-- a packet has at most so many bytes in all as this Maximum Packet Size, where there is one
abbrev pub FitsIn : Option ℕ → Packet → Type 0
FitsIn None packet = ⊤
FitsIn (Some maximum) packet = length (written packet) ≤ maximum

-- so has each packet of a step, by the Maximum Packet Size that the connection has in its terms, or that the CONNECT names that comes in the step
abbrev pub SendsWhatFits : TakenStep → Type 0
SendsWhatFits step = AllByRecursion (FitsIn (maximum_named step.phase_before step.input)) step.packets

-- what a CONNECT names
abbrev pub named_in : Input → Option ℕ
named_in (inputs.Packet (packets.Connect connect)) = connect.properties.maximum_packet_size
named_in input = None

-- what the client of a connection has named once an input has come: by the CONNECT, where the connection waits for that, and what it had named before, from then on
abbrev pub named_once : Option ℕ → ConnPhase GroupPlace → Input → Option ℕ
named_once named (Unconnected opened) input = named_in input
named_once named (Waiting request ticks) input = named
named_once named (Connected connected) input = named
named_once named Ended input = None

-- The steps of the connections of one number, one after the other, where the last client has named this: each packet fits in the Maximum Packet Size of the CONNECT that came
-- first on its connection, and the connection keeps that in its terms until it ends.
abbrev pub FitTheirConnects : Option ℕ → List TakenStep → Type 0
FitTheirConnects named [] = ⊤
FitTheirConnects named (step ∷ steps) =
    let maximum = named_once named step.phase_before step.input in
    AllByRecursion (FitsIn maximum) step.packets × HasMaximum maximum step.phase_after × FitTheirConnects maximum steps
