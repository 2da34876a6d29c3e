-- The quota of each connection is that of the CONNECT that came on it, along the steps of the connection (sections 3.1.2.11.3 and 4.9).
use Rattle.std.specs.Prelude.{◌≡◌, ◌≤◌, ℕ, List, [], ◌∷◌, length, Option, Some, None, ⊤}
use Rattle.limits.specs.Limits.{most_unacknowledged}
use Rattle.mqtt_packet.specs.declared.packet.Connect.{Connect}
use Rattle.mqtt_packet.specs.declared.packet.Packet.TheVariants as packets
use Rattle.conn_rules.specs.Connecting.{inflight_alone, or_else, terms_of}
use Rattle.conn_engine.specs.declared.input.Input.{Input}
use Rattle.conn_engine.specs.declared.input.Input.TheVariants as inputs
use Rattle.conn_engine.specs.declared.phase.ConnectedClient.{ConnectedClient}
use Rattle.conn_engine.specs.declared.phase.ConnPhase.{ConnPhase}
use Rattle.conn_engine.specs.declared.phase.ConnPhase.TheVariants.{Unconnected, Waiting, Connected, Ended}
use Rattle.local_broker.specs.Places.{GroupPlace}
use Rattle.local_server.specs.TakenSteps.{TakenStep}

-- the Receive Maximum of a CONNECT: 65,535 where it names none
abbrev pub receive_maximum_of : Connect → ℕ
receive_maximum_of connect = or_else 65535 connect.properties.receive_maximum

-- the CONNECT in an input
abbrev pub connect_in : Input → Option Connect
connect_in (inputs.Packet (packets.Connect connect)) = Some connect
connect_in input = None

-- the CONNECT of a connection once an input has come: that input, where the connection waits for its CONNECT, and the one that came before, from then on
abbrev pub connect_once : Option Connect → ConnPhase GroupPlace → Input → Option Connect
connect_once came (Unconnected opened) input = connect_in input
connect_once came (Waiting request ticks) input = came
connect_once came (Connected connected) input = came
connect_once came Ended input = None

-- A client that has its session has the terms of this CONNECT, on a server with this limit, and no other: of the PUBLISH packets that were sent on its connection, no more are unacknowledged than
-- the Receive Maximum of the CONNECT, nor than the limit, nor than 256 (profile).
pub record KeepsToConnect (limit : ℕ) (connect : Connect) (connected : ConnectedClient GroupPlace) : Type 0 where
  pub terms : connected.terms ≡ terms_of (inflight_alone limit) connect
  pub asked : length connected.session.window.owed ≤ receive_maximum_of connect
  pub limited : length connected.session.window.owed ≤ limit
  pub most : length connected.session.window.owed ≤ most_unacknowledged

-- a connection keeps to its CONNECT, where one came: one that waits for its session has the terms of it, too; and before it came, a connection has the limit of the server
abbrev pub KeepsTo : (limit : ℕ) → Option Connect → ConnPhase GroupPlace → Type 0
KeepsTo limit came (Unconnected opened) = opened.limits ≡ inflight_alone limit
KeepsTo limit came (Waiting request ticks) = (connect : Connect) × (came ≡ Some connect) × (request.terms ≡ terms_of (inflight_alone limit) connect)
KeepsTo limit came (Connected connected) = (connect : Connect) × (came ≡ Some connect) × KeepsToConnect limit connect connected
KeepsTo limit came Ended = ⊤

-- The steps of the connections of one number, one after the other, where this CONNECT came last: each leaves a connection that keeps to the CONNECT that came first on it.
abbrev pub KeepToTheirConnects : (limit : ℕ) → Option Connect → List TakenStep → Type 0
KeepToTheirConnects limit came [] = ⊤
KeepToTheirConnects limit came (step ∷ steps) =
    let connect = connect_once came step.phase_before step.input in
    KeepsTo limit connect step.phase_after × KeepToTheirConnects limit connect steps
