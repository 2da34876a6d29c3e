-- Whether a connection goes on: what it has after a step, and what is left of its client.
use Rattle.std.proofs.Common.{◌≡◌, ◌≢◌, ℕ, List, None, refl, ap, subst}
use Rattle.mqtt_packet.specs.declared.packet.Packet.{Packet}
use Rattle.conn_supply.specs.declared.reply.Then.{Then}
use Rattle.conn_supply.specs.declared.reply.Then.TheVariants.{Go, Close, Kicked}
use Rattle.conn_engine.specs.declared.input.Input.{Input}
use Rattle.conn_engine.specs.declared.input.Input.TheVariants as inputs
use Rattle.conn_engine.specs.declared.phase.ConnectedClient.{ConnectedClient}
use Rattle.conn_engine.specs.declared.phase.ConnPhase.{ConnPhase}
use Rattle.conn_engine.specs.declared.phase.ConnPhase.TheVariants.{Unconnected, Waiting, Connected, Ended}
use Rattle.conn_engine.specs.Step.{Steps}
use Rattle.conn_laws.specs.Behind.{IsLast, KeepsOrEnds}
use Rattle.conn_laws.specs.Transcripts.{connected_of}
use Rattle.conn_laws.proofs.Ended.{ends, ends_by, keeping}
use Rattle.client_table.specs.Cells.{kept_as, kept}
use Rattle.client_table.specs.Clients.{ClientState, moment_of, StepOutput, ClientSteps}
use Rattle.client_table.specs.Streams.{Closes}
use Rattle.local_broker.specs.Places.{GroupPlace}
use Rattle.local_broker.specs.Broker.{Broker}
use Rattle.local_broker.specs.Calls.{Calls}
use Rattle.local_server.specs.Happening.{slot_of}
use Rattle.local_server.proofs.Stepping.{GoesAs}

-- it goes on unless it has ended
pub goes : (next : Then) (phase : ConnPhase GroupPlace) → (next ≢ Go → phase ≡ Ended) → phase ≢ Ended → next ≡ Go
goes Go phase ended up = refl
goes Close phase ended up = absurd (up (ended (λ is. cc)))
goes Kicked phase ended up = absurd (up (ended (λ is. cc)))

as_it_has : (before after : ConnPhase GroupPlace) (next : Then) → (after ≡ Ended → next ≢ Go) → (next ≢ Go → after ≡ Ended)
    → ((connected : ConnectedClient GroupPlace) → before ≡ Connected connected → KeepsOrEnds after) → GoesAs (connected_of before) (connected_of after) next
as_it_has (Unconnected opened) (Connected connected) next stops ended keeps = goes next _ ended (λ is. cc)
as_it_has (Waiting request ticks) (Connected connected) next stops ended keeps = goes next _ ended (λ is. cc)
as_it_has (Connected earlier) (Connected connected) next stops ended keeps = goes next _ ended (λ is. cc)
as_it_has Ended (Connected connected) next stops ended keeps = goes next _ ended (λ is. cc)
as_it_has (Connected earlier) (Unconnected opened) next stops ended keeps = absurd (keeps earlier refl)
as_it_has (Connected earlier) (Waiting request ticks) next stops ended keeps = absurd (keeps earlier refl)
as_it_has (Connected earlier) Ended next stops ended keeps = stops refl
as_it_has (Unconnected opened) (Unconnected later) next stops ended keeps = tt
as_it_has (Unconnected opened) (Waiting request ticks) next stops ended keeps = tt
as_it_has (Unconnected opened) Ended next stops ended keeps = tt
as_it_has (Waiting request ticks) (Unconnected opened) next stops ended keeps = tt
as_it_has (Waiting request ticks) (Waiting other later) next stops ended keeps = tt
as_it_has (Waiting request ticks) Ended next stops ended keeps = tt
as_it_has Ended (Unconnected opened) next stops ended keeps = tt
as_it_has Ended (Waiting request ticks) next stops ended keeps = tt
as_it_has Ended Ended next stops ended keeps = tt

pub goes_as : (old new : Broker) (number now : ℕ) (phase phase' : ConnPhase GroupPlace) (input : Input) (packets : List Packet) (next : Then)
    → Steps Calls slot_of old number phase now input packets next phase' new → GoesAs (connected_of phase) (connected_of phase') next
goes_as old new number now phase phase' input packets next steps =
    let told = ends Calls slot_of old new number now phase phase' input packets next steps in
    as_it_has phase phase' next told.0 told.1
    (λ connected is.
    keeping Calls slot_of old new number now connected phase' input packets next
    (subst (λ (s : ConnPhase GroupPlace). Steps Calls slot_of old number s now input packets next phase' new) is steps))

-- the client of a connection that has ended is gone
gone : (client : ClientState GroupPlace) → client.conn.phase ≡ Ended → kept client ≡ None
gone client is = ap (λ (s : ConnPhase GroupPlace). kept_as s client) is

pub stopped : (old new : Broker) (client after : ClientState GroupPlace) (now : ℕ) (input : Input) (output : StepOutput) → ClientSteps Calls slot_of old client now input output after new
    → output.next ≢ Go → kept after ≡ None
stopped old new client after now input output moved stops =
    gone after
    ((ends Calls slot_of old new client.conn.number (moment_of client now) client.conn.phase after.conn.phase input output.packets output.next moved.stepped).1 stops)

pub ended_by : (old new : Broker) (client after : ClientState GroupPlace) (now : ℕ) (input : Input) (output : StepOutput) → ClientSteps Calls slot_of old client now input output after new
    → IsLast input → kept after ≡ None
ended_by old new client after now input output moved last =
    gone after (ends_by Calls slot_of old new client.conn.number (moment_of client now) client.conn.phase after.conn.phase input output.packets output.next moved.stepped last)

pub closed_by : (old new : Broker) (client after : ClientState GroupPlace) (now : ℕ) (input : Input) (output : StepOutput) → ClientSteps Calls slot_of old client now input output after new
    → Closes input output.next → kept after ≡ None
closed_by old new client after now (inputs.Packet packet) output moved closes = stopped old new client after now (inputs.Packet packet) output moved closes
closed_by old new client after now (inputs.Fault fault) output moved closes = ended_by old new client after now (inputs.Fault fault) output moved tt
closed_by old new client after now inputs.Tick output moved closes = absurd closes
closed_by old new client after now inputs.EndOfInput output moved closes = absurd closes
closed_by old new client after now inputs.Closing output moved closes = absurd closes
