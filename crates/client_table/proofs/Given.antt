-- What is not written.
use Rattle.std.proofs.Common.{◌≡◌, ℕ, List, refl, inl}
use Rattle.mqtt_packet.specs.declared.packet.Packet.{Packet}
use Rattle.conn_supply.specs.declared.reply.Then.{Then}
use Rattle.conn_supply.specs.SupplyCalls.{SupplyCall}
use Rattle.conn_engine.specs.declared.input.Input.{Input}
use Rattle.conn_engine.specs.Step.{Steps}
use Rattle.client_table.specs.Clients.{ClientState, moment_of, IsGivenUp}

pub unsaid : {S P : Type 0} (call : S → SupplyCall P → S → Type 0) (slot_of : P → ℕ) (old new : S) (client client' : ClientState P) (now : ℕ) (input : Input) (packets : List Packet) (next : Then)
    → client'.conn.number ≡ client.conn.number → client'.conn.latest ≡ moment_of client now
    → Steps call slot_of old client.conn.number client.conn.phase (moment_of client now) input packets next client'.conn.phase new → IsGivenUp call slot_of old client now input client' new
unsaid call slot_of old new client client' now input packets next same latest stepped =
    inl (record { connection = client.conn.number; packets = packets; next = next }, record { told = refl; same = same; latest = latest; stepped = stepped })
