-- A buffer that has no room for a packet.
use Rattle.std.proofs.Common.{◌≡◌, ℕ, ◌<◌, ◌≤◌, ◌+◌, ◌⊎◌, List, ◌++◌, length, take, get_or, ap, inl, inr, arith, length-append}
use Rattle.std.proofs.lemmas.List.Folds.{length-flat_map-take}
use Rattle.mqtt_packet.specs.declared.packet.Packet.{Packet}
use Rattle.mqtt_fields.specs.declared.fault.Fault.{Fault}
use Rattle.mqtt_fields.specs.declared.fault.Fault.TheVariants as faults
use Rattle.mqtt_fields.specs.declared.fault.StreamFault.TheVariants as streams
use Rattle.mqtt_wire.specs.Writing.{written, remaining_length}
use Rattle.mqtt_wire.proofs.WritingLaws.{written_length}
use Rattle.conn_service.specs.Services.{bytes_of, write_room}

-- there is no room for a packet only where all of them are more than there is room for
pub past_room : (fault : Fault) (held before : List ℕ) (packets : List Packet) (i : ℕ) (packet : Packet) (capacity size : ℕ) → i < length packets → packet ≡ get_or packets i packet
    → held ≡ before ++ bytes_of (take i packets) → size ≡ length held → write_room ≤ capacity
    → (fault ≡ faults.Memory → capacity < size + length (written packet))
    → (fault ≡ faults.Stream streams.TooLarge → 268435455 < remaining_length packet)
    → (fault ≡ faults.Stream streams.TooLarge) ⊎ (fault ≡ faults.Memory)
    → write_room < length (before ++ bytes_of packets)
past_room fault held before packets i packet capacity size lt is held_is size_is room memory large (inl too_large) =
    let big = large too_large in
    omega (arith, written_length packet, length-flat_map-take written packets i packet lt, ap (λ (p : Packet). length (written p)) is, length-append before (bytes_of packets))
past_room fault held before packets i packet capacity size lt is held_is size_is room memory large (inr full) =
    let short = memory full in
    omega (arith, length-flat_map-take written packets i packet lt, ap (λ (p : Packet). length (written p)) is, length-append before (bytes_of packets), ap length held_is, length-append before (bytes_of (take i packets)))
