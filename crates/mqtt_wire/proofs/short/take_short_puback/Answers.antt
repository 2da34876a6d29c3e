use Rattle.std.proofs.Common.{◌≡◌, ◌+◌, ◌*◌, ◌<◌, ◌≤◌, length, get_or, refl, arith}
use Rattle.std.specs.Prelude.{IsSome}
use Rattle.mqtt_wire.proofs.ShortLaws.{short_puback}
use Rattle.mqtt_wire.proofs.short.take_short_puback.Goals as goal

pub returns : goal.returns
returns c =
    let long : 4 ≤ length c.as_slice.result.now = omega arith in
    let first : get_or c.as_slice.result.now 0 0 ≡ 0x40 = omega arith in
    let remaining : get_or c.as_slice.result.now 1 0 ≡ 2 = omega arith in
    let last : get_or c.as_slice.result.now 3 0 < 256 = omega arith in
    let there : IsSome c.new.result = rw c.in_ok-packet_identifier.was refl in
    let is : c.in_ok-packet_identifier.packet_identifier ≡ 256 * get_or c.as_slice.result.now 2 0 + get_or c.as_slice.result.now 3 0 = omega (arith, c.from_be_bytes.ensures, c.in_ok-packet_identifier.ensures.value) in
    let some : 0 < c.in_ok-packet_identifier.packet_identifier = omega (arith, c.new.ensures.found.0 there, c.in_ok-packet_identifier.ensures.value) in
    let small : c.in_ok-packet_identifier.packet_identifier < 65536 = omega arith in
    rw (c.advance.ensures.items, ← c.as_slice.ensures, c.new-2.ensures)
    (short_puback c.as_slice.result.now c.in_ok-packet_identifier.packet_identifier long first remaining is last some small)
