use Rattle.std.proofs.Common.{◌+◌, length, ap, arith}
use Rattle.mqtt_wire.specs.Writing.{written_body, remaining_length}
use Rattle.mqtt_packet.specs.declared.packet.Packet.TheVariants.{Suback, Unsuback}
use Rattle.mqtt_wire.proofs.WritingLaws.{codes_size, sized}
use Rattle.mqtt_wire.proofs.sizes.body_size.Goals as goal

pub returns-in-Suback : goal.returns-in-Suback
unfolding remaining_length
returns-in-Suback c =
    let suback = c.in-Suback.suback in
    rw c.in-Suback.is
    (sized c.within-in-Suback.result (3 + length c.as_slice-in-Suback.result.now) (length (written_body (Suback suback))) (omega (arith, codes_size suback.packet_identifier suback.reason_codes, ap length c.as_slice-in-Suback.ensures.value)) c.within-in-Suback.ensures)

pub returns-in-Unsuback : goal.returns-in-Unsuback
unfolding remaining_length
returns-in-Unsuback c =
    let unsuback = c.in-Unsuback.unsuback in
    rw c.in-Unsuback.is
    (sized c.within-in-Unsuback.result (3 + length c.as_slice-in-Unsuback.result.now) (length (written_body (Unsuback unsuback))) (omega (arith, codes_size unsuback.packet_identifier unsuback.reason_codes, ap length c.as_slice-in-Unsuback.ensures.value)) c.within-in-Unsuback.ensures)
