use Rattle.std.proofs.Common.{◌≡◌, length, ap, arith}
use Rattle.mqtt_fields.specs.Forms.{variable_byte_integer}
use Rattle.mqtt_wire.specs.Writing.{remaining_length}
use Rattle.mqtt_wire.proofs.StreamLaws.{written_spells}
use Rattle.mqtt_wire.proofs.WritingLaws.{written_length}
use Rattle.mqtt_wire.proofs.writing.encode_into.Goals as goal

pub returns-in_err-reserve-clause-memory : goal.returns-in_err-reserve-clause-memory
returns-in_err-reserve-clause-memory c = λ _.
    let size : length (variable_byte_integer c.in-Some.remaining) ≡ length (variable_byte_integer (remaining_length c.args.packet.now)) = ap (λ n. length (variable_byte_integer n)) c.in-Some.ensures.0 in
    omega (arith, size, written_length c.args.packet.now, c.framed_size.ensures, c.in_err-reserve.ensures.full, c.in-Some.ensures.0)

pub put_packet-requires-clause-room : goal.put_packet-requires-clause-room
put_packet-requires-clause-room c =
    let size : length (variable_byte_integer c.in-Some.remaining) ≡ length (variable_byte_integer (remaining_length c.args.packet.now)) = ap (λ n. length (variable_byte_integer n)) c.in-Some.ensures.0 in
    omega (arith, size, written_length c.args.packet.now, c.framed_size.ensures, c.in_ok-reserve.ensures.ok, c.in-Some.ensures.0)

pub returns-clause-spelled : goal.returns-clause-spelled
returns-clause-spelled c = λ client small.
    let ranges = c.put_packet.ensures.fits client in
    written_spells c.args.packet.now ranges.0 ranges.1 small
