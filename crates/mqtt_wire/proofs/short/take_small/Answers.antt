use Rattle.std.proofs.Common.{ℕ, ◌+◌, ◌-◌, length, ◌∙◌, ap, refl, sym, arith}
use Rattle.std.specs.Prelude.{Some}
use Rattle.mqtt_wire.specs.Frame.{header_with}
use Rattle.mqtt_wire.proofs.FrameLaws.{rest_within}
use Rattle.mqtt_wire.proofs.SmallLaws.{header_given, packet_given, small_front}
use Rattle.mqtt_wire.proofs.short.take_small.Goals as goal

pub overflow_sub-size : goal.overflow_sub-size
overflow_sub-size c =
    let header = header_given _ _ c.in_ok-header.header c.in_ok-header.rest (ap Some (sym c.in_ok-header.was) ∙ c.in_ok-ok.ensures.value) c.read_header.ensures in
    rest_within c.as_slice-bytes.result.now (header_with c.in_ok-header.header c.in_ok-header.rest.now) header

pub advance-requires : goal.advance-requires
advance-requires c =
    let header = header_given _ _ c.in_ok-header.header c.in_ok-header.rest (ap Some (sym c.in_ok-header.was) ∙ c.in_ok-ok.ensures.value) c.read_header.ensures in
    omega (arith, ap length c.as_slice-bytes.ensures, c.in_ok-body.ensures.whole refl, rest_within c.as_slice-bytes.result.now (header_with c.in_ok-header.header c.in_ok-header.rest.now) header)

pub returns-clause-taken : goal.returns-clause-taken
returns-clause-taken c =
    let header = header_given _ _ c.in_ok-header.header c.in_ok-header.rest (ap Some (sym c.in_ok-header.was) ∙ c.in_ok-ok.ensures.value) c.read_header.ensures in
    let packet = packet_given _ _ c.in_ok-packet.packet c.in_ok-packet.ensures.value c.read_body.ensures in
    let rest = c.in_ok-header.rest.now in
    let bytes = c.as_slice-bytes.result.now in
    let within = rest_within bytes (header_with c.in_ok-header.header rest) header in
    let size : ℕ = length bytes - length rest + c.in_ok-header.header.remaining in
    rw (c.advance.ensures.items, ← c.as_slice-bytes.ensures)
    (λ fits. small_front bytes c.in_ok-header.header rest c.in_ok-body.body c.in_ok-packet.packet size fits header (c.in_ok-body.ensures.whole refl) c.in_ok-body.ensures.body packet (omega (arith, within)))
