use Rattle.std.proofs.lemmas.Result.{err_from_is_err_and}
use Rattle.mqtt_wire.proofs.NextLaws.{takes_frame, frame_fails}
use Rattle.mqtt_wire.proofs.splitter.take_framed.Goals as goal

pub returns-in_err-packet : goal.returns-in_err-packet
returns-in_err-packet c = λ held.
    let reached = (rw c.in-Whole.is at c.in_ok-reach_packet.ensures) held in
    let told = err_from_is_err_and c.from_residual-in_err-packet.result c.from_residual-in_err-packet.ensures.1 in
    rw (told.1, told.2) (frame_fails c.args.in_hand.now c.args.stream.now.items c.in-Whole.frame c.reach_packet.new.stream.items c.in_err-packet.field-0.0 held reached.0 c.in_err-packet.ensures)

pub returns : goal.returns
returns c = λ held.
    let reached = (rw c.in-Whole.is at c.in_ok-reach_packet.ensures) held in
    takes_frame c.args.in_hand.now c.args.stream.now.items c.in-Whole.frame c.reach_packet.new.stream.items c.in_ok-packet.packet held reached.0 c.in_ok-packet.ensures
