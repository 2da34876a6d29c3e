use Rattle.std.proofs.lemmas.Result.{err_from_is_err_and}
use Rattle.mqtt_wire.specs.declared.splitter.InHand.TheVariants.{Headed}
use Rattle.mqtt_wire.proofs.NextLaws.{keeps_on, keeps_all, headed_open, headed_holds}
use Rattle.mqtt_wire.proofs.splitter.reach_packet.Goals as goal

pub returns-in_default-2 : goal.returns-in_default-2
returns-in_default-2 c = λ held.
    let reached = (rw c.in-Headed.is at c.in_ok-reach_header.ensures) held in
    let wanting = rw c.in_default-2.is at c.in_ok-frame.ensures in
    let header = c.in-Headed.header in
    let before = c.reach_header.new.stream.items in
    let after = c.take_body.new.stream.items in (
      keeps_on c.args.in_hand.now c.args.stream.now.items (Headed header) before (Headed header) after reached.0 (keeps_all (Headed header) before after reached.0.small wanting.1),
      headed_open header after reached.0.small (rw wanting.1 wanting.0),
    )

pub returns-in_err-frame : goal.returns-in_err-frame
returns-in_err-frame c = λ held.
    let reached = (rw c.in-Headed.is at c.in_ok-reach_header.ensures) held in
    let refused = c.in_err-frame.ensures in
    let header = c.in-Headed.header in
    let before = c.reach_header.new.stream.items in
    let after = c.take_body.new.stream.items in
    let told = err_from_is_err_and c.from_residual-in_err-frame.result c.from_residual-in_err-frame.ensures.1 in
    rw (told.1, told.2) (
      keeps_on c.args.in_hand.now c.args.stream.now.items (Headed header) before (Headed header) after reached.0 (keeps_all (Headed header) before after reached.0.small refused.1),
      headed_holds header after reached.0.small (rw refused.1 refused.0),
    )
