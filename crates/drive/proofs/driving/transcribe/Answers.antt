-- One event more.
use Rattle.std.proofs.Common.{arith, take}
use Rattle.drive.specs.Forms.{lines_as}
use Rattle.drive.proofs.Playing.{more_told, next_writable}
use Rattle.drive.proofs.driving.transcribe.Goals as goal

pub loop-event-preserved : goal.loop-event-preserved
loop-event-preserved c =
    let happened = c.in_ok-happen.ensures.ok in
    more_told (lines_as c.args.form) c.args.events.now c.loop-event.event-index _ c.args.server.now c.loop-event.server c.happen.new.server c.loop-event.transcript c.happen.new.transcript happened.0
    (omega arith) c.event-item.is c.loop-event.invariant happened.1 happened.2

pub happen-requires : goal.happen-requires
happen-requires c words after happens =
    next_writable (lines_as c.args.form) c.requires.0 (take c.loop-event.event-index c.args.events.now) c.args.server.now c.loop-event.server c.loop-event.transcript c.requires.1 c.loop-event.invariant
    c.event-item.result words after happens
