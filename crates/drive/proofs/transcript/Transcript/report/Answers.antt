-- The line of one share more.
use Rattle.drive.proofs.Texts.{one_report}
use Rattle.drive.proofs.transcript.Transcript.report.Goals as goal

pub slots-preserved : goal.slots-preserved
slots-preserved c =
    let line = c.in_ok-report_of.ensures.ok in
    let so_far = c.slots.invariant in
    one_report c.slots.slot c.args.server.now.broker c.args.self.now c.slots.self c.report_of.new.self so_far.0 line.0 so_far.1 so_far.2 line.1 line.2
