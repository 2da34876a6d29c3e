-- An option that has no first value has no number, and one that has one has a number or none in the range.
use Rattle.std.proofs.Common.{sym}
use Rattle.clap.specs.Words.{found_of}
use Rattle.arguments.proofs.Read.{no_number, not_given}
use Rattle.arguments.proofs.serving.number_if.Goals as goal

pub returns-in-None : goal.returns-in-None
returns-in-None c = not_given (found_of c.args.options.now) c.args.id.now (sym c.in-None.ensures)

pub returns-in_err-number-in-Some : goal.returns-in_err-number-in-Some
returns-in_err-number-in-Some c =
    rw c.from_residual.ensures (no_number (found_of c.args.options.now) c.args.id.now c.args.least c.args.most _ (sym c.in-Some.ensures) c.in_err-number-in-Some.ensures)
