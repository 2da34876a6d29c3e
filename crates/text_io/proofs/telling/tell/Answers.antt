-- Memory for the line was refused, and nothing was written.
use Rattle.text_io.specs.Status.{error_line}
use Rattle.text_io.proofs.PassingLaws.{Begins-nothing-at}
use Rattle.text_io.proofs.telling.tell.Goals as goal

pub returns-in_err-line-in-Line-clause-err : goal.returns-in_err-line-in-Line-clause-err
returns-in_err-line-in-Line-clause-err g c = Begins-nothing-at c.from_residual.result (g.W.Write.contents c.args.writer.now) (error_line c.args.error)

pub returns-in_err-line-in-UsersLine-clause-err : goal.returns-in_err-line-in-UsersLine-clause-err
returns-in_err-line-in-UsersLine-clause-err g c =
    Begins-nothing-at c.from_residual-in_err-line-in-UsersLine.result (g.W.Write.contents c.args.writer.now) (error_line c.args.error)
