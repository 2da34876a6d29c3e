-- One report more.
use Rattle.std.proofs.Common.{◌∷◌, Result, sym, subst}
use Rattle.group_jobs.specs.declared.report.Report.{Report}
use Rattle.group_queue.specs.declared.error.FinishError.{FinishError}
use Rattle.tcp_server.specs.Lines.{EndsBy}
use Rattle.tcp_server.proofs.Ends.{with_report}
use Rattle.tcp_server.proofs.reporting.end_with.Goals as goal

pub returns-in-Ok-clause-ends : goal.returns-in-Ok-clause-ends
returns-in-Ok-clause-ends c = λ reports ends. subst (λ (report : Result Report FinishError). EndsBy c.args.others (report ∷ reports)) (sym c.in-Ok.is) (with_report c.args.others c.in-Ok.field-0 reports ends)
