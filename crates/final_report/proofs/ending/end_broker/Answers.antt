-- The promises are kept with what the desk had.
use Rattle.std.proofs.lemmas.Result.{IfOk-weaker}
use Rattle.final_report.proofs.Brokers.{kept}
use Rattle.final_report.proofs.ending.end_broker.Goals as goal

pub returns-clause-kept : goal.returns-clause-kept
returns-clause-kept g c =
    IfOk-weaker c.finish.result _ _
    (λ ended e. kept g.B.Broker.group c.finish.new.me.calls c.args.ports.items ended.answers.items ended.strangers.items c.one_fate_law.ensures c.lawful_end_law.ensures e)
    c.finish.ensures.ended
