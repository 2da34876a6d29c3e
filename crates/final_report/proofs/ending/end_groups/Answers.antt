-- Each promise is read off what each group's end says.
use Rattle.std.proofs.lemmas.Result.{IfOk-weaker}
use Rattle.final_report.proofs.Brokers.{ended_first_once, ended_in_order, ended_refused_for_good, ended_discarded_for_good, ended_one_fate, ended_what_happened, ended_lawful}
use Rattle.final_report.proofs.Held.{none_lacks}
use Rattle.final_report.proofs.ending.end_groups.Goals as goal

pub returns-clause-first_once : goal.returns-clause-first_once
returns-clause-first_once g c =
    IfOk-weaker c.finish.result _ _
    (λ ended e. ended_first_once g.B.Broker.group c.args.ports.items c.args.places.items c.args.held.items ended.answers.items e c.one_fate_law.ensures)
    c.finish.ensures.ended

pub returns-clause-in_order : goal.returns-clause-in_order
returns-clause-in_order g c =
    IfOk-weaker c.finish.result _ _
    (λ ended e. ended_in_order g.B.Broker.group c.args.ports.items c.args.places.items c.args.held.items ended.answers.items e)
    c.finish.ensures.ended

pub returns-clause-refused_for_good : goal.returns-clause-refused_for_good
returns-clause-refused_for_good g c =
    IfOk-weaker c.finish.result _ _
    (λ ended e. ended_refused_for_good g.B.Broker.group c.args.ports.items c.args.places.items c.args.held.items ended.answers.items e c.one_fate_law.ensures)
    c.finish.ensures.ended

pub returns-clause-discarded_for_good : goal.returns-clause-discarded_for_good
returns-clause-discarded_for_good g c =
    IfOk-weaker c.finish.result _ _
    (λ ended e. ended_discarded_for_good g.B.Broker.group c.args.ports.items c.args.places.items c.args.held.items ended.answers.items e c.one_fate_law.ensures)
    c.finish.ensures.ended

pub returns-clause-one_fate : goal.returns-clause-one_fate
returns-clause-one_fate g c =
    IfOk-weaker c.finish.result _ _
    (λ ended e. ended_one_fate g.B.Broker.group c.args.ports.items c.args.places.items c.args.held.items ended.answers.items e c.one_fate_law.ensures)
    c.finish.ensures.ended

pub returns-clause-what_happened : goal.returns-clause-what_happened
returns-clause-what_happened g c =
    IfOk-weaker c.finish.result _ _
    (λ ended e. ended_what_happened g.B.Broker.group c.args.ports.items c.args.places.items c.args.held.items ended.answers.items e c.one_fate_law.ensures)
    c.finish.ensures.ended

pub returns-clause-lawful : goal.returns-clause-lawful
returns-clause-lawful g c =
    IfOk-weaker c.finish.result _ _
    (λ ended e. ended_lawful g.B.Broker.group c.args.ports.items c.args.places.items c.args.held.items ended.answers.items e c.lawful_end_law.ensures)
    c.finish.ensures.ended

pub returns-clause-none_lacks : goal.returns-clause-none_lacks
returns-clause-none_lacks g c =
    IfOk-weaker c.finish.result _ _
    (λ ended e calls had. none_lacks g.B.Broker.group calls c.args.ports.items c.args.places.items c.args.held.items ended.answers.items e had)
    c.finish.ensures.ended
