-- What was handed out is out, beside what was.
use Rattle.std.proofs.Common.{sym, subst}
use Rattle.group_queue.specs.Places.{PlaceState, TakeAnswers}
use Rattle.conn_supply.specs.Holding.{FindsOut}
use Rattle.broker_groups.specs.Outs.{HasOut}
use Rattle.broker_groups.proofs.Outs.{taken}
use Rattle.broker_groups.proofs.place.BrokerPlace.take.Goals as goal

pub returns-clause-out : goal.returns-clause-out
returns-clause-out g c =
    subst (λ (p : PlaceState). FindsOut HasOut p c.told.result c.take.new.place) c.self.view_is
    (taken g.B.Seen.Witness.saw_main c.self.inside.place c.take.new.place c.told.result
    (subst (λ answer. TakeAnswers g.B.Seen.Witness.saw_main c.self.inside.place answer c.take.new.place) (sym c.told.ensures) c.take.ensures.answer))
