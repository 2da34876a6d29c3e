-- What was handed out is out, beside what was.
use Rattle.std.proofs.Common.{sym, subst}
use Rattle.group_queue.specs.Places.{PlaceState, TakeBackAnswers}
use Rattle.conn_supply.specs.Holding.{FindsOut}
use Rattle.broker_groups.specs.Outs.{HasOut}
use Rattle.broker_groups.proofs.Outs.{taken_back}
use Rattle.broker_groups.proofs.place.BrokerPlace.take_back.Goals as goal

pub returns-clause-out : goal.returns-clause-out
returns-clause-out g c =
    subst (λ (p : PlaceState). FindsOut HasOut p c.told.result c.take_back.new.place) c.self.view_is
    (taken_back g.B.Seen.Witness.saw_returns c.self.inside.place c.take_back.new.place c.told.result
    (subst (λ answer. TakeBackAnswers g.B.Seen.Witness.saw_returns c.self.inside.place answer c.take_back.new.place) (sym c.told.ensures) c.take_back.ensures.answer))
