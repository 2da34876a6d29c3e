-- What was out is out.
use Rattle.std.proofs.Common.{subst}
use Rattle.group_queue.specs.Places.{PlaceState}
use Rattle.conn_supply.specs.Holding.{KeepsOut}
use Rattle.broker_groups.specs.Outs.{HasOut}
use Rattle.broker_groups.proofs.Outs.{gathered}
use Rattle.broker_groups.proofs.place.BrokerPlace.gather.Goals as goal

pub returns-clause-out : goal.returns-clause-out
returns-clause-out g c =
    subst (λ (p : PlaceState). KeepsOut HasOut p c.gather.new.place) c.self.view_is
    (gathered g.B.Seen.LedgerWitness.saw_ledger c.self.inside.place c.gather.new.place c.gather.result c.gather.ensures.answer)
