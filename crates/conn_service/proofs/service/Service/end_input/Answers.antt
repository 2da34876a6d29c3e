-- Where it has not ended, nothing is done.
use Rattle.std.proofs.Common.{refl}
use Rattle.conn_service.proofs.Leading.{leads_nothing}
use Rattle.conn_service.proofs.service.Service.end_input.Goals as goal

pub returns-clause-led : goal.returns-clause-led
unfolding leads_nothing
returns-clause-led g c = record {
  led = leads_nothing g.S.Supply.call g.S.Supply.begins g.S.Supply.ends g.S.Supply.visiting g.P.Place.slot_of g.T.Transport.counts g.T.Transport.given g.T.Transport.accepted c.args.self.now c.args.self.now c.args.supply.now c.args.supply.now refl refl;
  told = refl;
}
