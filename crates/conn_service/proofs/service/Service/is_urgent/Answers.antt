-- Where it is overdue, nothing is asked; else the supply is asked once.
use Rattle.std.proofs.Common.{refl, subst}
use Rattle.conn_supply.specs.SupplyCalls.SupplyCall.{Kicked}
use Rattle.conn_service.specs.Services.{ServiceState}
use Rattle.conn_service.specs.Acts.{Asks}
use Rattle.conn_service.proofs.Leading.{leads_nothing, leads_one}
use Rattle.conn_service.proofs.service.Service.is_urgent.Goals as goal

pub returns-then-is_overdue-clause-led : goal.returns-then-is_overdue-clause-led
unfolding leads_nothing
returns-then-is_overdue-clause-led g c = record {
  led = leads_nothing g.S.Supply.call g.S.Supply.begins g.S.Supply.ends g.S.Supply.visiting g.P.Place.slot_of g.T.Transport.counts g.T.Transport.given g.T.Transport.accepted c.args.self.now c.args.self.now c.args.supply.now c.args.supply.now refl refl;
  told = refl;
}

pub returns-clause-led : goal.returns-clause-led
unfolding leads_one
returns-clause-led g c = record {
  led = leads_one g.S.Supply.call g.S.Supply.begins g.S.Supply.ends g.S.Supply.visiting g.P.Place.slot_of g.T.Transport.counts g.T.Transport.given g.T.Transport.accepted (Asks c.is_kicked.result) c.args.self.now c.args.self.now
      c.args.supply.now c.is_kicked.new.supply
      (record {
        asked = subst (λ (s : ServiceState g.row.P.Denot g.row.T.Denot). g.S.Supply.call c.args.supply.now (Kicked s.client.conn.number c.is_kicked.result) c.is_kicked.new.supply) c.self.view_is c.is_kicked.ensures.called;
        same = refl;
      }) (refl, refl);
  told = refl;
}
