-- It is stalled, and given up.
use Rattle.std.proofs.Common.{inr, arith}
use Rattle.conn_service.proofs.AtEdge.{stalled}
use Rattle.conn_service.proofs.Counting.{none_at_edge, none_both}
use Rattle.conn_service.proofs.Leading.{leads_on, leads_at_edge, leads_from_behind}
use Rattle.conn_service.proofs.Rounds.{edge_then}
use Rattle.conn_service.proofs.service.Service.stall.Goals as goal

pub returns-clause-led : goal.returns-clause-led
unfolding leads_from_behind edge_then leads_on leads_at_edge
returns-clause-led g c =
    let stalls = stalled g.T.Transport.counts g.T.Transport.given g.T.Transport.accepted c.args.now c.args.self.now _ c.self.view_is c.requires.going c.requires.waits
    (omega (arith, c.requires.refused)) (inr c.requires.refused) in
    record {
      led = leads_from_behind g.S.Supply.call g.S.Supply.begins g.S.Supply.ends g.S.Supply.visiting g.P.Place.slot_of g.T.Transport.counts g.T.Transport.given g.T.Transport.accepted c.args.self.now c.give_up.new.self c.args.supply.now c.give_up.new.supply
          (edge_then g.S.Supply.call g.S.Supply.begins g.S.Supply.ends g.S.Supply.visiting g.P.Place.slot_of g.T.Transport.counts g.T.Transport.given g.T.Transport.accepted c.args.self.now
          _ c.give_up.new.self c.args.supply.now c.give_up.new.supply stalls c.give_up.ensures.led.led);
      told = none_both stalls.acts c.give_up.ensures.led.led.acts (none_at_edge g.T.Transport.counts g.T.Transport.given g.T.Transport.accepted stalls.acts c.args.self.now _ stalls.does)
          c.give_up.ensures.led.told;
    }
