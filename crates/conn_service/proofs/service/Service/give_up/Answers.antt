-- A connection is given up.
use Rattle.std.proofs.Common.{refl, rules, sym}
use Rattle.conn_service.proofs.Leading.{leads_nothing}
use Rattle.conn_service.proofs.OneStep.{abandoned, given_up_by}
use Rattle.conn_service.proofs.service.Service.give_up.Goals as goal

pub returns-then-has_ended-clause-led : goal.returns-then-has_ended-clause-led
unfolding leads_nothing
returns-then-has_ended-clause-led g c = record {
  led = leads_nothing g.S.Supply.call g.S.Supply.begins g.S.Supply.ends g.S.Supply.visiting g.P.Place.slot_of g.T.Transport.counts g.T.Transport.given g.T.Transport.accepted c.args.self.now c.args.self.now c.args.supply.now c.args.supply.now refl refl;
  told = refl;
}

pub returns-clause-led : goal.returns-clause-led
returns-clause-led g c =
    abandoned g.S.Supply.call g.S.Supply.begins g.S.Supply.ends g.S.Supply.visiting g.P.Place.slot_of g.T.Transport.counts g.T.Transport.given g.T.Transport.accepted c.args.now
    c.begin-open.result c.args.self.now _ c.step_by-said.new.self c.args.supply.now c.begin-open.new.self c.step_by-said.new.supply c.end.new.self c.self.view_is c.requires.ended
    (search rules) c.begin-open.ensures.begun (sym c.begin-open.ensures.told)
    (given_up_by g.S.Supply.call g.S.Supply.begins g.S.Supply.ends g.S.Supply.visiting g.P.Place.slot_of g.T.Transport.counts g.T.Transport.given g.T.Transport.accepted c.step_by-said.result c.args.now
    c.step_by-said.new.packets.items c.self.inside.client c.step_by-said.new.self c.begin-open.new.self c.step_by-said.new.supply c.step_by-said.ensures.stepped)
    c.end.ensures
