-- What stands in front is stepped.
use Rattle.std.proofs.Common.{List, ◌<◌, ◌++◌, length, ap, subst, ◌∙◌, inr, rules, arith}
use Rattle.mqtt_packet.specs.declared.packet.Packet.{Packet}
use Rattle.conn_service.specs.Services.{ServiceState, bytes_of, write_room}
use Rattle.conn_service.proofs.Counting.{counts_one}
use Rattle.conn_service.proofs.Leading.{leads_nothing}
use Rattle.conn_service.proofs.OneStep.{stepped_front, lost_front, failed_front}
use Rattle.conn_service.proofs.Fronts.{front_goes, front_stops, ok_is}
use Rattle.conn_service.proofs.service.Service.step_front.Goals as goal

pub returns-in-Ok-None-clause-led : goal.returns-in-Ok-None-clause-led
unfolding leads_nothing
returns-in-Ok-None-clause-led g c = record {
  led = leads_nothing g.S.Supply.call g.S.Supply.begins g.S.Supply.ends g.S.Supply.visiting g.P.Place.slot_of g.T.Transport.counts g.T.Transport.given g.T.Transport.accepted c.args.self.now _ c.args.supply.now c.step_front.new.supply
      (search rules) (search rules);
  told = (omega arith, omega arith);
}

pub returns-in-Ok-clause-led : goal.returns-in-Ok-clause-led
returns-in-Ok-clause-led g c =
    stepped_front g.S.Supply.call g.S.Supply.begins g.S.Supply.ends g.S.Supply.visiting g.P.Place.slot_of g.T.Transport.counts g.T.Transport.given g.T.Transport.accepted _ c.args.now
    c.step_front.new.packets.items c.in-Ok-Some.next c.args.self.now _ c.step_front.new.self c.put_down.new.outgoing c.in-Ok.since c.args.supply.now
    c.step_front.new.supply (λ input front. counts_one c.args.now input _ _ c.args.left.now c.requires.some_left front) c.self.view_is c.requires.going c.requires.not_over c.requires.visiting c.requires.room (rw c.in-Ok-Some.field-0-is at c.in-Ok-Some.ensures.stepped)
    (c.in-Ok.ensures.put ∙ ap (λ (p : List Packet). c.self.inside.outgoing ++ bytes_of p) c.deref.ensures.value) c.in-Ok.ensures.since

pub returns-in-Ok-clause-goes_on : goal.returns-in-Ok-clause-goes_on
returns-in-Ok-clause-goes_on g c goes =
    front_goes g.S.Supply.call g.P.Place.slot_of c.args.now c.step_front.new.packets.items c.in-Ok-Some.next c.args.self.now.client c.self.inside.client c.step_front.new.self
    c.args.supply.now c.step_front.new.supply (ap (λ (s : ServiceState g.row.P.Denot g.row.T.Denot). s.client) c.self.view_is) (rw c.in-Ok-Some.field-0-is at c.in-Ok-Some.ensures.stepped)
    (c.goes_on.ensures.yes (ok_is goes))

pub returns-in-Ok-clause-all : goal.returns-in-Ok-clause-all
returns-in-Ok-clause-all g c stops =
    inr (front_stops g.S.Supply.call g.P.Place.slot_of c.args.now c.step_front.new.packets.items c.in-Ok-Some.next c.self.inside.client c.step_front.new.self
    c.args.supply.now c.step_front.new.supply (rw c.in-Ok-Some.field-0-is at c.in-Ok-Some.ensures.stepped) (c.goes_on.ensures.no (ok_is stops)))

pub returns-in-Err-put_down-clause-led : goal.returns-in-Err-put_down-clause-led
returns-in-Err-put_down-clause-led g c =
    lost_front g.S.Supply.call g.S.Supply.begins g.S.Supply.ends g.S.Supply.visiting g.P.Place.slot_of g.T.Transport.counts g.T.Transport.given g.T.Transport.accepted _ c.args.now
    c.step_front.new.packets.items c.in-Ok-Some.next c.args.self.now _ c.step_front.new.self c.put_down.new.outgoing c.args.supply.now
    c.step_front.new.supply (λ input front. ((counts_one c.args.now input _ _ c.args.left.now c.requires.some_left front).0, tt)) c.self.view_is c.requires.going c.requires.not_over c.requires.visiting c.requires.room (rw c.in-Ok-Some.field-0-is at c.in-Ok-Some.ensures.stepped)
    c.in-Err-put_down.ensures.kept
    (subst (λ (p : List Packet). write_room < length (c.self.inside.outgoing ++ bytes_of p)) c.deref.ensures.value c.in-Err-put_down.ensures.full)

pub returns-in-Err-clause-led : goal.returns-in-Err-clause-led
returns-in-Err-clause-led g c =
    failed_front g.S.Supply.call g.S.Supply.begins g.S.Supply.ends g.S.Supply.visiting g.P.Place.slot_of g.T.Transport.counts g.T.Transport.given g.T.Transport.accepted _ c.args.now
    c.args.self.now _ c.step_front.new.self c.args.supply.now c.step_front.new.supply (omega arith, tt)
    (λ input front. ((counts_one c.args.now input _ _ c.args.left.now c.requires.some_left front).0, tt)) c.self.view_is c.requires.going c.requires.not_over c.requires.visiting c.requires.room
    c.in-Err.ensures.stepped.1
