-- One step.
use Rattle.std.proofs.Common.{List, ◌<◌, ◌++◌, length, sym, ap, subst, ◌∙◌}
use Rattle.mqtt_packet.specs.declared.packet.Packet.{Packet}
use Rattle.conn_service.specs.Services.{bytes_of, write_room}
use Rattle.conn_laws.proofs.Ended.{ends_by}
use Rattle.client_table.specs.Clients.{moment_of}
use Rattle.conn_service.specs.Services.{ServiceState}
use Rattle.conn_service.proofs.Emptied.{still_some}
use Rattle.conn_service.proofs.Counting.{none_in}
use Rattle.conn_service.proofs.OneStep.{takes_nothing, stepped, lost, failed}
use Rattle.conn_service.proofs.service.Service.step.Goals as goal

pub returns-in-Ok-put_down-clause-led : goal.returns-in-Ok-put_down-clause-led
returns-in-Ok-put_down-clause-led g c is_open visits =
    stepped g.S.Supply.call g.S.Supply.begins g.S.Supply.ends g.S.Supply.visiting g.P.Place.slot_of g.T.Transport.counts g.T.Transport.given g.T.Transport.accepted _ c.args.now c.args.input
    c.step_by.new.packets.items c.in-Ok._next c.args.self.now _ c.step_by.new.self c.put_down.new.outgoing c.in-Ok-put_down.since c.ticked_at-self-inside.result c.args.supply.now
    c.step_by.new.supply is_open (none_in c.args.now c.args.input c.requires.no_packet) visits c.self.view_is c.requires.due (takes_nothing c.args.input _ _ c.requires.no_packet c.step_by.ensures.unread) c.in-Ok.ensures.stepped
    (c.in-Ok-put_down.ensures.put ∙ ap (λ (p : List Packet). c.self.inside.outgoing ++ bytes_of p) c.deref.ensures.value) c.in-Ok-put_down.ensures.since
    c.ticked_at-self-inside.ensures

pub returns-in-Err-put_down-clause-led : goal.returns-in-Err-put_down-clause-led
returns-in-Err-put_down-clause-led g c is_open visits =
    lost g.S.Supply.call g.S.Supply.begins g.S.Supply.ends g.S.Supply.visiting g.P.Place.slot_of g.T.Transport.counts g.T.Transport.given g.T.Transport.accepted _ c.args.now c.args.input
    c.step_by.new.packets.items c.in-Ok._next c.args.self.now _ c.step_by.new.self c.put_down.new.outgoing c.ticked_at-self-inside.result c.args.supply.now
    c.step_by.new.supply is_open (none_in c.args.now c.args.input c.requires.no_packet) visits c.self.view_is c.requires.due (takes_nothing c.args.input _ _ c.requires.no_packet c.step_by.ensures.unread) c.in-Ok.ensures.stepped
    c.in-Err-put_down.ensures.kept
    (subst (λ (p : List Packet). write_room < length (c.self.inside.outgoing ++ bytes_of p)) c.deref.ensures.value c.in-Err-put_down.ensures.full) c.ticked_at-self-inside.ensures

pub returns-in-Err-clause-led : goal.returns-in-Err-clause-led
returns-in-Err-clause-led g c is_open visits =
    failed g.S.Supply.call g.S.Supply.begins g.S.Supply.ends g.S.Supply.visiting g.P.Place.slot_of g.T.Transport.counts g.T.Transport.given g.T.Transport.accepted _ c.args.now c.args.input
    c.args.self.now _ c.step_by.new.self c.ticked_at-self-inside.result c.args.supply.now c.step_by.new.supply is_open (none_in c.args.now c.args.input c.requires.no_packet) visits c.self.view_is c.requires.due
    (takes_nothing c.args.input _ _ c.requires.no_packet c.step_by.ensures.unread) c.in-Err.ensures.stepped.1 c.ticked_at-self-inside.ensures

pub returns-in-Ok-put_down-clause-last : goal.returns-in-Ok-put_down-clause-last
returns-in-Ok-put_down-clause-last g c last =
    ends_by g.S.Supply.call g.P.Place.slot_of c.args.supply.now c.step_by.new.supply c.self.inside.client.conn.number (moment_of c.self.inside.client c.args.now)
    c.self.inside.client.conn.phase c.step_by.new.self.conn.phase c.args.input c.step_by.new.packets.items c.in-Ok._next c.in-Ok.ensures.stepped.stepped last

pub returns-in-Ok-put_down-clause-waits : goal.returns-in-Ok-put_down-clause-waits
returns-in-Ok-put_down-clause-waits g c some =
    still_some c.self.inside.outgoing c.put_down.new.outgoing _ c.in-Ok-put_down.ensures.put
    (λ none. some (sym (ap (λ (s : ServiceState g.row.P.Denot g.row.T.Denot). s.outgoing) c.self.view_is) ∙ none))
