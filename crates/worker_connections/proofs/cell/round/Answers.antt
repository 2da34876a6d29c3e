-- What a round tells of the connection, and what it leaves in the cell.
use Rattle.std.proofs.Common.{Some, ap, ◌∙◌}
use Rattle.conn_service.specs.Services.{ServiceState}
use Rattle.worker_connections.proofs.Turning.{follows, turns}
use Rattle.worker_connections.proofs.cell.round.Goals as goal

pub returns-in-Ended-clause-turns : goal.returns-in-Ended-clause-turns
returns-in-Ended-clause-turns g c =
    turns g.S.Supply.call g.S.Supply.begins g.S.Supply.ends g.S.Supply.visiting g.P.Place.slot_of g.T.Transport.counts g.T.Transport.given g.T.Transport.accepted c.args.now
    c.args.cell.now c.into_service-service.result c.round-round.new.self c.args.supply.now c.round-round.new.supply _ _ (cc) c.round-round.ensures.led.made
    (c.in-Ended.ensures.told, c.end.ensures ∙ ap (λ (s : ServiceState g.row.P.Denot g.row.T.Denot). s.transport) c.note.ensures, c.take.ensures.after)

pub returns-in-More-clause-turns : goal.returns-in-More-clause-turns
returns-in-More-clause-turns g c =
    turns g.S.Supply.call g.S.Supply.begins g.S.Supply.ends g.S.Supply.visiting g.P.Place.slot_of g.T.Transport.counts g.T.Transport.given g.T.Transport.accepted c.args.now
    c.args.cell.now c.into_service-service.result c.round-round.new.self c.args.supply.now c.round-round.new.supply _ _ (cc) c.round-round.ensures.led.made
    (c.in-More.ensures.told, c.put.ensures ∙ ap Some c.note.ensures)

pub returns-in-Reading-clause-turns : goal.returns-in-Reading-clause-turns
returns-in-Reading-clause-turns g c =
    turns g.S.Supply.call g.S.Supply.begins g.S.Supply.ends g.S.Supply.visiting g.P.Place.slot_of g.T.Transport.counts g.T.Transport.given g.T.Transport.accepted c.args.now
    c.args.cell.now c.into_service-service.result c.round-round.new.self c.args.supply.now c.round-round.new.supply _ _ (cc) c.round-round.ensures.led.made
    (c.in-Reading.ensures.told, c.put-in-Reading.ensures ∙ ap Some c.note.ensures)

pub returns-in-Writing-clause-turns : goal.returns-in-Writing-clause-turns
returns-in-Writing-clause-turns g c =
    turns g.S.Supply.call g.S.Supply.begins g.S.Supply.ends g.S.Supply.visiting g.P.Place.slot_of g.T.Transport.counts g.T.Transport.given g.T.Transport.accepted c.args.now
    c.args.cell.now c.into_service-service.result c.round-round.new.self c.args.supply.now c.round-round.new.supply _ _ (cc) c.round-round.ensures.led.made
    (c.in-Writing.ensures.told, c.put-in-Writing.ensures ∙ ap Some c.note.ensures)

pub returns-in-Waiting-clause-turns : goal.returns-in-Waiting-clause-turns
returns-in-Waiting-clause-turns g c =
    turns g.S.Supply.call g.S.Supply.begins g.S.Supply.ends g.S.Supply.visiting g.P.Place.slot_of g.T.Transport.counts g.T.Transport.given g.T.Transport.accepted c.args.now
    c.args.cell.now c.into_service-service.result c.round-round.new.self c.args.supply.now c.round-round.new.supply _ _ (cc) c.round-round.ensures.led.made
    (c.in-Waiting.ensures.told, c.put-in-Waiting.ensures ∙ ap Some c.note.ensures)

pub returns-in-Ended-clause-way : goal.returns-in-Ended-clause-way
returns-in-Ended-clause-way g c =
    follows g.T.Transport.given g.T.Transport.accepted c.args.direction c.args.now c.args.cell.now c.into_service-service.result c.round-round.new.self _ _ (cc) c.round-round.ensures.way
    (c.in-Ended.ensures.told, c.end.ensures ∙ ap (λ (s : ServiceState g.row.P.Denot g.row.T.Denot). s.transport) c.note.ensures, c.take.ensures.after)

pub returns-in-More-clause-way : goal.returns-in-More-clause-way
returns-in-More-clause-way g c =
    follows g.T.Transport.given g.T.Transport.accepted c.args.direction c.args.now c.args.cell.now c.into_service-service.result c.round-round.new.self _ _ (cc) c.round-round.ensures.way
    (c.in-More.ensures.told, c.put.ensures ∙ ap Some c.note.ensures)

pub returns-in-Reading-clause-way : goal.returns-in-Reading-clause-way
returns-in-Reading-clause-way g c =
    follows g.T.Transport.given g.T.Transport.accepted c.args.direction c.args.now c.args.cell.now c.into_service-service.result c.round-round.new.self _ _ (cc) c.round-round.ensures.way
    (c.in-Reading.ensures.told, c.put-in-Reading.ensures ∙ ap Some c.note.ensures)

pub returns-in-Writing-clause-way : goal.returns-in-Writing-clause-way
returns-in-Writing-clause-way g c =
    follows g.T.Transport.given g.T.Transport.accepted c.args.direction c.args.now c.args.cell.now c.into_service-service.result c.round-round.new.self _ _ (cc) c.round-round.ensures.way
    (c.in-Writing.ensures.told, c.put-in-Writing.ensures ∙ ap Some c.note.ensures)

pub returns-in-Waiting-clause-way : goal.returns-in-Waiting-clause-way
returns-in-Waiting-clause-way g c =
    follows g.T.Transport.given g.T.Transport.accepted c.args.direction c.args.now c.args.cell.now c.into_service-service.result c.round-round.new.self _ _ (cc) c.round-round.ensures.way
    (c.in-Waiting.ensures.told, c.put-in-Waiting.ensures ∙ ap Some c.note.ensures)
