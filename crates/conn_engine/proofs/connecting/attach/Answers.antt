-- A session that the client had.
use Rattle.std.proofs.Common.{sym}
use Rattle.conn_engine.proofs.Resuming.{resumed}
use Rattle.conn_engine.proofs.connecting.attach.Goals as goal

pub returns-in-Ok-Resumed-clause-answered : goal.returns-in-Ok-Resumed-clause-answered
returns-in-Ok-Resumed-clause-answered g c =
    resumed g.S.Supply.call c.args.supply.now c.attach.new.self c.resume.new.supply c.args.number c.args.now c.args.request c.args.ticks c.in-Ok-Resumed.session
    c.resume.result.0 c.resume.result.1 (rw (sym c.in-Ok-Resumed.field-0-is) c.in-Ok-Resumed.ensures.called) c.resume.ensures.answered
