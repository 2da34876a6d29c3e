-- One write.
use Rattle.std.proofs.Common.{arith}
use Rattle.conn_service.proofs.AtEdge.{wrote, idled, write_failed}
use Rattle.conn_service.proofs.service.Service.write_once.Goals as goal

pub returns-in-Wrote : goal.returns-in-Wrote
returns-in-Wrote g c =
    wrote g.T.Transport.counts g.T.Transport.given g.T.Transport.accepted c.args.now c.in-Wrote.count c.args.self.now _ c.write-put.new.self c.bytes-bytes.result.now c.take_front.new.self
    c.self.view_is c.requires.going c.requires.waits c.bytes-bytes.ensures c.take_front.ensures c.in-Wrote.ensures.within c.in-Wrote.ensures.counts c.in-Wrote.ensures.given
    c.in-Wrote.ensures.accepted

pub returns-in-Idle : goal.returns-in-Idle
returns-in-Idle g c =
    rw c.in-Idle.is
    (idled g.T.Transport.counts g.T.Transport.given g.T.Transport.accepted c.args.now _ c.args.self.now _ c.write-put.new.self c.self.view_is c.requires.going c.requires.waits
    (omega (arith, c.min-self-inside.ensures, c.saturating_add.ensures)) c.in-Idle.ensures.counts c.in-Idle.ensures.given c.in-Idle.ensures.accepted)

pub returns-in-Failed : goal.returns-in-Failed
returns-in-Failed g c =
    rw c.in-Failed.is
    (write_failed g.T.Transport.counts g.T.Transport.given g.T.Transport.accepted c.args.now c.args.self.now _ c.write-put.new.self c.self.view_is c.requires.going c.requires.waits
    c.in-Failed.ensures.counts c.in-Failed.ensures.given c.in-Failed.ensures.accepted)
