-- One read.
use Rattle.std.proofs.Common.{length, take, [], refl, rules}
use Rattle.conn_service.proofs.AtEdge.{none, ended, read_failed, starves}
use Rattle.conn_service.proofs.service.Service.read_once.Goals as goal

pub returns-in-Err-clause-read : goal.returns-in-Err-clause-read
returns-in-Err-clause-read g c = (
  (λ now. starves g.T.Transport.counts g.T.Transport.given g.T.Transport.accepted c.in-Bytes.count c.args.self.now _ c.feed.new.self c.read-got.new.self (take c.in-Bytes.count c.read-got.new.buffer)
      c.self.view_is c.requires.may c.in-Err.ensures.unchanged (search rules) c.in-Bytes.ensures.counts c.in-Bytes.ensures.given c.in-Bytes.ensures.accepted),
  refl,
)

pub returns-in-Failed-clause-read : goal.returns-in-Failed-clause-read
returns-in-Failed-clause-read g c = (
  (λ now. read_failed g.T.Transport.counts g.T.Transport.given g.T.Transport.accepted (length c.args.buffer.now) c.args.self.now _ c.read-got.new.self c.self.view_is c.requires.may
      c.in-Failed.ensures.counts c.in-Failed.ensures.given c.in-Failed.ensures.accepted),
  refl,
)

pub returns-in-Idle-clause-read : goal.returns-in-Idle-clause-read
returns-in-Idle-clause-read g c =
    rw c.in-Idle.is (
      [],
      none g.T.Transport.counts g.T.Transport.given g.T.Transport.accepted _ c.args.self.now _ c.read-got.new.self c.self.view_is c.requires.may c.in-Idle.ensures.counts
          c.in-Idle.ensures.given c.in-Idle.ensures.accepted,
    )

pub returns-in-End-clause-read : goal.returns-in-End-clause-read
returns-in-End-clause-read g c =
    rw c.in-End.is (
      [],
      ended g.T.Transport.counts g.T.Transport.given g.T.Transport.accepted _ c.args.self.now _ c.read-got.new.self c.self.view_is c.requires.may c.in-End.ensures.counts
          c.in-End.ensures.given c.in-End.ensures.accepted,
    )
