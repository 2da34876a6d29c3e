-- How it ends.
use Rattle.std.proofs.Common.{rules, arith}
use Rattle.conn_service.proofs.AtEdge.{stalled_by, over}
use Rattle.conn_service.proofs.service.Service.conclude.Goals as goal

pub returns-then-over-clause-led : goal.returns-then-over-clause-led
returns-then-over-clause-led g c =
    over g.T.Transport.counts g.T.Transport.given g.T.Transport.accepted c.args.self.now _ c.self.view_is c.requires.going (search rules) (search rules)

pub returns-then-saturating_sub-patience-clause-led : goal.returns-then-saturating_sub-patience-clause-led
returns-then-saturating_sub-patience-clause-led g c =
    stalled_by g.T.Transport.counts g.T.Transport.given g.T.Transport.accepted c.args.now c.patience.result c.has_ended-over.result c.args.self.now _ c.self.view_is c.requires.going
    (search rules) c.has_ended-over.ensures c.patience.ensures (omega arith) (omega arith)
