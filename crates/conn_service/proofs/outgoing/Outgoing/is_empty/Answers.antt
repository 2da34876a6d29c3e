-- None is left where all are written.
use Rattle.std.proofs.Common.{rules}
use Rattle.conn_service.proofs.Emptied.{is_empty}
use Rattle.conn_service.proofs.outgoing.Outgoing.is_empty.Goals as goal

pub returns : goal.returns
returns c = is_empty c.self.inside.written c.len.result c.self.inside.buffer.items c.args.self.now c.self.invariant.within (search rules) c.self.view_is
