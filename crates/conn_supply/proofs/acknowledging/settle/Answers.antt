-- The message that is acknowledged is out at the place.
use Rattle.std.proofs.Common.{rules}
use Rattle.conn_supply.proofs.Holding.{acked_out, acked_spent}
use Rattle.conn_supply.proofs.acknowledging.settle.Goals as goal

pub settle-requires : goal.settle-requires
settle-requires g c =
    let found = rw c.in-Some.is at c.ack.ensures.acked in
    acked_out g.P.HoldingPlace.has_out c.args.place.now c.args.window.now c.ack.new.self c.get.result c.in-Some.envelope c.ack.ensures.sound found c.requires.out

pub returns-in-Some-clause-out : goal.returns-in-Some-clause-out
returns-in-Some-clause-out g c =
    acked_spent g.P.HoldingPlace.has_out c.args.place.now c.settle.new.place c.args.window.now c.ack.new.self c.get.result c.in-Some.envelope c.ack.ensures.sound
    (search rules) c.settle.ensures.out c.requires.out
