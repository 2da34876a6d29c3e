-- The oldest message is out at the place, and then the others.
use Rattle.std.proofs.Common.{rules}
use Rattle.conn_supply.specs.Holding.{messages}
use Rattle.conn_supply.proofs.Holding.{oldest_out, oldest_spent}
use Rattle.conn_engine.proofs.ending.+give_back.Goals as goal

pub give_back-requires : goal.give_back-requires
give_back-requires g t c =
    let taken = c.in-Some.ensures.taken in
    oldest_out g.P.HoldingPlace.has_out c.args.place.now c.args.window.now (c.in-Some.identifier, c.in-Some.envelope) taken.0 taken.1 c.requires.out

pub give_back-requires-in-Ok : goal.give_back-requires-in-Ok
give_back-requires-in-Ok g t c κs within =
    let taken = c.in-Some.ensures.taken in
    let out : g.P.HoldingPlace.has_out c.give_back.new.place (messages c.take_first.new.self) =
    oldest_spent g.P.HoldingPlace.has_out c.args.place.now c.give_back.new.place c.args.window.now c.take_first.new.self (c.in-Some.identifier, c.in-Some.envelope) taken.0 taken.1 taken.2
    (rw c.in-Ok.is at c.give_back.ensures.out) c.requires.out in
    search (rules, out)
