-- One connection more.
use Rattle.std.proofs.Common.{rules}
use Rattle.local_server.proofs.Closing.{more_ended, all_ended}
use Rattle.local_server.proofs.server.close.Goals as goal

pub numbers-preserved : goal.numbers-preserved
numbers-preserved c =
    let told = c.closing.ensures.closed in
    more_ended c.numbers.number c.close.new.self c.numbers.supply c.closing.new.supply c.args.clients.now c.numbers.clients c.closing.new.self c.args.now
    c.args.outputs.now.items c.numbers.outputs.items c.closing.new.outputs.items told.0 c.numbers.ended c.closing.result c.and-ended.result c.numbers.invariant told.1 told.2 c.and-ended.ensures

pub returns : goal.returns
returns c =
    all_ended c.numbers.number c.args.supply.now c.close.new.self c.numbers.supply c.args.clients.now c.numbers.clients c.args.now c.args.outputs.now.items c.numbers.outputs.items
    c.numbers.ended c.close.ensures.closes (search rules) c.numbers.invariant
