-- One message more.
use Rattle.std.proofs.Common.{rules}
use Rattle.conn_supply.proofs.Fresh.{one_more_taken}
use Rattle.conn_supply.proofs.hand_outs.+send_fresh.Goals as goal

pub returns-in-Err-clause-kept : goal.returns-in-Err-clause-kept
returns-in-Err-clause-kept g t c =
    let rest = c.in-Err.ensures.kept in
    one_more_taken g.S.Supply.call c.args.terms.now c.args.supply.now c.next_fresh.new.supply c.send_fresh.new.supply c.args.place.now c.next_fresh.new.place c.send_fresh.new.place
    c.args.window.now c.next_fresh.new.window c.send_fresh.new.window c.in-Some.packet rest.0 (search rules) rest.1
