-- One more is retired.
use Rattle.std.proofs.Common.{arith, rules}
use Rattle.conn_engine.proofs.Sweeping.{one_and_more, one_alone}
use Rattle.conn_engine.proofs.ending.+retire_most.Goals as goal

pub returns-then-retire-clause-swept : goal.returns-then-retire-clause-swept
returns-then-retire-clause-swept g t c =
    one_and_more g.S.Supply.call c.args.supply.now c.sweep.new.self c.retire.new.supply c.retire_most.new.supply c.in-Some.session c.args.now c.args.most
    c.retire.result (grind arith) c.in-Some.ensures.called c.retire.ensures.retired (search rules) c.retire_most.ensures.swept

pub returns-else-retire-clause-swept : goal.returns-else-retire-clause-swept
returns-else-retire-clause-swept g t c =
    one_alone g.S.Supply.call c.args.supply.now c.sweep.new.self c.retire.new.supply c.in-Some.session c.args.now c.args.most
    c.retire.result (grind arith) c.in-Some.ensures.called c.retire.ensures.retired (search rules)
