-- Nothing is out at either place.
use Rattle.std.proofs.Common.{[]}
use Rattle.broker_groups.specs.Outs.{HasOut}
use Rattle.supply_tests.proofs.one_thread.gathering.turns.Given as goal

abbrev pub invariant-turns : goal.invariant-turns
invariant-turns g l = HasOut l.near [] × HasOut l.far []
