-- Whole lines were written so far.
use Rattle.broker_log.specs.Lines.{HasLogged}
use Rattle.broker_log.proofs.writing.write_taken.Given as goal

abbrev pub invariant-loop : goal.invariant-loop
invariant-loop g l = HasLogged l.log (g.W.Write.contents l.initial.errors) (g.W.Write.contents l.errors)
