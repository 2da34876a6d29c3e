-- Nothing is known but what the type says.
use Rattle.std.specs.Prelude.{⊤}
use Rattle.threaded_broker.proofs.closing.close.Given as goal

abbrev pub invariant-looks : goal.invariant-looks
invariant-looks g l = ⊤
