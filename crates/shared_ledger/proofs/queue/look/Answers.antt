use Rattle.shared_ledger.proofs.Witnessed.{learns_how}
use Rattle.shared_ledger.proofs.queue.look.Goals as goal

pub learn_as-requires-clause-rule : goal.learn_as-requires-clause-rule
learn_as-requires-clause-rule g c = learns_how g.W.LedgerWitness.saw_ledger _ _
