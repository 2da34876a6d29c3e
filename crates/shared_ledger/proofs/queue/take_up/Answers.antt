use Rattle.shared_ledger.proofs.Witnessed.{takes_seen, learns_seen}
use Rattle.shared_ledger.proofs.queue.take_up.Goals as goal

pub pop_as-requires-clause-rule : goal.pop_as-requires-clause-rule
pop_as-requires-clause-rule g c = (takes_seen g.W.LedgerWitness.saw_ledger _ _ c.requires.hand c.requires.follows, learns_seen g.W.LedgerWitness.saw_ledger _ _)
