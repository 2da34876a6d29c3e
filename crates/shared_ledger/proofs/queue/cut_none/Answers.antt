use Rattle.shared_ledger.proofs.Witnessed.{cuts_none_seen}
use Rattle.shared_ledger.proofs.queue.cut_none.Goals as goal

pub another-requires-clause-rule : goal.another-requires-clause-rule
another-requires-clause-rule g c = cuts_none_seen g.W.LedgerWitness.saw_ledger _ _ g.met.W.LawfulLedgerWitness.ledger
