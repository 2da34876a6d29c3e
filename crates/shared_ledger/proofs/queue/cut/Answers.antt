use Rattle.shared_ledger.proofs.Witnessed.{cuts_seen}
use Rattle.shared_ledger.proofs.queue.cut.Goals as goal

pub another-requires-clause-rule : goal.another-requires-clause-rule
another-requires-clause-rule g c = cuts_seen g.W.LedgerWitness.saw_ledger _ _ c.requires.parts g.met.W.LawfulLedgerWitness.ledger
