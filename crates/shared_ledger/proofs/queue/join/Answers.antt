use Rattle.shared_ledger.proofs.Witnessed.{joins_seen}
use Rattle.shared_ledger.proofs.queue.join.Goals as goal

pub absorb-requires-clause-rule : goal.absorb-requires-clause-rule
absorb-requires-clause-rule g c = joins_seen g.W.LedgerWitness.saw_ledger _ _ _ _ c.requires.parts g.met.W.LawfulLedgerWitness.ledger
