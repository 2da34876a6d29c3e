-- A lawful witness follows each pass.
use Rattle.shared_ledger.proofs.shared.SharedLedger.put_back.Goals as goal

pub put_back-requires-clause-follows : goal.put_back-requires-clause-follows
put_back-requires-clause-follows g c = g.met.W.LawfulLedgerWitness.ledger.givers _
