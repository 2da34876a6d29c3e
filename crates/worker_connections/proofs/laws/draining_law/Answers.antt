-- By each deed.
use Rattle.worker_connections.proofs.Draining.{accepts_nothing, begins_none, drains_when_told, goes_on_untold, shut_without_group}
use Rattle.worker_connections.proofs.laws.draining_law.Goals as goal

pub returns-clause-accepts_nothing : goal.returns-clause-accepts_nothing
returns-clause-accepts_nothing g c deeds old new = accepts_nothing g.B.Broker.group (record { saw_ledger = g.B.Seen.LedgerWitness.saw_ledger; saw_main = g.B.Seen.Witness.saw_main; saw_returns = g.B.Seen.Witness.saw_returns }) g.T.Transport.counts g.T.Transport.given g.T.Transport.accepted deeds old new

pub returns-clause-told : goal.returns-clause-told
returns-clause-told g c deed old new = drains_when_told g.B.Broker.group (record { saw_ledger = g.B.Seen.LedgerWitness.saw_ledger; saw_main = g.B.Seen.Witness.saw_main; saw_returns = g.B.Seen.Witness.saw_returns }) g.T.Transport.counts g.T.Transport.given g.T.Transport.accepted deed old new

pub returns-clause-untold : goal.returns-clause-untold
returns-clause-untold g c deeds old new = goes_on_untold g.B.Broker.group (record { saw_ledger = g.B.Seen.LedgerWitness.saw_ledger; saw_main = g.B.Seen.Witness.saw_main; saw_returns = g.B.Seen.Witness.saw_returns }) g.T.Transport.counts g.T.Transport.given g.T.Transport.accepted deeds old new

pub returns-clause-refuses : goal.returns-clause-refuses
returns-clause-refuses g c old new slot message = shut_without_group g.B.Broker.group (record { saw_ledger = g.B.Seen.LedgerWitness.saw_ledger; saw_main = g.B.Seen.Witness.saw_main; saw_returns = g.B.Seen.Witness.saw_returns }) old slot message new

pub returns-clause-no_newcomer : goal.returns-clause-no_newcomer
returns-clause-no_newcomer g c old new request answer = begins_none g.B.Broker.group (record { saw_ledger = g.B.Seen.LedgerWitness.saw_ledger; saw_main = g.B.Seen.Witness.saw_main; saw_returns = g.B.Seen.Witness.saw_returns }) old new request answer
