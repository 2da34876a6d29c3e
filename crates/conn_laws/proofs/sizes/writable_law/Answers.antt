-- A short packet is written.
use Rattle.conn_laws.proofs.Lengths as lengths
use Rattle.conn_laws.proofs.sizes.writable_law.Goals as goal

pub returns-clause-said : goal.returns-clause-said
returns-clause-said c packet short = lengths.said packet short

pub returns-clause-size : goal.returns-clause-size
returns-clause-size c packet short = lengths.sized packet short
