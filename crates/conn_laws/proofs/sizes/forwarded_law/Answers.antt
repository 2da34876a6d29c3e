-- A message is handed on in no more bytes than it came in.
use Rattle.conn_laws.proofs.Forwarding as forwarding
use Rattle.conn_laws.proofs.sizes.forwarded_law.Goals as goal

pub returns-clause-no_longer : goal.returns-clause-no_longer
returns-clause-no_longer c publish bytes dup identifier spelled some = forwarding.no_longer publish bytes dup identifier spelled some

pub returns-clause-light : goal.returns-clause-light
returns-clause-light c publish bytes spelled = forwarding.light publish bytes spelled

pub returns-clause-taken : goal.returns-clause-taken
returns-clause-taken c publish bytes dup subscription identifier spelled some = forwarding.taken publish bytes dup subscription identifier spelled some
