use Rattle.local_broker.proofs.Happened.{closed_all, only_ends}
use Rattle.local_broker.proofs.laws.closing_law.Goals as goal

pub returns-clause-closed : goal.returns-clause-closed
returns-clause-closed c happenings old b closed all = closed_all happenings old b closed all

pub returns-clause-only_ends : goal.returns-clause-only_ends
returns-clause-only_ends c happenings old b closed all slot group there = only_ends happenings old b closed all slot group there
