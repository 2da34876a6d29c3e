use Rattle.local_broker.proofs.Happened.{running_all, running_first}
use Rattle.local_broker.proofs.laws.running_law.Goals as goal

pub returns : goal.returns
returns c capacity shares happenings first b new all = running_all happenings first b (running_first capacity shares first new) all
