use Rattle.local_broker.proofs.Outs.{taken_out, taken_out_again, stays_all}
use Rattle.local_broker.proofs.laws.holding_law.Goals as goal

pub returns-clause-taken : goal.returns-clause-taken
returns-clause-taken c old b place after envelope does = taken_out old b place after envelope does

pub returns-clause-taken_back : goal.returns-clause-taken_back
returns-clause-taken_back c old b place after envelope does = taken_out_again old b place after envelope does

pub returns-clause-stays : goal.returns-clause-stays
returns-clause-stays c happenings old b place envelope has all none = stays_all happenings old b place envelope has all none
