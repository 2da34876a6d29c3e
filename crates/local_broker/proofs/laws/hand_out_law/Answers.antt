use Rattle.local_broker.proofs.HandedOut.{handed_all}
use Rattle.local_broker.proofs.laws.hand_out_law.Goals as goal

pub returns : goal.returns
returns c capacity shares happenings first b new all slot group there = handed_all capacity shares happenings first b new all slot group there
