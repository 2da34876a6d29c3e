use Rattle.group_queue.proofs.MainCuts.{starts}
use Rattle.group_queue.proofs.main_queue.open.Goals as goal

pub ruled-requires-clause-rule : goal.ruled-requires-clause-rule
ruled-requires-clause-rule g c = (starts, g.met.W.LawfulWitness.main.opened)
