use Rattle.group_queue.proofs.ReturnsSteps.{starts_back}
use Rattle.group_queue.proofs.returns_queue.open.Goals as goal

pub with_rule-requires : goal.with_rule-requires
with_rule-requires g c = (starts_back, g.met.W.LawfulWitness.returns.opened)
