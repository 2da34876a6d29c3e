use Rattle.local_group.proofs.Fates.{one_fate}
use Rattle.local_group.proofs.laws.one_fate_law.Goals as goal

pub returns : goal.returns
returns c group report lawful reports job = one_fate group report lawful reports job
