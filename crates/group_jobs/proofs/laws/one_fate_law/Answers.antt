-- The balances of all places, added up.
use Rattle.group_jobs.proofs.Sums.{one_fate}
use Rattle.group_jobs.proofs.laws.one_fate_law.Goals as goal

pub returns : goal.returns
returns c = one_fate
