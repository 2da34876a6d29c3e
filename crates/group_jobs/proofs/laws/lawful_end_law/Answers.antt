-- The state of all lists, which the places' numbers and orders make lawful.
use Rattle.group_jobs.proofs.Ended.{end, ends_in, lawful}
use Rattle.group_jobs.proofs.laws.lawful_end_law.Goals as goal

pub returns : goal.returns
returns c = λ accounts report adds orderly. (end accounts report adds orderly, ends_in accounts report adds orderly, lawful accounts report adds orderly)
