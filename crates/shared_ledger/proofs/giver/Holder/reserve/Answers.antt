-- Room for so many runs of each fate is so much of the least.
use Rattle.std.proofs.Common.{◌≤◌, ℕ, OnOk, arith}
use Rattle.std.specs.Prelude.{Result, Ok, Err}
use Rattle.group_jobs.specs.declared.error.JobError.{JobError}
use Rattle.group_jobs.specs.declared.fate.Fate.{Fate}
use Rattle.group_jobs.specs.declared.fate.Fate.TheVariants.{Acknowledged, Refused, Discarded}
use Rattle.group_jobs.specs.declared.ledger.Ledger.{Ledger}
use Rattle.group_jobs.specs.Settled.{spare_of, least_spare}
use Rattle.shared_ledger.proofs.giver.Holder.reserve.Goals as goal

least : (result : Result (Unit {0}) JobError) (count : ℕ) (ledger : Ledger) → OnOk result ((fate : Fate) → count ≤ spare_of fate ledger) → OnOk result (count ≤ least_spare ledger)
least (Ok done) count ledger each = omega (arith, each Acknowledged, each Refused, each Discarded)
least (Err error) count ledger none = tt

pub returns-clause-ok : goal.returns-clause-ok
returns-clause-ok c = least c.reserve.result c.args.count c.reserve.new.self c.reserve.ensures.ok
