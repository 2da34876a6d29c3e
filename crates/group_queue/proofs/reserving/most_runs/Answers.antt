-- The longest of the lists is as long as each.
use Rattle.std.proofs.Common.{◌≤◌, ℕ, length, rules}
use Rattle.group_jobs.specs.declared.fate.Fate.{Fate}
use Rattle.group_jobs.specs.declared.fate.Fate.TheVariants.{Acknowledged, Refused, Discarded}
use Rattle.group_jobs.specs.declared.ledger.Ledger.{Ledger}
use Rattle.group_jobs.specs.Settled.{runs_of}
use Rattle.group_queue.proofs.reserving.most_runs.Goals as goal

each : (ledger : Ledger) (most : ℕ) → length (runs_of Acknowledged ledger) ≤ most → length (runs_of Refused ledger) ≤ most → length (runs_of Discarded ledger) ≤ most → (fate : Fate) → length (runs_of fate ledger) ≤ most
each ledger most a r d Acknowledged = a
each ledger most a r d Refused = r
each ledger most a r d Discarded = d

pub returns-clause-each : goal.returns-clause-each
returns-clause-each g c = each c.args.place.now.docket.settled _ (search rules) (search rules) (search rules)
