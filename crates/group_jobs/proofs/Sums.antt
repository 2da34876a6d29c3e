-- The balances of all places, added up.
use Rattle.std.proofs.Common.{◌≡◌, ◌+◌, List, [], ◌∷◌, refl, arith, All}
use Rattle.std.specs.Prelude.{sum_by}
use Rattle.std.proofs.lemmas.List.Elements.{All-head, All-tail}
use Rattle.std.proofs.lemmas.List.Sums.{sum_by-cons}
use Rattle.dispatch_core.specs.declared.event.Job.{Job}
use Rattle.dispatch_core.specs.JobRuns.{count_of}
use Rattle.group_jobs.specs.declared.fate.Fate.TheVariants.{Acknowledged, Refused, Discarded}
use Rattle.group_jobs.specs.declared.report.Report.{Report}
use Rattle.group_jobs.specs.Reports.{fates_of, times_accepted}
use Rattle.group_jobs.specs.Balance.{Account, Balance, AddsUp}

-- the places together are in balance
pub balance_of-all : (accounts : List Account) → All Balance accounts → (job : Job)
    → sum_by (λ a. count_of job a.firsts) accounts + sum_by (λ a. count_of job a.agains) accounts
    ≡ sum_by (λ a. a.settled Acknowledged job) accounts + sum_by (λ a. a.settled Refused job) accounts + sum_by (λ a. a.settled Discarded job) accounts
    + sum_by (λ a. count_of job a.given) accounts + sum_by (λ a. count_of job a.out) accounts
balance_of-all [] all job = refl
balance_of-all (a ∷ accounts) all job =
    let here = All-head Balance a accounts all job in
    let rest = balance_of-all accounts (All-tail Balance a accounts all) job in
    omega (
      arith,
      here,
      rest,
      sum_by-cons (λ (b : Account). count_of job b.firsts) a accounts,
      sum_by-cons (λ (b : Account). count_of job b.agains) a accounts,
      sum_by-cons (λ (b : Account). b.settled Acknowledged job) a accounts,
      sum_by-cons (λ (b : Account). b.settled Refused job) a accounts,
      sum_by-cons (λ (b : Account). b.settled Discarded job) a accounts,
      sum_by-cons (λ (b : Account). count_of job b.given) a accounts,
      sum_by-cons (λ (b : Account). count_of job b.out) a accounts,
    )

-- and so a report names each accepted job once
pub one_fate : (accounts : List Account) (report : Report) → AddsUp accounts report → (job : Job) → fates_of report job ≡ times_accepted report.accepted.items job
one_fate accounts report adds job =
    let all = balance_of-all accounts adds.balanced job in
    omega (arith, all, adds.first job, adds.given job, adds.held job, adds.settled Acknowledged job, adds.settled Refused job, adds.settled Discarded job)
