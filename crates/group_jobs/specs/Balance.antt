-- What the places of a group did with its jobs, and how that adds up to a report.
use Rattle.std.specs.Prelude.{◌≡◌, ℕ, ◌+◌, List, All, sum_by}
use Rattle.dispatch_core.specs.declared.event.Job.{Job}
use Rattle.dispatch_core.specs.JobRuns.{count_of}
use Rattle.group_jobs.specs.declared.fate.Fate.{Fate}
use Rattle.group_jobs.specs.declared.report.Report.{Report}
use Rattle.group_jobs.specs.Settled.{fates, settled_as}
use Rattle.group_jobs.specs.Reports.{times_accepted}

-- what one place did, from the group's opening on
pub record Account : Type 0 where
  -- its number
  pub place : ℕ
  -- the jobs that it was the first to be handed, those that it was handed again, those that it gave back, and what it has out
  pub firsts : List Job
  pub agains : List Job
  pub given : List Job
  pub out : List Job
  -- how often it settled a job by this fate
  pub settled : Fate → Job → ℕ

-- each hand-out of a job ended once, by a fate or by being given back, or the job is out
abbrev pub Balance : Account → Type 0
Balance a = (job : Job) → count_of job a.firsts + count_of job a.agains ≡ sum_by (λ fate. a.settled fate job) fates + count_of job a.given + count_of job a.out

-- a report has what the places did, where each place is in balance
pub record AddsUp (accounts : List Account) (report : Report) : Type 0 where
  -- each accepted job, and no other, was handed out for the first time by one place, once, or is queued
  pub first : (job : Job) → sum_by (λ a. count_of job a.firsts) accounts + count_of job report.queued.items ≡ times_accepted report.accepted.items job
  -- what was given back was handed out again, or is returned
  pub given : (job : Job) → sum_by (λ a. count_of job a.agains) accounts + count_of job report.returned.items ≡ sum_by (λ a. count_of job a.given) accounts
  -- what is held is what the places have out
  pub held : (job : Job) → count_of job report.held.items ≡ sum_by (λ a. count_of job a.out) accounts
  -- and what is settled is what they settled
  pub settled : (fate : Fate) (job : Job) → count_of job (settled_as fate report.settled) ≡ sum_by (λ a. a.settled fate job) accounts
  pub balanced : All Balance accounts
