-- How a group ends, in the words of its state machine: where its jobs are, and who was the first to be handed which.
use Rattle.std.specs.Prelude.{◌≡◌, ℕ, ◌==◌, ◌<◌, ◌≤◌, List, [], All, Contains, count_by, slice_index_or}
use Rattle.limits.specs.Limits.{most_members}
use Rattle.dispatch_core.specs.declared.event.Job.{Job}
use Rattle.dispatch_core.specs.GroupState.{GroupState, spot_of, accepted_of, firsts_of}
use Rattle.dispatch_core.specs.JobRuns.{count_of}
use Rattle.dispatch_core.specs.Lawful.{RisesByPort}
use Rattle.group_jobs.specs.declared.fate.Fate.{Fate}
use Rattle.group_jobs.specs.declared.report.Report.{Report}
use Rattle.group_jobs.specs.Balance.{Account}
use Rattle.group_jobs.specs.Reports.{times_accepted}
use Rattle.group_jobs.specs.Settled.{settled_as}
use Rattle.group_jobs.specs.Spots.{times_queued, times_out, times_returned, times_settled, times_out_with, times_settled_by, Lists}

-- first hand-outs and what was never handed out keep the order of each port
pub record AreOrderly (accounts : List Account) (report : Report) : Type 0 where
  -- each place has a number of its own, of 0 to 31
  pub numbered : All (λ a. a.place < most_members) accounts
  pub apart : (place : ℕ) → count_by (λ a. a.place == place) accounts ≤ 1
  -- each place's first hand-outs rise in each port's numbers
  pub rising : All (λ a. RisesByPort a.firsts) accounts
  -- what a port accepted after a message that was never handed out was not handed out either
  pub youngest : (older younger : Job) → older.port ≡ younger.port → older.number ≤ younger.number → 1 ≤ count_of older report.queued.items
      → count_of younger report.queued.items ≡ times_accepted report.accepted.items younger

-- a state has what the report and the places say
pub record EndsIn (accounts : List Account) (report : Report) (state : GroupState) : Type 0 where
  -- of each port as many jobs were accepted
  pub accepted : (port : ℕ) → accepted_of state port ≡ slice_index_or report.accepted.items port 0
  -- each member's first hand-outs are those of the place of its number
  pub firsts : (a : Account) → Contains accounts a → firsts_of state a.place ≡ a.firsts
  pub no_other : (member : ℕ) → ((a : Account) → Contains accounts a → ¬ (a.place ≡ member)) → firsts_of state member ≡ []
  -- each job is where the one list says that has it
  pub settled : (fate : Fate) → Lists (times_settled fate) state (settled_as fate report.settled)
  pub held : Lists times_out state report.held.items
  pub queued : Lists times_queued state report.queued.items
  pub returned : Lists times_returned state report.returned.items
  -- and with the place that has it out, or settled it
  pub out_with : (a : Account) → Contains accounts a → Lists (times_out_with a.place) state a.out
  pub settled_by : (a : Account) → Contains accounts a → (fate : Fate) (job : Job) → a.settled fate job ≡ times_settled_by a.place fate (spot_of state job)
