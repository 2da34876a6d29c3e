-- A report and the accounts of the places, in the words of messages.
use Rattle.std.proofs.Common.{◌≡◌, ℕ, ◌+◌, ◌≤◌, ◌&&◌, Bool, true, false, cond, eqb, eq-eqb, ltb, List, Contains, refl, ap, ◌∙◌, arith}
use Rattle.std.specs.Prelude.{map, sum_by, slice_index_or}
use Rattle.dispatch_core.specs.declared.event.Job.{Job}
use Rattle.dispatch_core.specs.JobRuns.{count_of}
use Rattle.group_jobs.specs.declared.fate.Fate.{Fate}
use Rattle.group_jobs.specs.declared.report.Report.{Report}
use Rattle.group_jobs.specs.Reports.{times_accepted}
use Rattle.group_jobs.specs.Settled.{fates, settled_as}
use Rattle.group_jobs.specs.Stamps.{Held}
use Rattle.group_jobs.specs.Balance.{Account, Balance}
use Rattle.group_queue.specs.declared.posted.Posted.{Posted}
use Rattle.group_queue.specs.Ports.{GroupId, PortState}
use Rattle.group_queue.specs.Places.{PlaceState, jobs_in, account_of}
use Rattle.group_queue.specs.Ends.{Reports}
use Rattle.final_report.specs.Messages.{times_accepted_by, times_first_handed, times_handed_again, times_handed, times_given_back, times_settled_at, times_out_at}
use Rattle.final_report.specs.Promises.{IsAccepted}
use Rattle.final_report.proofs.Lists.{contained, sum_by-map, All-mapped}

-- 1 for a message of this job
abbrev pub is_of : Job → Posted → ℕ
is_of job posted = cond ((eqb posted.job.port job.port) && (eqb posted.job.number job.number)) 1 0

pub counted : (job : Job) (list : List Posted) → count_of job (jobs_in list) ≡ sum_by (is_of job) list
counted job list = sum_by-map (λ (posted : Posted). posted.job) (λ (other : Job). cond ((eqb other.port job.port) && (eqb other.number job.number)) 1 0) list

is_of-own : (posted : Posted) → is_of posted.job posted ≡ 1
is_of-own posted =
    ap (λ b. cond (b && (eqb posted.job.number posted.job.number)) 1 0) (eq-eqb posted.job.port posted.job.port refl)
    ∙ ap (λ b. cond (true && b) 1 0) (eq-eqb posted.job.number posted.job.number refl)

once_of : (b : Bool) → cond b 1 0 ≤ 1
once_of true = omega arith
once_of false = omega arith

pub times_accepted-once : (accepted : List ℕ) (job : Job) → times_accepted accepted job ≤ 1
times_accepted-once accepted job = once_of (ltb job.number (slice_index_or accepted job.port 0))

module _ (group : GroupId) (ports : List PortState) (places : List PlaceState) (held : List Held) (report : Report) (r : Reports group ports places held report) where
  -- a message was accepted as often as the report's counts say
  pub accepted_by : (job : Job) → times_accepted_by ports job ≡ times_accepted report.accepted.items job
  accepted_by job =
      let c = r.carries in
      let sent : times_accepted_by ports job ≡ sum_by (λ (port : PortState). sum_by (is_of job) port.sent) ports = λ i. sum_by (λ (port : PortState). counted job port.sent i) ports in
      let firsts : sum_by (times_first_handed job) places ≡ sum_by (λ (place : PlaceState). sum_by (is_of job) place.firsts) places = λ i. sum_by (λ (place : PlaceState). counted job place.firsts i) places in
      let queued : count_of job report.queued.items ≡ sum_by (is_of job) c.queued = ap (count_of job) c.queued_are ∙ counted job c.queued in
      let accounts : sum_by (λ (a : Account). count_of job a.firsts) (map account_of places) ≡ sum_by (times_first_handed job) places = sum_by-map account_of (λ (a : Account). count_of job a.firsts) places in
      omega (arith, sent, firsts, queued, accounts, c.firsts (is_of job), r.adds.first job)

  pub accepted_counts : (posted : Posted) → IsAccepted ports posted → 1 ≤ times_accepted_by ports posted.job
  accepted_counts posted (port, there, sent) =
      omega (
        arith,
        is_of-own posted,
        contained (is_of posted.job) port.sent posted sent,
        counted posted.job port.sent,
        contained (λ (p : PortState). count_of posted.job (jobs_in p.sent)) ports port there,
      )

  pub accepted_once : (job : Job) → times_accepted_by ports job ≤ 1
  accepted_once job = omega (arith, accepted_by job, times_accepted-once report.accepted.items job)

  -- it was first handed to a place, or is queued
  pub first_or_queued : (job : Job) → sum_by (times_first_handed job) places + count_of job report.queued.items ≡ times_accepted_by ports job
  first_or_queued job = omega (arith, accepted_by job, r.adds.first job, sum_by-map account_of (λ (a : Account). count_of job a.firsts) places)

  pub returned_is : (job : Job) → sum_by (times_handed_again job) places + count_of job report.returned.items ≡ sum_by (times_given_back job) places
  returned_is job =
      omega (
        arith,
        r.adds.given job,
        sum_by-map account_of (λ (a : Account). count_of job a.agains) places,
        sum_by-map account_of (λ (a : Account). count_of job a.given) places,
      )

  pub settled_is : (fate : Fate) (job : Job) → count_of job (settled_as fate report.settled) ≡ sum_by (times_settled_at fate job) places
  settled_is fate job = r.adds.settled fate job ∙ sum_by-map account_of (λ (a : Account). a.settled fate job) places

  pub out_is : (job : Job) → count_of job report.held.items ≡ sum_by (times_out_at job) places
  out_is job = r.adds.held job ∙ sum_by-map account_of (λ (a : Account). count_of job a.out) places

  -- each place's hand-outs ended once, or the message is out there
  pub balanced : (place : PlaceState) (job : Job) → Contains places place
      → times_handed job place ≡ sum_by (λ fate. times_settled_at fate job place) fates + times_given_back job place + times_out_at job place
  balanced place job there = omega (arith, All-mapped Balance account_of places place r.adds.balanced there job)
