-- A report names each accepted job once.
use Rattle.std.proofs.Common.{◌≡◌, ℕ, ◌+◌, ◌<◌, ◌≤◌, Bool, cond, List, length, get_or, Option, Some, None, IsSome, refl, sym, ap, ◌∙◌, ⊎_elim, arith, lt-ltb, le-ltb}
use Rattle.std.specs.Prelude.{sum_by}
use Rattle.std.proofs.Math.ListN.{get_or-eq_default}
use Rattle.std.proofs.lemmas.Bool.{cases_lt, false≢true}
use Rattle.dispatch_core.specs.declared.event.Job.{Job}
use Rattle.dispatch_core.specs.declared.event.Spot.{Spot}
use Rattle.dispatch_core.specs.declared.event.Spot.TheVariants.{Queued, Held, Acked, Refused, Discarded, Returned}
use Rattle.dispatch_core.specs.GroupState.{spot_of, accepted_of}
use Rattle.dispatch_core.specs.Lawful.{IsLawful}
use Rattle.group_jobs.specs.declared.fate.Fate.TheVariants as fate
use Rattle.group_jobs.specs.declared.report.Report.{Report}
use Rattle.group_jobs.specs.Settled.{fates}
use Rattle.group_jobs.specs.Reports.{fates_of, times_accepted}
use Rattle.local_group.specs.Groups.{Group}
use Rattle.group_jobs.specs.Spots.{times_queued, times_out, times_returned, times_settled}
use Rattle.local_group.specs.Reporting.{Reports}

-- how often a job at this spot stands in all lists together
abbrev all_times : Option Spot → ℕ
all_times spot = sum_by (λ which. times_settled which spot) fates + times_out spot + times_queued spot + times_returned spot

once : (spot : Option Spot) → IsSome spot → all_times spot ≡ 1
once None some = absurd (false≢true some)
once (Some Queued) some = refl
once (Some (Held place)) some = refl
once (Some (Acked place)) some = refl
once (Some (Refused place)) some = refl
once (Some (Discarded place)) some = refl
once (Some Returned) some = refl

never : (spot : Option Spot) → (IsSome spot → ⊥) → all_times spot ≡ 0
never None nowhere = refl
never (Some spot) nowhere = absurd (nowhere refl)

abbrev one_if : Bool → ℕ
one_if b = cond b 1 0

-- a port that the counts do not name accepted nothing
named_port : (counts : List ℕ) (port number : ℕ) → length counts ≡ 64 → number < get_or counts port 0 → port < 64
named_port counts port number many within =
    ⊎_elim
    (λ (less : port < length counts). omega arith)
    (λ (beyond : length counts ≤ port). let none : get_or counts port 0 ≡ 0 = get_or-eq_default counts 0 beyond in absurd (omega arith))
    (cases_lt port (length counts))

pub one_fate : (group : Group) (report : Report) → IsLawful group.state → Reports group report → (job : Job) → fates_of report job ≡ times_accepted report.accepted.items job
one_fate group report lawful reports job =
    let spot = spot_of group.state job in
    let sum : fates_of report job ≡ all_times spot =
    omega (
      arith,
      reports.settled fate.Acknowledged job,
      reports.settled fate.Refused job,
      reports.settled fate.Discarded job,
      reports.held job,
      reports.queued job,
      reports.returned job,
    ) in
    ⊎_elim
    (λ (within : job.number < get_or report.accepted.items job.port 0).
    let port : job.port < 64 = named_port report.accepted.items job.port job.number reports.ports within in
    let same : get_or report.accepted.items job.port 0 ≡ accepted_of group.state job.port = reports.accepted job.port port in
    let there : IsSome spot = (lawful.accepted job).1 (omega arith) in
    sum ∙ once spot there ∙ sym (ap one_if (lt-ltb job.number (get_or report.accepted.items job.port 0) within)))
    (λ (beyond : get_or report.accepted.items job.port 0 ≤ job.number).
    let nowhere : IsSome spot → ⊥ =
    λ some.
    let same : get_or report.accepted.items job.port 0 ≡ accepted_of group.state job.port = reports.accepted job.port (reports.no_other job some) in
    let less : job.number < accepted_of group.state job.port = (lawful.accepted job).0 some in
    omega arith in
    sum ∙ never spot nowhere ∙ sym (ap one_if (le-ltb job.number (get_or report.accepted.items job.port 0) beyond)))
    (cases_lt job.number (get_or report.accepted.items job.port 0))
