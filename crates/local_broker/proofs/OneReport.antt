-- What is reported of groups that are alike is one line.
use Rattle.std.proofs.Common.{◌≡◌, ℕ, ◌+◌, ◌<◌, ◌≤◌, List, [], ◌∷◌, ◌++◌, length, sum, codes, Option, refl, sym, ap, ◌∙◌, arith}
use Rattle.std.proofs.lemmas.Grind.{same_number_lists}
use Rattle.mqtt_topic.specs.Names.{Share}
use Rattle.dispatch_core.specs.declared.event.Job.{Job}
use Rattle.dispatch_core.specs.declared.event.Spot.{Spot}
use Rattle.dispatch_core.specs.GroupState.{GroupState, accepted_of}
use Rattle.dispatch_core.specs.JobRuns.{count_of}
use Rattle.dispatch_core.specs.Mentions.{AreSame}
use Rattle.dispatch_core.proofs.ExactLaws.{same_next}
use Rattle.dispatch_core.proofs.JobLists.{count_of-cons}
use Rattle.group_jobs.specs.declared.fate.Fate.TheVariants.{Acknowledged, Refused, Discarded}
use Rattle.group_jobs.specs.declared.report.Report.{Report}
use Rattle.group_jobs.specs.Reports.{report_line, labelled}
use Rattle.group_jobs.specs.Settled.{settled_as}
use Rattle.local_group.specs.Groups.{Group}
use Rattle.local_group.specs.Alike.{AreAlike}
use Rattle.group_jobs.specs.Spots.{Lists, times_out, times_settled}
use Rattle.local_group.specs.Spots.{jobs_in}
use Rattle.local_group.specs.Reporting.{Reports}
use Rattle.local_group.proofs.Counts.{count_of-same, take_off}

-- lists that have each job as often as one another are as long
as_long : (jobs others : List Job) → ((job : Job) → count_of job jobs ≡ count_of job others) → length jobs ≡ length others
as_long [] [] same = refl
as_long [] (job ∷ others) same = absurd (omega (arith, same job, count_of-cons job job others, count_of-same job))
as_long (job ∷ jobs) others same =
    let some : 1 ≤ count_of job others = omega (arith, same job, count_of-cons job job jobs, count_of-same job) in
    let rest = take_off others job some in
    let less : length jobs ≡ length rest.0 = as_long jobs rest.0 (λ other. omega (arith, same other, rest.2 other, count_of-cons other job jobs)) in
    let long : length others ≡ length rest.0 + 1 = rest.1 in
    omega arith

listed : (one other : GroupState) (times : Option Spot → ℕ) (jobs others : List Job) → AreSame one other → Lists times one jobs → Lists times other others → length jobs ≡ length others
listed one other times jobs others same lists those = as_long jobs others (λ job. lists job ∙ ap times (sym (same.spots job)) ∙ sym (those job))

accepted : (one other : GroupState) → AreSame one other → (port : ℕ) → accepted_of one port ≡ accepted_of other port
accepted one other same port = ap (λ (job : Job). job.number) (same_next one other port same.spots)

pub one_line : (one other : Group) (share : Share) (report report' : Report) → AreAlike one other → Reports one report → Reports other report' → report_line share report ≡ report_line share report'
unfolding report_line
one_line one other share report report' alike a b =
    let accepts : report.accepted.items ≡ report'.accepted.items =
    same_number_lists report.accepted.items report'.accepted.items (a.ports ∙ sym b.ports)
    (λ port less. (let small : port < 64 = (let many = a.ports in omega arith) in a.accepted port small ∙ accepted one.state other.state alike.state port ∙ sym (b.accepted port small))) in
    let acknowledged = listed one.state other.state (times_settled Acknowledged) (settled_as Acknowledged report.settled) (settled_as Acknowledged report'.settled) alike.state (a.settled Acknowledged) (b.settled Acknowledged) in
    let refused = listed one.state other.state (times_settled Refused) (settled_as Refused report.settled) (settled_as Refused report'.settled) alike.state (a.settled Refused) (b.settled Refused) in
    let discarded = listed one.state other.state (times_settled Discarded) (settled_as Discarded report.settled) (settled_as Discarded report'.settled) alike.state (a.settled Discarded) (b.settled Discarded) in
    let held = listed one.state other.state times_out report.held.items report'.held.items alike.state a.held b.held in
    let queued : length report.queued.items ≡ length report'.queued.items = ap length (a.queue ∙ ap jobs_in alike.queue ∙ sym b.queue) in
    let returned : length report.returned.items ≡ length report'.returned.items = ap length (a.back ∙ ap jobs_in alike.returned ∙ sym b.back) in
    λ i. share.text ++ labelled (codes " accepted ") (sum (accepts i)) ++ labelled (codes " acknowledged ") (acknowledged i)
    ++ labelled (codes " refused ") (refused i) ++ labelled (codes " held ") (held i)
    ++ labelled (codes " queued ") (queued i) ++ labelled (codes " returned ") (returned i)
    ++ labelled (codes " discarded ") (discarded i) ++ 10 ∷ []
