-- What is reported of a group whose client is gone.
use Rattle.std.proofs.Common.{◌≡◌, ℕ, suc, ◌+◌, ◌<◌, ◌≤◌, List, [], ◌∷◌, ◌++◌, length, sum, slice_index_or, codes, refl, sym, ap, ◌∙◌, arith}
use Rattle.std.proofs.lemmas.List.{length-map}
use Rattle.std.proofs.lemmas.List.Sums.{sum_by-cons}
use Rattle.mqtt_topic.specs.Names.{Share}
use Rattle.dispatch_core.specs.declared.event.Job.{Job}
use Rattle.dispatch_core.specs.GroupState.{accepted_of}
use Rattle.dispatch_core.specs.JobRuns.{count_of}
use Rattle.dispatch_core.proofs.JobLists.{count_of-cons}
use Rattle.dispatch_core.proofs.RunLaws.{count_run}
use Rattle.group_jobs.specs.declared.fate.Fate.TheVariants.{Acknowledged, Refused, Discarded}
use Rattle.group_jobs.specs.declared.report.Report.{Report}
use Rattle.group_jobs.specs.Reports.{report_line, labelled}
use Rattle.group_jobs.specs.Settled.{settled_as}
use Rattle.group_jobs.specs.Stamps.{Held, job_of}
use Rattle.local_group.specs.Groups.{Group}
use Rattle.local_group.specs.Reporting.{Reports}
use Rattle.local_group.proofs.Counts.{count_of-same, take_off}
use Rattle.local_group.specs.declared.waiting.Waiting.{Waiting}
use Rattle.solo_output.specs.Report.{Fates, line_of}
use Rattle.solo_output.proofs.Groups.{IsEnding}
use Rattle.solo_output.proofs.Identifiers.{jobs_of}

-- lists that have each job as often as one another are as long
as_long : (jobs others : List Job) → ((job : Job) → count_of job jobs ≡ count_of job others) → length jobs ≡ length others
as_long [] [] same = refl
as_long [] (job ∷ others) same = absurd (omega (arith, same job, count_of-cons job job others, count_of-same job))
as_long (job ∷ jobs) others same =
    let some : 1 ≤ count_of job others = omega (arith, same job, count_of-cons job job jobs, count_of-same job) in
    let rest = take_off others job some in
    let less : length jobs ≡ length rest.0 = as_long jobs rest.0 (λ other. omega (arith, same other, rest.2 other, count_of-cons other job jobs)) in
    let long : length others ≡ length rest.0 + 1 = rest.1 in
    omega arith

-- the sum of numbers that are 0, but for the first
all_zero : (xs : List ℕ) → ((k : ℕ) → k < length xs → slice_index_or xs k 0 ≡ 0) → sum xs ≡ 0
all_zero [] each = refl
all_zero (x ∷ xs) each =
    let first : x ≡ 0 = each 0 (omega arith) in
    let rest : sum xs ≡ 0 = all_zero xs (λ k less. each (suc k) (omega arith)) in
    omega (arith, sum_by-cons (λ (n : ℕ). n) x xs, first, rest)

sum_first : (xs : List ℕ) (n : ℕ) → 0 < length xs → slice_index_or xs 0 0 ≡ n → ((k : ℕ) → 0 < k → k < length xs → slice_index_or xs k 0 ≡ 0) → sum xs ≡ n
sum_first [] n some first others = absurd (omega arith)
sum_first (x ∷ xs) n some first others =
    let rest : sum xs ≡ 0 = all_zero xs (λ k less. others (suc k) (omega arith) (omega arith)) in
    omega (arith, sum_by-cons (λ (m : ℕ). m) x xs, first, rest)

abbrev pub fates_are : ℕ → ℕ → ℕ → ℕ → ℕ → ℕ → Fates
fates_are good bad off held queued returned = record { acknowledged = good; refused = bad; held = held; queued = queued; returned = returned; discarded = off }

module _ (accepted good bad off queued returned slot : ℕ) (entries : List (ℕ × Held)) (group : Group) (is : IsEnding accepted good bad off queued returned slot entries group) (report : Report) (reports : Reports group report) where
  through : (port : ℕ) → port < 64 → slice_index_or report.accepted.items port 0 ≡ accepted_of group.state port
  through port small = reports.accepted port small

  total : sum report.accepted.items ≡ accepted
  total =
      let many : length report.accepted.items ≡ 64 = reports.ports in
      sum_first report.accepted.items accepted (omega arith)
      (through 0 (omega arith) ∙ count_run group.events group.state 0 is.counted.run ∙ is.counted.through)
      (λ port some less. through port (omega arith) ∙ count_run group.events group.state port is.counted.run ∙ is.counted.no_other port (λ e. absurd (omega (arith, e))))

  told_good : length (settled_as Acknowledged report.settled) ≡ good
  told_good = as_long (settled_as Acknowledged report.settled) is.counted.good.jobs (λ job. reports.settled Acknowledged job ∙ sym (is.counted.good.lists job)) ∙ is.counted.good.long

  told_bad : length (settled_as Refused report.settled) ≡ bad
  told_bad = as_long (settled_as Refused report.settled) is.counted.bad.jobs (λ job. reports.settled Refused job ∙ sym (is.counted.bad.lists job)) ∙ is.counted.bad.long

  told_off : length (settled_as Discarded report.settled) ≡ off
  told_off = as_long (settled_as Discarded report.settled) is.counted.off.jobs (λ job. reports.settled Discarded job ∙ sym (is.counted.off.lists job)) ∙ is.counted.off.long

  told_held : length report.held.items ≡ length entries
  told_held = as_long report.held.items (jobs_of entries) (λ job. reports.held job ∙ sym (is.counted.out_are job)) ∙ length-map entries (λ (e : ℕ × Held). job_of e.1.stamp)

  told_queued : length report.queued.items ≡ queued
  told_queued = ap length reports.queue ∙ length-map group.queue (λ (w : Waiting). w.job) ∙ is.waits

  told_returned : length report.returned.items ≡ returned
  told_returned = ap length reports.back ∙ length-map group.returned (λ (w : Waiting). w.job) ∙ is.back

  pub line_is : (share : Share) → report_line share report ≡ line_of share accepted (fates_are good bad off (length entries) queued returned)
  unfolding report_line
  line_is share =
      λ i. share.text ++ labelled (codes " accepted ") (total i) ++ labelled (codes " acknowledged ") (told_good i)
      ++ labelled (codes " refused ") (told_bad i) ++ labelled (codes " held ") (told_held i)
      ++ labelled (codes " queued ") (told_queued i) ++ labelled (codes " returned ") (told_returned i)
      ++ labelled (codes " discarded ") (told_off i) ++ 10 ∷ []
