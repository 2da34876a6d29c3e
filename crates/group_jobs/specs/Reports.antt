-- Reports: what became of the messages of a group, and the line that says it (profile).
use Rattle.std.specs.Prelude.{ℕ, ◌+◌, nat_lt, if◌then◌else◌, List, [], ◌∷◌, ◌++◌, length, sum, codes, slice_index_or}
use Rattle.std.specs.Fmt.{decimal}
use Rattle.mqtt_topic.specs.Names.{Share}
use Rattle.dispatch_core.specs.declared.event.Job.{Job}
use Rattle.dispatch_core.specs.JobRuns.{count_of}
use Rattle.group_jobs.specs.declared.fate.Fate.TheVariants.{Acknowledged, Refused, Discarded}
use Rattle.group_jobs.specs.declared.report.Report.{Report}
use Rattle.group_jobs.specs.Settled.{settled_as, times_settled}

-- how often a report names a job, in all its lists together: its fates
abbrev pub fates_of : Report → Job → ℕ
fates_of report job =
    times_settled job report.settled + count_of job report.held.items + count_of job report.queued.items + count_of job report.returned.items

-- 1 for a job that was accepted, by the counts of the ports: its number is below that of its port
abbrev pub times_accepted : List ℕ → Job → ℕ
times_accepted accepted job = if nat_lt job.number (slice_index_or accepted job.port 0) then 1 else 0

-- a count in decimal, after its label
abbrev pub labelled : List ℕ → ℕ → List ℕ
labelled label count = label ++ decimal count

-- the share's text, the counts, and 0A
unfoldable pub report_line : Share → Report → List ℕ
report_line share report =
    share.text ++ labelled (codes " accepted ") (sum report.accepted.items) ++ labelled (codes " acknowledged ") (length (settled_as Acknowledged report.settled))
    ++ labelled (codes " refused ") (length (settled_as Refused report.settled)) ++ labelled (codes " held ") (length report.held.items)
    ++ labelled (codes " queued ") (length report.queued.items) ++ labelled (codes " returned ") (length report.returned.items)
    ++ labelled (codes " discarded ") (length (settled_as Discarded report.settled)) ++ 10 ∷ []
