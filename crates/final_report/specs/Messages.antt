-- How often a message of a group was accepted, handed out, settled and given back, read off what its ports and places did.
use Rattle.std.specs.Prelude.{ℕ, ◌+◌, List, sum_by}
use Rattle.dispatch_core.specs.declared.event.Job.{Job}
use Rattle.dispatch_core.specs.JobRuns.{count_of}
use Rattle.group_jobs.specs.declared.fate.Fate.{Fate}
use Rattle.group_queue.specs.Ports.{PortState}
use Rattle.group_queue.specs.Places.{PlaceState, jobs_in, account_of}

-- A publisher is a port, and a member a place. A message is told apart by its job: the port through which it was accepted, and how many were accepted through that before it.

-- how often a message was accepted, through all ports together
abbrev pub times_accepted_by : List PortState → Job → ℕ
times_accepted_by ports job = sum_by (λ port. count_of job (jobs_in port.sent)) ports

-- how often it was first handed to a member, and handed to it again
abbrev pub times_first_handed : Job → PlaceState → ℕ
times_first_handed job place = count_of job (jobs_in place.firsts)

abbrev pub times_handed_again : Job → PlaceState → ℕ
times_handed_again job place = count_of job (jobs_in place.agains)

-- and in all
abbrev pub times_handed : Job → PlaceState → ℕ
times_handed job place = times_first_handed job place + times_handed_again job place

-- how often a member gave it back
abbrev pub times_given_back : Job → PlaceState → ℕ
times_given_back job place = count_of job (jobs_in place.given)

-- and how often it was settled there by this fate, which is for good
abbrev pub times_settled_at : Fate → Job → PlaceState → ℕ
times_settled_at fate job place = (account_of place).settled fate job

-- and has it out, not settled and not given back
abbrev pub times_out_at : Job → PlaceState → ℕ
times_out_at job place = count_of job place.docket.out
