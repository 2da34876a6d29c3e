-- What is out at a broker's place.
use Rattle.std.specs.Prelude.{◌≡◌, List, map, All}
use Rattle.dispatch_core.specs.declared.event.Job.{Job}
use Rattle.dispatch_core.specs.JobRuns.{count_of}
use Rattle.group_jobs.specs.Stamps.{Held, job_of}
use Rattle.group_queue.specs.Places.{PlaceState}

abbrev pub jobs_out : List Held → List Job
jobs_out all = map (λ envelope. job_of envelope.stamp) all

-- the message is of the place's group, and was handed to the place
abbrev pub IsHandedTo : PlaceState → Held → Type 0
IsHandedTo place envelope = (envelope.stamp.group ≡ place.group) × (envelope.place ≡ place.number)

-- just these messages are out at the place: each was handed to it, and they have each job as often as its docket has it out
pub record HasOut (place : PlaceState) (all : List Held) : Type 0 where
  pub its : All (IsHandedTo place) all
  pub jobs : (job : Job) → count_of job (jobs_out all) ≡ count_of job place.docket.out
