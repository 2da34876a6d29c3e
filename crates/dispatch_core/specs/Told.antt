-- What the events of a run tell of the state that they lead to.
use Rattle.std.specs.Prelude.{◌≢◌, ℕ, ◌==◌, if◌then◌else◌, List, [], ◌∷◌, Option, Some, None, All}
use Rattle.std.specs.List.{flat_map}
use Rattle.dispatch_core.specs.declared.event.Job.{Job}
use Rattle.dispatch_core.specs.declared.event.Event.{Event}
use Rattle.dispatch_core.specs.declared.event.Event.TheVariants.{Accept, First, Ack, Refuse, Discard, Back, Again, Close}
use Rattle.dispatch_core.specs.declared.event.Spot.{Spot}
use Rattle.dispatch_core.specs.declared.event.Spot.TheVariants.{Queued, Held, Acked, Refused, Discarded, Returned}
use Rattle.dispatch_core.specs.Mentions.{named_job, accepts_of}

-- the job that an event hands to this member for the first time, if it does
abbrev pub first_to : ℕ → Event → List Job
first_to member (Accept port) = []
first_to member (First other job) = if other == member then job ∷ [] else []
first_to member (Ack other job) = []
first_to member (Refuse other job) = []
first_to member (Discard other job) = []
first_to member (Back other job) = []
first_to member (Again other job) = []
first_to member Close = []

-- the jobs that these events hand to this member for the first time, in their order
abbrev pub firsts_in : List Event → ℕ → List Job
firsts_in events member = flat_map (first_to member) events

-- the job that an event is about, where it comes after these
abbrev pub job_after : List Event → Event → Option Job
job_after before (Accept port) = Some (record { port = port; number = accepts_of before port })
job_after before event = named_job event

-- where an event leaves its job
abbrev pub spot_after : Event → Option Spot
spot_after (Accept port) = Some Queued
spot_after (First member job) = Some (Held member)
spot_after (Ack member job) = Some (Acked member)
spot_after (Refuse member job) = Some (Refused member)
spot_after (Discard member job) = Some (Discarded member)
spot_after (Back member job) = Some Returned
spot_after (Again member job) = Some (Held member)
spot_after Close = None

-- none of these events names the job
abbrev pub NoneNames : Job → List Event → Type 0
NoneNames job events = All (λ event. named_job event ≢ Some job) events
