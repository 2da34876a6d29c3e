-- What an event names: a job, a member who is handed a job for the first time, the port of a new job.
use Rattle.std.specs.Prelude.{◌≡◌, ℕ, ◌==◌, Bool, false, List, Option, Some, None, count_by}
use Rattle.dispatch_core.specs.declared.event.Job.{Job}
use Rattle.dispatch_core.specs.declared.event.Event.{Event}
use Rattle.dispatch_core.specs.declared.event.Event.TheVariants.{Accept, First, Ack, Refuse, Discard, Back, Again, Close}
use Rattle.dispatch_core.specs.GroupState.{GroupState}
use Rattle.dispatch_core.specs.Step.{next_job, KeepsSpots, KeepsFirsts, KeepsMark}

-- the job that an event is about, if it is about one
abbrev pub job_of : GroupState → Event → Option Job
job_of state (Accept port) = Some (next_job state port)
job_of state (First member job) = Some job
job_of state (Ack member job) = Some job
job_of state (Refuse member job) = Some job
job_of state (Discard member job) = Some job
job_of state (Back member job) = Some job
job_of state (Again member job) = Some job
job_of state Close = None

-- the member that an event hands a job to for the first time, if it does
abbrev pub first_member_of : Event → Option ℕ
first_member_of (Accept port) = None
first_member_of (First member job) = Some member
first_member_of (Ack member job) = None
first_member_of (Refuse member job) = None
first_member_of (Discard member job) = None
first_member_of (Back member job) = None
first_member_of (Again member job) = None
first_member_of Close = None

-- the job that an event names; a new job is named by its port alone
abbrev pub named_job : Event → Option Job
named_job (Accept port) = None
named_job (First member job) = Some job
named_job (Ack member job) = Some job
named_job (Refuse member job) = Some job
named_job (Discard member job) = Some job
named_job (Back member job) = Some job
named_job (Again member job) = Some job
named_job Close = None

-- the member that an event names
abbrev pub named_member : Event → Option ℕ
named_member (Accept port) = None
named_member (First member job) = Some member
named_member (Ack member job) = Some member
named_member (Refuse member job) = Some member
named_member (Discard member job) = Some member
named_member (Back member job) = Some member
named_member (Again member job) = Some member
named_member Close = None

-- the event hands this job out, for the first time or again
abbrev pub HandsOutJob : Job → Event → Type 0
HandsOutJob job (Accept port) = ⊥
HandsOutJob job (First member other) = other ≡ job
HandsOutJob job (Ack member other) = ⊥
HandsOutJob job (Refuse member other) = ⊥
HandsOutJob job (Discard member other) = ⊥
HandsOutJob job (Back member other) = ⊥
HandsOutJob job (Again member other) = other ≡ job
HandsOutJob job Close = ⊥

-- the port accepts a job
abbrev pub is_accept : ℕ → Event → Bool
is_accept port (Accept other) = other == port
is_accept port (First member job) = false
is_accept port (Ack member job) = false
is_accept port (Refuse member job) = false
is_accept port (Discard member job) = false
is_accept port (Back member job) = false
is_accept port (Again member job) = false
is_accept port Close = false

-- how many jobs a port accepts in these events
abbrev pub accepts_of : List Event → ℕ → ℕ
accepts_of events port = count_by (is_accept port) events

-- two states that cannot be told apart: the same map, the same first hand-outs, the same mark
pub record AreSame (one other : GroupState) : Type 0 where
  pub spots : KeepsSpots one other
  pub firsts : KeepsFirsts one other
  pub mark : KeepsMark one other
