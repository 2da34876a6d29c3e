-- The steps of a group (OASIS MQTT 5.0, 4.6 and 4.8.2): when an event may happen, and what it changes.
use Rattle.std.specs.Prelude.{◌≡◌, ◌≢◌, ℕ, ◌<◌, true, false, [], ◌∷◌, ◌++◌, Some}
use Rattle.limits.specs.Limits.{most_members, most_ports}
use Rattle.dispatch_core.specs.declared.event.Job.{Job}
use Rattle.dispatch_core.specs.declared.event.Event.{Event}
use Rattle.dispatch_core.specs.declared.event.Event.TheVariants.{Accept, First, Ack, Refuse, Discard, Back, Again, Close}
use Rattle.dispatch_core.specs.declared.event.Spot.{Spot}
use Rattle.dispatch_core.specs.declared.event.Spot.TheVariants.{Queued, Held, Acked, Refused, Discarded, Returned}
use Rattle.dispatch_core.specs.GroupState.{GroupState, spot_of, accepted_of, firsts_of}

-- the ports are 0 to 63 and the members 0 to 31 (profile)
abbrev pub AreInRange : ℕ → Job → Type 0
AreInRange member job = (member < most_members) × (job.port < most_ports)

abbrev pub IsInRange : Event → Type 0
IsInRange (Accept port) = port < most_ports
IsInRange (First member job) = AreInRange member job
IsInRange (Ack member job) = AreInRange member job
IsInRange (Refuse member job) = AreInRange member job
IsInRange (Discard member job) = AreInRange member job
IsInRange (Back member job) = AreInRange member job
IsInRange (Again member job) = AreInRange member job
IsInRange Close = Unit {0}

-- a closed group accepts nothing and hands nothing out
abbrev pub NeedsOpen : Event → Type 0
NeedsOpen (Accept port) = Unit {0}
NeedsOpen (First member job) = Unit {0}
NeedsOpen (Ack member job) = ⊥
NeedsOpen (Refuse member job) = ⊥
NeedsOpen (Discard member job) = ⊥
NeedsOpen (Back member job) = ⊥
NeedsOpen (Again member job) = Unit {0}
NeedsOpen Close = ⊥

-- an older job of its port, one with a smaller number, is queued
abbrev pub HasOlderQueued : GroupState → Job → Type 0
HasOlderQueued state job = (number : ℕ) × (number < job.number) × (spot_of state (record { port = job.port; number = number }) ≡ Some Queued)

-- what an event asks of its job: a first hand-out takes the oldest queued job of its port (4.6), a job is acknowledged,
-- refused or given back by the member that holds it, or discarded on its behalf, and what is handed out again was given back
abbrev pub IsReady : GroupState → Event → Type 0
IsReady state (Accept port) = Unit {0}
IsReady state (First member job) = (spot_of state job ≡ Some Queued) × ¬ HasOlderQueued state job
IsReady state (Ack member job) = spot_of state job ≡ Some (Held member)
IsReady state (Refuse member job) = spot_of state job ≡ Some (Held member)
IsReady state (Discard member job) = spot_of state job ≡ Some (Held member)
IsReady state (Back member job) = spot_of state job ≡ Some (Held member)
IsReady state (Again member job) = spot_of state job ≡ Some Returned
IsReady state Close = Unit {0}

-- an event may happen
pub record MayHappen (state : GroupState) (event : Event) : Type 0 where
  pub in_range : IsInRange event
  pub not_closed : NeedsOpen event → state.closed ≡ false
  pub ready : IsReady state event

-- a job comes to a spot, and each other job stays where it was
pub record Moves (old : GroupState) (job : Job) (spot : Spot) (new : GroupState) : Type 0 where
  pub there : spot_of new job ≡ Some spot
  pub others : (other : Job) → other ≢ job → spot_of new other ≡ spot_of old other

-- a member is handed a job for the first time, and the other members' first hand-outs stay
pub record HandsOut (old : GroupState) (member : ℕ) (job : Job) (new : GroupState) : Type 0 where
  pub last : firsts_of new member ≡ firsts_of old member ++ job ∷ []
  pub others : (other : ℕ) → other ≢ member → firsts_of new other ≡ firsts_of old other

abbrev pub KeepsSpots : GroupState → GroupState → Type 0
KeepsSpots old new = (job : Job) → spot_of new job ≡ spot_of old job

abbrev pub KeepsFirsts : GroupState → GroupState → Type 0
KeepsFirsts old new = (member : ℕ) → firsts_of new member ≡ firsts_of old member

abbrev pub KeepsMark : GroupState → GroupState → Type 0
KeepsMark old new = new.closed ≡ old.closed

-- the next job of a port: its number is how many were accepted before
abbrev pub next_job : GroupState → ℕ → Job
next_job state port = record { port = port; number = accepted_of state port }

-- what an event changes, and what it keeps
abbrev pub Makes : GroupState → Event → GroupState → Type 0
Makes old (Accept port) new = Moves old (next_job old port) Queued new × KeepsFirsts old new × KeepsMark old new
Makes old (First member job) new = Moves old job (Held member) new × HandsOut old member job new × KeepsMark old new
Makes old (Ack member job) new = Moves old job (Acked member) new × KeepsFirsts old new × KeepsMark old new
Makes old (Refuse member job) new = Moves old job (Refused member) new × KeepsFirsts old new × KeepsMark old new
Makes old (Discard member job) new = Moves old job (Discarded member) new × KeepsFirsts old new × KeepsMark old new
Makes old (Back member job) new = Moves old job Returned new × KeepsFirsts old new × KeepsMark old new
Makes old (Again member job) new = Moves old job (Held member) new × KeepsFirsts old new × KeepsMark old new
Makes old Close new = KeepsSpots old new × KeepsFirsts old new × (new.closed ≡ true)

-- one event leads from old to new
pub record Step (old : GroupState) (event : Event) (new : GroupState) : Type 0 where
  pub may : MayHappen old event
  pub made : Makes old event new
