-- A group on one thread: what it has, and what each call makes of it.
use Rattle.std.specs.Prelude.{◌≡◌, ◌≢◌, ℕ, ◌<◌, ◌≤◌, true, false, List, [], ◌∷◌, ◌++◌, length, Option, Some, None}
use Rattle.limits.specs.Limits.{most_accepted}
use Rattle.dispatch_core.specs.declared.event.Job.{Job}
use Rattle.dispatch_core.specs.declared.event.Event.{Event}
use Rattle.dispatch_core.specs.declared.event.Event.TheVariants.{Accept, First, Ack, Refuse, Discard, Back, Again, Close}
use Rattle.dispatch_core.specs.declared.event.Spot.TheVariants.{Held}
use Rattle.dispatch_core.specs.GroupState.{GroupState, IsEmpty, spot_of, accepted_of}
use Rattle.dispatch_core.specs.Step.{Step, next_job}
use Rattle.group_jobs.specs.declared.fate.Fate.{Fate}
use Rattle.group_jobs.specs.declared.fate.Fate.TheVariants as fate
use Rattle.group_jobs.specs.declared.message.Message.{Message}
use Rattle.group_jobs.specs.declared.stamp.Stamp.{Stamp}
use Rattle.group_jobs.specs.Stamps.{Held as Envelope, envelope_of, job_of, stamp_of}
use Rattle.local_group.specs.declared.waiting.Waiting.{Waiting}
use Rattle.local_group.specs.declared.error.OfferError.{OfferError}
use Rattle.local_group.specs.declared.error.OfferError.TheVariants as offer
use Rattle.local_group.specs.declared.error.TakeError.{TakeError}
use Rattle.local_group.specs.declared.error.TakeError.TheVariants as taking

pub record Group : Type 0 where
  pub slot : ℕ
  -- how many messages may wait for their first hand-out
  pub capacity : ℕ
  -- what happened in it, and where that leaves its jobs
  pub events : List Event
  pub state : GroupState
  -- the messages that were handed to nobody, the oldest first
  pub queue : List Waiting
  -- those that were given back, the one that was given back first in front
  pub returned : List Waiting

-- a port accepts so many messages in its life: 2^40 (profile)
abbrev pub life : ℕ
life = most_accepted

abbrev pub waits : Job → Message → Waiting
waits job message = record { job = job; message = message }

-- a message of the group of this slot in the hands of a place
abbrev pub held_by : ℕ → Waiting → ℕ → Envelope
held_by slot waiting place = envelope_of (stamp_of slot waiting.job) place waiting.message

-- the group has it out: it is of this group, and the place has not settled it or given it back
pub record IsHeld (group : Group) (envelope : Envelope) : Type 0 where
  pub ours : envelope.stamp.group ≡ group.slot
  pub there : spot_of group.state (job_of envelope.stamp) ≡ Some (Held envelope.place)

-- a group before its first message
pub record IsFresh (group : Group) : Type 0 where
  pub events : group.events ≡ []
  pub state : IsEmpty group.state
  pub queue : group.queue ≡ []
  pub returned : group.returned ≡ []

pub record KeepsForm (old new : Group) : Type 0 where
  pub slot : new.slot ≡ old.slot
  pub capacity : new.capacity ≡ old.capacity

-- one event happened, and no other
pub record Adds (old : Group) (event : Event) (new : Group) : Type 0 where
  pub events : new.events ≡ old.events ++ event ∷ []
  pub step : Step old.state event new.state
  pub form : KeepsForm old new

-- a port may accept a message, memory aside
abbrev pub MayOffer : Group → ℕ → Type 0
MayOffer group port = (group.state.closed ≡ false) × (accepted_of group.state port < life) × (length group.queue < group.capacity)

-- a port accepts a message: it is the last of the queue
pub record Accepts (old : Group) (port : ℕ) (message : Message) (stamp : Stamp) (new : Group) : Type 0 where
  pub may : MayOffer old port
  pub event : Adds old (Accept port) new
  pub stamped : stamp ≡ stamp_of old.slot (next_job old.state port)
  pub queue : new.queue ≡ old.queue ++ waits (next_job old.state port) message ∷ []
  pub returned : new.returned ≡ old.returned

-- why a message is not accepted; of several reasons the first counts
abbrev pub MayNotOffer : Group → ℕ → OfferError → Type 0
MayNotOffer group port offer.Shut = group.state.closed ≡ true
MayNotOffer group port offer.LifeSpent = (group.state.closed ≡ false) × (life ≤ accepted_of group.state port)
MayNotOffer group port offer.Full = (group.state.closed ≡ false) × (accepted_of group.state port < life) × (group.capacity ≤ length group.queue)
MayNotOffer group port offer.Memory = MayOffer group port

-- the oldest message is handed to a place (4.6, 4.8.2); there is none where nothing is queued
abbrev pub Takes : Group → ℕ → Option Envelope → Group → Type 0
Takes old place None new = (old.state.closed ≡ false) × (old.queue ≡ []) × (new ≡ old)
Takes old place (Some envelope) new =
    (front : Waiting) × (old.queue ≡ front ∷ new.queue) × (envelope ≡ held_by old.slot front place) × (new.returned ≡ old.returned) × Adds old (First place front.job) new

-- the message that was given back first is handed to a place (profile); there is none where nothing is returned
abbrev pub TakesBack : Group → ℕ → Option Envelope → Group → Type 0
TakesBack old place None new = (old.state.closed ≡ false) × (old.returned ≡ []) × (new ≡ old)
TakesBack old place (Some envelope) new =
    (front : Waiting) × (old.returned ≡ front ∷ new.returned) × (envelope ≡ held_by old.slot front place) × (new.queue ≡ old.queue) × Adds old (Again place front.job) new

-- why nothing is handed out, from this list
abbrev pub MayNotTake : Group → List Waiting → TakeError → Type 0
MayNotTake group list taking.Shut = group.state.closed ≡ true
MayNotTake group list taking.Memory = (group.state.closed ≡ false) × (list ≢ [])

-- the event that a fate is
abbrev pub event_of : Fate → ℕ → Job → Event
event_of fate.Acknowledged place job = Ack place job
event_of fate.Refused place job = Refuse place job
event_of fate.Discarded place job = Discard place job

-- a message is settled by the place that holds it, as its PUBACK says (4.8.2)
pub record Settles (old : Group) (envelope : Envelope) (fate : Fate) (new : Group) : Type 0 where
  pub event : Adds old (event_of fate envelope.place (job_of envelope.stamp)) new
  pub queue : new.queue ≡ old.queue
  pub returned : new.returned ≡ old.returned

-- a message is given back by the place that holds it: it is the last of those (profile)
pub record GivesBack (old : Group) (envelope : Envelope) (new : Group) : Type 0 where
  pub event : Adds old (Back envelope.place (job_of envelope.stamp)) new
  pub queue : new.queue ≡ old.queue
  pub returned : new.returned ≡ old.returned ++ waits (job_of envelope.stamp) envelope.message ∷ []

-- a group is closed: a second close adds no event
pub record Closes (old new : Group) : Type 0 where
  pub closed : old.state.closed ≡ false → Adds old Close new
  pub queue : new.queue ≡ old.queue
  pub returned : new.returned ≡ old.returned
  pub again : old.state.closed ≡ true → new ≡ old
