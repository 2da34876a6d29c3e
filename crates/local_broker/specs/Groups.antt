-- What a call makes of one group on one thread, and what a connection is answered.
use Rattle.std.specs.Prelude.{◌≡◌, ◌⊎◌, ℕ, true, List, [], Option, Some, None, Result, Ok, Err, slice_get, slice_set, length}
use Rattle.group_jobs.specs.declared.fate.Fate.{Fate}
use Rattle.group_jobs.specs.declared.message.Message.{Message}
use Rattle.group_jobs.specs.declared.stamp.Stamp.{Stamp}
use Rattle.group_jobs.specs.Stamps.{Held}
use Rattle.local_group.specs.declared.error.OfferError.{OfferError}
use Rattle.local_group.specs.declared.error.OfferError.TheVariants as offer
use Rattle.local_group.specs.declared.error.TakeError.TheVariants as taking
use Rattle.local_group.specs.Groups.{Group, IsHeld, Accepts, MayNotOffer, Takes, TakesBack, MayNotTake, Settles, GivesBack, Closes}
use Rattle.conn_supply.specs.declared.supply.NoMemory.{NoMemory}
use Rattle.conn_supply.specs.declared.supply.OfferRefusal.{OfferRefusal}
use Rattle.conn_supply.specs.declared.supply.OfferRefusal.TheVariants as refusal

-- what a connection is told of a group's refusal
abbrev pub told_as : OfferError → OfferRefusal
told_as offer.Shut = refusal.Shut
told_as offer.LifeSpent = refusal.LifeSpent
told_as offer.Full = refusal.Full
told_as offer.Memory = refusal.Memory

-- a message is not accepted, and nothing changes
pub record RefusesOffer (old : Group) (port : ℕ) (refusal : OfferRefusal) (new : Group) : Type 0 where
  pub why : OfferError
  pub told : refusal ≡ told_as why
  pub may_not : MayNotOffer old port why
  pub same : new ≡ old

-- a message is offered through a port
abbrev pub IsOffered : Group → ℕ → Message → Result Stamp OfferRefusal → Group → Type 0
IsOffered old port message (Ok stamp) new = Accepts old port message stamp new
IsOffered old port message (Err refusal) new = RefusesOffer old port refusal new

-- a place is handed the oldest message; there is none where none is queued, or the group is closed
abbrev pub HandsOut : Group → ℕ → Result (Option Held) NoMemory → Group → Type 0
HandsOut old place (Ok (Some envelope)) new = Takes old place (Some envelope) new
HandsOut old place (Ok None) new = ((old.state.closed ≡ true) ⊎ (old.queue ≡ [])) × (new ≡ old)
HandsOut old place (Err error) new = MayNotTake old old.queue taking.Memory × (new ≡ old)

-- it is handed the message that was given back first; there is none where none was, or the group is closed
abbrev pub HandsOutAgain : Group → ℕ → Result (Option Held) NoMemory → Group → Type 0
HandsOutAgain old place (Ok (Some envelope)) new = TakesBack old place (Some envelope) new
HandsOutAgain old place (Ok None) new = ((old.state.closed ≡ true) ⊎ (old.returned ≡ [])) × (new ≡ old)
HandsOutAgain old place (Err error) new = MayNotTake old old.returned taking.Memory × (new ≡ old)

-- the place was handed this message, and has neither settled it nor given it back
pub record IsOutAt (group : Group) (place : ℕ) (envelope : Held) : Type 0 where
  pub held : IsHeld group envelope
  pub its : envelope.place ≡ place

-- a message that the place does not have is let go, and nothing changes
pub record LetsGo (old : Group) (place : ℕ) (envelope : Held) (new : Group) : Type 0 where
  pub stranger : ¬ IsOutAt old place envelope
  pub same : new ≡ old

-- a place settles a message that it has
abbrev pub IsSettled : Group → ℕ → Held → Fate → Group → Type 0
IsSettled old place envelope fate new = (IsOutAt old place envelope × Settles old envelope fate new) ⊎ LetsGo old place envelope new

-- a place gives a message back that it has; that takes no memory
abbrev pub IsGivenBack : Group → ℕ → Held → Group → Type 0
IsGivenBack old place envelope new = (IsOutAt old place envelope × GivesBack old envelope new) ⊎ LetsGo old place envelope new

-- a call is made of the group of this slot, and of no other
pub record InGroup (old : List Group) (slot : ℕ) (Does : Group → Group → Type 0) (new : List Group) : Type 0 where
  pub before : Group
  pub after : Group
  pub there : slice_get old slot ≡ Some before
  pub does : Does before after
  pub becomes : new ≡ slice_set old slot after

-- the group of this slot is so
pub record HasGroup (groups : List Group) (slot : ℕ) (IsSo : Group → Type 0) : Type 0 where
  pub group : Group
  pub there : slice_get groups slot ≡ Some group
  pub is_so : IsSo group

-- each group is closed, in its place
pub record ClosesEach (old new : List Group) : Type 0 where
  pub as_many : length new ≡ length old
  pub each : (slot : ℕ) (before : Group) → slice_get old slot ≡ Some before → HasGroup new slot (Closes before)
