-- What `Ports::offer` answers.
use Rattle.std.specs.Prelude.{◌≡◌, ◌⊎◌, ℕ, ◌<◌, ◌≤◌, List, slice_get, slice_set, Some, Result, Ok, Err}
use Rattle.limits.specs.Limits.{most_groups}
use Rattle.group_jobs.specs.declared.message.Message.{Message}
use Rattle.group_jobs.specs.declared.stamp.Stamp.{Stamp}
use Rattle.group_queue.specs.declared.error.NotTaken.{NotTaken}
use Rattle.group_queue.specs.declared.error.OfferError.{OfferError}
use Rattle.group_queue.specs.declared.error.OfferError.TheVariants as error
use Rattle.group_queue.specs.Ports.{GroupId, PortState}
use Rattle.group_queue.specs.Offers.{OfferAnswers}
use Rattle.group_queue.specs.declared.posted.Posted.{Posted}
use Rattle.group_queue.specs.declared.view.View.{View}
use Rattle.conn_supply.specs.declared.supply.OfferRefusal.{OfferRefusal}
use Rattle.conn_supply.specs.declared.supply.OfferRefusal.TheVariants as refusal

-- the message was offered through the port of this slot's group, as the group answers, and the other ports are as they were
pub record OffersThrough (group : GroupId) (saw : List Posted → List View → Type 0) (old : List PortState) (slot : ℕ) (message : Message) (answer : Result Stamp NotTaken) (new : List PortState) : Type 0 where
  pub before : PortState
  pub there : slice_get old slot ≡ Some before
  pub after : PortState
  pub answers : OfferAnswers saw group before message answer after
  pub becomes : new ≡ slice_set old slot after

-- what a connection is told of a group's answer
abbrev pub told_as : OfferError → OfferRefusal
told_as error.Full = refusal.Full
told_as error.LifeSpent = refusal.LifeSpent

abbrev pub told : Result Stamp NotTaken → Result Stamp OfferRefusal
told (Ok stamp) = Ok stamp
told (Err refused) = Err (told_as refused.error)

-- the answer is that of the slot's group; there is no group from slot 8 on, as if it were closed
abbrev pub OffersTo : (ℕ → GroupId) → (List Posted → List View → Type 0) → List PortState → ℕ → Message → Result Stamp OfferRefusal → List PortState → Type 0
OffersTo group saw old slot message answer new =
    ((most_groups ≤ slot) × (answer ≡ Err refusal.Shut) × (new ≡ old))
    ⊎ ((slot < most_groups) × ((given : Result Stamp NotTaken) × OffersThrough (group slot) saw old slot message given new × (answer ≡ told given)))
