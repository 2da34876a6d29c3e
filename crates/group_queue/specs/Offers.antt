-- What `offer` answers.
use Rattle.std.specs.Prelude.{◌≡◌, ◌≢◌, ◌+◌, List, ◌∷◌, ◌++◌, [], Result, Ok, Err}
use Rattle.limits.specs.Limits.{most_accepted}
use Rattle.crossbeam_queue.specs.Fifo.{Held}
use Rattle.group_jobs.specs.declared.message.Message.{Message}
use Rattle.group_jobs.specs.declared.stamp.Stamp.{Stamp}
use Rattle.group_queue.specs.declared.error.NotTaken.{NotTaken}
use Rattle.group_queue.specs.declared.error.OfferError.{OfferError}
use Rattle.group_queue.specs.declared.error.OfferError.TheVariants.{Full, LifeSpent}
use Rattle.group_queue.specs.declared.view.Name.TheVariants.{Port}
use Rattle.group_queue.specs.Views.{one}
use Rattle.group_queue.specs.Past.{Adds}
use Rattle.group_queue.specs.Witnesses.{SawMain}
use Rattle.group_queue.specs.declared.posted.Posted.{Posted}
use Rattle.group_queue.specs.declared.view.View.{View}
use Rattle.group_queue.specs.Ports.{GroupId, PortState, next_posted, next_stamp}

-- the message joined the queue at its back, and the port has sent it
pub record Accepts (old : PortState) (message : Message) (stamp : Stamp) (new : PortState) : Type 0 where
  pub stamp_is : stamp ≡ next_stamp old
  pub few : old.accepted ≢ most_accepted
  pub back : Adds (one (Port old.number) old.sent) (next_posted old message) (one (Port new.number) new.sent)
  pub is : new ≡ record old { accepted = old.accepted + 1; sent = old.sent ++ next_posted old message ∷ [] }

-- why a message is not accepted: the witness saw the queue full at one moment of the call, or the port has accepted 2^40 messages
abbrev pub IsBecause : (List Posted → List View → Type 0) → GroupId → PortState → OfferError → Type 0
IsBecause saw group old Full = (old.accepted ≢ most_accepted) × Held group.capacity (SawMain saw (one (Port old.number) old.sent))
IsBecause saw group old LifeSpent = old.accepted ≡ most_accepted

abbrev pub OfferAnswers : (List Posted → List View → Type 0) → GroupId → PortState → Message → Result Stamp NotTaken → PortState → Type 0
OfferAnswers saw group old message (Ok stamp) new = Accepts old message stamp new
OfferAnswers saw group old message (Err refusal) new = (refusal.message ≡ message) × (new ≡ old) × IsBecause saw group old refusal.error
