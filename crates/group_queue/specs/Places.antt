-- Places as contracts see them, and what their calls make of them.
use Rattle.std.specs.Prelude.{◌≡◌, ℕ, ◌+◌, List, [], ◌∷◌, ◌++◌, map, ◌<◌, ◌≤◌, length, slice_get, Contains, Bool, Option, Some, None, Result, Ok, Err}
use Rattle.std.proofs.Common.{Global}
use Rattle.atomic_table.specs.Seated.{TableId}
use Rattle.crossbeam_queue.specs.SegTies.{SegId}
use Rattle.crossbeam_queue.specs.Fifo.{Held as AtOneMoment}
use Rattle.dispatch_core.specs.declared.event.Job.{Job}
use Rattle.dispatch_core.specs.JobRuns.{count_of}
use Rattle.group_jobs.specs.declared.fate.Fate.{Fate}
use Rattle.group_jobs.specs.declared.error.JobError.{JobError}
use Rattle.group_jobs.specs.Stamps.{Held, envelope_of, stamp_of, job_of}
use Rattle.group_jobs.specs.Settled.{settled_as, KeepsSettled, IsUnsettled, Settles}
use Rattle.group_jobs.specs.Dockets.{Kept, TakesOff}
use Rattle.group_jobs.specs.Balance.{Account, Balance}
use Rattle.group_jobs.specs.declared.ledger.Ledger.{Ledger}
use Rattle.shared_ledger.specs.declared.share.LedgerShare.{LedgerShare}
use Rattle.shared_ledger.specs.Giving.{times_in}
use Rattle.shared_ledger.specs.Givers.{GiverState, Gathers}
use Rattle.group_queue.specs.declared.posted.Posted.{Posted}
use Rattle.group_queue.specs.declared.view.Name.TheVariants.{Place}
use Rattle.group_queue.specs.Views.{one}
use Rattle.group_queue.specs.Past.{Takes}
use Rattle.group_queue.specs.Returns.{bag, PushesBack, PopsBack}
use Rattle.group_queue.specs.Witnesses.{SawMain, SawReturns}
use Rattle.group_queue.specs.declared.view.Bag.{Bag}
use Rattle.group_queue.specs.declared.view.View.{View}
use Rattle.group_queue.specs.Ports.{GroupId, Shape}

-- what ties a place to its group: both queues
pub record Hands : Type 0 where
  pub main : TableId
  pub returns : SegId Global

-- a place: its group's slot, its number, its docket, what it was the first to be handed, what it was handed again and what it
-- gave back, in order, and what it gave to the group's ledger; the last one keeps how many ports and places there are
pub record PlaceState : Type 0 where
  pub group : ℕ
  pub number : ℕ
  pub docket : Kept
  pub firsts : List Posted
  pub agains : List Posted
  pub given : List Posted
  pub hands : Hands
  pub keeps : Option Shape
  pub giver : GiverState

-- it is a place of this group
pub record IsPlaceOf (group : GroupId) (place : PlaceState) : Type 0 where
  pub slot : place.group ≡ group.slot
  pub number : place.number < group.shape.places
  pub hands : place.hands ≡ record { main = group.main; returns = group.returns }
  pub keeps : place.number + 1 ≡ group.shape.places → place.keeps ≡ Some group.shape
  pub giver_of : place.giver.ledger ≡ group.ledger
  -- it has a part of the ledger, and the last place all that are left
  pub some_part : 1 ≤ place.giver.parts
  pub parts_left : place.number + 1 ≡ group.shape.places → 65 ≤ place.giver.parts + group.shape.places

-- it is the same place, whatever it did
abbrev pub IsSamePlace : PlaceState → PlaceState → Type 0
IsSamePlace old new = (new.group ≡ old.group) × (new.number ≡ old.number) × (new.hands ≡ old.hands) × (new.keeps ≡ old.keeps) × (new.giver ≡ old.giver)

-- a place that was handed nothing
pub record IsNewPlace (group : GroupId) (number : ℕ) (place : PlaceState) : Type 0 where
  pub of : IsPlaceOf group place
  pub number_is : place.number ≡ number
  pub out : place.docket.out ≡ []
  pub settled : IsUnsettled place.docket.settled
  pub firsts : place.firsts ≡ []
  pub agains : place.agains ≡ []
  pub given : place.given ≡ []
  pub gathered : place.giver.gave ≡ []

-- these are all places of a group, numbered from 0 on, and none was handed a message
pub record AreNewPlaces (group : GroupId) (count : ℕ) (places : List PlaceState) : Type 0 where
  pub all : length places ≡ count
  pub each : (number : ℕ) → number < count → (place : PlaceState) × (slice_get places number ≡ Some place) × IsNewPlace group number place

abbrev pub jobs_in : List Posted → List Job
jobs_in list = map (λ posted. posted.job) list

-- what the place did with jobs: what it settled is in its docket, or in what it gave to the group's ledger
abbrev pub account_of : PlaceState → Account
account_of place = record {
  place = place.number;
  firsts = jobs_in place.firsts;
  agains = jobs_in place.agains;
  given = jobs_in place.given;
  out = place.docket.out;
  settled = λ fate job. count_of job (settled_as fate place.docket.settled) + times_in place.giver.gave fate job;
}

-- each hand-out to the place ended once, by a fate or by being given back, or the job is out
abbrev pub IsBalanced : PlaceState → Type 0
IsBalanced place = Balance (account_of place)

-- the envelope is one that the place has out
abbrev pub Holds : PlaceState → Held → Type 0
Holds place envelope = (envelope.stamp.group ≡ place.group) × (envelope.place ≡ place.number) × Contains place.docket.out (job_of envelope.stamp)

-- the docket has out and settled what it had
pub record KeepsDocket (old new : Kept) : Type 0 where
  pub out : new.out ≡ old.out
  pub settled : KeepsSettled old.settled new.settled

-- there is room for no fewer hand-outs than before
abbrev pub KeepsRoom : PlaceState → PlaceState → Type 0
KeepsRoom old new = old.docket.room ≤ new.docket.room

-- the place did nothing
pub record KeepsPlace (old new : PlaceState) : Type 0 where
  pub docket : KeepsDocket old.docket new.docket
  pub others : new ≡ record old { docket = new.docket }

-- a job moves from what is out to its fate
pub record SettlesHeld (old : PlaceState) (job : Job) (fate : Fate) (new : PlaceState) : Type 0 where
  pub out : TakesOff old.docket.out job new.docket.out
  pub settled : Settles old.docket.settled job fate new.docket.settled
  pub room : KeepsRoom old new
  pub others : new ≡ record old { docket = new.docket }

-- a message is out, in an envelope
pub record IsHandedOut (old : PlaceState) (posted : Posted) (envelope : Held) (new : PlaceState) : Type 0 where
  pub envelope_is : envelope ≡ envelope_of (stamp_of old.group posted.job) old.number posted.message
  pub out : new.docket.out ≡ old.docket.out ++ posted.job ∷ []
  pub settled : KeepsSettled old.docket.settled new.docket.settled

-- the front of the main queue was handed to the place, for the first time
pub record TakesFront (old : PlaceState) (envelope : Held) (new : PlaceState) : Type 0 where
  pub posted : Posted
  pub handed : IsHandedOut old posted envelope new
  pub front : Takes (one (Place old.number) old.firsts) posted (one (Place new.number) new.firsts)
  pub others : new ≡ record old { docket = new.docket; firsts = old.firsts ++ posted ∷ [] }

-- nothing was handed out for lack of memory: there was no room in the docket
abbrev pub HasNoRoom : PlaceState → PlaceState → Type 0
HasNoRoom old new = KeepsPlace old new × (old.docket.room ≡ 0)

-- a hand-out takes the room of one, and else there is room for no fewer than before
abbrev pub UsesRoom : PlaceState → Result (Option Held) JobError → PlaceState → Type 0
UsesRoom old (Ok (Some envelope)) new = old.docket.room ≤ new.docket.room + 1
UsesRoom old (Ok None) new = KeepsRoom old new
UsesRoom old (Err refusal) new = KeepsRoom old new

-- what `take` answers: the front; nothing, where the witness saw the main queue empty at one moment of the call; or no memory,
-- and nothing was taken
abbrev pub TakeAnswers : (List Posted → List View → Type 0) → PlaceState → Result (Option Held) JobError → PlaceState → Type 0
TakeAnswers saw old (Ok (Some envelope)) new = TakesFront old envelope new
TakeAnswers saw old (Ok None) new = KeepsPlace old new × AtOneMoment 0 (SawMain saw (one (Place old.number) old.firsts))
TakeAnswers saw old (Err refusal) new = HasNoRoom old new

-- the front of the returns queue was handed to the place, again
pub record TakesBack (old : PlaceState) (envelope : Held) (new : PlaceState) : Type 0 where
  pub posted : Posted
  pub handed : IsHandedOut old posted envelope new
  pub front : PopsBack (bag 1 old.given old.agains) posted (bag 1 new.given new.agains)
  pub others : new ≡ record old { docket = new.docket; agains = old.agains ++ posted ∷ [] }

-- what `take_back` answers; nothing, where the witness saw the returns queue empty at one moment of the call
abbrev pub TakeBackAnswers : (List Posted → List Bag → Type 0) → PlaceState → Result (Option Held) JobError → PlaceState → Type 0
TakeBackAnswers saw old (Ok (Some envelope)) new = TakesBack old envelope new
TakeBackAnswers saw old (Ok None) new = KeepsPlace old new × SawReturns saw (bag 1 old.given old.agains) []
TakeBackAnswers saw old (Err refusal) new = HasNoRoom old new

-- the envelope's own message was given back, with its stamp
pub record GivesBack (old : PlaceState) (envelope : Held) (new : PlaceState) : Type 0 where
  pub out : TakesOff old.docket.out (job_of envelope.stamp) new.docket.out
  pub settled : KeepsSettled old.docket.settled new.docket.settled
  pub room : new.docket.room ≡ old.docket.room + 1
  pub back : PushesBack (bag 1 old.given old.agains) (record { job = job_of envelope.stamp; message = envelope.message }) (bag 1 new.given new.agains)
  pub others : new ≡ record old { docket = new.docket; given = old.given ++ record { job = job_of envelope.stamp; message = envelope.message } ∷ [] }

abbrev pub GiveBackAnswers : PlaceState → Held → Result (Unit {0}) Held → PlaceState → Type 0
GiveBackAnswers old envelope (Ok done) new = GivesBack old envelope new
GiveBackAnswers old envelope (Err back) new = (back ≡ envelope) × (new ≡ old)

-- what `gather` answers: what the place had settled was given to the group's ledger; or the place is as it was
abbrev pub GatherAnswers : (List Ledger → List LedgerShare → Type 0) → PlaceState → Result Bool JobError → PlaceState → Type 0
GatherAnswers saw old result new = Gathers saw old.giver old.docket result new.giver new.docket × (new ≡ record old { docket = new.docket; giver = new.giver })
