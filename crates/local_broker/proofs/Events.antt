-- What a call adds to the events of one group.
use Rattle.std.proofs.Common.{◌≡◌, ℕ, ◌⊎◌, true, false, Option, Some, None, Result, Ok, Err, refl, ap, ◌∙◌, inl, inr, ⊎_elim}
use Rattle.dispatch_core.specs.declared.event.Event.{Event}
use Rattle.dispatch_core.specs.declared.event.Event.TheVariants.{Accept, First, Ack, Refuse, Discard, Back, Again, Close}
use Rattle.dispatch_core.specs.GroupState.{GroupState}
use Rattle.dispatch_core.specs.Step.{Step}
use Rattle.group_jobs.specs.declared.fate.Fate.{Fate}
use Rattle.group_jobs.specs.declared.fate.Fate.TheVariants as fate
use Rattle.group_jobs.specs.declared.message.Message.{Message}
use Rattle.group_jobs.specs.declared.stamp.Stamp.{Stamp}
use Rattle.group_jobs.specs.Stamps.{Held, job_of}
use Rattle.local_group.specs.Groups.{Group, Adds, Settles, Closes}
use Rattle.conn_supply.specs.declared.supply.NoMemory.{NoMemory}
use Rattle.conn_supply.specs.declared.supply.OfferRefusal.{OfferRefusal}
use Rattle.local_broker.specs.Groups.{IsOffered, HandsOut, HandsOutAgain, IsOutAt, IsSettled, IsGivenBack, LetsGo}
use Rattle.local_broker.specs.Histories.{EndsHandOut}
use Rattle.local_broker.proofs.Closed.{either}

-- one event more; only an open group is closed
pub record GoesOn (old new : Group) : Type 0 where
  pub event : Event
  pub adds : Adds old event new
  pub once : event ≡ Close → old.state.closed ≡ false

abbrev pub Moves : Group → Group → Type 0
Moves old new = (new ≡ old) ⊎ GoesOn old new

pub offered : (old new : Group) (port : ℕ) (message : Message) (answer : Result Stamp OfferRefusal) → IsOffered old port message answer new → Moves old new
offered old new port message (Ok stamp) does = inr (record { event = Accept port; adds = does.event; once = λ e. absurd (cc) })
offered old new port message (Err refusal) does = inl does.same

pub handed : (old new : Group) (place : ℕ) (answer : Result (Option Held) NoMemory) → HandsOut old place answer new → Moves old new
handed old new place (Ok (Some envelope)) does = inr (record { event = First place does.0.job; adds = does.4; once = λ e. absurd (cc) })
handed old new place (Ok None) does = inl does.1
handed old new place (Err error) does = inl does.1

pub handed_again : (old new : Group) (place : ℕ) (answer : Result (Option Held) NoMemory) → HandsOutAgain old place answer new → Moves old new
handed_again old new place (Ok (Some envelope)) does = inr (record { event = Again place does.0.job; adds = does.4; once = λ e. absurd (cc) })
handed_again old new place (Ok None) does = inl does.1
handed_again old new place (Err error) does = inl does.1

ended : (old new : Group) (envelope : Held) (how : Fate) → Settles old envelope how new → GoesOn old new
ended old new envelope fate.Acknowledged settles = record { event = Ack envelope.place (job_of envelope.stamp); adds = settles.event; once = λ e. absurd (cc) }
ended old new envelope fate.Refused settles = record { event = Refuse envelope.place (job_of envelope.stamp); adds = settles.event; once = λ e. absurd (cc) }
ended old new envelope fate.Discarded settles = record { event = Discard envelope.place (job_of envelope.stamp); adds = settles.event; once = λ e. absurd (cc) }

pub settled : (old new : Group) (place : ℕ) (envelope : Held) (how : Fate) → IsSettled old place envelope how new → Moves old new
settled old new place envelope how does =
    ⊎_elim (λ (is : IsOutAt old place envelope × Settles old envelope how new). inr (ended old new envelope how is.1)) (λ (is : LetsGo old place envelope new). inl is.same) does

pub given_back : (old new : Group) (place : ℕ) (envelope : Held) → IsGivenBack old place envelope new → Moves old new
given_back old new place envelope does =
    ⊎_elim
    (λ is. inr (record { event = Back envelope.place (job_of envelope.stamp); adds = is.1.event; once = λ e. absurd (cc) }))
    (λ (is : LetsGo old place envelope new). inl is.same) does

pub closed : (old new : Group) → Closes old new → Moves old new
closed old new does =
    ⊎_elim
    (λ (was : old.state.closed ≡ true). inl (does.again was))
    (λ (was : old.state.closed ≡ false). inr (record { event = Close; adds = does.closed was; once = λ e. was }))
    (either old.state.closed)

-- a closed group stays closed
stays_closed : (old new : GroupState) (event : Event) → Step old event new → old.closed ≡ true → new.closed ≡ true
stays_closed old new (Accept port) step was = step.made.2 ∙ was
stays_closed old new (First place job) step was = step.made.2 ∙ was
stays_closed old new (Ack place job) step was = step.made.2 ∙ was
stays_closed old new (Refuse place job) step was = step.made.2 ∙ was
stays_closed old new (Discard place job) step was = step.made.2 ∙ was
stays_closed old new (Back place job) step was = step.made.2 ∙ was
stays_closed old new (Again place job) step was = step.made.2 ∙ was
stays_closed old new Close step was = step.made.2

pub keeps_closed : (old new : Group) → Moves old new → old.state.closed ≡ true → new.state.closed ≡ true
keeps_closed old new moves was =
    ⊎_elim
    (λ (same : new ≡ old). ap (λ g. g.state.closed) same ∙ was)
    (λ (on : GoesOn old new). stays_closed old.state new.state on.event on.adds.step was)
    moves

-- what is added to a closed group ends a hand-out
pub ends : (old new : Group) (event : Event) → Adds old event new → (event ≡ Close → old.state.closed ≡ false) → old.state.closed ≡ true → EndsHandOut event
ends old new (Accept port) adds once was = let is_open = adds.step.may.not_closed tt in cc
ends old new (First place job) adds once was = let is_open = adds.step.may.not_closed tt in cc
ends old new (Ack place job) adds once was = tt
ends old new (Refuse place job) adds once was = tt
ends old new (Discard place job) adds once was = tt
ends old new (Back place job) adds once was = tt
ends old new (Again place job) adds once was = let is_open = adds.step.may.not_closed tt in cc
ends old new Close adds once was = let is_open = once refl in cc
