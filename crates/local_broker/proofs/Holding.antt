-- What a place was handed is out there until it is spent.
use Rattle.std.proofs.Common.{◌≡◌, ◌≢◌, ℕ, true, false, length, Option, Some, None, Result, Ok, Err, sym, ap, ◌∙◌, subst, ⊎_elim, arith}
use Rattle.std.proofs.lemmas.Option.{slice_get_past, same_Some}
use Rattle.dispatch_core.specs.declared.event.Job.{Job}
use Rattle.dispatch_core.specs.declared.event.Event.{Event}
use Rattle.dispatch_core.specs.declared.event.Event.TheVariants.{Accept, First, Ack, Refuse, Discard, Back, Again, Close}
use Rattle.dispatch_core.specs.declared.event.Spot.{Spot}
use Rattle.dispatch_core.specs.declared.event.Spot.TheVariants as spot
use Rattle.dispatch_core.specs.GroupState.{GroupState, spot_of, row_of}
use Rattle.dispatch_core.specs.Mentions.{job_of}
use Rattle.dispatch_core.specs.Step.{next_job}
use Rattle.group_jobs.specs.declared.fate.Fate.{Fate}
use Rattle.group_jobs.specs.declared.fate.Fate.TheVariants as fate
use Rattle.group_jobs.specs.declared.message.Message.{Message}
use Rattle.group_jobs.specs.declared.stamp.Stamp.{Stamp}
use Rattle.group_jobs.specs.Stamps.{Held, job_of as stamped}
use Rattle.local_group.specs.Groups.{Group, Adds, IsHeld, Settles, GivesBack, Closes}
use Rattle.local_group.proofs.Holding.{comes, stays}
use Rattle.conn_supply.specs.declared.supply.NoMemory.{NoMemory}
use Rattle.conn_supply.specs.declared.supply.OfferRefusal.{OfferRefusal}
use Rattle.local_broker.specs.Groups.{IsOffered, HandsOut, HandsOutAgain, IsOutAt, IsSettled, IsGivenBack, LetsGo}
use Rattle.local_broker.proofs.Closed.{either}

-- what is out stays out, where an event is about another job
kept : (old new : Group) (place : ℕ) (envelope : Held) (event : Event) → IsOutAt old place envelope → Adds old event new → job_of old.state event ≢ Some (stamped envelope.stamp) → IsOutAt new place envelope
kept old new place envelope event out adds other = record { held = stays old new event envelope out.held adds other; its = out.its }

-- a job that is out was accepted, is not queued and not returned
not_next : (state : GroupState) (port place : ℕ) (job : Job) → spot_of state job ≡ Some (spot.Held place) → Some (next_job state port) ≢ Some job
not_next state port place job out same =
    let is : next_job state port ≡ job = same_Some (next_job state port) job same in
    let none : spot_of state (next_job state port) ≡ None = slice_get_past (row_of state port) (length (row_of state port)) (omega arith) in
    let both = sym none ∙ ap (spot_of state) is ∙ out in
    absurd (cc)

elsewhere : (state : GroupState) (at : Spot) (place : ℕ) (job other : Job) → spot_of state other ≡ Some at → at ≢ spot.Held place → spot_of state job ≡ Some (spot.Held place) → Some other ≢ Some job
elsewhere state at place job other there differs out same =
    differs (same_Some at (spot.Held place) (sym there ∙ ap (spot_of state) (same_Some other job same) ∙ out))

-- two messages of one group with the same job have the same stamp
one_stamp : (group : Group) (one other : Held) → IsHeld group one → IsHeld group other → stamped one.stamp ≡ stamped other.stamp → one.stamp ≡ other.stamp
one_stamp group one other held also same =
    λ i. record { group = (held.ours ∙ sym also.ours) i; port = (same i).port; number = (same i).number }

pub offered : (old new : Group) (port : ℕ) (message : Message) (answer : Result Stamp OfferRefusal) (place : ℕ) (envelope : Held) → IsOffered old port message answer new → IsOutAt old place envelope → IsOutAt new place envelope
offered old new port message (Ok stamp) place envelope does out = kept old new place envelope (Accept port) out does.event (not_next old.state port envelope.place (stamped envelope.stamp) out.held.there)
offered old new port message (Err refusal) place envelope does out = subst (λ g. IsOutAt g place envelope) (sym does.same) out

pub handed : (old new : Group) (to : ℕ) (answer : Result (Option Held) NoMemory) (place : ℕ) (envelope : Held) → HandsOut old to answer new → IsOutAt old place envelope → IsOutAt new place envelope
handed old new to (Ok (Some other)) place envelope does out =
    kept old new place envelope (First to does.0.job) out does.4
    (elsewhere old.state spot.Queued envelope.place (stamped envelope.stamp) does.0.job does.4.step.may.ready.0 (λ e. absurd (cc)) out.held.there)
handed old new to (Ok None) place envelope does out = subst (λ g. IsOutAt g place envelope) (sym does.1) out
handed old new to (Err error) place envelope does out = subst (λ g. IsOutAt g place envelope) (sym does.1) out

pub handed_again : (old new : Group) (to : ℕ) (answer : Result (Option Held) NoMemory) (place : ℕ) (envelope : Held) → HandsOutAgain old to answer new → IsOutAt old place envelope → IsOutAt new place envelope
handed_again old new to (Ok (Some other)) place envelope does out =
    kept old new place envelope (Again to does.0.job) out does.4
    (elsewhere old.state spot.Returned envelope.place (stamped envelope.stamp) does.0.job does.4.step.may.ready (λ e. absurd (cc)) out.held.there)
handed_again old new to (Ok None) place envelope does out = subst (λ g. IsOutAt g place envelope) (sym does.1) out
handed_again old new to (Err error) place envelope does out = subst (λ g. IsOutAt g place envelope) (sym does.1) out

settles : (old new : Group) (other : Held) (how : Fate) (place : ℕ) (envelope : Held) → Settles old other how new → IsOutAt old place envelope → stamped other.stamp ≢ stamped envelope.stamp → IsOutAt new place envelope
settles old new other fate.Acknowledged place envelope does out differs =
    kept old new place envelope (Ack other.place (stamped other.stamp)) out does.event (λ e. differs (same_Some (stamped other.stamp) (stamped envelope.stamp) e))
settles old new other fate.Refused place envelope does out differs =
    kept old new place envelope (Refuse other.place (stamped other.stamp)) out does.event (λ e. differs (same_Some (stamped other.stamp) (stamped envelope.stamp) e))
settles old new other fate.Discarded place envelope does out differs =
    kept old new place envelope (Discard other.place (stamped other.stamp)) out does.event (λ e. differs (same_Some (stamped other.stamp) (stamped envelope.stamp) e))

pub settled : (old new : Group) (at : ℕ) (other : Held) (how : Fate) (place : ℕ) (envelope : Held) → IsSettled old at other how new → other.stamp ≢ envelope.stamp → IsOutAt old place envelope → IsOutAt new place envelope
settled old new at other how place envelope does differs out =
    ⊎_elim
    (λ (is : IsOutAt old at other × Settles old other how new). settles old new other how place envelope is.1 out (λ e. differs (one_stamp old other envelope is.0.held out.held e)))
    (λ (is : LetsGo old at other new). subst (λ g. IsOutAt g place envelope) (sym is.same) out)
    does

pub given_back : (old new : Group) (at : ℕ) (other : Held) (place : ℕ) (envelope : Held) → IsGivenBack old at other new → other.stamp ≢ envelope.stamp → IsOutAt old place envelope → IsOutAt new place envelope
given_back old new at other place envelope does differs out =
    ⊎_elim
    (λ (is : IsOutAt old at other × GivesBack old other new).
    kept old new place envelope (Back other.place (stamped other.stamp)) out is.1.event
    (λ e. differs (one_stamp old other envelope is.0.held out.held (same_Some (stamped other.stamp) (stamped envelope.stamp) e))))
    (λ (is : LetsGo old at other new). subst (λ g. IsOutAt g place envelope) (sym is.same) out)
    does

pub closed : (old new : Group) (place : ℕ) (envelope : Held) → Closes old new → IsOutAt old place envelope → IsOutAt new place envelope
closed old new place envelope does out =
    ⊎_elim
    (λ (was : old.state.closed ≡ true). subst (λ g. IsOutAt g place envelope) (sym (does.again was)) out)
    (λ (was : old.state.closed ≡ false). kept old new place envelope Close out (does.closed was) (λ e. absurd (cc)))
    (either old.state.closed)

-- what is handed out is out
pub comes_out : (old new : Group) (to : ℕ) (envelope : Held) → HandsOut old to (Ok (Some envelope)) new → IsOutAt new to envelope
comes_out old new to envelope does =
    record { held = comes old new (First to does.0.job) does.0 to envelope does.2 does.4 does.4.step.made.0.there; its = ap (λ e. e.place) does.2 }

pub comes_out_again : (old new : Group) (to : ℕ) (envelope : Held) → HandsOutAgain old to (Ok (Some envelope)) new → IsOutAt new to envelope
comes_out_again old new to envelope does =
    record { held = comes old new (Again to does.0.job) does.0 to envelope does.2 does.4 does.4.step.made.0.there; its = ap (λ e. e.place) does.2 }
