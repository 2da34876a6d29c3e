-- What places are handed by calls is what the events of their groups tell.
use Rattle.std.proofs.Common.{◌≡◌, ◌≢◌, ℕ, ◌==◌, if◌then◌else◌, List, [], ◌∷◌, ◌++◌, Option, Some, None, Result, Ok, Err, slice_get, slice_set, refl, sym, ap, ◌∙◌, subst, ⊎_elim, arith, append_assoc, append-nil, get_or, eq-eqb, true, false}
use Rattle.std.specs.List.{cons_option}
use Rattle.std.proofs.lemmas.Bool.{cases_eq, ne_eqb}
use Rattle.std.proofs.lemmas.List.Elements.{filter_map-append}
use Rattle.std.proofs.lemmas.Option.{slice_get_within, slice_get-get_or, same_Some}
use Rattle.mqtt_topic.specs.Names.{Share}
use Rattle.dispatch_core.specs.declared.event.Event.{Event}
use Rattle.dispatch_core.specs.declared.event.Event.TheVariants.{Close}
use Rattle.dispatch_core.specs.declared.event.Job.{Job}
use Rattle.dispatch_core.proofs.Spots.{slice_get-set_same, slice_get-set_other}
use Rattle.group_jobs.specs.declared.fate.Fate.{Fate}
use Rattle.group_jobs.specs.declared.fate.Fate.TheVariants as fate
use Rattle.group_jobs.specs.declared.message.Message.{Message}
use Rattle.group_jobs.specs.declared.stamp.Stamp.{Stamp}
use Rattle.group_jobs.specs.Stamps.{Held, job_of}
use Rattle.local_group.specs.Groups.{Group, Adds, Settles, Closes}
use Rattle.conn_supply.specs.declared.supply.NoMemory.{NoMemory}
use Rattle.conn_supply.specs.declared.supply.OfferRefusal.{OfferRefusal}
use Rattle.conn_supply.specs.SupplyCalls.{SupplyCall}
use Rattle.conn_supply.specs.SupplyCalls.SupplyCall.{Attach, Withdraw, Kicked, Park, ParkAsIs, Keep, Bury, Sweep, LendPlace, TakePlace, Bind, Find, Match, Offer, MayTake, Take, TakeBack, Settle, GiveBack}
use Rattle.local_broker.specs.Places.{GroupPlace}
use Rattle.local_broker.specs.Groups.{InGroup, ClosesEach, IsOffered, HandsOut, HandsOutAgain, IsOutAt, IsSettled, IsGivenBack, LetsGo}
use Rattle.local_broker.specs.Broker.{Broker, IsNewBroker}
use Rattle.local_broker.specs.Calls.{Calls, OffersFrom}
use Rattle.local_broker.specs.Histories.{Happening, Called, Closed, Happens, HappensAll}
use Rattle.local_broker.specs.HandOuts.{HandOut, handed_by, handed_by_all, handed_in, handed_in_all, seen_by, seen_by_group}
use Rattle.local_broker.proofs.Closed.{either}

-- after one group stands another, in which these were handed out besides
abbrev Hands : List (ℕ × Job) → Group → Group → Type 0
Hands given old new = handed_in_all new.events ≡ handed_in_all old.events ++ given

same_group : (old new : Group) → new ≡ old → Hands [] old new
same_group old new same = ap (λ g. handed_in_all g.events) same ∙ sym (append-nil (handed_in_all old.events))

one_event : (given : Option (ℕ × Job)) (old new : Group) (event : Event) → Adds old event new → handed_in event ≡ given → Hands (cons_option given []) old new
one_event given old new event adds is =
    ap handed_in_all adds.events ∙ filter_map-append handed_in old.events (event ∷ []) ∙ ap (λ found. handed_in_all old.events ++ cons_option found []) is

-- one call of a group
offered : (answer : Result Stamp OfferRefusal) (old new : Group) (port : ℕ) (message : Message) → IsOffered old port message answer new → Hands [] old new
offered (Ok stamp) old new port message does = one_event None old new _ does.event refl
offered (Err refusal) old new port message does = same_group old new does.same

-- what the place of this number is handed by an answer
abbrev given_to : ℕ → Result (Option Held) NoMemory → List (ℕ × Job)
given_to place (Ok (Some envelope)) = (place, job_of envelope.stamp) ∷ []
given_to place (Ok None) = []
given_to place (Err refusal) = []

handed : (answer : Result (Option Held) NoMemory) (old new : Group) (place : ℕ) → HandsOut old place answer new → Hands (given_to place answer) old new
handed (Ok (Some envelope)) old new place does =
    subst (λ (e : Held). Hands ((place, job_of e.stamp) ∷ []) old new) (sym does.2) (one_event (Some (place, does.0.job)) old new _ does.4 refl)
handed (Ok None) old new place does = same_group old new does.1
handed (Err refusal) old new place does = same_group old new does.1

handed_again : (answer : Result (Option Held) NoMemory) (old new : Group) (place : ℕ) → HandsOutAgain old place answer new → Hands (given_to place answer) old new
handed_again (Ok (Some envelope)) old new place does =
    subst (λ (e : Held). Hands ((place, job_of e.stamp) ∷ []) old new) (sym does.2) (one_event (Some (place, does.0.job)) old new _ does.4 refl)
handed_again (Ok None) old new place does = same_group old new does.1
handed_again (Err refusal) old new place does = same_group old new does.1

settled_as : (how : Fate) (old new : Group) (envelope : Held) → Settles old envelope how new → Hands [] old new
settled_as fate.Acknowledged old new envelope settles = one_event None old new _ settles.event refl
settled_as fate.Refused old new envelope settles = one_event None old new _ settles.event refl
settled_as fate.Discarded old new envelope settles = one_event None old new _ settles.event refl

settled : (how : Fate) (old new : Group) (place : ℕ) (envelope : Held) → IsSettled old place envelope how new → Hands [] old new
settled how old new place envelope does =
    ⊎_elim
    (λ (is : IsOutAt old place envelope × Settles old envelope how new). settled_as how old new envelope is.1)
    (λ (is : LetsGo old place envelope new). same_group old new is.same)
    does

given_back : (old new : Group) (place : ℕ) (envelope : Held) → IsGivenBack old place envelope new → Hands [] old new
given_back old new place envelope does =
    ⊎_elim (λ is. one_event None old new _ is.1.event refl) (λ (is : LetsGo old place envelope new). same_group old new is.same) does

closed : (old new : Group) → Closes old new → Hands [] old new
closed old new does =
    ⊎_elim
    (λ (was : old.state.closed ≡ true). same_group old new (does.again was))
    (λ (was : old.state.closed ≡ false). one_event None old new Close (does.closed was) refl)
    (either old.state.closed)

-- the group of this slot was that one before, and these were handed out in it since
pub record Since (old : List Group) (slot : ℕ) (group : Group) (given : List (ℕ × Job)) : Type 0 where
  pub before : Group
  pub was : slice_get old slot ≡ Some before
  pub hands : Hands given before group

since_same : (old new : List Group) → new ≡ old → (slot : ℕ) (group : Group) → slice_get new slot ≡ Some group → Since old slot group []
since_same old new same slot group there =
    record { before = group; was = ap (λ l. slice_get l slot) (sym same) ∙ there; hands = same_group group group refl }

-- these, where the slot is that one
abbrev given_at : ℕ → ℕ → List (ℕ × Job) → List (ℕ × Job)
given_at at slot given = if at == slot then given else []

since_in : (old new : List Group) (at : ℕ) (Does : Group → Group → Type 0) (given : List (ℕ × Job)) → ((before after : Group) → Does before after → Hands given before after)
    → InGroup old at Does new → (slot : ℕ) (group : Group) → slice_get new slot ≡ Some group → Since old slot group (given_at at slot given)
since_in old new at Does given hands does slot group there =
    let set : slice_get (slice_set old at does.after) slot ≡ Some group = ap (λ l. slice_get l slot) (sym does.becomes) ∙ there in
    ⊎_elim
    (λ (is : at ≡ slot).
    let same = same_Some does.after group (sym (slice_get-set_same old at does.after (slice_get_within old at does.before does.there)) ∙ ap (slice_get (slice_set old at does.after)) is ∙ set) in
    rw (eq-eqb at slot is) (record {
      before = does.before;
      was = ap (slice_get old) (sym is) ∙ does.there;
      hands = subst (Hands given does.before) same (hands does.before does.after does.does);
    }))
    (λ (differs : at ≢ slot).
    rw (ne_eqb at slot differs) (record {
      before = group;
      was = sym (slice_get-set_other old at slot does.after (λ e. differs (sym e))) ∙ set;
      hands = same_group group group refl;
    }))
    (cases_eq at slot)

-- a call by which nothing is handed out
since_in_none : (old new : List Group) (at : ℕ) (Does : Group → Group → Type 0) → ((before after : Group) → Does before after → Hands [] before after)
    → InGroup old at Does new → (slot : ℕ) (group : Group) → slice_get new slot ≡ Some group → Since old slot group []
since_in_none old new at Does hands does slot group there =
    subst (Since old slot group) (⊎_elim (λ (is : at ≡ slot). rw (eq-eqb at slot is) refl) (λ (differs : at ≢ slot). rw (ne_eqb at slot differs) refl) (cases_eq at slot))
    (since_in old new at Does [] hands does slot group there)

since_offer : (old new : List Group) (at connection : ℕ) (message : Message) (answer : Result Stamp OfferRefusal) → OffersFrom old at connection message answer new
    → (slot : ℕ) (group : Group) → slice_get new slot ≡ Some group → Since old slot group []
since_offer old new at connection message answer does slot group there =
    ⊎_elim
    (λ no_port. since_same old new no_port.2 slot group there)
    (λ with_port.
    ⊎_elim
    (λ no_group. since_same old new no_group.3 slot group there)
    (λ in_group. since_in_none old new at _ (λ before after is. offered answer before after connection message is) in_group.2 slot group there)
    with_port)
    does

-- what a hand-out is to the group of a slot
seen_at : (place : GroupPlace) (slot : ℕ) (envelope : Held) → given_at place.slot slot ((place.number, job_of envelope.stamp) ∷ []) ≡ seen_by_group slot ((place, envelope) ∷ [])
seen_at place slot envelope =
    ⊎_elim
    (λ (is : place.slot ≡ slot). rw (eq-eqb place.slot slot is) refl)
    (λ (differs : place.slot ≢ slot). rw (ne_eqb place.slot slot differs) refl)
    (cases_eq place.slot slot)

none_at : (at slot : ℕ) → given_at at slot [] ≡ []
none_at at slot = ⊎_elim (λ (is : at ≡ slot). rw (eq-eqb at slot is) refl) (λ (differs : at ≢ slot). rw (ne_eqb at slot differs) refl) (cases_eq at slot)

-- what a call hands out, seen by the group of a slot
abbrev seen_in : ℕ → Happening → List (ℕ × Job)
seen_in slot happening = seen_by_group slot (cons_option (handed_by happening) [])

taken_seen : (answer : Result (Option Held) NoMemory) (place place' : GroupPlace) (slot : ℕ) → given_at place.slot slot (given_to place.number answer) ≡ seen_in slot (Called (Take place place' answer))
taken_seen (Ok (Some envelope)) place place' slot = seen_at place slot envelope
taken_seen (Ok None) place place' slot = none_at place.slot slot
taken_seen (Err refusal) place place' slot = none_at place.slot slot

taken_back_seen : (answer : Result (Option Held) NoMemory) (place place' : GroupPlace) (slot : ℕ) → given_at place.slot slot (given_to place.number answer) ≡ seen_in slot (Called (TakeBack place place' answer))
taken_back_seen (Ok (Some envelope)) place place' slot = seen_at place slot envelope
taken_back_seen (Ok None) place place' slot = none_at place.slot slot
taken_back_seen (Err refusal) place place' slot = none_at place.slot slot

since : (supply_call : SupplyCall GroupPlace) (old new : Broker) → Calls old supply_call new → (slot : ℕ) (group : Group) → slice_get new.groups slot ≡ Some group
    → Since old.groups slot group (seen_in slot (Called supply_call))
since (Attach request answer) old new does slot group there = since_same old.groups new.groups does.groups slot group there
since (Withdraw connection) old new does slot group there = since_same old.groups new.groups does.groups slot group there
since (Kicked connection answer) old new does slot group there = since_same old.groups new.groups does.groups slot group there
since (Park session now answer) old new does slot group there = since_same old.groups new.groups does.groups slot group there
since (ParkAsIs session) old new does slot group there = since_same old.groups new.groups does.1.groups slot group there
since (Keep session) old new does slot group there = since_same old.groups new.groups does.1.groups slot group there
since (Bury session) old new does slot group there = since_same old.groups new.groups does.1.groups slot group there
since (Sweep now answer) old new does slot group there = since_same old.groups new.groups does.groups slot group there
since (LendPlace at answer) old new does slot group there = since_same old.groups new.groups does.groups slot group there
since (TakePlace place) old new does slot group there = since_same old.groups new.groups does.1.groups slot group there
since (Bind share answer) old new does slot group there = since_same old.groups new.groups does.1.groups slot group there
since (Find share answer) old new does slot group there = since_same old.groups new.groups (ap (λ b. b.groups) does.1) slot group there
since (Match topic slots) old new does slot group there = since_same old.groups new.groups (ap (λ b. b.groups) does.1) slot group there
since (Offer at connection message answer) old new does slot group there = since_offer old.groups new.groups at connection message answer does.0 slot group there
since (MayTake place answer) old new does slot group there = since_same old.groups new.groups (ap (λ b. b.groups) does.1) slot group there
since (Take place place' answer) old new does slot group there =
    subst (Since old.groups slot group) (taken_seen answer place place' slot) (
    since_in old.groups new.groups place.slot _ (given_to place.number answer) (λ before after is. handed answer before after place.number is) does.0 slot group there)
since (TakeBack place place' answer) old new does slot group there =
    subst (Since old.groups slot group) (taken_back_seen answer place place' slot) (
    since_in old.groups new.groups place.slot _ (given_to place.number answer) (λ before after is. handed_again answer before after place.number is) does.0 slot group there)
since (Settle place place' envelope how) old new does slot group there =
    since_in_none old.groups new.groups place.slot _ (λ before after is. settled how before after place.number envelope is) does.0 slot group there
since (GiveBack place place' envelope (Ok done)) old new does slot group there =
    since_in_none old.groups new.groups place.slot _ (λ before after is. given_back before after place.number envelope is) does.0 slot group there
since (GiveBack place place' envelope (Err back)) old new does slot group there = absurd does

since_close : (old new : List Group) → ClosesEach old new → (slot : ℕ) (group : Group) → slice_get new slot ≡ Some group → Since old slot group []
since_close old new closes slot group there =
    let within = slice_get_within new slot group there in
    let before = get_or old slot group in
    let was = slice_get-get_or old slot group (let as_many = closes.as_many in omega arith) in
    let has = closes.each slot before was in
    record { before = before; was = was; hands = subst (Hands [] before) (same_Some has.group group (sym has.there ∙ there)) (closed before has.group has.is_so) }

since_next : (happening : Happening) (old new : Broker) → Happens old happening new → (slot : ℕ) (group : Group) → slice_get new.groups slot ≡ Some group
    → Since old.groups slot group (seen_in slot happening)
since_next (Called supply_call) old new does slot group there = since supply_call old new does slot group there
since_next Closed old new does slot group there = since_close old.groups new.groups does.groups slot group there

-- first this happened, and then those
seen_then : (slot : ℕ) (hand_out : Option HandOut) (later : List HandOut) → seen_by_group slot (cons_option hand_out []) ++ seen_by_group slot later ≡ seen_by_group slot (cons_option hand_out later)
seen_then slot None later = refl
seen_then slot (Some hand_out) later = sym (filter_map-append (seen_by slot) (hand_out ∷ []) later)

since_all : (happenings : List Happening) (old new : Broker) → HappensAll old happenings new → (slot : ℕ) (group : Group) → slice_get new.groups slot ≡ Some group
    → Since old.groups slot group (seen_by_group slot (handed_by_all happenings))
since_all [] old new all slot group there = since_same old.groups new.groups (ap (λ b. b.groups) all) slot group there
since_all (happening ∷ others) old new all slot group there =
    let later = since_all others all.0 new all.2 slot group there in
    let first = since_next happening old all.0 all.1 slot later.before later.was in
    record {
      before = first.before;
      was = first.was;
      hands =
          later.hands ∙ ap (λ l. l ++ seen_by_group slot (handed_by_all others)) first.hands
          ∙ append_assoc (handed_in_all first.before.events) (seen_in slot happening) (seen_by_group slot (handed_by_all others))
          ∙ ap (λ l. handed_in_all first.before.events ++ l) (seen_then slot (handed_by happening) (handed_by_all others));
    }

pub handed_all : (capacity : ℕ) (shares : List Share) (happenings : List Happening) (first b : Broker) → IsNewBroker capacity shares first → HappensAll first happenings b
    → (slot : ℕ) (group : Group) → slice_get b.groups slot ≡ Some group → handed_in_all group.events ≡ seen_by_group slot (handed_by_all happenings)
handed_all capacity shares happenings first b new all slot group there =
    let all_since = since_all happenings first b all slot group there in
    let empty = new.groups slot all_since.before all_since.was in
    all_since.hands ∙ ap (λ events. handed_in_all events ++ seen_by_group slot (handed_by_all happenings)) empty.fresh.events
