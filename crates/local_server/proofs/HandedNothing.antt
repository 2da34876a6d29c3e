-- Calls by which nothing is handed out leave the hand-outs of each group.
use Rattle.std.proofs.Common.{◌≡◌, ◌≢◌, ℕ, List, [], ◌∷◌, ◌++◌, filter_map, Option, Some, None, Result, Ok, Err, slice_get, refl, sym, ap, subst, ◌∙◌, inl, inr, ⊎_elim, append-nil}
use Rattle.std.specs.List.{cons_option}
use Rattle.std.proofs.lemmas.Bool.{cases_eq}
use Rattle.std.proofs.lemmas.Option.{slice_get_within}
use Rattle.std.proofs.lemmas.List.Elements.{filter_map-append}
use Rattle.dispatch_core.specs.declared.event.Event.{Event}
use Rattle.dispatch_core.specs.declared.event.Event.TheVariants.{Accept}
use Rattle.dispatch_core.specs.declared.event.Job.{Job}
use Rattle.dispatch_core.proofs.Spots.{slice_get-set_same, slice_get-set_other}
use Rattle.group_jobs.specs.declared.fate.Fate.{Fate}
use Rattle.group_jobs.specs.declared.fate.Fate.TheVariants as fate
use Rattle.group_jobs.specs.declared.message.Message.{Message}
use Rattle.group_jobs.specs.declared.stamp.Stamp.{Stamp}
use Rattle.group_jobs.specs.Stamps.{Held}
use Rattle.local_group.specs.Groups.{Group, Adds, Settles}
use Rattle.conn_supply.specs.declared.supply.NoMemory.{NoMemory}
use Rattle.conn_supply.specs.declared.supply.OfferRefusal.{OfferRefusal}
use Rattle.conn_supply.specs.SupplyCalls.{SupplyCall}
use Rattle.conn_supply.specs.SupplyCalls.SupplyCall.{Attach, Withdraw, Kicked, Park, ParkAsIs, Keep, Bury, Sweep, LendPlace, TakePlace, Bind, Find, Match, Offer, MayTake, Take, TakeBack, Settle, GiveBack}
use Rattle.conn_laws.specs.Calls.{hand_out_of, handed, MakesAll}
use Rattle.local_broker.specs.Places.{GroupPlace}
use Rattle.local_broker.specs.Groups.{InGroup, IsOffered, HandsOut, HandsOutAgain, IsOutAt, IsSettled, IsGivenBack, LetsGo}
use Rattle.local_broker.specs.Broker.{Broker}
use Rattle.local_broker.specs.Calls.{Calls, OffersFrom}
use Rattle.local_broker.specs.HandOuts.{handed_in}
use Rattle.local_server.specs.Unsubscribed.{hand_outs_of, hand_outs_in}

-- no group of this slot hands out anything
abbrev pub HandsNone : Broker → Broker → ℕ → Type 0
HandsNone old new slot = hand_outs_in slot new ≡ hand_outs_in slot old

abbrev HandsOutTheSame : Group → Group → Type 0
HandsOutTheSame old new = hand_outs_of (Some new) ≡ hand_outs_of (Some old)

one_more : (old new : Group) (event : Event) → Adds old event new → hand_outs_of (Some new) ≡ hand_outs_of (Some old) ++ filter_map handed_in (event ∷ [])
one_more old new event adds = ap (filter_map handed_in) adds.events ∙ filter_map-append handed_in old.events (event ∷ [])

none_more : (old new : Group) (event : Event) → handed_in event ≡ None → Adds old event new → HandsOutTheSame old new
none_more old new event none adds =
    one_more old new event adds
    ∙ ap (λ (o : Option (ℕ × Job)). hand_outs_of (Some old) ++ cons_option o []) none ∙ append-nil (hand_outs_of (Some old))

same_group : (old new : Group) → new ≡ old → HandsOutTheSame old new
same_group old new same = ap (λ (g : Group). hand_outs_of (Some g)) same

is_handed : (answer : Result (Option Held) NoMemory) (old new : Group) (at place place' : GroupPlace) → hand_out_of (Take at place' answer) ≡ None → HandsOut old place.number answer new → HandsOutTheSame old new
is_handed (Ok (Some envelope)) old new at place place' none does = absurd (cc)
is_handed (Ok None) old new at place place' none does = same_group old new does.1
is_handed (Err error) old new at place place' none does = same_group old new does.1

is_handed_again : (answer : Result (Option Held) NoMemory) (old new : Group) (at place place' : GroupPlace) → hand_out_of (TakeBack at place' answer) ≡ None → HandsOutAgain old place.number answer new → HandsOutTheSame old new
is_handed_again (Ok (Some envelope)) old new at place place' none does = absurd (cc)
is_handed_again (Ok None) old new at place place' none does = same_group old new does.1
is_handed_again (Err error) old new at place place' none does = same_group old new does.1

settled_as : (how : Fate) (old new : Group) (envelope : Held) → Settles old envelope how new → HandsOutTheSame old new
settled_as fate.Acknowledged old new envelope settles = none_more old new _ refl settles.event
settled_as fate.Refused old new envelope settles = none_more old new _ refl settles.event
settled_as fate.Discarded old new envelope settles = none_more old new _ refl settles.event

is_settled : (how : Fate) (old new : Group) (place : ℕ) (envelope : Held) → IsSettled old place envelope how new → HandsOutTheSame old new
is_settled how old new place envelope does =
    ⊎_elim
    (λ (is : IsOutAt old place envelope × Settles old envelope how new). settled_as how old new envelope is.1)
    (λ (is : LetsGo old place envelope new). same_group old new is.same)
    does

is_given_back : (old new : Group) (place : ℕ) (envelope : Held) → IsGivenBack old place envelope new → HandsOutTheSame old new
is_given_back old new place envelope does =
    ⊎_elim (λ is. none_more old new _ refl is.1.event) (λ (is : LetsGo old place envelope new). same_group old new is.same) does

-- the groups of a broker
pub same_groups : (old new : Broker) → new.groups ≡ old.groups → (slot : ℕ) → HandsNone old new slot
same_groups old new same slot = ap (λ (l : List Group). hand_outs_of (slice_get l slot)) same

here : (old new : Broker) (at : ℕ) (Does : Group → Group → Type 0) → (does : InGroup old.groups at Does new.groups)
    → (hand_outs_in at new ≡ hand_outs_of (Some does.after)) × (hand_outs_in at old ≡ hand_outs_of (Some does.before))
here old new at Does does = (
  ap (λ (l : List Group). hand_outs_of (slice_get l at)) does.becomes
      ∙ ap hand_outs_of (slice_get-set_same old.groups at does.after (slice_get_within old.groups at does.before does.there)),
  ap hand_outs_of does.there,
)

beside : (old new : Broker) (at : ℕ) (Does : Group → Group → Type 0) → InGroup old.groups at Does new.groups → (slot : ℕ) → slot ≢ at → HandsNone old new slot
beside old new at Does does slot other =
    ap (λ (l : List Group). hand_outs_of (slice_get l slot)) does.becomes ∙ ap hand_outs_of (slice_get-set_other old.groups at slot does.after other)

in_one : (old new : Broker) (at : ℕ) (Does : Group → Group → Type 0) → ((before after : Group) → Does before after → HandsOutTheSame before after) → InGroup old.groups at Does new.groups
    → (slot : ℕ) → HandsNone old new slot
in_one old new at Does same does slot =
    ⊎_elim
    (λ (is : slot ≡ at).
    subst (HandsNone old new) (sym is)
    (let its = here old new at Does does in its.0 ∙ same does.before does.after does.does ∙ sym its.1))
    (λ (other : slot ≢ at). beside old new at Does does slot other)
    (cases_eq slot at)

-- a message is offered
is_offered : (answer : Result Stamp OfferRefusal) (old new : Group) (port : ℕ) (message : Message) → IsOffered old port message answer new → HandsOutTheSame old new
is_offered (Ok stamp) old new port message does = none_more old new (Accept port) refl does.event
is_offered (Err refusal) old new port message does = same_group old new does.same

is_offered_to : (old new : Broker) (slot connection : ℕ) (message : Message) (answer : Result Stamp OfferRefusal) → OffersFrom old.groups slot connection message answer new.groups
    → (each : ℕ) → HandsNone old new each
is_offered_to old new slot connection message answer (inl no_port) = same_groups old new no_port.2
is_offered_to old new slot connection message answer (inr (inl no_group)) = same_groups old new no_group.3
is_offered_to old new slot connection message answer (inr (inr in_group)) =
    in_one old new slot _ (λ before after is. is_offered answer before after connection message is) in_group.2

-- calls by which nothing is handed out
called : (supply_call : SupplyCall GroupPlace) (old new : Broker) → hand_out_of supply_call ≡ None → Calls old supply_call new → (slot : ℕ) → HandsNone old new slot
called (Attach request answer) old new none does = same_groups old new does.groups
called (Withdraw connection) old new none does = same_groups old new does.groups
called (Kicked connection answer) old new none does = same_groups old new does.groups
called (Park session now answer) old new none does = same_groups old new does.groups
called (ParkAsIs session) old new none does = same_groups old new does.1.groups
called (Keep session) old new none does = same_groups old new does.1.groups
called (Bury session) old new none does = same_groups old new does.1.groups
called (Sweep now answer) old new none does = same_groups old new does.groups
called (LendPlace slot answer) old new none does = same_groups old new does.groups
called (TakePlace place) old new none does = same_groups old new does.1.groups
called (Bind share answer) old new none does = same_groups old new does.1.groups
called (Find share answer) old new none does = same_groups old new (ap (λ (b : Broker). b.groups) does.1)
called (Match topic slots) old new none does = same_groups old new (ap (λ (b : Broker). b.groups) does.1)
called (Offer slot connection message answer) old new none does = is_offered_to old new slot connection message answer does.0
called (MayTake place answer) old new none does = same_groups old new (ap (λ (b : Broker). b.groups) does.1)
called (Take place place' answer) old new none does = in_one old new place.slot _ (λ before after is. is_handed answer before after place place place' none is) does.0
called (TakeBack place place' answer) old new none does = in_one old new place.slot _ (λ before after is. is_handed_again answer before after place place place' none is) does.0
called (Settle place place' envelope how) old new none does = in_one old new place.slot _ (λ before after is. is_settled how before after place.number envelope is) does.0
called (GiveBack place place' envelope (Ok done)) old new none does = in_one old new place.slot _ (λ before after is. is_given_back before after place.number envelope is) does.0
called (GiveBack place place' envelope (Err back)) old new none does = absurd does

none_first : {X : Type 0} (o : Option X) (others : List X) → cons_option o others ≡ [] → (o ≡ None) × (others ≡ [])
none_first None others is = (refl, is)
none_first (Some x) others is = absurd (cc)

pub all_called : (supply_calls : List (SupplyCall GroupPlace)) (old new : Broker) → handed supply_calls ≡ [] → MakesAll Calls old supply_calls new → (slot : ℕ) → HandsNone old new slot
all_called [] old new none made slot = same_groups old new (ap (λ (b : Broker). b.groups) made) slot
all_called (supply_call ∷ supply_calls) old new none made slot =
    let both = none_first (hand_out_of supply_call) (handed supply_calls) none in
    all_called supply_calls made.0 new both.1 made.2 slot ∙ called supply_call old made.0 both.0 made.1 slot
