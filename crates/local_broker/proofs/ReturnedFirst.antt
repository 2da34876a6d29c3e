-- What was given back is handed out first in each group of a broker.
use Rattle.std.proofs.Common.{◌≡◌, ◌≢◌, ℕ, ◌⊎◌, true, List, [], ◌∷◌, Option, Some, None, Result, Ok, Err, slice_get, slice_set, get_or, sym, ap, ◌∙◌, subst, ⊎_elim, arith}
use Rattle.std.proofs.lemmas.Bool.{cases_eq}
use Rattle.std.proofs.lemmas.Option.{slice_get_within, slice_get-get_or, same_Some}
use Rattle.dispatch_core.proofs.Spots.{slice_get-set_same, slice_get-set_other}
use Rattle.mqtt_topic.specs.Names.{Share}
use Rattle.group_jobs.specs.declared.message.Message.{Message}
use Rattle.group_jobs.specs.declared.stamp.Stamp.{Stamp}
use Rattle.group_jobs.specs.Stamps.{Held}
use Rattle.local_group.specs.Groups.{Group}
use Rattle.conn_supply.specs.declared.supply.NoMemory.{NoMemory}
use Rattle.conn_supply.specs.declared.supply.OfferRefusal.{OfferRefusal}
use Rattle.conn_supply.specs.SupplyCalls.{SupplyCall}
use Rattle.conn_supply.specs.SupplyCalls.SupplyCall.{Attach, Withdraw, Kicked, Park, ParkAsIs, Keep, Bury, Sweep, LendPlace, TakePlace, Bind, Find, Match, Offer, MayTake, Take, TakeBack, Settle, GiveBack}
use Rattle.conn_laws.specs.Calls.{MakesAll}
use Rattle.conn_laws.specs.ReturnedFirst.{FoundNone, MayFollow, FollowInOrder, CallsReturnedFirst}
use Rattle.local_broker.specs.Places.{GroupPlace}
use Rattle.local_broker.specs.Groups.{InGroup}
use Rattle.local_broker.specs.Broker.{Broker, IsNewBroker}
use Rattle.local_broker.specs.Calls.{Calls, OffersFrom, Closes}
use Rattle.local_broker.specs.ReturnedFirst.{ServesReturnedFirst, AllServeReturnedFirst}
use Rattle.local_broker.proofs.ReturnedGroup as groups

same_groups : (old new : Broker) → new.groups ≡ old.groups → AllServeReturnedFirst old → AllServeReturnedFirst new
same_groups old new same all slot group there = all slot group (ap (λ (l : List Group). slice_get l slot) (sym same) ∙ there)

-- a call of one group keeps them so, where it keeps that one so
in_one : (old new : Broker) (at : ℕ) (Does : Group → Group → Type 0)
    → ((before after : Group) → slice_get old.groups at ≡ Some before → Does before after → ServesReturnedFirst before → ServesReturnedFirst after)
    → InGroup old.groups at Does new.groups → AllServeReturnedFirst old → AllServeReturnedFirst new
in_one old new at Does keeps does all slot group there =
    let set : slice_get (slice_set old.groups at does.after) slot ≡ Some group = ap (λ (l : List Group). slice_get l slot) (sym does.becomes) ∙ there in
    ⊎_elim
    (λ (is : slot ≡ at).
    let at_place : slice_get (slice_set old.groups at does.after) at ≡ Some does.after =
    slice_get-set_same old.groups at does.after (slice_get_within old.groups at does.before does.there) in
    let same = same_Some does.after group (sym at_place ∙ ap (slice_get (slice_set old.groups at does.after)) (sym is) ∙ set) in
    subst ServesReturnedFirst same (keeps does.before does.after does.there does.does (all at does.before does.there)))
    (λ (other : slot ≢ at). all slot group (sym (slice_get-set_other old.groups at slot does.after other) ∙ set))
    (cases_eq slot at)

offers : (old new : Broker) (at connection : ℕ) (message : Message) (answer : Result Stamp OfferRefusal) → OffersFrom old.groups at connection message answer new.groups
    → AllServeReturnedFirst old → AllServeReturnedFirst new
offers old new at connection message answer does all =
    ⊎_elim
    (λ no_port. same_groups old new no_port.2 all)
    (λ with_port.
    ⊎_elim
    (λ no_group. same_groups old new no_group.3 all)
    (λ in_group. in_one old new at _ (λ before after there is. groups.offered answer before after connection message is) in_group.2 all)
    with_port)
    does

-- the call before, if any was, found none that was given back: so its group's list is empty, or the group is closed
abbrev IsBehind : Option (SupplyCall GroupPlace) → Broker → Type 0
IsBehind last b = (place : GroupPlace) (group : Group) → FoundNone last place → slice_get b.groups place.slot ≡ Some group → (group.state.closed ≡ true) ⊎ (group.returned ≡ [])

behind_none : (b : Broker) → IsBehind None b
behind_none b place group found there = let none = found.1 in absurd (cc)

found_none : (before place : GroupPlace) (old new : Broker) (group : Group) → Calls old (TakeBack before place (Ok None)) new → slice_get new.groups place.slot ≡ Some group
    → (group.state.closed ≡ true) ⊎ (group.returned ≡ [])
found_none before place old new group does there =
    let it = does.0 in
    let at : slice_get new.groups before.slot ≡ Some it.after =
    ap (λ (l : List Group). slice_get l before.slot) it.becomes ∙ slice_get-set_same old.groups before.slot it.after (slice_get_within old.groups before.slot it.before it.there) in
    let same : it.before ≡ group =
    sym it.does.1 ∙ same_Some it.after group (sym at ∙ ap (λ (p : GroupPlace). slice_get new.groups p.slot) (sym does.1) ∙ there) in
    subst (λ (g : Group). (g.state.closed ≡ true) ⊎ (g.returned ≡ [])) same it.does.0

behind : (supply_call : SupplyCall GroupPlace) (old new : Broker) → Calls old supply_call new → IsBehind (Some supply_call) new
behind supply_call old new does place group found there =
    let is : supply_call ≡ TakeBack found.0 place (Ok None) = same_Some supply_call (TakeBack found.0 place (Ok None)) found.1 in
    found_none found.0 place old new group (subst (λ (f : SupplyCall GroupPlace). Calls old f new) is does) there

taken : (answer : Result (Option Held) NoMemory) (last : Option (SupplyCall GroupPlace)) (place place' : GroupPlace) (old new : Broker) → IsBehind last old
    → MayFollow last (Take place place' answer)
    → Calls old (Take place place' answer) new → AllServeReturnedFirst old → AllServeReturnedFirst new
taken (Ok (Some envelope)) last place place' old new is may does all =
    in_one old new place.slot _ (λ before after there call. groups.handed (Ok (Some envelope)) before after place.number call (λ e same. is place before may there)) does.0 all
taken (Ok None) last place place' old new is may does all =
    in_one old new place.slot _ (λ before after there call. groups.handed (Ok None) before after place.number call (λ e same. absurd (cc))) does.0 all
taken (Err error) last place place' old new is may does all =
    in_one old new place.slot _ (λ before after there call. groups.handed (Err error) before after place.number call (λ e same. absurd (cc))) does.0 all

called : (supply_call : SupplyCall GroupPlace) (last : Option (SupplyCall GroupPlace)) (old new : Broker) → IsBehind last old → MayFollow last supply_call → Calls old supply_call new → AllServeReturnedFirst old
    → AllServeReturnedFirst new
called (Attach request answer) last old new is may does all = same_groups old new does.groups all
called (Withdraw connection) last old new is may does all = same_groups old new does.groups all
called (Kicked connection answer) last old new is may does all = same_groups old new does.groups all
called (Park session now answer) last old new is may does all = same_groups old new does.groups all
called (ParkAsIs session) last old new is may does all = same_groups old new does.1.groups all
called (Keep session) last old new is may does all = same_groups old new does.1.groups all
called (Bury session) last old new is may does all = same_groups old new does.1.groups all
called (Sweep now answer) last old new is may does all = same_groups old new does.groups all
called (LendPlace slot answer) last old new is may does all = same_groups old new does.groups all
called (TakePlace place) last old new is may does all = same_groups old new does.1.groups all
called (Bind share answer) last old new is may does all = same_groups old new does.1.groups all
called (Find share answer) last old new is may does all = same_groups old new (ap (λ b. b.groups) does.1) all
called (Match topic slots) last old new is may does all = same_groups old new (ap (λ b. b.groups) does.1) all
called (Offer slot connection message answer) last old new is may does all = offers old new slot connection message answer does.0 all
called (MayTake place answer) last old new is may does all = same_groups old new (ap (λ b. b.groups) does.1) all
called (Take place place' answer) last old new is may does all = taken answer last place place' old new is may does all
called (TakeBack place place' answer) last old new is may does all =
    in_one old new place.slot _ (λ before after there call. groups.handed_again answer before after place.number call) does.0 all
called (Settle place place' envelope how) last old new is may does all =
    in_one old new place.slot _ (λ before after there call. groups.settled how before after place.number envelope call) does.0 all
called (GiveBack place place' envelope (Ok done)) last old new is may does all =
    in_one old new place.slot _ (λ before after there call. groups.given_back before after place.number envelope call) does.0 all
called (GiveBack place place' envelope (Err back)) last old new is may does all = absurd does

all_called : (supply_calls : List (SupplyCall GroupPlace)) (last : Option (SupplyCall GroupPlace)) (old new : Broker) → IsBehind last old → FollowInOrder last supply_calls → MakesAll Calls old supply_calls new
    → AllServeReturnedFirst old → AllServeReturnedFirst new
all_called [] last old new is order made all = subst AllServeReturnedFirst (sym made) all
all_called (supply_call ∷ supply_calls) last old new is order made all =
    all_called supply_calls (Some supply_call) made.0 new (behind supply_call old made.0 made.1) order.1 made.2 (called supply_call last old made.0 is order.0 made.1 all)

pub stays_first : (old new : Broker) → CallsReturnedFirst Calls old new → AllServeReturnedFirst old → AllServeReturnedFirst new
stays_first old new calls all = all_called calls.supply_calls None old new (behind_none old) calls.order calls.made all

-- the close
pub stays_first_closed : (old new : Broker) → Closes old new → AllServeReturnedFirst old → AllServeReturnedFirst new
stays_first_closed old new closes all slot group there =
    let within = slice_get_within new.groups slot group there in
    let before = get_or old.groups slot group in
    let was = slice_get-get_or old.groups slot group (let as_many = closes.groups.as_many in omega arith) in
    let has = closes.groups.each slot before was in
    subst ServesReturnedFirst (same_Some has.group group (sym has.there ∙ there)) (groups.closed before has.group has.is_so (all slot before was))

pub begins_first : (capacity : ℕ) (shares : List Share) (b : Broker) → IsNewBroker capacity shares b → AllServeReturnedFirst b
begins_first capacity shares b new slot group there = groups.fresh group (new.groups slot group there).fresh
