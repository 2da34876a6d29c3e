-- A hand-out names its own place: what the groups see of hand-outs is what they see of the messages.
use Rattle.std.proofs.Common.{◌≡◌, ℕ, if◌then◌else◌, nat_eq, List, [], ◌∷◌, map, filter_map, Option, Some, None, Result, Ok, Err, slice_get, refl, sym, ap, ◌∙◌}
use Rattle.std.specs.Prelude.{⊤}
use Rattle.std.specs.List.{AllByRecursion, cons_option}
use Rattle.mqtt_topic.specs.Names.{Share}
use Rattle.group_jobs.specs.Stamps.{Held, job_of}
use Rattle.local_group.specs.Groups.{Group}
use Rattle.conn_supply.specs.declared.supply.NoMemory.{NoMemory}
use Rattle.conn_supply.specs.SupplyCalls.{SupplyCall}
use Rattle.conn_supply.specs.SupplyCalls.SupplyCall.{Attach, Withdraw, Kicked, Park, ParkAsIs, Keep, Bury, Sweep, LendPlace, TakePlace, Bind, Find, Match, Offer, MayTake, Take, TakeBack, Settle, GiveBack}
use Rattle.conn_laws.specs.Calls.{hand_out_of}
use Rattle.local_broker.specs.Places.{GroupPlace}
use Rattle.local_broker.specs.Broker.{Broker, IsNewBroker}
use Rattle.local_broker.specs.Calls.{Calls}
use Rattle.local_broker.specs.Histories.{Happening, Called, Closed, Happens, HappensAll, AreRunning}
use Rattle.local_broker.specs.HandOuts.{HandOut, handed_by, handed_by_all, handed_in_all, seen_by_group}
use Rattle.local_broker.specs.HandOuts as hand_outs
use Rattle.local_broker.proofs.Happened.{running_all, running_first}
use Rattle.local_broker.proofs.HandedOut.{handed_all as local_handed}
use Rattle.local_server.specs.Transcripts.{seen_by}

-- the message says which group handed it out, and to which of its places
abbrev Belongs : HandOut → Type 0
Belongs hand_out = (hand_out.1.stamp.group ≡ hand_out.0.slot) × (hand_out.1.place ≡ hand_out.0.number)

abbrev IfAny : Option HandOut → Type 0
IfAny None = ⊤
IfAny (Some hand_out) = Belongs hand_out

taken : (answer : Result (Option Held) NoMemory) (place place' : GroupPlace) (old new : Broker) → AreRunning old → Calls old (Take place place' answer) new
    → IfAny (hand_out_of (Take place place' answer))
taken (Ok (Some envelope)) place place' old new running does =
    let is = does.0.does.2 in
    (ap (λ (e : Held). e.stamp.group) is ∙ (running place.slot does.0.before does.0.there).numbered, ap (λ (e : Held). e.place) is)
taken (Ok None) place place' old new running does = tt
taken (Err error) place place' old new running does = tt

taken_back : (answer : Result (Option Held) NoMemory) (place place' : GroupPlace) (old new : Broker) → AreRunning old → Calls old (TakeBack place place' answer) new
    → IfAny (hand_out_of (TakeBack place place' answer))
taken_back (Ok (Some envelope)) place place' old new running does =
    let is = does.0.does.2 in
    (ap (λ (e : Held). e.stamp.group) is ∙ (running place.slot does.0.before does.0.there).numbered, ap (λ (e : Held). e.place) is)
taken_back (Ok None) place place' old new running does = tt
taken_back (Err error) place place' old new running does = tt

belongs : (supply_call : SupplyCall GroupPlace) (old new : Broker) → AreRunning old → Calls old supply_call new → IfAny (hand_out_of supply_call)
belongs (Attach request answer) old new running does = tt
belongs (Withdraw connection) old new running does = tt
belongs (Kicked connection answer) old new running does = tt
belongs (Park session now answer) old new running does = tt
belongs (ParkAsIs session) old new running does = tt
belongs (Keep session) old new running does = tt
belongs (Bury session) old new running does = tt
belongs (Sweep now answer) old new running does = tt
belongs (LendPlace slot answer) old new running does = tt
belongs (TakePlace place) old new running does = tt
belongs (Bind share answer) old new running does = tt
belongs (Find share answer) old new running does = tt
belongs (Match topic slots) old new running does = tt
belongs (Offer slot connection message answer) old new running does = tt
belongs (MayTake place answer) old new running does = tt
belongs (Take place place' answer) old new running does = taken answer place place' old new running does
belongs (TakeBack place place' answer) old new running does = taken_back answer place place' old new running does
belongs (Settle place place' envelope fate) old new running does = tt
belongs (GiveBack place place' envelope answer) old new running does = tt

belongs_next : (happening : Happening) (old new : Broker) → AreRunning old → Happens old happening new → IfAny (handed_by happening)
belongs_next (Called supply_call) old new running does = belongs supply_call old new running does
belongs_next Closed old new running does = tt

one_more : (hand_out : Option HandOut) (others : List HandOut) → IfAny hand_out → AllByRecursion Belongs others → AllByRecursion Belongs (cons_option hand_out others)
one_more None others is all = all
one_more (Some hand_out) others is all = (is, all)

all_belong : (happenings : List Happening) (old new : Broker) → AreRunning old → HappensAll old happenings new → AllByRecursion Belongs (handed_by_all happenings)
all_belong [] old new running all = tt
all_belong (happening ∷ others) old new running all =
    one_more (handed_by happening) (handed_by_all others) (belongs_next happening old all.0 running all.1)
    (all_belong others all.0 new (running_all (happening ∷ []) old all.0 running (all.0, all.1, refl)) all.2)

-- a hand-out, and its message, as the group of a slot sees them
seen_once : (slot : ℕ) (hand_out : HandOut) → Belongs hand_out → hand_outs.seen_by slot hand_out ≡ seen_by slot hand_out.1
seen_once slot hand_out is = λ i. if nat_eq (sym is.0 i) slot then Some (sym is.1 i, job_of hand_out.1.stamp) else None

seen_all : (slot : ℕ) (these : List HandOut) → AllByRecursion Belongs these → seen_by_group slot these ≡ filter_map (seen_by slot) (map (λ (h : HandOut). h.1) these)
seen_all slot [] all = refl
seen_all slot (hand_out ∷ others) all =
    let one = seen_once slot hand_out all.0 in
    let rest = seen_all slot others all.1 in
    λ i. cons_option (one i) (rest i)

pub handed : (capacity : ℕ) (shares : List Share) (happenings : List Happening) (first b : Broker) (all_handed : List Held) → IsNewBroker capacity shares first
    → HappensAll first happenings b → all_handed ≡ map (λ (h : HandOut). h.1) (handed_by_all happenings) → (slot : ℕ) (group : Group) → slice_get b.groups slot ≡ Some group
    → handed_in_all group.events ≡ filter_map (seen_by slot) all_handed
handed capacity shares happenings first b all_handed new all is slot group there =
    ◌∙◌ {b = seen_by_group slot (handed_by_all happenings)} (local_handed capacity shares happenings first b new all slot group there)
    (seen_all slot (handed_by_all happenings) (all_belong happenings first b (running_first capacity shares first new) all) ∙ ap (filter_map (seen_by slot)) (sym is))
