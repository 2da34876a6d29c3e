-- A server has as many groups after whatever happens.
use Rattle.std.proofs.Common.{◌≡◌, ℕ, List, [], ◌∷◌, length, Result, Ok, Err, ap, ◌∙◌, inl, inr}
use Rattle.std.proofs.lemmas.List.{length-set}
use Rattle.group_jobs.specs.declared.message.Message.{Message}
use Rattle.group_jobs.specs.declared.stamp.Stamp.{Stamp}
use Rattle.local_group.specs.Groups.{Group}
use Rattle.conn_supply.specs.declared.supply.OfferRefusal.{OfferRefusal}
use Rattle.conn_supply.specs.SupplyCalls.{SupplyCall}
use Rattle.conn_supply.specs.SupplyCalls.SupplyCall.{Attach, Withdraw, Kicked, Park, ParkAsIs, Keep, Bury, Sweep, LendPlace, TakePlace, Bind, Find, Match, Offer, MayTake, Take, TakeBack, Settle, GiveBack}
use Rattle.local_broker.specs.Places.{GroupPlace}
use Rattle.local_broker.specs.Groups.{InGroup}
use Rattle.local_broker.specs.Broker.{Broker}
use Rattle.local_broker.specs.Calls.{Calls, OffersFrom}
use Rattle.local_broker.specs.Histories.{Happening, Called, Closed, HappensAll}

in_one : (old new : List Group) (at : ℕ) (Does : Group → Group → Type 0) → InGroup old at Does new → length new ≡ length old
in_one old new at Does does = ap length does.becomes ∙ length-set old at does.after

offered : (old new : List Group) (slot connection : ℕ) (message : Message) (answer : Result Stamp OfferRefusal) → OffersFrom old slot connection message answer new
    → length new ≡ length old
offered old new slot connection message answer (inl no_port) = ap length no_port.2
offered old new slot connection message answer (inr (inl no_group)) = ap length no_group.3
offered old new slot connection message answer (inr (inr one)) = in_one old new slot _ one.2

called : (supply_call : SupplyCall GroupPlace) (old new : Broker) → Calls old supply_call new → length new.groups ≡ length old.groups
called (Attach request answer) old new does = ap length does.groups
called (Withdraw connection) old new does = ap length does.groups
called (Kicked connection answer) old new does = ap length does.groups
called (Park session now answer) old new does = ap length does.groups
called (ParkAsIs session) old new does = ap length does.1.groups
called (Keep session) old new does = ap length does.1.groups
called (Bury session) old new does = ap length does.1.groups
called (Sweep now answer) old new does = ap length does.groups
called (LendPlace slot answer) old new does = ap length does.groups
called (TakePlace place) old new does = ap length does.1.groups
called (Bind share answer) old new does = ap length does.1.groups
called (Find share answer) old new does = ap (λ (b : Broker). length b.groups) does.1
called (Match topic slots) old new does = ap (λ (b : Broker). length b.groups) does.1
called (Offer slot connection message answer) old new does = offered old.groups new.groups slot connection message answer does.0
called (MayTake place answer) old new does = ap (λ (b : Broker). length b.groups) does.1
called (Take place place' answer) old new does = in_one old.groups new.groups place.slot _ does.0
called (TakeBack place place' answer) old new does = in_one old.groups new.groups place.slot _ does.0
called (Settle place place' envelope fate) old new does = in_one old.groups new.groups place.slot _ does.0
called (GiveBack place place' envelope (Ok done)) old new does = in_one old.groups new.groups place.slot _ does.0
called (GiveBack place place' envelope (Err back)) old new does = absurd does

pub as_many : (happenings : List Happening) (old new : Broker) → HappensAll old happenings new → length new.groups ≡ length old.groups
as_many [] old new all = ap (λ (b : Broker). length b.groups) all
as_many (Called supply_call ∷ others) old new all = as_many others all.0 new all.2 ∙ called supply_call old all.0 all.1
as_many (Closed ∷ others) old new all = as_many others all.0 new all.2 ∙ all.1.groups.as_many
