-- A call of a broker: what its groups accepted stays what waits in them, and an offer adds to it.
use Rattle.std.proofs.Common.{◌≡◌, ◌⊎◌, ℕ, ◌+◌, ◌<◌, ◌≤◌, Bool, true, false, List, [], ◌∷◌, ◌++◌, All, Some, Result, Ok, Err, AllPairs, refl, sym, ap, subst, ◌∙◌, inl, inr, ⊎_elim, arith, append-nil, append_assoc}
use Rattle.std.specs.Prelude.{⊤}
use Rattle.std.specs.List.{AllByRecursion}
use Rattle.std.proofs.lemmas.List.Elements.{All-nil, All-cons}
use Rattle.std.proofs.lemmas.List.Kept.{AllPairs-cons}
use Rattle.mqtt_topic.specs.Routes.{places_of}
use Rattle.group_jobs.specs.declared.fate.Fate.{Fate}
use Rattle.group_jobs.specs.declared.message.Message.{Message}
use Rattle.group_jobs.specs.declared.stamp.Stamp.{Stamp}
use Rattle.group_jobs.specs.Stamps.{Held}
use Rattle.conn_supply.specs.declared.supply.OfferRefusal.{OfferRefusal}
use Rattle.conn_supply.specs.Publishing.{Offers}
use Rattle.conn_supply.specs.SupplyCalls.{SupplyCall}
use Rattle.conn_supply.specs.SupplyCalls.SupplyCall.{Attach, Withdraw, Kicked, Park, ParkAsIs, Keep, Bury, Sweep, LendPlace, TakePlace, Bind, Find, Match, Offer, MayTake, Take, TakeBack, Settle, GiveBack}
use Rattle.local_broker.specs.Places.{GroupPlace}
use Rattle.local_broker.specs.Broker.{Broker}
use Rattle.local_broker.specs.Calls.{Calls, OffersFrom}
use Rattle.local_broker.specs.Histories.{Called, AreRunning, Spends}
use Rattle.local_broker.proofs.Happened.{running_all}
use Rattle.local_server.specs.Messages.{Accepted, IsAcceptedAs}
use Rattle.local_server.proofs.Known.{Log, IsKnown, AllKnow, as_accepted, handed, handed_again, settled, given_back, taken_known, taken_back_known, in_group, accepted_in_group, same_group, known_on}

-- a call by which no message is offered
abbrev pub IsNoOffer : SupplyCall GroupPlace → Type 0
IsNoOffer (Offer slot connection message answer) = ⊥
IsNoOffer other = ⊤

same_groups : (log : Log) (old new : Broker) → new.groups ≡ old.groups → AllKnow log old.groups → AllKnow log new.groups
same_groups log old new same was = subst (AllKnow log) (sym same) was

pub called_known : (supply_call : SupplyCall GroupPlace) (log : Log) (old new : Broker) → ((stamp : Stamp) → ¬ Spends stamp (Called supply_call)) → IsNoOffer supply_call → Calls old supply_call new
    → AllKnow log old.groups → AllKnow log new.groups
called_known (Attach request answer) log old new spends is does was = same_groups log old new does.groups was
called_known (Withdraw connection) log old new spends is does was = same_groups log old new does.groups was
called_known (Kicked connection answer) log old new spends is does was = same_groups log old new does.groups was
called_known (Park session now answer) log old new spends is does was = same_groups log old new does.groups was
called_known (ParkAsIs session) log old new spends is does was = same_groups log old new does.1.groups was
called_known (Keep session) log old new spends is does was = same_groups log old new does.1.groups was
called_known (Bury session) log old new spends is does was = same_groups log old new does.1.groups was
called_known (Sweep now answer) log old new spends is does was = same_groups log old new does.groups was
called_known (LendPlace slot answer) log old new spends is does was = same_groups log old new does.groups was
called_known (TakePlace place) log old new spends is does was = same_groups log old new does.1.groups was
called_known (Bind share answer) log old new spends is does was = same_groups log old new does.1.groups was
called_known (Find share answer) log old new spends is does was = same_groups log old new (ap (λ (b : Broker). b.groups) does.1) was
called_known (Match topic slots) log old new spends is does was = same_groups log old new (ap (λ (b : Broker). b.groups) does.1) was
called_known (Offer slot connection message answer) log old new spends is does was = absurd is
called_known (MayTake place answer) log old new spends is does was = same_groups log old new (ap (λ (b : Broker). b.groups) does.1) was
called_known (Take place place' answer) log old new spends is does was =
    in_group log old.groups new.groups place.slot _ (λ before after there made. handed log place.slot answer before after place.number made) does.0 was
called_known (TakeBack place place' answer) log old new spends is does was =
    in_group log old.groups new.groups place.slot _ (λ before after there made. handed_again log place.slot answer before after place.number made) does.0 was
called_known (Settle place place' envelope fate) log old new spends is does was = absurd (spends envelope.stamp refl)
called_known (GiveBack place place' envelope answer) log old new spends is does was = absurd (spends envelope.stamp refl)

-- a message is settled, or one that is known is given back
pub settled_known : (place place' : GroupPlace) (envelope : Held) (fate : Fate) (log : Log) (old new : Broker) → Calls old (Settle place place' envelope fate) new
    → AllKnow log old.groups → AllKnow log new.groups
settled_known place place' envelope fate log old new does was =
    in_group log old.groups new.groups place.slot _ (λ before after there made. settled log place.slot fate before after place.number envelope made) does.0 was

pub given_known : (place place' : GroupPlace) (envelope : Held) (log : Log) (old new : Broker) → Calls old (GiveBack place place' envelope (Ok tt)) new → AreRunning old
    → IsKnown log envelope → AllKnow log old.groups → AllKnow log new.groups
given_known place place' envelope log old new does running known was =
    in_group log old.groups new.groups place.slot _
    (λ before after there made. given_back log place.slot before after place.number envelope (running place.slot before there).numbered known made) does.0 was

-- what a place is handed is known
pub took_known : (place place' : GroupPlace) (envelope : Held) (log : Log) (old new : Broker) → Calls old (Take place place' (Ok (Some envelope))) new → AreRunning old
    → AllKnow log old.groups → IsKnown log envelope
took_known place place' envelope log old new does running was =
    let call = does.0 in
    taken_known log place.slot call.before call.after place.number envelope (running place.slot call.before call.there).numbered call.does
    (was place.slot call.before call.there)

pub took_back_known : (place place' : GroupPlace) (envelope : Held) (log : Log) (old new : Broker) → Calls old (TakeBack place place' (Ok (Some envelope))) new → AreRunning old
    → AllKnow log old.groups → IsKnown log envelope
took_back_known place place' envelope log old new does running was =
    let call = does.0 in
    taken_back_known log place.slot call.before call.after place.number envelope (running place.slot call.before call.there).numbered call.does
    (was place.slot call.before call.there)

-- slots in their order, from one on
abbrev pub AreAscending : ℕ → List ℕ → Type 0
AreAscending from [] = ⊤
AreAscending from (slot ∷ slots) = (from ≤ slot) × AreAscending (slot + 1) slots

ascending_from : (from to : ℕ) (slots : List ℕ) → from ≤ to → AreAscending to slots → AreAscending from slots
ascending_from from to [] less are = tt
ascending_from from to (slot ∷ slots) less are = (let more = are.0 in omega (arith, less), are.1)

pub places_ascend : (from : ℕ) (flags : List Bool) → AreAscending from (places_of from flags)
places_ascend from [] = tt
places_ascend from (true ∷ flags) = (omega arith, places_ascend (from + 1) flags)
places_ascend from (false ∷ flags) = ascending_from from (from + 1) (places_of (from + 1) flags) (omega arith) (places_ascend (from + 1) flags)

-- a message was offered to some groups, and these of them accepted it
pub record Offered (log : Log) (from connection : ℕ) (message : Message) (new : Broker) : Type 0 where
  pub accepted : List Accepted
  pub log' : Log
  pub grows : log' ≡ log ++ accepted
  pub know : AllKnow log' new.groups
  pub on : (stamp : Stamp) (its : Message) → IsAcceptedAs log stamp its → IsAcceptedAs log' stamp its
  pub each : AllByRecursion (λ (a : Accepted). (a.port ≡ connection) × (a.message ≡ message) × (a.group < 8)) accepted
  pub above : All (λ (a : Accepted). from ≤ a.group) accepted
  pub ordered : AllPairs (λ (one other : Accepted). one.group < other.group) accepted

none_offered : (log : Log) (from connection : ℕ) (message : Message) (new : Broker) → AllKnow log new.groups → Offered log from connection message new
none_offered log from connection message new know =
    record {
      accepted = [];
      log' = log;
      grows = sym (append-nil log);
      know = know;
      on = λ stamp its is. is;
      each = tt;
      above = All-nil (λ (a : Accepted). from ≤ a.group);
      ordered = λ i j d less within. absurd (omega arith);
    }

from_on : (log : Log) (from to connection : ℕ) (message : Message) (new : Broker) → from ≤ to → Offered log to connection message new → Offered log from connection message new
from_on log from to connection message new less offered =
    record {
      accepted = offered.accepted;
      log' = offered.log';
      grows = offered.grows;
      know = offered.know;
      on = offered.on;
      each = offered.each;
      above = λ k d within. (let more = offered.above k d within in omega arith);
      ordered = offered.ordered;
    }

one_offered : (answer : Result Stamp OfferRefusal) (log : Log) (slot connection : ℕ) (message : Message) (old new : Broker) → AreRunning old
    → Calls old (Offer slot connection message answer) new → AllKnow log old.groups
    → AllKnow log new.groups ⊎ ((slot < 8) × AllKnow (log ++ as_accepted slot connection message ∷ []) new.groups)
one_offered answer log slot connection message old new running does was = inner answer does.0
  where
    stays : new.groups ≡ old.groups → AllKnow log new.groups
    stays same = same_groups log old new same was

    inner : (given : Result Stamp OfferRefusal) → OffersFrom old.groups slot connection message given new.groups
        → AllKnow log new.groups ⊎ ((slot < 8) × AllKnow (log ++ as_accepted slot connection message ∷ []) new.groups)
    inner given (inl no_port) = inl (stays no_port.2)
    inner given (inr (inl no_group)) = inl (stays no_group.3)
    inner (Ok stamp) (inr (inr in_one)) = inr (in_one.1, accepted_in_group log old.groups new.groups slot connection message stamp running in_one.2 was)
    inner (Err refusal) (inr (inr in_one)) =
        inl (in_group log old.groups new.groups slot _ (λ before after there made. same_group log slot before after made.same) in_one.2 was)

pub all_offered : (slots : List ℕ) (log : Log) (from connection : ℕ) (message : Message) (old new : Broker) (taken : ℕ) → AreRunning old → AreAscending from slots
    → Offers Calls old connection message slots taken new → AllKnow log old.groups → Offered log from connection message new
all_offered [] log from connection message old new taken running slots_are does was =
    none_offered log from connection message new (same_groups log old new (ap (λ (b : Broker). b.groups) does.1) was)
all_offered (slot ∷ slots) log from connection message old new taken running slots_are does was =
    let first = does.4 in
    let then = running_all (Called (Offer slot connection message does.0) ∷ []) old does.1 running (does.1, first, refl) in
    let accepted = as_accepted slot connection message in
    ⊎_elim
    (λ (know : AllKnow log does.1.groups).
    from_on log from (slot + 1) connection message new (let less = slots_are.0 in omega (arith, less))
    (all_offered slots log (slot + 1) connection message does.1 new does.3 then slots_are.1 does.6 know))
    (λ (took : (slot < 8) × AllKnow (log ++ accepted ∷ []) does.1.groups).
    let rest = all_offered slots (log ++ accepted ∷ []) (slot + 1) connection message does.1 new does.3 then slots_are.1 does.6 took.1 in
    record {
      accepted = accepted ∷ rest.accepted;
      log' = rest.log';
      grows = rest.grows ∙ append_assoc log (accepted ∷ []) rest.accepted;
      know = rest.know;
      on = λ stamp its is. rest.on stamp its (known_on log accepted stamp its is);
      each = ((refl, refl, took.0), rest.each);
      above =
          All-cons (λ (a : Accepted). from ≤ a.group) accepted rest.accepted slots_are.0
          (λ k d within. (let above = rest.above k d within in let less = slots_are.0 in omega (arith, above, less)));
      ordered =
          AllPairs-cons (λ (one other : Accepted). one.group < other.group) accepted rest.accepted
          (λ k d within. (let above = rest.above k d within in omega (arith, above))) rest.ordered;
    })
    (one_offered does.0 log slot connection message old does.1 running first was)
