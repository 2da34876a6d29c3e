-- What a place was handed is out there, whatever else happens.
use Rattle.std.proofs.Common.{◌≡◌, ◌≢◌, ℕ, List, [], ◌∷◌, Some, Result, Ok, Err, slice_get, slice_set, sym, ap, ◌∙◌, subst, ⊎_elim}
use Rattle.std.proofs.lemmas.Bool.{cases_eq}
use Rattle.std.proofs.lemmas.Option.{slice_get_within, same_Some}
use Rattle.dispatch_core.proofs.Spots.{slice_get-set_same, slice_get-set_other}
use Rattle.group_jobs.specs.declared.message.Message.{Message}
use Rattle.group_jobs.specs.declared.stamp.Stamp.{Stamp}
use Rattle.group_jobs.specs.Stamps.{Held}
use Rattle.local_group.specs.Groups.{Group}
use Rattle.conn_supply.specs.declared.supply.OfferRefusal.{OfferRefusal}
use Rattle.conn_supply.specs.SupplyCalls.{SupplyCall}
use Rattle.conn_supply.specs.SupplyCalls.SupplyCall.{Attach, Withdraw, Kicked, Park, ParkAsIs, Keep, Bury, Sweep, LendPlace, TakePlace, Bind, Find, Match, Offer, MayTake, Take, TakeBack, Settle, GiveBack}
use Rattle.local_broker.specs.Places.{GroupPlace}
use Rattle.local_broker.specs.Groups.{InGroup, HasGroup, IsOutAt, ClosesEach}
use Rattle.local_broker.specs.Broker.{Broker}
use Rattle.local_broker.specs.Calls.{Calls, OffersFrom}
use Rattle.local_broker.specs.Histories.{Happening, Called, Closed, Happens, HappensAll, HasOut, Spends, NoneSpends}
use Rattle.local_broker.proofs.Holding.{offered, handed, handed_again, settled, given_back, closed, comes_out, comes_out_again}

-- the group that a call was made of is so
after : (old new : List Group) (slot : ℕ) (Does : Group → Group → Type 0) (IsSo : Group → Type 0) → ((one other : Group) → Does one other → IsSo other) → InGroup old slot Does new → HasGroup new slot IsSo
after old new slot Does IsSo goes does =
    record {
      group = does.after;
      there = ap (λ l. slice_get l slot) does.becomes ∙ slice_get-set_same old slot does.after (slice_get_within old slot does.before does.there);
      is_so = goes does.before does.after does.does;
    }

-- a group that is so stays so
along : (old new : List Group) (at : ℕ) (Does : Group → Group → Type 0) (slot : ℕ) (IsSo : Group → Type 0) → ((one other : Group) → Does one other → IsSo one → IsSo other) → InGroup old at Does new → HasGroup old slot IsSo → HasGroup new slot IsSo
along old new at Does slot IsSo goes does has =
    ⊎_elim
    (λ (is : slot ≡ at).
    let same = same_Some has.group does.before (sym has.there ∙ ap (slice_get old) is ∙ does.there) in
    record {
      group = does.after;
      there = ap (λ l. slice_get l slot) does.becomes ∙ ap (slice_get (slice_set old at does.after)) is ∙ slice_get-set_same old at does.after (slice_get_within old at does.before does.there);
      is_so = goes does.before does.after does.does (subst IsSo same has.is_so);
    })
    (λ (other : slot ≢ at).
    record {
      group = has.group;
      there = ap (λ l. slice_get l slot) does.becomes ∙ slice_get-set_other old at slot does.after other ∙ has.there;
      is_so = has.is_so;
    })
    (cases_eq slot at)

same : (old new : List Group) (slot : ℕ) (IsSo : Group → Type 0) → new ≡ old → HasGroup old slot IsSo → HasGroup new slot IsSo
same old new slot IsSo is has = subst (λ (l : List Group). HasGroup l slot IsSo) (sym is) has

along_offer : (old new : List Group) (at connection : ℕ) (message : Message) (answer : Result Stamp OfferRefusal) (place : GroupPlace) (envelope : Held) → OffersFrom old at connection message answer new
    → HasGroup old place.slot (λ g. IsOutAt g place.number envelope) → HasGroup new place.slot (λ g. IsOutAt g place.number envelope)
along_offer old new at connection message answer place envelope does has =
    ⊎_elim
    (λ no_port. same old new place.slot _ no_port.2 has)
    (λ with_port.
    ⊎_elim
    (λ no_group. same old new place.slot _ no_group.3 has)
    (λ in_group. along old new at _ place.slot _ (λ one other is out. offered one other connection message answer place.number envelope is out) in_group.2 has)
    with_port)
    does

stays_out : (old new : Broker) (supply_call : SupplyCall GroupPlace) (place : GroupPlace) (envelope : Held) → HasOut old place envelope → Calls old supply_call new → ¬ Spends envelope.stamp (Called supply_call) → HasOut new place envelope
stays_out old new (Attach request answer) place envelope has does other = same old.groups new.groups place.slot _ does.groups has
stays_out old new (Withdraw connection) place envelope has does other = same old.groups new.groups place.slot _ does.groups has
stays_out old new (Kicked connection answer) place envelope has does other = same old.groups new.groups place.slot _ does.groups has
stays_out old new (Park session now answer) place envelope has does other = same old.groups new.groups place.slot _ does.groups has
stays_out old new (ParkAsIs session) place envelope has does other = same old.groups new.groups place.slot _ does.1.groups has
stays_out old new (Keep session) place envelope has does other = same old.groups new.groups place.slot _ does.1.groups has
stays_out old new (Bury session) place envelope has does other = same old.groups new.groups place.slot _ does.1.groups has
stays_out old new (Sweep now answer) place envelope has does other = same old.groups new.groups place.slot _ does.groups has
stays_out old new (LendPlace slot answer) place envelope has does other = same old.groups new.groups place.slot _ does.groups has
stays_out old new (TakePlace lent) place envelope has does other = same old.groups new.groups place.slot _ does.1.groups has
stays_out old new (Bind share answer) place envelope has does other = same old.groups new.groups place.slot _ does.1.groups has
stays_out old new (Find share answer) place envelope has does other = same old.groups new.groups place.slot _ (ap (λ b. b.groups) does.1) has
stays_out old new (Match topic slots) place envelope has does other = same old.groups new.groups place.slot _ (ap (λ b. b.groups) does.1) has
stays_out old new (Offer slot connection message answer) place envelope has does other = along_offer old.groups new.groups slot connection message answer place envelope does.0 has
stays_out old new (MayTake to answer) place envelope has does other = same old.groups new.groups place.slot _ (ap (λ b. b.groups) does.1) has
stays_out old new (Take to to' answer) place envelope has does other =
    along old.groups new.groups to.slot _ place.slot _ (λ one next is out. handed one next to.number answer place.number envelope is out) does.0 has
stays_out old new (TakeBack to to' answer) place envelope has does other =
    along old.groups new.groups to.slot _ place.slot _ (λ one next is out. handed_again one next to.number answer place.number envelope is out) does.0 has
stays_out old new (Settle at at' spent how) place envelope has does other =
    along old.groups new.groups at.slot _ place.slot _ (λ one next is out. settled one next at.number spent how place.number envelope is other out) does.0 has
stays_out old new (GiveBack at at' spent (Ok done)) place envelope has does other =
    along old.groups new.groups at.slot _ place.slot _ (λ one next is out. given_back one next at.number spent place.number envelope is other out) does.0 has
stays_out old new (GiveBack at at' spent (Err back)) place envelope has does other = absurd does

stays_closed : (old new : Broker) (place : GroupPlace) (envelope : Held) → HasOut old place envelope → ClosesEach old.groups new.groups → HasOut new place envelope
stays_closed old new place envelope has closes =
    let now = closes.each place.slot has.group has.there in
    record { group = now.group; there = now.there; is_so = closed has.group now.group place.number envelope now.is_so has.is_so }

stays_next : (old new : Broker) (happening : Happening) (place : GroupPlace) (envelope : Held) → HasOut old place envelope → Happens old happening new → ¬ Spends envelope.stamp happening → HasOut new place envelope
stays_next old new (Called supply_call) place envelope has does other = stays_out old new supply_call place envelope has does other
stays_next old new Closed place envelope has does other = stays_closed old new place envelope has does.groups

pub stays_all : (happenings : List Happening) (old new : Broker) (place : GroupPlace) (envelope : Held) → HasOut old place envelope → HappensAll old happenings new → NoneSpends envelope.stamp happenings → HasOut new place envelope
stays_all [] old new place envelope has all none = subst (λ (b : Broker). HasOut b place envelope) (sym all) has
stays_all (happening ∷ others) old new place envelope has all none =
    stays_all others all.0 new place envelope (stays_next old all.0 happening place envelope has all.1 none.0) all.2 none.1

pub taken_out : (old new : Broker) (place place' : GroupPlace) (envelope : Held) → Calls old (Take place place' (Ok (Some envelope))) new → HasOut new place envelope
taken_out old new place place' envelope does = after old.groups new.groups place.slot _ _ (λ one next is. comes_out one next place.number envelope is) does.0

pub taken_out_again : (old new : Broker) (place place' : GroupPlace) (envelope : Held) → Calls old (TakeBack place place' (Ok (Some envelope))) new → HasOut new place envelope
taken_out_again old new place place' envelope does = after old.groups new.groups place.slot _ _ (λ one next is. comes_out_again one next place.number envelope is) does.0
