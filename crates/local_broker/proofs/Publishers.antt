-- What is accepted by the calls of a connection comes through its port.
use Rattle.std.proofs.Common.{◌≡◌, ◌≢◌, ℕ, List, [], ◌∷◌, ◌++◌, Option, Some, None, Result, Ok, Err, true, false, slice_get, slice_set, refl, sym, ap, ◌∙◌, subst, ⊎_elim, arith, append_assoc, append-nil, get_or}
use Rattle.std.specs.Bool.{⊤}
use Rattle.std.specs.List.{AllByRecursion, cons_option}
use Rattle.std.proofs.lemmas.Bool.{cases_eq}
use Rattle.std.proofs.lemmas.Option.{slice_get_within, slice_get-get_or, same_Some}
use Rattle.dispatch_core.specs.declared.event.Event.{Event}
use Rattle.dispatch_core.specs.declared.event.Event.TheVariants.{Accept, First, Ack, Refuse, Discard, Back, Again, Close}
use Rattle.dispatch_core.proofs.Spots.{slice_get-set_same, slice_get-set_other}
use Rattle.group_jobs.specs.declared.fate.Fate.{Fate}
use Rattle.group_jobs.specs.declared.fate.Fate.TheVariants as fate
use Rattle.group_jobs.specs.declared.message.Message.{Message}
use Rattle.group_jobs.specs.declared.stamp.Stamp.{Stamp}
use Rattle.group_jobs.specs.Stamps.{Held}
use Rattle.local_group.specs.Groups.{Group, Adds, Settles, Closes}
use Rattle.conn_supply.specs.declared.supply.NoMemory.{NoMemory}
use Rattle.conn_supply.specs.declared.supply.OfferRefusal.{OfferRefusal}
use Rattle.conn_supply.specs.SupplyCalls.{SupplyCall}
use Rattle.conn_supply.specs.SupplyCalls.SupplyCall.{Attach, Withdraw, Kicked, Park, ParkAsIs, Keep, Bury, Sweep, LendPlace, TakePlace, Bind, Find, Match, Offer, MayTake, Take, TakeBack, Settle, GiveBack}
use Rattle.conn_laws.specs.Calls.{offer_of, offered, MakesAll}
use Rattle.conn_laws.specs.Publishers.{AreFrom, CallsFrom}
use Rattle.local_broker.specs.Places.{GroupPlace}
use Rattle.local_broker.specs.Groups.{InGroup, ClosesEach, IsOffered, HandsOut, HandsOutAgain, IsOutAt, IsSettled, IsGivenBack, LetsGo}
use Rattle.local_broker.specs.Broker.{Broker}
use Rattle.local_broker.specs.Calls.{Calls, Closes as ClosesAll, OffersFrom}
use Rattle.local_broker.specs.Histories.{Happening, HappensAll, EndsHandOut}
use Rattle.local_broker.specs.Publishers.{AcceptsThrough, AcceptsNothing, AllAddOnly}
use Rattle.local_broker.proofs.Closed.{either, all_shut}
use Rattle.local_broker.proofs.Happened.{only_ends}

both : (IsSo : Event → Type 0) (events others : List Event) → AllByRecursion IsSo events → AllByRecursion IsSo others → AllByRecursion IsSo (events ++ others)
both IsSo [] others these those = those
both IsSo (event ∷ events) others these those = (these.0, both IsSo events others these.1 those)

each : (IsSo IsAlso : Event → Type 0) → ((event : Event) → IsSo event → IsAlso event) → (events : List Event) → AllByRecursion IsSo events → AllByRecursion IsAlso events
each IsSo IsAlso so [] all = tt
each IsSo IsAlso so (event ∷ events) all = (so event all.0, each IsSo IsAlso so events all.1)

-- after one group stands another, in which only such events happened besides
record Grows (IsSo : Event → Type 0) (old new : Group) : Type 0 where
  added : List Event
  events : new.events ≡ old.events ++ added
  are : AllByRecursion IsSo added

same_group : (IsSo : Event → Type 0) (old new : Group) → new ≡ old → Grows IsSo old new
same_group IsSo old new same = record { added = []; events = ap (λ g. g.events) same ∙ sym (append-nil old.events); are = tt }

one_event : (IsSo : Event → Type 0) (old new : Group) (event : Event) → Adds old event new → IsSo event → Grows IsSo old new
one_event IsSo old new event adds is = record { added = event ∷ []; events = adds.events; are = (is, tt) }

-- one call of a group
is_offered : (answer : Result Stamp OfferRefusal) (port : ℕ) (old new : Group) (message : Message) → IsOffered old port message answer new → Grows (AcceptsThrough port) old new
is_offered (Ok stamp) port old new message does = one_event (AcceptsThrough port) old new (Accept port) does.event refl
is_offered (Err refusal) port old new message does = same_group (AcceptsThrough port) old new does.same

is_handed : (answer : Result (Option Held) NoMemory) (port : ℕ) (old new : Group) (place : ℕ) → HandsOut old place answer new → Grows (AcceptsThrough port) old new
is_handed (Ok (Some envelope)) port old new place does = one_event (AcceptsThrough port) old new (First place does.0.job) does.4 tt
is_handed (Ok None) port old new place does = same_group (AcceptsThrough port) old new does.1
is_handed (Err error) port old new place does = same_group (AcceptsThrough port) old new does.1

is_handed_again : (answer : Result (Option Held) NoMemory) (port : ℕ) (old new : Group) (place : ℕ) → HandsOutAgain old place answer new → Grows (AcceptsThrough port) old new
is_handed_again (Ok (Some envelope)) port old new place does = one_event (AcceptsThrough port) old new (Again place does.0.job) does.4 tt
is_handed_again (Ok None) port old new place does = same_group (AcceptsThrough port) old new does.1
is_handed_again (Err error) port old new place does = same_group (AcceptsThrough port) old new does.1

settled_as : (how : Fate) (port : ℕ) (old new : Group) (envelope : Held) → Settles old envelope how new → Grows (AcceptsThrough port) old new
settled_as fate.Acknowledged port old new envelope settles = one_event (AcceptsThrough port) old new _ settles.event tt
settled_as fate.Refused port old new envelope settles = one_event (AcceptsThrough port) old new _ settles.event tt
settled_as fate.Discarded port old new envelope settles = one_event (AcceptsThrough port) old new _ settles.event tt

is_settled : (how : Fate) (port : ℕ) (old new : Group) (place : ℕ) (envelope : Held) → IsSettled old place envelope how new → Grows (AcceptsThrough port) old new
is_settled how port old new place envelope does =
    ⊎_elim
    (λ (is : IsOutAt old place envelope × Settles old envelope how new). settled_as how port old new envelope is.1)
    (λ (is : LetsGo old place envelope new). same_group (AcceptsThrough port) old new is.same)
    does

is_given_back : (port : ℕ) (old new : Group) (place : ℕ) (envelope : Held) → IsGivenBack old place envelope new → Grows (AcceptsThrough port) old new
is_given_back port old new place envelope does =
    ⊎_elim
    (λ is. one_event (AcceptsThrough port) old new _ is.1.event tt)
    (λ (is : LetsGo old place envelope new). same_group (AcceptsThrough port) old new is.same)
    does

is_closed : (old new : Group) → Closes old new → Grows AcceptsNothing old new
is_closed old new does =
    ⊎_elim
    (λ (was : old.state.closed ≡ true). same_group AcceptsNothing old new (does.again was))
    (λ (was : old.state.closed ≡ false). one_event AcceptsNothing old new Close (does.closed was) tt)
    (either old.state.closed)

-- the groups of a broker: none does anything, or one does
pub still : (IsSo : Event → Type 0) (old new : Broker) → new.groups ≡ old.groups → AllAddOnly IsSo old new
still IsSo old new same slot group there =
    record { before = group; was = ap (λ l. slice_get l slot) (sym same) ∙ there; added = []; events = sym (append-nil group.events); are = tt }

in_one : (IsSo : Event → Type 0) (old new : Broker) (at : ℕ) (Does : Group → Group → Type 0) → ((before after : Group) → Does before after → Grows IsSo before after)
    → InGroup old.groups at Does new.groups → AllAddOnly IsSo old new
in_one IsSo old new at Does grows does slot group there =
    let set : slice_get (slice_set old.groups at does.after) slot ≡ Some group = ap (λ l. slice_get l slot) (sym does.becomes) ∙ there in
    ⊎_elim
    (λ (is : slot ≡ at).
    let same = same_Some does.after group (sym (slice_get-set_same old.groups at does.after (slice_get_within old.groups at does.before does.there)) ∙ ap (slice_get (slice_set old.groups at does.after)) (sym is) ∙ set) in
    let more = subst (Grows IsSo does.before) same (grows does.before does.after does.does) in
    record { before = does.before; was = ap (slice_get old.groups) is ∙ does.there; added = more.added; events = more.events; are = more.are })
    (λ (other : slot ≢ at).
    record {
      before = group;
      was = sym (slice_get-set_other old.groups at slot does.after other) ∙ set;
      added = [];
      events = sym (append-nil group.events);
      are = tt;
    })
    (cases_eq slot at)

through : (old new : Broker) (at connection : ℕ) (message : Message) (answer : Result Stamp OfferRefusal) → OffersFrom old.groups at connection message answer new.groups
    → AllAddOnly (AcceptsThrough connection) old new
through old new at connection message answer does =
    ⊎_elim
    (λ no_port. still (AcceptsThrough connection) old new no_port.2)
    (λ with_port.
    ⊎_elim
    (λ no_group. still (AcceptsThrough connection) old new no_group.3)
    (λ in_group. in_one (AcceptsThrough connection) old new at _ (λ before after is. is_offered answer connection before after message is) in_group.2)
    with_port)
    does

-- what one call offers, if anything, is offered from this connection
abbrev IsFrom : ℕ → Option (ℕ × ℕ × Message) → Type 0
IsFrom number None = ⊤
IsFrom number (Some offer) = offer.1 ≡ number

first_from : (number : ℕ) (offer : Option (ℕ × ℕ × Message)) (others : List (ℕ × ℕ × Message))
    → AllByRecursion (λ (o : ℕ × ℕ × Message). o.1 ≡ number) (cons_option offer others) → IsFrom number offer × AllByRecursion (λ (o : ℕ × ℕ × Message). o.1 ≡ number) others
first_from number None others all = (tt, all)
first_from number (Some offer) others all = (all.0, all.1)

called : (supply_call : SupplyCall GroupPlace) (port : ℕ) (old new : Broker) → IsFrom port (offer_of supply_call) → Calls old supply_call new → AllAddOnly (AcceptsThrough port) old new
called (Attach request answer) port old new from does = still (AcceptsThrough port) old new does.groups
called (Withdraw connection) port old new from does = still (AcceptsThrough port) old new does.groups
called (Kicked connection answer) port old new from does = still (AcceptsThrough port) old new does.groups
called (Park session now answer) port old new from does = still (AcceptsThrough port) old new does.groups
called (ParkAsIs session) port old new from does = still (AcceptsThrough port) old new does.1.groups
called (Keep session) port old new from does = still (AcceptsThrough port) old new does.1.groups
called (Bury session) port old new from does = still (AcceptsThrough port) old new does.1.groups
called (Sweep now answer) port old new from does = still (AcceptsThrough port) old new does.groups
called (LendPlace slot answer) port old new from does = still (AcceptsThrough port) old new does.groups
called (TakePlace place) port old new from does = still (AcceptsThrough port) old new does.1.groups
called (Bind share answer) port old new from does = still (AcceptsThrough port) old new does.1.groups
called (Find share answer) port old new from does = still (AcceptsThrough port) old new (ap (λ b. b.groups) does.1)
called (Match topic slots) port old new from does = still (AcceptsThrough port) old new (ap (λ b. b.groups) does.1)
called (Offer slot connection message answer) port old new from does =
    subst (λ (n : ℕ). AllAddOnly (AcceptsThrough n) old new) from (through old new slot connection message answer does.0)
called (MayTake place answer) port old new from does = still (AcceptsThrough port) old new (ap (λ b. b.groups) does.1)
called (Take place place' answer) port old new from does =
    in_one (AcceptsThrough port) old new place.slot _ (λ before after is. is_handed answer port before after place.number is) does.0
called (TakeBack place place' answer) port old new from does =
    in_one (AcceptsThrough port) old new place.slot _ (λ before after is. is_handed_again answer port before after place.number is) does.0
called (Settle place place' envelope how) port old new from does =
    in_one (AcceptsThrough port) old new place.slot _ (λ before after is. is_settled how port before after place.number envelope is) does.0
called (GiveBack place place' envelope (Ok done)) port old new from does =
    in_one (AcceptsThrough port) old new place.slot _ (λ before after is. is_given_back port before after place.number envelope is) does.0
called (GiveBack place place' envelope (Err back)) port old new from does = absurd does

-- what is added first and then
pub then : (IsSo : Event → Type 0) (old mid new : Broker) → AllAddOnly IsSo old mid → AllAddOnly IsSo mid new → AllAddOnly IsSo old new
then IsSo old mid new these those slot group there =
    let later = those slot group there in
    let first = these slot later.before later.was in
    record {
      before = first.before;
      was = first.was;
      added = first.added ++ later.added;
      events = later.events ∙ ap (λ l. l ++ later.added) first.events ∙ append_assoc first.before.events first.added later.added;
      are = both IsSo first.added later.added first.are later.are;
    }

all_called : (supply_calls : List (SupplyCall GroupPlace)) (port : ℕ) (old new : Broker) → AreFrom port supply_calls → MakesAll Calls old supply_calls new → AllAddOnly (AcceptsThrough port) old new
all_called [] port old new from made = still (AcceptsThrough port) old new (ap (λ b. b.groups) made)
all_called (supply_call ∷ supply_calls) port old new from made =
    let is = first_from port (offer_of supply_call) (offered supply_calls) from in
    then (AcceptsThrough port) old made.0 new (called supply_call port old made.0 is.0 made.1) (all_called supply_calls port made.0 new is.1 made.2)

pub published : (number : ℕ) (old new : Broker) → CallsFrom Calls number old new → AllAddOnly (AcceptsThrough number) old new
published number old new calls = all_called calls.supply_calls number old new calls.from calls.made

-- the close, and what happens after it
closed_each : (old new : Broker) → ClosesEach old.groups new.groups → AllAddOnly AcceptsNothing old new
closed_each old new closes slot group there =
    let within = slice_get_within new.groups slot group there in
    let before = get_or old.groups slot group in
    let was = slice_get-get_or old.groups slot group (let as_many = closes.as_many in omega arith) in
    let has = closes.each slot before was in
    let more = subst (Grows AcceptsNothing before) (same_Some has.group group (sym has.there ∙ there)) (is_closed before has.group has.is_so) in
    record { before = before; was = was; added = more.added; events = more.events; are = more.are }

ends_one : (event : Event) → EndsHandOut event → AcceptsNothing event
ends_one (Accept port) ends = absurd ends
ends_one (First member job) ends = tt
ends_one (Ack member job) ends = tt
ends_one (Refuse member job) ends = tt
ends_one (Discard member job) ends = tt
ends_one (Back member job) ends = tt
ends_one (Again member job) ends = tt
ends_one Close ends = tt

only_ended : (happenings : List Happening) (old closed new : Broker) → ClosesAll old closed → HappensAll closed happenings new → AllAddOnly AcceptsNothing closed new
only_ended happenings old closed new closes all slot group there =
    let added = only_ends happenings closed new (all_shut old.groups closed.groups closes.groups) all slot group there in
    record { before = added.before; was = added.was; added = added.added; events = added.events; are = each EndsHandOut AcceptsNothing ends_one added.added added.ends }

pub behind_close : (happenings : List Happening) (old closed new : Broker) → ClosesAll old closed → HappensAll closed happenings new → AllAddOnly AcceptsNothing old new
behind_close happenings old closed new closes all =
    then AcceptsNothing old closed new (closed_each old closed closes.groups) (only_ended happenings old closed new closes all)
