-- What the calls of a broker settle is what the events of its groups tell.
use Rattle.std.proofs.Common.{◌≡◌, ◌≢◌, ℕ, if◌then◌else◌, Bool, true, false, List, [], ◌∷◌, ◌++◌, filter_map, Option, Some, None, Result, Ok, Err, slice_get, slice_set, refl, sym, ap, ◌∙◌, subst, ⊎_elim, arith, append_assoc, append-nil, get_or}
use Rattle.std.specs.List.{cons_option}
use Rattle.std.proofs.lemmas.Bool.{cases_eq, eq-eqb, ne_eqb}
use Rattle.std.proofs.lemmas.List.Elements.{filter_map-append}
use Rattle.std.proofs.lemmas.Option.{slice_get_within, slice_get-get_or, same_Some}
use Rattle.dispatch_core.proofs.Spots.{slice_get-set_same, slice_get-set_other}
use Rattle.dispatch_core.specs.declared.event.Job.{Job}
use Rattle.dispatch_core.specs.declared.event.Event.{Event}
use Rattle.dispatch_core.specs.declared.event.Event.TheVariants.{Close}
use Rattle.group_jobs.specs.declared.fate.Fate.{Fate}
use Rattle.group_jobs.specs.declared.fate.Fate.TheVariants as fate
use Rattle.group_jobs.specs.declared.message.Message.{Message}
use Rattle.group_jobs.specs.declared.stamp.Stamp.{Stamp}
use Rattle.group_jobs.specs.Stamps.{Held, job_of}
use Rattle.local_group.specs.Groups.{Group, Adds, Settles, Closes}
use Rattle.conn_supply.specs.declared.supply.NoMemory.{NoMemory}
use Rattle.conn_supply.specs.declared.supply.OfferRefusal.{OfferRefusal}
use Rattle.conn_supply.specs.SupplyCalls.{SupplyCall}
use Rattle.conn_supply.specs.SupplyCalls.SupplyCall.{Attach, Withdraw, Kicked, Park, ParkAsIs, Keep, Bury, Sweep, LendPlace, TakePlace, Bind, Find, Match, Offer, MayTake, Take, TakeBack, Settle, GiveBack}
use Rattle.conn_laws.specs.Calls.{settlement_of, settled, MakesAll}
use Rattle.local_broker.specs.Places.{GroupPlace}
use Rattle.local_broker.specs.Groups.{InGroup, IsOffered, HandsOut, HandsOutAgain, IsOutAt, IsSettled, IsGivenBack, LetsGo, ClosesEach}
use Rattle.local_broker.specs.Broker.{Broker}
use Rattle.local_broker.specs.Calls.{Calls, OffersFrom}
use Rattle.local_broker.proofs.Closed.{either}
use Rattle.local_server.specs.Settling.{Settlement, settled_in, settled_in_all, settled_seen_by}

-- after one group stands another, in which these were settled besides
abbrev Ends : List (ℕ × Job × Fate) → Group → Group → Type 0
Ends given old new = settled_in_all new.events ≡ settled_in_all old.events ++ given

same_group : (old new : Group) → new ≡ old → Ends [] old new
same_group old new same = ap (λ g. settled_in_all g.events) same ∙ sym (append-nil (settled_in_all old.events))

one_event : (given : Option (ℕ × Job × Fate)) (old new : Group) (event : Event) → Adds old event new → settled_in event ≡ given → Ends (cons_option given []) old new
one_event given old new event adds is =
    ap settled_in_all adds.events ∙ filter_map-append settled_in old.events (event ∷ []) ∙ ap (λ found. settled_in_all old.events ++ cons_option found []) is

-- one call of a group by which nothing is settled
offered : (answer : Result Stamp OfferRefusal) (old new : Group) (port : ℕ) (message : Message) → IsOffered old port message answer new → Ends [] old new
offered (Ok stamp) old new port message does = one_event None old new _ does.event refl
offered (Err refusal) old new port message does = same_group old new does.same

handed : (answer : Result (Option Held) NoMemory) (old new : Group) (place : ℕ) → HandsOut old place answer new → Ends [] old new
handed (Ok (Some envelope)) old new place does = one_event None old new _ does.4 refl
handed (Ok None) old new place does = same_group old new does.1
handed (Err refusal) old new place does = same_group old new does.1

handed_again : (answer : Result (Option Held) NoMemory) (old new : Group) (place : ℕ) → HandsOutAgain old place answer new → Ends [] old new
handed_again (Ok (Some envelope)) old new place does = one_event None old new _ does.4 refl
handed_again (Ok None) old new place does = same_group old new does.1
handed_again (Err refusal) old new place does = same_group old new does.1

given_back : (old new : Group) (place : ℕ) (envelope : Held) → IsGivenBack old place envelope new → Ends [] old new
given_back old new place envelope does =
    ⊎_elim (λ is. one_event None old new _ is.1.event refl) (λ (is : LetsGo old place envelope new). same_group old new is.same) does

closed : (old new : Group) → Closes old new → Ends [] old new
closed old new does =
    ⊎_elim
    (λ (was : old.state.closed ≡ true). same_group old new (does.again was))
    (λ (was : old.state.closed ≡ false). one_event None old new Close (does.closed was) refl)
    (either old.state.closed)

-- the place has the message, and settles it
settles : (how : Fate) (old new : Group) (envelope : Held) → Settles old envelope how new → Ends ((envelope.place, job_of envelope.stamp, how) ∷ []) old new
settles fate.Acknowledged old new envelope does = one_event (Some (envelope.place, job_of envelope.stamp, fate.Acknowledged)) old new _ does.event refl
settles fate.Refused old new envelope does = one_event (Some (envelope.place, job_of envelope.stamp, fate.Refused)) old new _ does.event refl
settles fate.Discarded old new envelope does = one_event (Some (envelope.place, job_of envelope.stamp, fate.Discarded)) old new _ does.event refl

settles_out : (how : Fate) (old new : Group) (place : ℕ) (envelope : Held) → IsOutAt old place envelope → IsSettled old place envelope how new
    → Ends ((envelope.place, job_of envelope.stamp, how) ∷ []) old new
settles_out how old new place envelope out does =
    ⊎_elim (λ (is : IsOutAt old place envelope × Settles old envelope how new). settles how old new envelope is.1)
    (λ (is : LetsGo old place envelope new). absurd (is.stranger out)) does

-- the group of this slot was that one before, and these were settled in it since
pub record Since (old : List Group) (slot : ℕ) (group : Group) (given : List (ℕ × Job × Fate)) : Type 0 where
  pub before : Group
  pub was : slice_get old slot ≡ Some before
  pub ends : Ends given before group

-- these were settled in the groups
abbrev pub AddsIn : List Group → List Settlement → List Group → Type 0
AddsIn old given new = (slot : ℕ) (group : Group) → slice_get new slot ≡ Some group → Since old slot group (filter_map (settled_seen_by slot) given)

same_in : (old new : List Group) → new ≡ old → AddsIn old [] new
same_in old new same slot group there =
    record { before = group; was = ap (λ l. slice_get l slot) (sym same) ∙ there; ends = same_group group group refl }

none_in : (old new : List Group) (at : ℕ) (Does : Group → Group → Type 0) → ((before after : Group) → Does before after → Ends [] before after)
    → InGroup old at Does new → AddsIn old [] new
none_in old new at Does ends does slot group there =
    let set : slice_get (slice_set old at does.after) slot ≡ Some group = ap (λ l. slice_get l slot) (sym does.becomes) ∙ there in
    ⊎_elim
    (λ (is : at ≡ slot).
    let same = same_Some does.after group
    (sym (slice_get-set_same old at does.after (slice_get_within old at does.before does.there)) ∙ ap (slice_get (slice_set old at does.after)) is ∙ set) in
    record { before = does.before; was = ap (slice_get old) (sym is) ∙ does.there; ends = subst (Ends [] does.before) same (ends does.before does.after does.does) })
    (λ (differs : at ≢ slot).
    record { before = group; was = sym (slice_get-set_other old at slot does.after (λ e. differs (sym e))) ∙ set; ends = same_group group group refl })
    (cases_eq at slot)

none_offered : (old new : List Group) (at connection : ℕ) (message : Message) (answer : Result Stamp OfferRefusal) → OffersFrom old at connection message answer new
    → AddsIn old [] new
none_offered old new at connection message answer does =
    ⊎_elim
    (λ no_port. same_in old new no_port.2)
    (λ with_port.
    ⊎_elim
    (λ no_group. same_in old new no_group.3)
    (λ in_group. none_in old new at _ (λ before after is. offered answer before after connection message is) in_group.2)
    with_port)
    does

-- a call that settles nothing
pub none_settled : (supply_call : SupplyCall GroupPlace) (old new : Broker) → settlement_of supply_call ≡ None → Calls old supply_call new → AddsIn old.groups [] new.groups
none_settled (Attach request answer) old new none does = same_in old.groups new.groups does.groups
none_settled (Withdraw connection) old new none does = same_in old.groups new.groups does.groups
none_settled (Kicked connection answer) old new none does = same_in old.groups new.groups does.groups
none_settled (Park session now answer) old new none does = same_in old.groups new.groups does.groups
none_settled (ParkAsIs session) old new none does = same_in old.groups new.groups does.1.groups
none_settled (Keep session) old new none does = same_in old.groups new.groups does.1.groups
none_settled (Bury session) old new none does = same_in old.groups new.groups does.1.groups
none_settled (Sweep now answer) old new none does = same_in old.groups new.groups does.groups
none_settled (LendPlace at answer) old new none does = same_in old.groups new.groups does.groups
none_settled (TakePlace place) old new none does = same_in old.groups new.groups does.1.groups
none_settled (Bind share answer) old new none does = same_in old.groups new.groups does.1.groups
none_settled (Find share answer) old new none does = same_in old.groups new.groups (ap (λ b. b.groups) does.1)
none_settled (Match topic slots) old new none does = same_in old.groups new.groups (ap (λ b. b.groups) does.1)
none_settled (Offer at connection message answer) old new none does = none_offered old.groups new.groups at connection message answer does.0
none_settled (MayTake place answer) old new none does = same_in old.groups new.groups (ap (λ b. b.groups) does.1)
none_settled (Take place place' answer) old new none does =
    none_in old.groups new.groups place.slot _ (λ before after is. handed answer before after place.number is) does.0
none_settled (TakeBack place place' answer) old new none does =
    none_in old.groups new.groups place.slot _ (λ before after is. handed_again answer before after place.number is) does.0
none_settled (Settle place place' envelope how) old new none does = absurd (cc)
none_settled (GiveBack place place' envelope (Ok done)) old new none does =
    none_in old.groups new.groups place.slot _ (λ before after is. given_back before after place.number envelope is) does.0
none_settled (GiveBack place place' envelope (Err back)) old new none does = absurd does

pub none_closed : (old new : List Group) → ClosesEach old new → AddsIn old [] new
none_closed old new closes slot group there =
    let within = slice_get_within new slot group there in
    let before = get_or old slot group in
    let was = slice_get-get_or old slot group (let as_many = closes.as_many in omega arith) in
    let has = closes.each slot before was in
    record { before = before; was = was; ends = subst (Ends [] before) (same_Some has.group group (sym has.there ∙ there)) (closed before has.group has.is_so) }

-- first these, and then those
pub adds_then : (given more : List Settlement) (old mid new : List Group) → AddsIn old given mid → AddsIn mid more new → AddsIn old (given ++ more) new
adds_then given more old mid new these those slot group there =
    let later = those slot group there in
    let first = these slot later.before later.was in
    let one = filter_map (settled_seen_by slot) given in
    let other = filter_map (settled_seen_by slot) more in
    record {
      before = first.before;
      was = first.was;
      ends =
          later.ends ∙ ap (λ l. l ++ other) first.ends ∙ append_assoc (settled_in_all first.before.events) one other
          ∙ ap (λ l. settled_in_all first.before.events ++ l) (sym (filter_map-append (settled_seen_by slot) given more));
    }

pub adds_nothing : (old new : Broker) → new ≡ old → AddsIn old.groups [] new.groups
adds_nothing old new same = same_in old.groups new.groups (ap (λ b. b.groups) same)

cut : (found : Option Settlement) (others : List Settlement) → cons_option found others ≡ [] → (found ≡ None) × (others ≡ [])
cut None others none = (refl, none)
cut (Some settlement) others none = absurd (cc)

-- calls that settle nothing
pub none_of_all : (supply_calls : List (SupplyCall GroupPlace)) (old new : Broker) → settled supply_calls ≡ [] → MakesAll Calls old supply_calls new → AddsIn old.groups [] new.groups
none_of_all [] old new none made = adds_nothing old new made
none_of_all (supply_call ∷ supply_calls) old new none made =
    let parts = cut (settlement_of supply_call) (settled supply_calls) none in
    adds_then [] [] old.groups made.0.groups new.groups (none_settled supply_call old made.0 parts.0 made.1) (none_of_all supply_calls made.0 new parts.1 made.2)

-- a message that a place has is settled
pub one_settled : (place place' : GroupPlace) (envelope : Held) (how : Fate) (old new : Broker) → envelope.stamp.group ≡ place.slot
    → ((group : Group) → slice_get old.groups place.slot ≡ Some group → IsOutAt group place.number envelope) → Calls old (Settle place place' envelope how) new
    → AddsIn old.groups ((envelope, how) ∷ []) new.groups
one_settled place place' envelope how old new its out does slot group there =
    let call = does.0 in
    let given : List (ℕ × Job × Fate) = (envelope.place, job_of envelope.stamp, how) ∷ [] in
    let set : slice_get (slice_set old.groups place.slot call.after) slot ≡ Some group = ap (λ l. slice_get l slot) (sym call.becomes) ∙ there in
    ⊎_elim
    (λ (is : place.slot ≡ slot).
    let same = same_Some call.after group
    (sym (slice_get-set_same old.groups place.slot call.after (slice_get_within old.groups place.slot call.before call.there)) ∙ ap
    (slice_get (slice_set old.groups place.slot call.after)) is ∙ set) in
    let ends : Ends given call.before call.after = settles_out how call.before call.after place.number envelope (out call.before call.there) call.does in
    let seen : given ≡ filter_map (settled_seen_by slot) ((envelope, how) ∷ []) =
    sym (ap (λ (b : Bool). cons_option (if b then Some (envelope.place, job_of envelope.stamp, how) else None) []) (eq-eqb envelope.stamp.group slot (its ∙ is))) in
    record { before = call.before; was = ap (slice_get old.groups) (sym is) ∙ call.there; ends = subst (λ g. Ends g call.before group) seen (subst (Ends given call.before) same ends) })
    (λ (differs : place.slot ≢ slot).
    let unseen : [] ≡ filter_map (settled_seen_by slot) ((envelope, how) ∷ []) =
    sym (ap (λ (b : Bool). cons_option (if b then Some (envelope.place, job_of envelope.stamp, how) else None) [])
    (ne_eqb envelope.stamp.group slot (λ e. differs (sym its ∙ e)))) in
    record {
      before = group;
      was = sym (slice_get-set_other old.groups place.slot slot call.after (λ e. differs (sym e))) ∙ set;
      ends = subst (λ g. Ends g group group) unseen (same_group group group refl);
    })
    (cases_eq place.slot slot)
