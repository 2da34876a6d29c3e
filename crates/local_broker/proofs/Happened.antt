-- What holds of a broker, whatever happens to it.
use Rattle.std.proofs.Common.{◌≡◌, ◌≢◌, ℕ, ◌≤◌, true, List, [], ◌∷◌, ◌++◌, Some, Ok, Err, slice_get, slice_set, refl, sym, ap, ◌∙◌, subst, inl, ⊎_elim, append_assoc, append-nil, get_or, Result, arith}
use Rattle.std.specs.List.{AllByRecursion}
use Rattle.std.proofs.lemmas.Bool.{cases_eq}
use Rattle.std.proofs.lemmas.Option.{slice_get_within, slice_get-get_or, same_Some}
use Rattle.mqtt_topic.specs.Names.{Share}
use Rattle.dispatch_core.specs.declared.event.Event.{Event}
use Rattle.dispatch_core.proofs.Spots.{slice_get-set_same, slice_get-set_other}
use Rattle.dispatch_core.specs.History.{IsRun}
use Rattle.group_jobs.specs.declared.message.Message.{Message}
use Rattle.group_jobs.specs.declared.stamp.Stamp.{Stamp}
use Rattle.group_jobs.specs.Stamps.{Held}
use Rattle.session_desk.specs.Calls.{Call}
use Rattle.limits.specs.Limits.{default_sessions}
use Rattle.session_desk.specs.Hands.{DeskLaw, KeepsAtMost, living_in}
use Rattle.session_desk.proofs.OneHand.{law_all}
use Rattle.session_desk.proofs.AsTold.{few_next, none_yet}
use Rattle.local_group.specs.Groups.{Group}
use Rattle.local_group.proofs.Steps.{goes_on}
use Rattle.conn_supply.specs.declared.supply.OfferRefusal.{OfferRefusal}
use Rattle.conn_supply.specs.SupplyCalls.{SupplyCall}
use Rattle.conn_supply.specs.SupplyCalls.SupplyCall.{Attach, Withdraw, Kicked, Park, ParkAsIs, Keep, Bury, Sweep, LendPlace, TakePlace, Bind, Find, Match, Offer, MayTake, Take, TakeBack, Settle, GiveBack}
use Rattle.local_broker.specs.Places.{GroupPlace, cell_of}
use Rattle.local_broker.specs.Groups.{InGroup, ClosesEach}
use Rattle.local_broker.specs.Broker.{Broker, IsClosed, IsNewBroker}
use Rattle.local_broker.specs.Calls.{AsksDesk, Calls, OffersFrom}
use Rattle.local_broker.specs.Histories.{Happening, Called, Closed, Happens, HappensAll, IsRunning, AreRunning, EndsHandOut, OnlyEnds}
use Rattle.local_broker.proofs.Opened.{new_law}
use Rattle.local_broker.proofs.Events.{Moves, GoesOn, offered, handed, handed_again, settled, given_back, closed, keeps_closed, ends}

asks : (old new : Broker) (call : Call Held GroupPlace) → DeskLaw old.desk.rows old.desk.made → AsksDesk old call new → DeskLaw new.desk.rows new.desk.made
asks old new call law does = law_all cell_of old.desk new.desk (call ∷ []) law (does.allowed, (new.desk, does.makes, refl))

same_desk : (old new : Broker) → DeskLaw old.desk.rows old.desk.made → new.desk ≡ old.desk → DeskLaw new.desk.rows new.desk.made
same_desk old new law same = subst (λ desk. DeskLaw desk.rows desk.made) (sym same) law

-- the desk law, call by call
law_next : (old new : Broker) (supply_call : SupplyCall GroupPlace) → DeskLaw old.desk.rows old.desk.made → Calls old supply_call new → DeskLaw new.desk.rows new.desk.made
law_next old new (Attach request answer) law does = asks old new _ law does
law_next old new (Withdraw connection) law does = asks old new _ law does
law_next old new (Kicked connection answer) law does = asks old new _ law does
law_next old new (Park session now answer) law does = asks old new _ law does
law_next old new (ParkAsIs session) law does = asks old new _ law does.1
law_next old new (Keep session) law does = asks old new _ law does.1
law_next old new (Bury session) law does = asks old new _ law does.1
law_next old new (Sweep now answer) law does = asks old new _ law does
law_next old new (LendPlace slot answer) law does = asks old new _ law does
law_next old new (TakePlace place) law does = asks old new _ law does.1
law_next old new (Bind share answer) law does = same_desk old new law does.1.desk
law_next old new (Find share answer) law does = same_desk old new law (ap (λ b. b.desk) does.1)
law_next old new (Match topic slots) law does = same_desk old new law (ap (λ b. b.desk) does.1)
law_next old new (Offer slot connection message answer) law does = same_desk old new law does.1.desk
law_next old new (MayTake place answer) law does = same_desk old new law (ap (λ b. b.desk) does.1)
law_next old new (Take place place' answer) law does = same_desk old new law does.2.desk
law_next old new (TakeBack place place' answer) law does = same_desk old new law does.2.desk
law_next old new (Settle place place' envelope fate) law does = same_desk old new law does.2.desk
law_next old new (GiveBack place place' envelope (Ok done)) law does = same_desk old new law does.2.desk
law_next old new (GiveBack place place' envelope (Err back)) law does = absurd does

pub law_all_along : (happenings : List Happening) (old new : Broker) → DeskLaw old.desk.rows old.desk.made → HappensAll old happenings new → DeskLaw new.desk.rows new.desk.made
law_all_along [] old new law all = subst (λ (b : Broker). DeskLaw b.desk.rows b.desk.made) (sym all) law
law_all_along (Called supply_call ∷ others) old new law all = law_all_along others all.0 new (law_next old all.0 supply_call law all.1) all.2
law_all_along (Closed ∷ others) old new law all = law_all_along others all.0 new (same_desk old all.0 law all.1.desk) all.2

-- a desk that is told to keep as many as a broker of its own accord keeps no more
few_asks : (old new : Broker) (call : Call Held GroupPlace) → DeskLaw old.desk.rows old.desk.made → KeepsAtMost default_sessions call → living_in old.desk.rows ≤ default_sessions → AsksDesk old call new
    → living_in new.desk.rows ≤ default_sessions
few_asks old new call law told few does = few_next cell_of default_sessions old.desk new.desk call law does.makes told few

few_same : (old new : Broker) → living_in old.desk.rows ≤ default_sessions → new.desk ≡ old.desk → living_in new.desk.rows ≤ default_sessions
few_same old new few same = subst (λ desk. living_in desk.rows ≤ default_sessions) (sym same) few

few_call : (old new : Broker) (supply_call : SupplyCall GroupPlace) → DeskLaw old.desk.rows old.desk.made → living_in old.desk.rows ≤ default_sessions → Calls old supply_call new
    → living_in new.desk.rows ≤ default_sessions
few_call old new (Attach request answer) law few does = few_asks old new _ law (omega arith) few does
few_call old new (Withdraw connection) law few does = few_asks old new _ law tt few does
few_call old new (Kicked connection answer) law few does = few_asks old new _ law tt few does
few_call old new (Park session now answer) law few does = few_asks old new _ law tt few does
few_call old new (ParkAsIs session) law few does = few_asks old new _ law tt few does.1
few_call old new (Keep session) law few does = few_asks old new _ law tt few does.1
few_call old new (Bury session) law few does = few_asks old new _ law tt few does.1
few_call old new (Sweep now answer) law few does = few_asks old new _ law tt few does
few_call old new (LendPlace slot answer) law few does = few_asks old new _ law tt few does
few_call old new (TakePlace place) law few does = few_asks old new _ law tt few does.1
few_call old new (Bind share answer) law few does = few_same old new few does.1.desk
few_call old new (Find share answer) law few does = few_same old new few (ap (λ b. b.desk) does.1)
few_call old new (Match topic slots) law few does = few_same old new few (ap (λ b. b.desk) does.1)
few_call old new (Offer slot connection message answer) law few does = few_same old new few does.1.desk
few_call old new (MayTake place answer) law few does = few_same old new few (ap (λ b. b.desk) does.1)
few_call old new (Take place place' answer) law few does = few_same old new few does.2.desk
few_call old new (TakeBack place place' answer) law few does = few_same old new few does.2.desk
few_call old new (Settle place place' envelope fate) law few does = few_same old new few does.2.desk
few_call old new (GiveBack place place' envelope (Ok done)) law few does = few_same old new few does.2.desk
few_call old new (GiveBack place place' envelope (Err back)) law few does = absurd does

pub few_all_along : (happenings : List Happening) (old new : Broker) → DeskLaw old.desk.rows old.desk.made → living_in old.desk.rows ≤ default_sessions → HappensAll old happenings new
    → living_in new.desk.rows ≤ default_sessions
few_all_along [] old new law few all = subst (λ (b : Broker). living_in b.desk.rows ≤ default_sessions) (sym all) few
few_all_along (Called supply_call ∷ others) old new law few all =
    few_all_along others all.0 new (law_next old all.0 supply_call law all.1) (few_call old all.0 supply_call law few all.1) all.2
few_all_along (Closed ∷ others) old new law few all = few_all_along others all.0 new (same_desk old all.0 law all.1.desk) (few_same old all.0 few all.1.desk) all.2

-- the group of this slot was this one before, and one event more happened in it at most
pub record Came (old : List Group) (slot : ℕ) (group : Group) : Type 0 where
  pub before : Group
  pub was : slice_get old slot ≡ Some before
  pub moves : Moves before group

came_same : (old new : List Group) → new ≡ old → (slot : ℕ) (group : Group) → slice_get new slot ≡ Some group → Came old slot group
came_same old new same slot group there = record { before = group; was = ap (λ l. slice_get l slot) (sym same) ∙ there; moves = inl refl }

came_in : (old new : List Group) (at : ℕ) (Does : Group → Group → Type 0) → ((before after : Group) → Does before after → Moves before after) → InGroup old at Does new
    → (slot : ℕ) (group : Group) → slice_get new slot ≡ Some group → Came old slot group
came_in old new at Does goes does slot group there =
    let set : slice_get (slice_set old at does.after) slot ≡ Some group = ap (λ l. slice_get l slot) (sym does.becomes) ∙ there in
    ⊎_elim
    (λ (is : slot ≡ at).
    let same = same_Some does.after group (sym (slice_get-set_same old at does.after (slice_get_within old at does.before does.there)) ∙ ap (slice_get (slice_set old at does.after)) (sym is) ∙ set) in
    record {
      before = does.before;
      was = ap (slice_get old) is ∙ does.there;
      moves = subst (Moves does.before) same (goes does.before does.after does.does);
    })
    (λ (other : slot ≢ at). record { before = group; was = sym (slice_get-set_other old at slot does.after other) ∙ set; moves = inl refl })
    (cases_eq slot at)

came_offer : (old new : List Group) (at connection : ℕ) (message : Message) (answer : Result Stamp OfferRefusal) → OffersFrom old at connection message answer new
    → (slot : ℕ) (group : Group) → slice_get new slot ≡ Some group → Came old slot group
came_offer old new at connection message answer does slot group there =
    ⊎_elim
    (λ no_port. came_same old new no_port.2 slot group there)
    (λ with_port.
    ⊎_elim
    (λ no_group. came_same old new no_group.3 slot group there)
    (λ in_group. came_in old new at _ (λ before after is. offered before after connection message answer is) in_group.2 slot group there)
    with_port)
    does

came : (old new : Broker) (supply_call : SupplyCall GroupPlace) → Calls old supply_call new → (slot : ℕ) (group : Group) → slice_get new.groups slot ≡ Some group → Came old.groups slot group
came old new (Attach request answer) does = came_same old.groups new.groups does.groups
came old new (Withdraw connection) does = came_same old.groups new.groups does.groups
came old new (Kicked connection answer) does = came_same old.groups new.groups does.groups
came old new (Park session now answer) does = came_same old.groups new.groups does.groups
came old new (ParkAsIs session) does = came_same old.groups new.groups does.1.groups
came old new (Keep session) does = came_same old.groups new.groups does.1.groups
came old new (Bury session) does = came_same old.groups new.groups does.1.groups
came old new (Sweep now answer) does = came_same old.groups new.groups does.groups
came old new (LendPlace slot answer) does = came_same old.groups new.groups does.groups
came old new (TakePlace place) does = came_same old.groups new.groups does.1.groups
came old new (Bind share answer) does = came_same old.groups new.groups does.1.groups
came old new (Find share answer) does = came_same old.groups new.groups (ap (λ b. b.groups) does.1)
came old new (Match topic slots) does = came_same old.groups new.groups (ap (λ b. b.groups) does.1)
came old new (Offer slot connection message answer) does = came_offer old.groups new.groups slot connection message answer does.0
came old new (MayTake place answer) does = came_same old.groups new.groups (ap (λ b. b.groups) does.1)
came old new (Take place place' answer) does = came_in old.groups new.groups place.slot _ (λ before after is. handed before after place.number answer is) does.0
came old new (TakeBack place place' answer) does = came_in old.groups new.groups place.slot _ (λ before after is. handed_again before after place.number answer is) does.0
came old new (Settle place place' envelope fate) does = came_in old.groups new.groups place.slot _ (λ before after is. settled before after place.number envelope fate is) does.0
came old new (GiveBack place place' envelope (Ok done)) does = came_in old.groups new.groups place.slot _ (λ before after is. given_back before after place.number envelope is) does.0
came old new (GiveBack place place' envelope (Err back)) does = absurd does

came_close : (old new : List Group) → ClosesEach old new → (slot : ℕ) (group : Group) → slice_get new slot ≡ Some group → Came old slot group
came_close old new closes slot group there =
    let within = slice_get_within new slot group there in
    let before = get_or old slot group in
    let was = slice_get-get_or old slot group (let as_many = closes.as_many in omega arith) in
    let has = closes.each slot before was in
    record {
      before = before;
      was = was;
      moves = subst (Moves before) (same_Some has.group group (sym has.there ∙ there)) (closed before has.group has.is_so);
    }

pub came_next : (old new : Broker) (happening : Happening) → Happens old happening new → (slot : ℕ) (group : Group) → slice_get new.groups slot ≡ Some group → Came old.groups slot group
came_next old new (Called supply_call) does = came old new supply_call does
came_next old new Closed does = came_close old.groups new.groups does.groups

-- events are a run
run_on : (slot : ℕ) (old new : Group) → IsRunning slot old → Moves old new → IsRunning slot new
run_on slot old new running moves =
    ⊎_elim
    (λ (same : new ≡ old). subst (IsRunning slot) (sym same) running)
    (λ (on : GoesOn old new).
    record {
      numbered = on.adds.form.slot ∙ running.numbered;
      run = subst (λ events. IsRun events new.state) (sym on.adds.events) (goes_on old.state new.state old.events on.event running.run on.adds.step);
    })
    moves

running_next : (old new : Broker) (happening : Happening) → AreRunning old → Happens old happening new → AreRunning new
running_next old new happening running does slot group there =
    let c = came_next old new happening does slot group there in
    run_on slot c.before group (running slot c.before c.was) c.moves

pub running_all : (happenings : List Happening) (old new : Broker) → AreRunning old → HappensAll old happenings new → AreRunning new
running_all [] old new running all = subst AreRunning (sym all) running
running_all (happening ∷ others) old new running all = running_all others all.0 new (running_next old all.0 happening running all.1) all.2

pub running_first : (capacity : ℕ) (shares : List Share) (b : Broker) → IsNewBroker capacity shares b → AreRunning b
running_first capacity shares b new slot group there =
    let is = new.groups slot group there in
    record { numbered = is.numbered; run = subst (λ events. IsRun events group.state) (sym is.fresh.events) (record { start = group.state; empty = is.fresh.state; steps = refl }) }

-- after the close
closed_next : (old new : Broker) (happening : Happening) → IsClosed old → Happens old happening new → IsClosed new
closed_next old new happening shut does slot group there =
    let c = came_next old new happening does slot group there in
    keeps_closed c.before group c.moves (shut slot c.before c.was)

pub closed_all : (happenings : List Happening) (old new : Broker) → IsClosed old → HappensAll old happenings new → IsClosed new
closed_all [] old new shut all = subst IsClosed (sym all) shut
closed_all (happening ∷ others) old new shut all = closed_all others all.0 new (closed_next old all.0 happening shut all.1) all.2

only_next : (old : Group) (new : Group) → old.state.closed ≡ true → Moves old new → (added : List Event) × (new.events ≡ old.events ++ added) × AllByRecursion EndsHandOut added
only_next old new shut moves =
    ⊎_elim
    (λ (same : new ≡ old). ([], ap (λ g. g.events) same ∙ sym (append-nil old.events), tt))
    (λ (on : GoesOn old new). (on.event ∷ [], on.adds.events, (ends old new on.event on.adds on.once shut, tt)))
    moves

join_all : (one other : List Event) → AllByRecursion EndsHandOut one → AllByRecursion EndsHandOut other → AllByRecursion EndsHandOut (one ++ other)
join_all [] other all rest = rest
join_all (event ∷ events) other all rest = (all.0, join_all events other all.1 rest)

pub only_ends : (happenings : List Happening) (old new : Broker) → IsClosed old → HappensAll old happenings new → (slot : ℕ) (group : Group) → slice_get new.groups slot ≡ Some group → OnlyEnds old slot group
only_ends [] old new shut all slot group there =
    record { before = group; was = ap (λ b. slice_get b.groups slot) (sym all) ∙ there; added = []; events = sym (append-nil group.events); ends = tt }
only_ends (happening ∷ others) old new shut all slot group there =
    let later = only_ends others all.0 new (closed_next old all.0 happening shut all.1) all.2 slot group there in
    let c = came_next old all.0 happening all.1 slot later.before later.was in
    let first = only_next c.before later.before (shut slot c.before c.was) c.moves in
    record {
      before = c.before;
      was = c.was;
      added = first.0 ++ later.added;
      events = later.events ∙ ap (λ l. l ++ later.added) first.1 ∙ append_assoc c.before.events first.0 later.added;
      ends = join_all first.0 later.added first.2 later.ends;
    }

pub new_desk : (capacity : ℕ) (shares : List Share) (b : Broker) → IsNewBroker capacity shares b → DeskLaw b.desk.rows b.desk.made
new_desk capacity shares b new = new_law b.desk new.desk

pub new_few : (capacity : ℕ) (shares : List Share) (b : Broker) → IsNewBroker capacity shares b → living_in b.desk.rows ≤ default_sessions
new_few capacity shares b new = none_yet b.desk.rows default_sessions (ap (λ books. books.rows) new.desk.books)
