-- What a step sends for the first time, the place of its session was handed.
use Rattle.std.proofs.Common.{◌≡◌, ◌≢◌, ℕ, List, [], ◌∷◌, ◌++◌, map, Option, Some, None, Ok, refl, sym, ap, subst, ◌∙◌, ⊎_elim}
use Rattle.std.specs.List.{AllByRecursion, cons_option}
use Rattle.std.proofs.lemmas.Bool.{cases_eq}
use Rattle.group_jobs.specs.Stamps.{Held}
use Rattle.conn_supply.specs.SupplyCalls.{SupplyCall}
use Rattle.conn_supply.specs.SupplyCalls.SupplyCall.{Take, TakeBack, Settle}
use Rattle.conn_engine.specs.declared.phase.ConnectedClient.{ConnectedClient}
use Rattle.conn_laws.specs.Calls.{hand_out_of, handed, MakesAll}
use Rattle.conn_laws.specs.Transcripts.{IsMemberAt, KeepsNumbers}
use Rattle.local_group.specs.declared.waiting.Waiting.{Waiting}
use Rattle.local_group.specs.Groups.{Group, held_by}
use Rattle.local_broker.specs.Places.{GroupPlace}
use Rattle.local_broker.specs.Broker.{Broker}
use Rattle.local_broker.specs.Calls.{Calls}
use Rattle.local_broker.specs.HandOuts.{HandOut}
use Rattle.local_broker.specs.Histories.{Called, AreRunning, IsRunning}
use Rattle.local_broker.proofs.Happened.{running_all}
use Rattle.session_desk.specs.declared.session.Membership.{Membership}
use Rattle.session_desk.specs.declared.session.Membership.TheVariants.{Member}
use Rattle.local_server.specs.ConnSteps.{ConnStep, conn_steps_of}
use Rattle.local_server.specs.Transcripts.{place_in, place_of, last_place, IsAt}
use Rattle.local_server.proofs.ConnSteps.{own_place, other_steps}
use Rattle.local_server.proofs.Sessions.{with_connected, connected_here, connected_beside}
use Rattle.local_server.proofs.Stepping.{Links}

-- the group of a place, and its number there
abbrev slot_in : GroupPlace → ℕ
slot_in place = place.slot

abbrev number_in : GroupPlace → ℕ
number_in place = place.number

-- a place that is asked for a message, or settles one, stays what it is
keeps_numbers : (of : GroupPlace → ℕ) → KeepsNumbers Calls of
keeps_numbers of old new (Take place place' answer) does = ap of does.1
keeps_numbers of old new (TakeBack place place' answer) does = ap of does.1
keeps_numbers of old new (Settle place place' envelope fate) does = ap of does.1
keeps_numbers of old new other does = tt

-- what is handed out has the place
abbrev IsItsOwn : HandOut → Type 0
IsItsOwn hand_out = IsAt (Some hand_out.0) hand_out.1

held_at : (group : Group) (front : Waiting) (place : GroupPlace) (envelope : Held) → IsRunning place.slot group → envelope ≡ held_by group.slot front place.number
    → IsAt (Some place) envelope
held_at group front place envelope running is = (ap (λ (e : Held). e.stamp.group) is ∙ running.numbered, ap (λ (e : Held). e.place) is)

one_handed : (supply_call : SupplyCall GroupPlace) (old new : Broker) → AreRunning old → Calls old supply_call new → AllByRecursion IsItsOwn (cons_option (hand_out_of supply_call) [])
one_handed (Take place place' (Ok (Some envelope))) old new running does =
    let call = does.0 in (held_at call.before call.does.0 place envelope (running place.slot call.before call.there) call.does.2, tt)
one_handed (TakeBack place place' (Ok (Some envelope))) old new running does =
    let call = does.0 in (held_at call.before call.does.0 place envelope (running place.slot call.before call.there) call.does.2, tt)
one_handed other old new running does = tt

first_and : (found : Option HandOut) (others : List HandOut) → AllByRecursion IsItsOwn (cons_option found []) → AllByRecursion IsItsOwn others
    → AllByRecursion IsItsOwn (cons_option found others)
first_and None others one all = all
first_and (Some hand_out) others one all = (one.0, all)

all_handed : (supply_calls : List (SupplyCall GroupPlace)) (old new : Broker) → AreRunning old → MakesAll Calls old supply_calls new → AllByRecursion IsItsOwn (handed supply_calls)
all_handed [] old new running made = tt
all_handed (supply_call ∷ supply_calls) old new running made =
    first_and (hand_out_of supply_call) (handed supply_calls) (one_handed supply_call old made.0 running made.1)
    (all_handed supply_calls made.0 new (running_all (Called supply_call ∷ []) old made.0 running (made.0, made.1, refl)) made.2)

-- and it is the place of the session, by its group and its number there
abbrev pub AreMembers : (GroupPlace → ℕ) → Option (ConnectedClient GroupPlace) → List HandOut → Type 0
AreMembers of connected hand_outs = AllByRecursion (λ (h : HandOut). IsMemberAt of connected h.0) hand_outs

same_Member : (one other : GroupPlace) → (let whole : Membership GroupPlace = Member one in whole ≡ Member other) → one ≡ other
same_Member one other is = cc

of_session : (connected : Option (ConnectedClient GroupPlace)) (hand_outs : List HandOut) → AreMembers slot_in connected hand_outs → AreMembers number_in connected hand_outs
    → AllByRecursion IsItsOwn hand_outs → AllByRecursion (IsAt (place_of connected)) (map (λ (h : HandOut). h.1) hand_outs)
of_session connected [] slots numbers own = tt
of_session None (hand_out ∷ others) slots numbers own = absurd slots.0
of_session (Some connected) (hand_out ∷ others) slots numbers own =
    let one = slots.0 in
    let other = numbers.0 in
    let numbered : one.0.number ≡ hand_out.0.number = ap number_in (same_Member one.0 other.0 (sym one.1 ∙ other.1)) ∙ other.2 in (
      subst (λ (o : Option GroupPlace). IsAt o hand_out.1) (sym (ap place_in one.1)) (own.0.0 ∙ sym one.2, own.0.1 ∙ sym numbered),
      of_session (Some connected) others slots.1 numbers.1 own.1,
    )

pub handed_own : (supply_calls : List (SupplyCall GroupPlace)) (hand_outs : List HandOut) (old new : Broker) (connected : Option (ConnectedClient GroupPlace)) → AreRunning old → MakesAll Calls old supply_calls new
    → handed supply_calls ≡ hand_outs → ((of : GroupPlace → ℕ) → KeepsNumbers Calls of → AreMembers of connected hand_outs)
    → AllByRecursion (IsAt (place_of connected)) (map (λ (h : HandOut). h.1) hand_outs)
handed_own supply_calls hand_outs old new connected running made are members =
    of_session connected hand_outs (members slot_in (keeps_numbers slot_in)) (members number_in (keeps_numbers number_in))
    (subst (AllByRecursion IsItsOwn) are (all_handed supply_calls old new running made))

-- where the steps of each connection lead, after one more step
pub leads_to : (conn_steps : List ConnStep) (conn_step : ConnStep) (all_connected : Links) (number : ℕ) (after : Option (ConnectedClient GroupPlace)) → conn_step.connection ≡ number → conn_step.place ≡ place_of after
    → ((connection : ℕ) → last_place (conn_steps_of connection conn_steps) ≡ place_of (all_connected connection))
    → (connection : ℕ) → last_place (conn_steps_of connection (conn_steps ++ conn_step ∷ [])) ≡ place_of (with_connected all_connected number after connection)
leads_to conn_steps conn_step all_connected number after its place was connection =
    ⊎_elim
    (λ (same : connection ≡ number).
    own_place connection conn_steps conn_step (its ∙ sym same) ∙ place
    ∙ ap place_of (sym (connected_here all_connected number after) ∙ ap (with_connected all_connected number after) (sym same)))
    (λ (other : connection ≢ number).
    ap last_place (other_steps connection conn_steps conn_step (λ e. other (e ∙ its))) ∙ was connection ∙ ap place_of (sym (connected_beside all_connected number connection after other)))
    (cases_eq connection number)
