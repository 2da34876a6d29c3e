-- A step leaves nothing to its client that could go.
use Rattle.std.proofs.Common.{◌≡◌, ◌⊎◌, ℕ, zero, suc, Bool, true, false, not, ◌&&◌, List, [], ◌∷◌, Option, Some, None, Result, Ok, Err, slice_get, refl, sym, ap, subst, ◌∙◌, inl, inr, ⊎_elim}
use Rattle.std.specs.List.{AllByRecursion}
use Rattle.std.proofs.lemmas.Bool.{true≢false, false≢true}
use Rattle.std.proofs.lemmas.Option.{slice_get_within, same_Some}
use Rattle.dispatch_core.proofs.Spots.{slice_get-set_same}
use Rattle.group_jobs.specs.Stamps.{Held}
use Rattle.group_jobs.specs.declared.message.Message.{Message}
use Rattle.group_jobs.specs.declared.stamp.Stamp.{Stamp}
use Rattle.local_group.specs.Groups.{Group}
use Rattle.member_window.specs.Contents.{Contents}
use Rattle.session_desk.specs.declared.session.Membership.{Membership}
use Rattle.session_desk.specs.declared.session.Membership.TheVariants.{NotMember, Member, Leaving}
use Rattle.conn_rules.specs.declared.hand_outs.HandOutTerms.{HandOutTerms}
use Rattle.conn_supply.specs.declared.supply.OfferRefusal.{OfferRefusal}
use Rattle.conn_supply.specs.SupplyCalls.{SupplyCall}
use Rattle.conn_supply.specs.SupplyCalls.SupplyCall.{Attach, Withdraw, Kicked, Park, ParkAsIs, Keep, Bury, Sweep, LendPlace, TakePlace, Bind, Find, Match, Offer, MayTake, Take, TakeBack, Settle, GiveBack}
use Rattle.conn_engine.specs.declared.phase.ConnPhase.{ConnPhase}
use Rattle.conn_engine.specs.declared.phase.ConnPhase.TheVariants.{Unconnected, Waiting, Connected, Ended}
use Rattle.conn_engine.specs.Step.{hand_out_terms}
use Rattle.conn_laws.specs.Behind.{IsLast, IsServed}
use Rattle.conn_laws.specs.Calls.{MakesAll}
use Rattle.conn_laws.proofs.Aside.{all_of_both}
use Rattle.conn_laws.proofs.Ended.{ends_by}
use Rattle.conn_laws.proofs.Stepping.{stepped as calls_of_step}
use Rattle.conn_laws.proofs.Eager.{NoneLeft, handed}
use Rattle.local_broker.specs.Places.{GroupPlace}
use Rattle.local_broker.specs.Groups.{InGroup}
use Rattle.local_broker.specs.Broker.{Broker, is_open}
use Rattle.local_broker.specs.Calls.{Calls, OffersFrom}
use Rattle.local_broker.proofs.Visits.{all_open, open_still, offered, handed_out, handed_out_again, settled, given_back}
use Rattle.local_server.specs.declared.event.ServerEvent.{ServerEvent}
use Rattle.local_server.specs.declared.event.ServerEvent.TheVariants as events
use Rattle.local_server.specs.declared.event.TimedEvent.{TimedEvent}
use Rattle.local_server.specs.Servers.{ServerState}
use Rattle.local_server.specs.Happening.{slot_of, HappensAll}
use Rattle.client_table.specs.Clients.{StepOutput}
use Rattle.local_server.specs.TakenSteps.{TakenStep, IsLawfulStep, LeadBroker, IsOf, AreTakenIn, AreTakenIf, AllAreTaken}
use Rattle.local_server.proofs.LastDiscards.{last_discarded}
use Rattle.local_server.specs.NothingWaits.{HasNone, IsServedAs, HasNothingLeft, LeavesNothing}

-- a call by which the group stays as it is
stays : (old new : Broker) (slot : ℕ) (Says : Group → Type 0) → (does : InGroup old.groups slot (λ before after. Says before × (after ≡ before)) new.groups)
    → slice_get new.groups slot ≡ Some does.before
stays old new slot Says does =
    ap (λ (l : List Group). slice_get l slot) does.becomes
    ∙ slice_get-set_same old.groups slot does.after (slice_get_within old.groups slot does.before does.there)
    ∙ ap (λ (g : Group). let some : Option Group = Some g in some) does.does.1

-- a call leaves each group as open as it was
still_open : (old new : Broker) → new.groups ≡ old.groups → is_open new ≡ is_open old
still_open old new same = ap all_open same

one_group : (old new : Broker) (slot : ℕ) (Does : Group → Group → Type 0) → ((before after : Group) → Does before after → after.state.closed ≡ before.state.closed)
    → InGroup old.groups slot Does new.groups → is_open new ≡ is_open old
one_group old new slot Does same does =
    ap all_open does.becomes ∙ open_still old.groups slot does.before does.after does.there (same does.before does.after does.does)

offers : (old new : Broker) (slot connection : ℕ) (message : Message) (answer : Result Stamp OfferRefusal) → OffersFrom old.groups slot connection message answer new.groups → is_open new ≡ is_open old
offers old new slot connection message answer (inl no_port) = still_open old new no_port.2
offers old new slot connection message answer (inr (inl no_group)) = still_open old new no_group.3
offers old new slot connection message answer (inr (inr in_group)) = one_group old new slot _ (λ before after is. offered answer before after connection message is) in_group.2

called : (supply_call : SupplyCall GroupPlace) (old new : Broker) → Calls old supply_call new → is_open new ≡ is_open old
called (Attach request answer) old new does = still_open old new does.groups
called (Withdraw connection) old new does = still_open old new does.groups
called (Kicked connection answer) old new does = still_open old new does.groups
called (Park session now answer) old new does = still_open old new does.groups
called (ParkAsIs session) old new does = still_open old new does.1.groups
called (Keep session) old new does = still_open old new does.1.groups
called (Bury session) old new does = still_open old new does.1.groups
called (Sweep now answer) old new does = still_open old new does.groups
called (LendPlace slot answer) old new does = still_open old new does.groups
called (TakePlace place) old new does = still_open old new does.1.groups
called (Bind share answer) old new does = still_open old new does.1.groups
called (Find share answer) old new does = still_open old new (ap (λ (b : Broker). b.groups) does.1)
called (Match topic slots) old new does = still_open old new (ap (λ (b : Broker). b.groups) does.1)
called (Offer slot connection message answer) old new does = offers old new slot connection message answer does.0
called (MayTake place answer) old new does = still_open old new (ap (λ (b : Broker). b.groups) does.1)
called (Take place place' answer) old new does = one_group old new place.slot _ (λ before after is. handed_out answer before after place.number is) does.0
called (TakeBack place place' answer) old new does = one_group old new place.slot _ (λ before after is. handed_out_again answer before after place.number is) does.0
called (Settle place place' envelope how) old new does = one_group old new place.slot _ (λ before after is. settled before after place.number envelope how is) does.0
called (GiveBack place place' envelope (Ok done)) old new does = one_group old new place.slot _ (λ before after is. given_back before after place.number envelope is) does.0
called (GiveBack place place' envelope (Err back)) old new does = absurd does

all_called : (supply_calls : List (SupplyCall GroupPlace)) (old new : Broker) → MakesAll Calls old supply_calls new → is_open new ≡ is_open old
all_called [] old new made = ap is_open made
all_called (supply_call ∷ supply_calls) old new made = all_called supply_calls made.0 new made.2 ∙ called supply_call old made.0 made.1

step_open : (step : TakenStep) → IsLawfulStep step → is_open step.broker_after ≡ is_open step.broker_before
step_open step lawful =
    let calls =
    calls_of_step Calls slot_of step.broker_before step.broker_after step.connection step.at step.phase_before step.phase_after step.input step.packets step.next lawful in
    all_called calls.supply_calls step.broker_before step.broker_after calls.made

-- a group of a broker that is open
both_open : (closed rest : Bool) → (not closed && rest) ≡ true → (closed ≡ false) × (rest ≡ true)
both_open false rest is = (refl, is)
both_open true rest is = absurd (false≢true is)

open_at : (groups : List Group) (slot : ℕ) (group : Group) → all_open groups ≡ true → slice_get groups slot ≡ Some group → group.state.closed ≡ false
open_at [] slot group is there = absurd (cc)
open_at (first ∷ others) zero group is there =
    ap (λ (g : Group). g.state.closed) (sym (same_Some first group there)) ∙ (both_open first.state.closed (all_open others) is).0
open_at (first ∷ others) (suc slot) group is there = open_at others slot group (both_open first.state.closed (all_open others) is).1 there

-- a place was asked for last, and there was none
asked : (earlier mid new : Broker) (before between place : GroupPlace) → is_open new ≡ true → Calls earlier (TakeBack before between (Ok None)) mid → Calls mid (Take between place (Ok None)) new
    → HasNone new place
asked earlier mid new before between place opens first then =
    let same : place ≡ before = then.1 ∙ first.1 in
    let slot = before.slot in
    let returned = first.0 in
    let queued : InGroup mid.groups slot (λ (was : Group) (is : Group). ((was.state.closed ≡ true) ⊎ (was.queue ≡ [])) × (is ≡ was)) new.groups =
    subst (λ (p : GroupPlace). InGroup mid.groups p.slot (λ (was : Group) (is : Group). ((was.state.closed ≡ true) ⊎ (was.queue ≡ [])) × (is ≡ was)) new.groups) first.1 then.0 in
    let one : queued.before ≡ returned.before =
    same_Some queued.before returned.before (sym queued.there ∙ stays earlier mid slot (λ (g : Group). (g.state.closed ≡ true) ⊎ (g.returned ≡ [])) returned) in
    let there : slice_get new.groups slot ≡ Some queued.before = stays mid new slot (λ (g : Group). (g.state.closed ≡ true) ⊎ (g.queue ≡ [])) queued in
    let not_closed : queued.before.state.closed ≡ false = open_at new.groups slot queued.before opens there in
    subst (HasNone new) (sym same)
    (record {
      group = queued.before;
      there = there;
      returned =
          ⊎_elim
          (λ (closed : returned.before.state.closed ≡ true). absurd (true≢false (sym closed ∙ ap (λ (g : Group). g.state.closed) (sym one) ∙ not_closed)))
          (λ (none : returned.before.returned ≡ []). ap (λ (g : Group). g.returned) one ∙ none)
          returned.does.0;
      queue =
          ⊎_elim (λ (closed : queued.before.state.closed ≡ true). absurd (true≢false (sym closed ∙ not_closed))) (λ (none : queued.before.queue ≡ []). none) queued.does.0;
    })

served : (terms : HandOutTerms) (membership : Membership GroupPlace) (b : Broker) (window : Contents Held) → is_open b ≡ true → IsServed Calls terms b membership window
    → IsServedAs terms b membership window
served terms NotMember b window opens is = tt
served terms (Leaving place) b window opens is = tt
served terms (Member place) b window opens (inl full) = λ room. absurd (full room)
served terms (Member place) b window opens (inr (inl last)) = λ room. inl (asked last.0 last.1 b last.2 last.3 place opens last.4 last.5)
served terms (Member place) b window opens (inr (inr (inl stopped))) = λ room. absurd (true≢false (sym stopped.0))
served terms (Member place) b window opens (inr (inr (inr most))) = λ room. inr (last_discarded terms b place most)

left_in : (step : TakenStep) (phase : ConnPhase GroupPlace) → is_open step.broker_after ≡ true → NoneLeft Calls phase step.at step.broker_after → HasNothingLeft step phase
left_in step (Unconnected opened) opens none = tt
left_in step (Waiting request ticks) opens none = tt
left_in step (Connected connected) opens none =
    (none.again, served (hand_out_terms connected step.at) connected.session.membership step.broker_after connected.session.window opens none.fresh)
left_in step Ended opens none = tt

-- the steps of an event of a server that is open; a close leaves no client
all_leave : (steps : List TakenStep) (old new : Broker) → is_open old ≡ true → AllByRecursion IsLawfulStep steps → LeadBroker old steps new → AllByRecursion LeavesNothing steps
all_leave [] old new opens lawful leads = tt
all_leave (step ∷ steps) old new opens lawful leads =
    let made = lawful.0 in
    let then : is_open step.broker_after ≡ true = step_open step made ∙ ap is_open leads.0 ∙ opens in (
      left_in step step.phase_after then (handed Calls slot_of made.between step.at made.mid step.broker_after made.sent step.phase_after made.hands),
      all_leave steps step.broker_after new then lawful.1 leads.1,
    )

none_left : (steps : List TakenStep) → AllByRecursion IsLawfulStep steps → AllByRecursion (IsOf events.Close) steps → AllByRecursion LeavesNothing steps
none_left [] lawful closing = tt
none_left (step ∷ steps) lawful closing =
    let over : step.phase_after ≡ Ended =
    ends_by Calls slot_of step.broker_before step.broker_after step.connection step.at step.phase_before step.phase_after step.input step.packets step.next lawful.0
    (subst IsLast (sym closing.0) tt) in
    (subst (HasNothingLeft step) (sym over) tt, none_left steps lawful.1 closing.1)

in_event : (event : ServerEvent) (old new : ServerState) (steps : List TakenStep) → is_open old.broker ≡ true → AllByRecursion IsLawfulStep steps → AreTakenIn event old steps new
    → AllByRecursion LeavesNothing steps
in_event (events.Open number) old new steps opens lawful taken = all_leave steps taken.first new.broker (ap is_open taken.begins ∙ opens) lawful taken.broker
in_event (events.Bytes number piece) old new steps opens lawful taken = all_leave steps taken.first new.broker (ap is_open taken.begins ∙ opens) lawful taken.broker
in_event (events.Tick number) old new steps opens lawful taken = all_leave steps taken.first new.broker (ap is_open taken.begins ∙ opens) lawful taken.broker
in_event (events.End number) old new steps opens lawful taken = all_leave steps taken.first new.broker (ap is_open taken.begins ∙ opens) lawful taken.broker
in_event events.Close old new steps opens lawful taken = none_left steps lawful taken.each

if_open : (open? : Bool) (event : ServerEvent) (old new : ServerState) (steps : List TakenStep) → is_open old.broker ≡ open? → AllByRecursion IsLawfulStep steps → AreTakenIf open? event old steps new
    → AllByRecursion LeavesNothing steps
if_open true event old new steps is lawful taken = in_event event old new steps is lawful taken
if_open false event old new steps is lawful taken = subst (AllByRecursion LeavesNothing) (sym taken.0) tt

pub in_whole_run : (events : List TimedEvent) (outputs : List StepOutput) (old new : ServerState) (run : HappensAll old events outputs new) (steps : List TakenStep) → AllAreTaken old events outputs new run steps
    → AllByRecursion LeavesNothing steps
in_whole_run [] outputs old new run steps taken = subst (AllByRecursion LeavesNothing) (sym taken) tt
in_whole_run (event ∷ others) outputs old new run steps taken =
    subst (AllByRecursion LeavesNothing) (sym taken.4)
    (all_of_both LeavesNothing taken.0 taken.1 (if_open (is_open old.broker) event.event old run.0 taken.0 refl taken.2.lawful taken.2.lead)
    (in_whole_run others run.2 run.0 new run.4 taken.1 taken.3))
