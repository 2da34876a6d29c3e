-- What happens to a client is a list of steps.
use Rattle.std.proofs.Common.{◌≡◌, ◌≤◌, ℕ, List, [], ◌∷◌, ◌++◌, map, filter_map, Option, Some, None, Result, Ok, Err, IsOk, false, Contains, refl, sym, ap, subst, ◌∙◌, inl, inr, ⊎_elim, append_assoc, append-nil}
use Rattle.std.specs.List.{AllByRecursion}
use Rattle.std.proofs.lemmas.Bool.{false≢true}
use Rattle.std.proofs.lemmas.List.{map-append}
use Rattle.std.proofs.lemmas.List.Elements.{filter_map-append, Contains-append_cases}
use Rattle.mqtt_wire.specs.Stream.{Unread}
use Rattle.group_jobs.specs.Stamps.{Held, under}
use Rattle.conn_supply.specs.declared.supply.NoMemory.{NoMemory}
use Rattle.conn_supply.specs.SupplyCalls.{SupplyCall}
use Rattle.conn_engine.specs.declared.input.Input.{Input}
use Rattle.conn_engine.specs.declared.input.Input.TheVariants as inputs
use Rattle.conn_engine.specs.declared.phase.ConnectedClient.{ConnectedClient}
use Rattle.conn_engine.specs.declared.phase.ConnPhase.{ConnPhase}
use Rattle.conn_engine.specs.declared.phase.ConnPhase.TheVariants.{Unconnected, Waiting, Connected, Ended}
use Rattle.conn_engine.specs.Step.{Steps}
use Rattle.conn_laws.specs.Calls.{handed, Outcome, hand_outs_of, sent_of, discards_of}
use Rattle.conn_laws.specs.Marks.{publishes_in, publishes_of, fresh_of}
use Rattle.conn_laws.specs.Transcripts.{connected_of, IsNotEnding, subscription_of}
use Rattle.conn_laws.proofs.HandingOut.{all_discarded}
use Rattle.conn_laws.proofs.Transcripts.{discarded_by, TranscribesWith, transcribed_with}
use Rattle.conn_laws.proofs.Aside.{all_of_both}
use Rattle.conn_laws.specs.Sizes.{IsShort, IsLight}
use Rattle.conn_laws.proofs.Sending.{kept_short}
use Rattle.conn_laws.proofs.Sending as sending
use Rattle.client_table.specs.Clients.{ClientState, moment_of, StepOutput, ClientSteps}
use Rattle.client_table.specs.Numbers.{IsNumbered}
use Rattle.client_table.specs.Streams.{fed, IsInFront, Reads, Ticks}
use Rattle.client_table.specs.Cells.{kept_as, kept, Receives, TicksFor, EndsFor}
use Rattle.local_broker.specs.Places.{GroupPlace}
use Rattle.local_broker.specs.Broker.{Broker}
use Rattle.local_broker.specs.Calls.{Calls}
use Rattle.local_broker.specs.HandOuts.{HandOut, handed_by, handed_by_all}
use Rattle.local_broker.specs.Histories.{Happening, Called, HappensAll}
use Rattle.local_server.specs.Happening.{slot_of}
use Rattle.local_server.specs.ConnSteps.{ConnStep, AllTell, conn_steps_of}
use Rattle.local_server.specs.Streams.{ReadsFrom, PieceIsAnswered, TickIsAnswered}
use Rattle.local_server.specs.Transcripts.{all_handed, handed_in_step, connected_in, place_of, last_place, plain, IsAt, IsHandedItsOwn, SendsWhatItWasHanded}
use Rattle.local_server.proofs.Happened.{joins, called, handed_by_calls}
use Rattle.local_server.specs.Messages.{Accepted, IsBrought, AllAccept, sent_in, all_sent}
use Rattle.local_server.specs.Settling.{Settlement, AllSettle}
use Rattle.local_server.proofs.ConnSteps.{more_handed, told_on}
use Rattle.local_server.proofs.Settled.{AddsIn, adds_then}
use Rattle.local_server.proofs.Owning.{InHand, Owns}
use Rattle.local_server.proofs.Acted.{acts}
use Rattle.local_server.specs.Sizes.{AllShort}
use Rattle.local_server.proofs.Light.{IsSpelled, AllLight, brought_light, known_light, marks_short, packets_short}
use Rattle.local_server.proofs.Known.{Log, IsKnown, stays_known}
use Rattle.local_server.proofs.Accepted.{accept_on, more_sent}
use Rattle.local_server.proofs.Placed.{handed_own, leads_to}
use Rattle.local_server.proofs.SentAsAccepted.{sends}
use Rattle.local_server.proofs.Acknowledged.{settled_on, settle_on}
use Rattle.local_server.proofs.Confirmed.{conn_step_hears}
use Rattle.local_server.proofs.Sessions.{with_connected, connected_here, with_again, KeepsSessions}
use Rattle.local_server.proofs.Stepping.{Links, adds_step}
use Rattle.local_server.proofs.Going.{goes_as, stopped, closed_by}
use Rattle.local_server.proofs.Reading.{IsStep, AllAt, EndsSteps, IsSound, made_now, still_timely, left_to, fed_unread, read_first, read_last, tick_first, tick_last, one_ends}

abbrev messages : List Happening → List Held
messages happenings = map (λ (h : HandOut). h.1) (handed_by_all happenings)

-- messages, under whatever Subscription Identifier they are sent
same_plain : (subscription : Option ℕ) (all : List HandOut) → map plain (map (λ (h : HandOut). under subscription h.1) all) ≡ map plain (map (λ (h : HandOut). h.1) all)
same_plain subscription [] = refl
same_plain subscription (hand_out ∷ others) = ap (λ (rest : List Held). plain hand_out.1 ∷ rest) (same_plain subscription others)

-- these steps led a broker from the first to this one, what they are handed is what its calls handed out, and what they acknowledge and discard was settled in its groups
pub record Keeps (first : Broker) (conn_steps : List ConnStep) (all_connected : Links) (b : Broker) : Type 0 where
  pub happenings : List Happening
  pub led : HappensAll first happenings b
  pub handed : all_handed conn_steps ≡ messages happenings
  pub sessions : KeepsSessions conn_steps b.desk all_connected
  -- what was accepted, and that it is what was sent
  pub accepted : Log
  pub accepts : AllAccept conn_steps accepted
  pub sent : (envelope : Held) → Contains (all_sent conn_steps) envelope → IsKnown accepted envelope
  pub light : AllLight accepted
  -- what a step is handed, the place of its session was handed, and it is sent, or discarded
  pub placed : AllByRecursion IsHandedItsOwn conn_steps
  pub sends : AllByRecursion SendsWhatItWasHanded conn_steps
  pub at : (connection : ℕ) → last_place (conn_steps_of connection conn_steps) ≡ place_of (all_connected connection)
  pub owns : Owns (record { all_connected = all_connected; log = accepted }) b
  pub settled : List Settlement
  pub acknowledged : AllSettle [] conn_steps settled
  pub adds : AddsIn first.groups settled b.groups

-- what was said since is told by so many steps more, which answer what came
pub record Says (first : Broker) (conn_steps : List ConnStep) (outputs : List StepOutput) (Answers : List ConnStep → Type 0) (all_connected : Links) (new : Broker) : Type 0 where
  pub more : List ConnStep
  pub told : AllTell outputs more
  pub short : AllShort outputs
  pub answers : Answers more
  pub keeps : Keeps first (conn_steps ++ more) all_connected new

pub silent : (first : Broker) (conn_steps : List ConnStep) (Answers : List ConnStep → Type 0) (all_connected : Links) (old new : Broker) (outputs : List StepOutput) → Answers [] → outputs ≡ [] → new ≡ old
    → Keeps first conn_steps all_connected old → Says first conn_steps outputs Answers all_connected new
silent first conn_steps Answers all_connected old new outputs nothing none same keeps =
    subst (λ (s : List StepOutput). Says first conn_steps s Answers all_connected new) (sym none)
    (record {
      more = [];
      told = tt;
      short = tt;
      answers = nothing;
      keeps = subst (λ (ts : List ConnStep). Keeps first ts all_connected new) (sym (append-nil conn_steps)) (subst (Keeps first conn_steps all_connected) (sym same) keeps);
    })

pub then_says : (first : Broker) (conn_steps : List ConnStep) (outputs later : List StepOutput) (These Those All : List ConnStep → Type 0) (all_connected all_connected' : Links) (mid new : Broker)
    → ((these those : List ConnStep) → These these → Those those → All (these ++ those)) → Says first conn_steps outputs These all_connected mid
    → ((before : List ConnStep) → Keeps first before all_connected mid → Says first before later Those all_connected' new) → Says first conn_steps (outputs ++ later) All all_connected' new
then_says first conn_steps outputs later These Those All all_connected all_connected' mid new both these those =
    let rest = those (conn_steps ++ these.more) these.keeps in
    record {
      more = these.more ++ rest.more;
      told = told_on outputs later these.more rest.more these.told rest.told;
      short = all_of_both (λ (one : StepOutput). AllByRecursion IsShort one.packets) outputs later these.short rest.short;
      answers = both these.more rest.more these.answers rest.answers;
      keeps = subst (λ (ts : List ConnStep). Keeps first ts all_connected' new) (append_assoc conn_steps these.more rest.more) rest.keeps;
    }

pub says_so : (first : Broker) (conn_steps : List ConnStep) (outputs : List StepOutput) (These All : List ConnStep → Type 0) (all_connected : Links) (new : Broker)
    → ((these : List ConnStep) → These these → All these) → Says first conn_steps outputs These all_connected new → Says first conn_steps outputs All all_connected new
says_so first conn_steps outputs These All all_connected new so says = record { more = says.more; told = says.told; short = says.short; answers = so says.more says.answers; keeps = says.keeps }

-- one step
not_ending : (phase : ConnPhase GroupPlace) → ((connected : ConnectedClient GroupPlace) → connected_of phase ≡ Some connected → connected.session.window.retired ≡ false) → IsNotEnding phase
not_ending (Unconnected opened) all = tt
not_ending (Waiting request ticks) all = tt
not_ending (Connected connected) all = all connected refl
not_ending Ended all = tt

handed_on : (happenings : List Happening) (supply_calls : List (SupplyCall GroupPlace))
    → messages (happenings ++ map Called supply_calls) ≡ messages happenings ++ map (λ (h : HandOut). h.1) (handed supply_calls)
handed_on happenings supply_calls =
    ap (map (λ (h : HandOut). h.1)) (filter_map-append handed_by happenings (map Called supply_calls))
    ∙ map-append (λ (h : HandOut). h.1) (handed_by_all happenings) (handed_by_all (map Called supply_calls))
    ∙ ap (λ (l : List HandOut). messages happenings ++ map (λ (h : HandOut). h.1) l) (handed_by_calls supply_calls)

stepped : (first : Broker) (conn_steps : List ConnStep) (all_connected : Links) (old new : Broker) (number : ℕ) (phase phase' : ConnPhase GroupPlace) (input : Input) (output : StepOutput)
    (now : ℕ) → output.connection ≡ number → IsSpelled input → (steps : Steps Calls slot_of old number phase now input output.packets output.next phase' new)
    → TranscribesWith Calls (discarded_by Calls slot_of steps.between now steps.mid new steps.sent phase' steps.hands) steps.mid old number phase now input output.packets output.next phase' new
    → Keeps first conn_steps (with_connected all_connected number (connected_of phase)) old
    → Says first conn_steps (output ∷ []) (IsStep number now input output.next) (with_connected all_connected number (connected_of phase')) new
stepped first conn_steps all_connected old new number phase phase' input output now its spelled steps both keeps =
    let step = both.step in
    let acts = acts (record { all_connected = all_connected; log = keeps.accepted }) old new number now phase phase' input output.packets output.next steps keeps.owns in
    let goes = goes_as old new number now phase phase' input output.packets output.next steps in
    let adds =
    adds_step (connected_of phase) (connected_of phase') conn_steps old new (with_connected all_connected number (connected_of phase)) number now input output.next step.marks step.outcomes step.session goes
    (connected_here all_connected number (connected_of phase)) keeps.sessions in
    let here : with_connected all_connected number (connected_of phase) number ≡ connected_of phase = connected_here all_connected number (connected_of phase) in
    let leads = λ (connected : ConnectedClient GroupPlace) (has : connected_of phase ≡ Some connected). (keeps.sessions.has_connected number connected (here ∙ has)).leads in
    let session = λ (connected : ConnectedClient GroupPlace) (has : connected_of phase ≡ Some connected). adds.session connected (here ∙ has) in
    let settles =
    settled_on conn_steps adds.conn_step old steps.mid new number phase phase' input output.next step.marks step.session both.replies adds.marks_are leads session acts.settled acts.adds acts.tells in
    let hears =
    conn_step_hears old new number now phase phase' output.packets output.next input conn_steps adds.conn_step step steps adds.input_is adds.next_is adds.marks_are goes leads session
    (λ connected has. keeps.owns.owned (InHand number) connected.session (record { connected = connected; has = here ∙ has; its = refl })) in
    let there : with_connected all_connected number (connected_of phase') number ≡ connected_of phase' = connected_here all_connected number (connected_of phase') in
    let again = with_again all_connected number (connected_of phase) (connected_of phase') in
    let now_keeps = subst (KeepsSessions (conn_steps ++ adds.conn_step ∷ []) new.desk) again adds.keeps in
    let stays = stays_known keeps.accepted acts.accepted in
    let sends_known = sends conn_steps adds.conn_step phase phase' old new number now input output.packets output.next keeps.accepted (keeps.accepted ++ acts.accepted) stays step adds.marks_are
    (λ connected has.
    record {
      its = session connected has;
      leads = leads connected has;
      known = keeps.owns.known (InHand number) connected.session (record { connected = connected; has = here ∙ has; its = refl });
    })
    (λ connected has.
    record {
      its = adds.session_then connected has;
      leads = (now_keeps.has_connected number connected (there ∙ has)).leads;
      known = acts.owns.known (InHand number) connected.session (record { connected = connected; has = there ∙ has; its = refl });
    }) in
    let outcomes = adds.outcomes_are in
    let own : IsHandedItsOwn adds.conn_step =
    subst (λ (place : Option GroupPlace). AllByRecursion (IsAt place) (handed_in_step adds.conn_step)) (sym adds.place_is)
    (subst (λ (l : List (Outcome GroupPlace)). AllByRecursion (IsAt (place_of (connected_of phase'))) (map (λ (h : HandOut). h.1) (hand_outs_of l))) (sym outcomes)
    (handed_own step.supply_calls (hand_outs_of step.outcomes) old new (connected_of phase') keeps.owns.running step.made step.handed_out step.own)) in
    let sends : SendsWhatItWasHanded adds.conn_step =
    ap (λ marks. map plain (fresh_of marks)) adds.marks_are ∙ ap (map plain) (sym step.hands) ∙ same_plain (subscription_of (connected_of phase')) (sent_of step.outcomes)
    ∙ ap (λ (l : List (Outcome GroupPlace)). map plain (map (λ (h : HandOut). h.1) (sent_of l))) (sym outcomes) in
    let discards : all_discarded (discarded_by Calls slot_of steps.between now steps.mid new steps.sent phase' steps.hands) ≡ discards_of adds.conn_step.outcomes =
    sym both.discards ∙ ap discards_of (sym outcomes) in
    let light = all_of_both (λ (a : Accepted). IsLight a.message) keeps.accepted acts.accepted keeps.light (brought_light acts.accepted number now input spelled acts.brought.each) in
    let same_publishes : publishes_in output.packets ≡ publishes_of adds.conn_step.at adds.conn_step.marks =
    step.publishes ∙ (λ i. publishes_of (sym adds.at_is i) (sym adds.marks_are i)) in
    let publishes = marks_short adds.conn_step.at adds.conn_step.marks (λ envelope has. known_light (keeps.accepted ++ acts.accepted) envelope light (sends_known envelope has)) in
    record {
      more = adds.conn_step ∷ [];
      told = (record { whose = adds.whose ∙ sym its; next = adds.next_is; publishes = same_publishes }, tt);
      short = (
        packets_short output.packets
            (kept_short output.packets (sending.sent Calls slot_of old new number now phase phase' input output.packets output.next steps))
            (subst (AllByRecursion IsShort) (sym same_publishes) publishes),
        tt,
      );
      answers = (adds.conn_step, refl, record { whose = adds.whose; at_is = adds.at_is; input_is = adds.input_is; next_is = adds.next_is });
      keeps = record {
        happenings = keeps.happenings ++ map Called step.supply_calls;
        led = joins keeps.happenings (map Called step.supply_calls) first old new keeps.led (called step.supply_calls old new step.made);
        handed =
            more_handed conn_steps adds.conn_step
            ∙ (λ i. keeps.handed i ++ (ap (λ (l : List (Outcome GroupPlace)). map (λ (h : HandOut). h.1) (hand_outs_of l)) outcomes ∙ ap (map (λ (h : HandOut). h.1)) (sym step.handed_out)) i)
            ∙ sym (handed_on keeps.happenings step.supply_calls);
        sessions = now_keeps;
        accepted = keeps.accepted ++ acts.accepted;
        accepts =
            accept_on conn_steps adds.conn_step keeps.accepted acts.accepted keeps.accepts
            (subst (λ (n : ℕ). IsBrought n adds.conn_step.at adds.conn_step.input acts.accepted) (sym adds.whose)
            (subst (λ (m : ℕ). IsBrought number m adds.conn_step.input acts.accepted) (sym adds.at_is)
            (subst (λ (i : Input). IsBrought number now i acts.accepted) (sym adds.input_is) acts.brought)));
        sent = λ envelope has.
            ⊎_elim
            (λ (earlier : Contains (all_sent conn_steps) envelope). stays envelope.stamp envelope.message (keeps.sent envelope earlier))
            (λ (last : Contains (filter_map sent_in adds.conn_step.marks) envelope). sends_known envelope last)
            (Contains-append_cases (all_sent conn_steps) (filter_map sent_in adds.conn_step.marks) envelope
            (subst (λ (l : List Held). Contains l envelope) (more_sent conn_steps adds.conn_step) has));
        light = light;
        placed = all_of_both IsHandedItsOwn conn_steps (adds.conn_step ∷ []) keeps.placed (own, tt);
        sends = all_of_both SendsWhatItWasHanded conn_steps (adds.conn_step ∷ []) keeps.sends (sends, tt);
        at = subst (λ (l : Links). (connection : ℕ) → last_place (conn_steps_of connection (conn_steps ++ adds.conn_step ∷ [])) ≡ place_of (l connection)) again
            (leads_to conn_steps adds.conn_step (with_connected all_connected number (connected_of phase)) number (connected_of phase') adds.whose adds.place_is keeps.at);
        owns = acts.owns;
        settled = keeps.settled ++ (settles.now ++ discards_of adds.conn_step.outcomes);
        acknowledged = settle_on [] conn_steps adds.conn_step keeps.settled settles.now keeps.acknowledged (hears, settles.are);
        adds =
            adds_then keeps.settled (settles.now ++ discards_of adds.conn_step.outcomes) first.groups old.groups new.groups keeps.adds
            (adds_then settles.now (discards_of adds.conn_step.outcomes) old.groups steps.mid.groups new.groups settles.adds
            (subst (λ (l : List Settlement). AddsIn steps.mid.groups l new.groups) discards acts.discards));
      };
    }

pub moves : (first : Broker) (conn_steps : List ConnStep) (all_connected : Links) (old new : Broker) (number : ℕ) (client after : ClientState GroupPlace) (now : ℕ) (input : Input) (output : StepOutput)
    → client.conn.number ≡ number → client.conn.latest ≤ now → IsSpelled input → Keeps first conn_steps (with_connected all_connected number (connected_of client.conn.phase)) old
    → ClientSteps Calls slot_of old client now input output after new
    → Says first conn_steps (output ∷ []) (IsStep number now input output.next) (with_connected all_connected number (connected_of after.conn.phase)) new
moves first conn_steps all_connected old new number client after now input output is timely spelled keeps moved =
    let steps =
    subst (λ (m : ℕ). Steps Calls slot_of old number client.conn.phase m input output.packets output.next after.conn.phase new) (made_now client now timely)
    (subst (λ (n : ℕ). Steps Calls slot_of old n client.conn.phase (moment_of client now) input output.packets output.next after.conn.phase new) is moved.stepped) in
    let sound = not_ending client.conn.phase (λ connected has. (keeps.sessions.has_connected number connected (connected_here all_connected number (connected_of client.conn.phase) ∙ has)).leads.goes_on) in
    stepped first conn_steps all_connected old new number client.conn.phase after.conn.phase input output now (moved.told ∙ is) spelled steps
    (transcribed_with Calls slot_of old new number now client.conn.phase after.conn.phase input output.packets output.next steps sound) keeps

-- what stands in front of a stream was read
front_spelled : (input : Input) (unread unread' : Unread) → IsInFront unread input unread' → IsSpelled input
front_spelled (inputs.Packet packet) unread unread' front = (front.front, front.spelled)
front_spelled (inputs.Fault fault) unread unread' front = tt
front_spelled inputs.Tick unread unread' front = absurd front
front_spelled inputs.EndOfInput unread unread' front = absurd front
front_spelled inputs.Closing unread unread' front = absurd front

-- what is read is stepped, packet by packet
pub reads : (outputs : List StepOutput) (first : Broker) (conn_steps : List ConnStep) (all_connected : Links) (old new : Broker) (number : ℕ) (client after : ClientState GroupPlace) (now : ℕ)
    → client.conn.number ≡ number → IsSound now (Some client) → Keeps first conn_steps (with_connected all_connected number (connected_of client.conn.phase)) old
    → Reads Calls slot_of old client now outputs after new
    → Says first conn_steps outputs (AllAt now (λ more. ReadsFrom client.unread.bytes more (kept after))) (with_connected all_connected number (connected_of after.conn.phase)) new
reads [] first conn_steps all_connected old new number client after now is sound keeps read =
    subst (λ (c : ClientState GroupPlace). Says first conn_steps [] (AllAt now (λ more. ReadsFrom client.unread.bytes more (kept c))) (with_connected all_connected number (connected_of c.conn.phase)) new) (sym read.1)
    (silent first conn_steps (AllAt now (λ more. ReadsFrom client.unread.bytes more (kept client))) (with_connected all_connected number (connected_of client.conn.phase)) old new []
    (tt, (client.unread.bytes, refl, left_to client.conn.phase client read.0)) refl read.2 keeps)
reads (outputs ∷ rest) first conn_steps all_connected old new number client after now is sound keeps (inl last) =
    let it = last.0 in
    let closed = closed_by old new client after now it.input outputs it.moved it.closes in
    subst (λ (more : List StepOutput). Says first conn_steps (outputs ∷ more) (AllAt now (λ more. ReadsFrom client.unread.bytes more (kept after))) (with_connected all_connected number (connected_of after.conn.phase)) new)
    (sym last.1)
    (says_so first conn_steps (outputs ∷ []) (IsStep number now it.input outputs.next) (AllAt now (λ more. ReadsFrom client.unread.bytes more (kept after)))
    (with_connected all_connected number (connected_of after.conn.phase)) new
    (λ these one. read_last number now it.input outputs.next client.unread after.unread (kept after) these sound.0 it.front closed one)
    (moves first conn_steps all_connected old new number client after now it.input outputs is sound.1 (front_spelled it.input client.unread after.unread it.front) keeps it.moved))
reads (outputs ∷ rest) first conn_steps all_connected old new number client after now is sound keeps (inr more) =
    let between = more.0 in
    let one = more.2 in
    then_says first conn_steps (outputs ∷ []) rest (IsStep number now (inputs.Packet one.packet) outputs.next) (AllAt now (λ later. ReadsFrom between.unread.bytes later (kept after)))
    (AllAt now (λ more. ReadsFrom client.unread.bytes more (kept after))) (with_connected all_connected number (connected_of between.conn.phase)) (with_connected all_connected number (connected_of after.conn.phase)) more.1 new
    (λ these those conn_step later. read_first number now one.packet outputs.next client.unread between.unread (kept after) these those one.taken one.goes conn_step later)
    (moves first conn_steps all_connected old more.1 number client between now (inputs.Packet one.packet) outputs is sound.1 (one.taken.front, one.taken.spelled) keeps one.moved)
    (λ before kept. reads rest first before all_connected more.1 new number between after now (one.moved.same ∙ is)
    (one.taken.goes_on, still_timely client between now sound.1 one.moved.latest) kept more.3)

pub ticks : (outputs : List StepOutput) (first : Broker) (conn_steps : List ConnStep) (all_connected : Links) (old new : Broker) (number : ℕ) (client after : ClientState GroupPlace) (now : ℕ)
    → client.conn.number ≡ number → IsSound now (Some client) → Keeps first conn_steps (with_connected all_connected number (connected_of client.conn.phase)) old
    → Ticks Calls slot_of old client now outputs after new
    → Says first conn_steps outputs (AllAt now (λ more. TickIsAnswered (Some client) more (kept after))) (with_connected all_connected number (connected_of after.conn.phase)) new
ticks [] first conn_steps all_connected old new number client after now is sound keeps ticked = absurd ticked
ticks (outputs ∷ rest) first conn_steps all_connected old new number client after now is sound keeps (inl last) =
    let over = stopped old new client after now inputs.Tick outputs last.0 last.1 in
    subst (λ (more : List StepOutput). Says first conn_steps (outputs ∷ more) (AllAt now (λ more. TickIsAnswered (Some client) more (kept after))) (with_connected all_connected number (connected_of after.conn.phase)) new)
    (sym last.2)
    (says_so first conn_steps (outputs ∷ []) (IsStep number now inputs.Tick outputs.next) (AllAt now (λ more. TickIsAnswered (Some client) more (kept after)))
    (with_connected all_connected number (connected_of after.conn.phase)) new (λ these one. tick_last number now outputs.next client (kept after) these over one)
    (moves first conn_steps all_connected old new number client after now inputs.Tick outputs is sound.1 tt keeps last.0))
ticks (outputs ∷ rest) first conn_steps all_connected old new number client after now is sound keeps (inr more) =
    let between = more.0 in
    let same = more.5 in
    then_says first conn_steps (outputs ∷ []) rest (IsStep number now inputs.Tick outputs.next) (AllAt now (λ later. ReadsFrom between.unread.bytes later (kept after)))
    (AllAt now (λ more. TickIsAnswered (Some client) more (kept after))) (with_connected all_connected number (connected_of between.conn.phase)) (with_connected all_connected number (connected_of after.conn.phase)) more.1 new
    (λ these those conn_step later. tick_first number now outputs.next client between (kept after) these those same more.3 conn_step later)
    (moves first conn_steps all_connected old more.1 number client between now inputs.Tick outputs is sound.1 tt keeps more.2)
    (λ before kept. reads rest first before all_connected more.1 new number between after now (more.2.same ∙ is)
    (ap (λ (u : Unread). u.fault) same ∙ sound.0, still_timely client between now sound.1 more.2.latest) kept more.4)

-- a cell, after what happened to the client in it
cell_connected : (phase : ConnPhase GroupPlace) (client : ClientState GroupPlace) → client.conn.phase ≡ phase → connected_in (Some (kept_as phase client)) ≡ connected_of phase
cell_connected (Unconnected opened) client is = ap connected_of is
cell_connected (Waiting request ticks) client is = ap connected_of is
cell_connected (Connected connected) client is = ap connected_of is
cell_connected Ended client is = refl

in_cell : (first : Broker) (conn_steps : List ConnStep) (outputs : List StepOutput) (Answers : List ConnStep → Option (ClientState GroupPlace) → Type 0) (all_connected : Links) (number : ℕ)
    (client : ClientState GroupPlace) (after : Option (ClientState GroupPlace)) (new : Broker) → after ≡ kept client
    → Says first conn_steps outputs (λ more. Answers more (kept client)) (with_connected all_connected number (connected_of client.conn.phase)) new
    → Says first conn_steps outputs (λ more. Answers more after) (with_connected all_connected number (connected_in (Some after))) new
in_cell first conn_steps outputs Answers all_connected number client after new is says =
    subst (λ (c : Option (ClientState GroupPlace)). Says first conn_steps outputs (λ more. Answers more c) (with_connected all_connected number (connected_in (Some c))) new) (sym is)
    (subst (λ (l : Option (ConnectedClient GroupPlace)). Says first conn_steps outputs (λ more. Answers more (kept client)) (with_connected all_connected number l) new)
    (sym (cell_connected client.conn.phase client refl)) says)

nobody : (first : Broker) (conn_steps : List ConnStep) (outputs : List StepOutput) (Answers : List ConnStep → Type 0) (all_connected : Links) (number : ℕ) (after : Option (ClientState GroupPlace))
    (old new : Broker) → Answers [] → outputs ≡ [] → after ≡ None → new ≡ old → Keeps first conn_steps (with_connected all_connected number None) old
    → Says first conn_steps outputs Answers (with_connected all_connected number (connected_in (Some after))) new
nobody first conn_steps outputs Answers all_connected number after old new nothing none is same keeps =
    subst (λ (c : Option (ClientState GroupPlace)). Says first conn_steps outputs Answers (with_connected all_connected number (connected_in (Some c))) new) (sym is)
    (silent first conn_steps Answers (with_connected all_connected number None) old new outputs nothing none same keeps)

pub receives : (result : Result (Unit {0}) NoMemory) (before after : Option (ClientState GroupPlace)) (first : Broker) (conn_steps : List ConnStep) (all_connected : Links) (number : ℕ)
    (old new : Broker) (now : ℕ) (piece : List ℕ) (outputs : List StepOutput) → IsOk result → IsNumbered number before → IsSound now before
    → Keeps first conn_steps (with_connected all_connected number (connected_in (Some before))) old → Receives Calls slot_of old before now piece outputs result after new
    → Says first conn_steps outputs (AllAt now (λ more. PieceIsAnswered before piece more after)) (with_connected all_connected number (connected_in (Some after))) new
receives (Ok done) None after first conn_steps all_connected number old new now piece outputs ok is sound keeps does =
    nobody first conn_steps outputs (AllAt now (λ more. PieceIsAnswered None piece more after)) all_connected number after old new (tt, refl) does.0 does.1 does.2 keeps
receives (Ok done) (Some client) after first conn_steps all_connected number old new now piece outputs ok is sound keeps does =
    let same = fed_unread client piece sound.0 in
    in_cell first conn_steps outputs (λ more c. AllAt now (λ these. PieceIsAnswered (Some client) piece these c) more) all_connected number does.0 after new does.2
    (says_so first conn_steps outputs (AllAt now (λ more. ReadsFrom (fed client piece).unread.bytes more (kept does.0))) (AllAt now (λ more. PieceIsAnswered (Some client) piece more (kept does.0)))
    (with_connected all_connected number (connected_of does.0.conn.phase)) new
    (λ these from. (from.0, subst (λ (u : Unread). ReadsFrom u.bytes these (kept does.0)) same from.1))
    (reads outputs first conn_steps all_connected old new number (fed client piece) does.0 now is (ap (λ (u : Unread). u.fault) same, sound.1) keeps does.1))
receives (Err error) before after first conn_steps all_connected number old new now piece outputs ok is sound keeps does = absurd (false≢true ok)

pub ticks_for : (result : Result (Unit {0}) NoMemory) (before after : Option (ClientState GroupPlace)) (first : Broker) (conn_steps : List ConnStep) (all_connected : Links) (number : ℕ)
    (old new : Broker) (now : ℕ) (outputs : List StepOutput) → IsOk result → IsNumbered number before → IsSound now before
    → Keeps first conn_steps (with_connected all_connected number (connected_in (Some before))) old → TicksFor Calls slot_of old before now outputs result after new
    → Says first conn_steps outputs (AllAt now (λ more. TickIsAnswered before more after)) (with_connected all_connected number (connected_in (Some after))) new
ticks_for (Ok done) None after first conn_steps all_connected number old new now outputs ok is sound keeps does =
    nobody first conn_steps outputs (AllAt now (λ more. TickIsAnswered None more after)) all_connected number after old new (tt, refl) does.0 does.1 does.2 keeps
ticks_for (Ok done) (Some client) after first conn_steps all_connected number old new now outputs ok is sound keeps does =
    in_cell first conn_steps outputs (λ more c. AllAt now (λ these. TickIsAnswered (Some client) these c) more) all_connected number does.0 after new does.2
    (ticks outputs first conn_steps all_connected old new number client does.0 now is sound keeps does.1)
ticks_for (Err error) before after first conn_steps all_connected number old new now outputs ok is sound keeps does = absurd (false≢true ok)

pub ends_for : (result : Result (Unit {0}) NoMemory) (before after : Option (ClientState GroupPlace)) (first : Broker) (conn_steps : List ConnStep) (all_connected : Links) (number : ℕ)
    (old new : Broker) (now : ℕ) (input : Input) (outputs : List StepOutput) → IsOk result → IsSpelled input → IsNumbered number before → IsSound now before
    → Keeps first conn_steps (with_connected all_connected number (connected_in (Some before))) old → EndsFor Calls slot_of old before now input outputs result after new
    → Says first conn_steps outputs (AllAt now (EndsSteps number input before)) (with_connected all_connected number (connected_in (Some after))) new
ends_for (Ok done) None after first conn_steps all_connected number old new now input outputs ok spelled is sound keeps does =
    nobody first conn_steps outputs (AllAt now (EndsSteps number input None)) all_connected number after old new (tt, refl) does.0 does.1 does.2 keeps
ends_for (Ok done) (Some client) after first conn_steps all_connected number old new now input outputs ok spelled is sound keeps does =
    in_cell first conn_steps outputs (λ more c. AllAt now (EndsSteps number input (Some client)) more) all_connected number does.0 after new does.2
    (subst (λ (s : List StepOutput). Says first conn_steps s (AllAt now (EndsSteps number input (Some client))) (with_connected all_connected number (connected_of does.0.conn.phase)) new) (sym does.1.1)
    (says_so first conn_steps (does.1.0 ∷ []) (IsStep number now input does.1.0.next) (AllAt now (EndsSteps number input (Some client))) (with_connected all_connected number (connected_of does.0.conn.phase)) new
    (λ these one. one_ends number now input does.1.0.next client these one)
    (moves first conn_steps all_connected old new number client does.0 now input does.1.0 is sound.1 spelled keeps does.1.2)))
ends_for (Err error) before after first conn_steps all_connected number old new now input outputs ok spelled is sound keeps does = absurd (false≢true ok)
