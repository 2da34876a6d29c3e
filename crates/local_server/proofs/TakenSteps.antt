-- The steps of a run, with what each began with and left.
use Rattle.std.proofs.Common.{◌≡◌, ◌≢◌, ◌≤◌, ℕ, zero, suc, max, nat_eq, Bool, true, false, if◌then◌else◌, List, [], ◌∷◌, ◌++◌, map, Option, Some, None, Result, Ok, Err, IsOk, refl, sym, ap, subst, ◌∙◌, inl, inr, ⊎_elim, arith}
use Rattle.std.proofs.Math.Nat.{le-max_left}
use Rattle.std.specs.List.{AllByRecursion}
use Rattle.std.specs.Result.{result_and}
use Rattle.std.proofs.lemmas.Bool.{cases_eq, eq-eqb, ne_eqb, false≢true}
use Rattle.std.proofs.lemmas.List.{map-append}
use Rattle.std.proofs.lemmas.List.Elements.{filter-append}
use Rattle.dispatch_core.proofs.Spots.{slice_get-set_other}
use Rattle.mqtt_wire.specs.Stream.{Unread}
use Rattle.conn_supply.specs.declared.supply.NoMemory.{NoMemory}
use Rattle.conn_engine.specs.declared.input.Input.{Input}
use Rattle.conn_engine.specs.declared.input.Input.TheVariants as inputs
use Rattle.conn_engine.specs.declared.phase.Opening.{Opening}
use Rattle.conn_engine.specs.declared.phase.ConnPhase.{ConnPhase}
use Rattle.conn_engine.specs.declared.phase.ConnPhase.TheVariants.{Unconnected, Waiting, Connected, Ended}
use Rattle.conn_engine.specs.Step.{Steps}
use Rattle.conn_laws.proofs.Aside.{all_of_both}
use Rattle.client_table.specs.Clients.{ClientState, moment_of, StepOutput, step_output, ClientSteps}
use Rattle.client_table.specs.Numbers.{IsNumbered}
use Rattle.client_table.specs.Streams.{fed, Reads, Ticks}
use Rattle.client_table.specs.Cells.{kept_as, kept, InCell, Opens, Receives, TicksFor, EndsFor}
use Rattle.local_broker.specs.Places.{GroupPlace}
use Rattle.local_broker.specs.Broker.{Broker, is_open}
use Rattle.local_broker.specs.Calls.{Calls}
use Rattle.local_server.specs.declared.event.ServerEvent.{ServerEvent}
use Rattle.local_server.specs.declared.event.ServerEvent.TheVariants as events
use Rattle.local_server.specs.declared.event.TimedEvent.{TimedEvent}
use Rattle.conn_rules.specs.Connecting.{inflight_alone}
use Rattle.conn_rules.specs.declared.setup.Setup.{Setup}
use Rattle.local_server.specs.Servers.{Clients, ServerState, IsNewServer}
use Rattle.local_server.specs.Addressed.{AreNumbered}
use Rattle.local_server.specs.Happening.{slot_of, EndsAt, EndsFirst, Does, DoesIf, HappensAll}
use Rattle.local_server.specs.ConnSteps.{ConnStep, AreMadeAt}
use Rattle.local_server.specs.Streams.{ReadsFrom, PieceIsAnswered, TickIsAnswered, LastIsAnswered, open_in, client_at, EventIsAnswered, EventIsAnsweredIf}
use Rattle.local_server.specs.TakenSteps.{TakenStep, IsLawfulStep, output_of, conn_step_of, steps_of, LeadBroker, LeadPhase, phase_of, opens, first_phase, BeginsWith, IsOf, AreTakenIn, AreTakenIf, AllAreTaken}
use Rattle.local_server.proofs.Addressed as addressed
use Rattle.local_server.proofs.Addressed.{at, answered, new_numbered}
use Rattle.local_server.proofs.Happened.{first_ok, then_ok}
use Rattle.local_server.proofs.Going.{stopped, closed_by}
use Rattle.local_server.proofs.Reading.{IsStep, AllAt, EndsSteps, IsSound, one_ends, ends_heard, made_now, still_timely, left_to, fed_unread, read_first, read_last, tick_first, tick_last}
use Rattle.local_server.proofs.Sound as sounding
use Rattle.local_server.proofs.Sound.{AreSound, sound_at, sound_later, still_sound, new_sound}
use Rattle.local_server.proofs.Heard.{client_in, cell_heard, EndsBelow, none_below, one_more_below, untouched}

-- the steps of one connection, which answer what came so
record Takes (number : ℕ) (Answer : List ConnStep → Type 0) (old : Broker) (before : ConnPhase GroupPlace) (outputs : List StepOutput) (after : ConnPhase GroupPlace) (new : Broker) : Type 0 where
  steps : List TakenStep
  outputs_are : outputs ≡ map output_of steps
  lawful : AllByRecursion IsLawfulStep steps
  whose : AllByRecursion (λ step. step.connection ≡ number) steps
  broker : LeadBroker old steps new
  phases : LeadPhase before steps after
  answers : Answer (map conn_step_of steps)

-- those before and those after
broker_on : (steps others : List TakenStep) (old mid new : Broker) → LeadBroker old steps mid → LeadBroker mid others new → LeadBroker old (steps ++ others) new
broker_on [] others old mid new these those = subst (λ (b : Broker). LeadBroker b others new) these those
broker_on (step ∷ steps) others old mid new these those = (these.0, broker_on steps others step.broker_after mid new these.1 those)

phase_on : (steps others : List TakenStep) (before mid after : ConnPhase GroupPlace) → LeadPhase before steps mid → LeadPhase mid others after → LeadPhase before (steps ++ others) after
phase_on [] others before mid after these those = subst (λ (s : ConnPhase GroupPlace). LeadPhase s others after) these those
phase_on (step ∷ steps) others before mid after these those = (these.0, phase_on steps others step.phase_after mid after these.1 those)

outputs_on : (outputs later : List StepOutput) (steps others : List TakenStep) → outputs ≡ map output_of steps → later ≡ map output_of others → outputs ++ later ≡ map output_of (steps ++ others)
outputs_on outputs later steps others these those = (λ i. these i ++ those i) ∙ sym (map-append output_of steps others)

none : (number : ℕ) (Answer : List ConnStep → Type 0) (old new : Broker) (phase : ConnPhase GroupPlace) (outputs : List StepOutput) → Answer [] → outputs ≡ [] → new ≡ old
    → Takes number Answer old phase outputs phase new
none number Answer old new phase outputs nothing silent same =
    record { steps = []; outputs_are = silent; lawful = tt; whose = tt; broker = same; phases = refl; answers = nothing }

then_takes : (number : ℕ) (These Those All : List ConnStep → Type 0) (old mid new : Broker) (before between after : ConnPhase GroupPlace) (outputs later : List StepOutput)
    → ((these those : List ConnStep) → These these → Those those → All (these ++ those)) → Takes number These old before outputs between mid → Takes number Those mid between later after new
    → Takes number All old before (outputs ++ later) after new
then_takes number These Those All old mid new before between after outputs later both these those =
    record {
      steps = these.steps ++ those.steps;
      outputs_are = outputs_on outputs later these.steps those.steps these.outputs_are those.outputs_are;
      lawful = all_of_both IsLawfulStep these.steps those.steps these.lawful those.lawful;
      whose = all_of_both (λ (step : TakenStep). step.connection ≡ number) these.steps those.steps these.whose those.whose;
      broker = broker_on these.steps those.steps old mid new these.broker those.broker;
      phases = phase_on these.steps those.steps before between after these.phases those.phases;
      answers =
          subst All (sym (map-append conn_step_of these.steps those.steps))
          (both (map conn_step_of these.steps) (map conn_step_of those.steps) these.answers those.answers);
    }

takes_so : (number : ℕ) (These All : List ConnStep → Type 0) (old new : Broker) (before after : ConnPhase GroupPlace) (outputs : List StepOutput)
    → ((these : List ConnStep) → These these → All these) → Takes number These old before outputs after new → Takes number All old before outputs after new
takes_so number These All old new before after outputs so takes =
    record {
      steps = takes.steps;
      outputs_are = takes.outputs_are;
      lawful = takes.lawful;
      whose = takes.whose;
      broker = takes.broker;
      phases = takes.phases;
      answers = so (map conn_step_of takes.steps) takes.answers;
    }

-- one step
one : (number now : ℕ) (input : Input) (output : StepOutput) (old new : Broker) (client after : ClientState GroupPlace) → client.conn.number ≡ number → client.conn.latest ≤ now
    → ClientSteps Calls slot_of old client now input output after new
    → Takes number (IsStep number now input output.next) old client.conn.phase (output ∷ []) after.conn.phase new
one number now input output old new client after is timely moved =
    let lawful : Steps Calls slot_of old number client.conn.phase now input output.packets output.next after.conn.phase new =
    subst (λ (m : ℕ). Steps Calls slot_of old number client.conn.phase m input output.packets output.next after.conn.phase new) (made_now client now timely)
    (subst (λ (n : ℕ). Steps Calls slot_of old n client.conn.phase (moment_of client now) input output.packets output.next after.conn.phase new) is moved.stepped) in
    let step : TakenStep = record {
      connection = number;
      at = now;
      input = input;
      packets = output.packets;
      next = output.next;
      phase_before = client.conn.phase;
      phase_after = after.conn.phase;
      broker_before = old;
      broker_after = new;
    } in
    record {
      steps = step ∷ [];
      outputs_are = ap (λ (n : ℕ). step_output n output.packets output.next ∷ []) (moved.told ∙ is);
      lawful = (lawful, tt);
      whose = (refl, tt);
      broker = (refl, refl);
      phases = (refl, refl);
      answers = (conn_step_of step, refl, record { whose = refl; at_is = refl; input_is = refl; next_is = refl });
    }

-- what is read is stepped, packet by packet
reads : (outputs : List StepOutput) (number now : ℕ) (old new : Broker) (client after : ClientState GroupPlace) → client.conn.number ≡ number → IsSound now (Some client)
    → Reads Calls slot_of old client now outputs after new
    → Takes number (AllAt now (λ more. ReadsFrom client.unread.bytes more (kept after))) old client.conn.phase outputs after.conn.phase new
reads [] number now old new client after is sound read =
    subst (λ (c : ClientState GroupPlace). Takes number (AllAt now (λ more. ReadsFrom client.unread.bytes more (kept c))) old client.conn.phase [] c.conn.phase new) (sym read.1)
    (none number (AllAt now (λ more. ReadsFrom client.unread.bytes more (kept client))) old new client.conn.phase []
    (tt, (client.unread.bytes, refl, left_to client.conn.phase client read.0)) refl read.2)
reads (outputs ∷ rest) number now old new client after is sound (inl last) =
    let it = last.0 in
    let closed = closed_by old new client after now it.input outputs it.moved it.closes in
    subst (λ (more : List StepOutput). Takes number (AllAt now (λ more. ReadsFrom client.unread.bytes more (kept after))) old client.conn.phase (outputs ∷ more) after.conn.phase new) (sym last.1)
    (takes_so number (IsStep number now it.input outputs.next) (AllAt now (λ more. ReadsFrom client.unread.bytes more (kept after))) old new client.conn.phase after.conn.phase (outputs ∷ [])
    (λ these step. read_last number now it.input outputs.next client.unread after.unread (kept after) these sound.0 it.front closed step)
    (one number now it.input outputs old new client after is sound.1 it.moved))
reads (outputs ∷ rest) number now old new client after is sound (inr more) =
    let between = more.0 in
    let first = more.2 in
    then_takes number (IsStep number now (inputs.Packet first.packet) outputs.next) (AllAt now (λ later. ReadsFrom between.unread.bytes later (kept after)))
    (AllAt now (λ more. ReadsFrom client.unread.bytes more (kept after))) old more.1 new client.conn.phase between.conn.phase after.conn.phase (outputs ∷ []) rest
    (λ these those step later. read_first number now first.packet outputs.next client.unread between.unread (kept after) these those first.taken first.goes step later)
    (one number now (inputs.Packet first.packet) outputs old more.1 client between is sound.1 first.moved)
    (reads rest number now more.1 new between after (first.moved.same ∙ is) (first.taken.goes_on, still_timely client between now sound.1 first.moved.latest) more.3)

ticks : (outputs : List StepOutput) (number now : ℕ) (old new : Broker) (client after : ClientState GroupPlace) → client.conn.number ≡ number → IsSound now (Some client)
    → Ticks Calls slot_of old client now outputs after new
    → Takes number (AllAt now (λ more. TickIsAnswered (Some client) more (kept after))) old client.conn.phase outputs after.conn.phase new
ticks [] number now old new client after is sound ticked = absurd ticked
ticks (outputs ∷ rest) number now old new client after is sound (inl last) =
    let over = stopped old new client after now inputs.Tick outputs last.0 last.1 in
    subst (λ (more : List StepOutput). Takes number (AllAt now (λ more. TickIsAnswered (Some client) more (kept after))) old client.conn.phase (outputs ∷ more) after.conn.phase new) (sym last.2)
    (takes_so number (IsStep number now inputs.Tick outputs.next) (AllAt now (λ more. TickIsAnswered (Some client) more (kept after))) old new client.conn.phase after.conn.phase (outputs ∷ [])
    (λ these step. tick_last number now outputs.next client (kept after) these over step)
    (one number now inputs.Tick outputs old new client after is sound.1 last.0))
ticks (outputs ∷ rest) number now old new client after is sound (inr more) =
    let between = more.0 in
    let same = more.5 in
    then_takes number (IsStep number now inputs.Tick outputs.next) (AllAt now (λ later. ReadsFrom between.unread.bytes later (kept after)))
    (AllAt now (λ more. TickIsAnswered (Some client) more (kept after))) old more.1 new client.conn.phase between.conn.phase after.conn.phase (outputs ∷ []) rest
    (λ these those step later. tick_first number now outputs.next client between (kept after) these those same more.3 step later)
    (one number now inputs.Tick outputs old more.1 client between is sound.1 more.2)
    (reads rest number now more.1 new between after (more.2.same ∙ is) (ap (λ (u : Unread). u.fault) same ∙ sound.0, still_timely client between now sound.1 more.2.latest) more.4)

-- what happens in a cell; a client whose connection has ended is gone
phase_kept : (phase : ConnPhase GroupPlace) (client : ClientState GroupPlace) → client.conn.phase ≡ phase → phase_of (kept_as phase client) ≡ phase
phase_kept (Unconnected opened) client is = is
phase_kept (Waiting request count) client is = is
phase_kept (Connected connected) client is = is
phase_kept Ended client is = refl

becomes : (number : ℕ) (Answer : List ConnStep → Option (ClientState GroupPlace) → Type 0) (old new : Broker) (before : ConnPhase GroupPlace) (outputs : List StepOutput) (client : ClientState GroupPlace)
    (after : Option (ClientState GroupPlace)) → after ≡ kept client → Takes number (λ more. Answer more (kept client)) old before outputs client.conn.phase new
    → Takes number (λ more. Answer more after) old before outputs (phase_of after) new
becomes number Answer old new before outputs client after is takes =
    subst (λ (c : Option (ClientState GroupPlace)). Takes number (λ more. Answer more c) old before outputs (phase_of c) new) (sym is)
    (subst (λ (s : ConnPhase GroupPlace). Takes number (λ more. Answer more (kept client)) old before outputs s new) (sym (phase_kept client.conn.phase client refl)) takes)

nobody : (number : ℕ) (Answer : List ConnStep → Type 0) (old new : Broker) (outputs : List StepOutput) (after : Option (ClientState GroupPlace)) → Answer [] → outputs ≡ [] → after ≡ None → new ≡ old
    → Takes number Answer old Ended outputs (phase_of after) new
nobody number Answer old new outputs after nothing silent is same =
    subst (λ (c : Option (ClientState GroupPlace)). Takes number Answer old Ended outputs (phase_of c) new) (sym is) (none number Answer old new Ended outputs nothing silent same)

receives : (result : Result (Unit {0}) NoMemory) (before after : Option (ClientState GroupPlace)) (number now : ℕ) (old new : Broker) (piece : List ℕ) (outputs : List StepOutput) → IsOk result
    → IsNumbered number before → IsSound now before → Receives Calls slot_of old before now piece outputs result after new
    → Takes number (AllAt now (λ more. PieceIsAnswered before piece more after)) old (phase_of before) outputs (phase_of after) new
receives (Ok done) None after number now old new piece outputs ok is sound does =
    nobody number (AllAt now (λ more. PieceIsAnswered None piece more after)) old new outputs after (tt, refl) does.0 does.1 does.2
receives (Ok done) (Some client) after number now old new piece outputs ok is sound does =
    let same = fed_unread client piece sound.0 in
    becomes number (λ more c. AllAt now (λ these. PieceIsAnswered (Some client) piece these c) more) old new client.conn.phase outputs does.0 after does.2
    (takes_so number (AllAt now (λ more. ReadsFrom (fed client piece).unread.bytes more (kept does.0))) (AllAt now (λ more. PieceIsAnswered (Some client) piece more (kept does.0)))
    old new client.conn.phase does.0.conn.phase outputs
    (λ these from. (from.0, subst (λ (u : Unread). ReadsFrom u.bytes these (kept does.0)) same from.1))
    (reads outputs number now old new (fed client piece) does.0 is (ap (λ (u : Unread). u.fault) same, sound.1) does.1))
receives (Err error) before after number now old new piece outputs ok is sound does = absurd (false≢true ok)

ticks_for : (result : Result (Unit {0}) NoMemory) (before after : Option (ClientState GroupPlace)) (number now : ℕ) (old new : Broker) (outputs : List StepOutput) → IsOk result
    → IsNumbered number before → IsSound now before → TicksFor Calls slot_of old before now outputs result after new
    → Takes number (AllAt now (λ more. TickIsAnswered before more after)) old (phase_of before) outputs (phase_of after) new
ticks_for (Ok done) None after number now old new outputs ok is sound does =
    nobody number (AllAt now (λ more. TickIsAnswered None more after)) old new outputs after (tt, refl) does.0 does.1 does.2
ticks_for (Ok done) (Some client) after number now old new outputs ok is sound does =
    becomes number (λ more c. AllAt now (λ these. TickIsAnswered (Some client) these c) more) old new client.conn.phase outputs does.0 after does.2
    (ticks outputs number now old new client does.0 is sound does.1)
ticks_for (Err error) before after number now old new outputs ok is sound does = absurd (false≢true ok)

ends_for : (result : Result (Unit {0}) NoMemory) (before after : Option (ClientState GroupPlace)) (number now : ℕ) (old new : Broker) (input : Input) (outputs : List StepOutput) → IsOk result
    → IsNumbered number before → IsSound now before → EndsFor Calls slot_of old before now input outputs result after new
    → Takes number (AllAt now (EndsSteps number input before)) old (phase_of before) outputs (phase_of after) new
ends_for (Ok done) None after number now old new input outputs ok is sound does =
    nobody number (AllAt now (EndsSteps number input None)) old new outputs after (tt, refl) does.0 does.1 does.2
ends_for (Ok done) (Some client) after number now old new input outputs ok is sound does =
    becomes number (λ more c. AllAt now (EndsSteps number input (Some client)) more) old new client.conn.phase outputs does.0 after does.2
    (subst (λ (s : List StepOutput). Takes number (AllAt now (EndsSteps number input (Some client))) old client.conn.phase s does.0.conn.phase new) (sym does.1.1)
    (takes_so number (IsStep number now input does.1.0.next) (AllAt now (EndsSteps number input (Some client))) old new client.conn.phase does.0.conn.phase (does.1.0 ∷ [])
    (λ these step. one_ends number now input does.1.0.next client these step)
    (one number now input does.1.0 old new client does.0 is sound.1 does.1.2)))
ends_for (Err error) before after number now old new input outputs ok is sound does = absurd (false≢true ok)

-- to a connection that is not open nothing happens
none_receives : (result : Result (Unit {0}) NoMemory) (before after : Option (ClientState GroupPlace)) (old new : Broker) (now : ℕ) (piece : List ℕ) (outputs : List StepOutput) → IsOk result
    → Receives Calls slot_of old before now piece outputs result after new → before ≡ None → (outputs ≡ []) × (after ≡ None)
none_receives (Ok done) None after old new now piece outputs ok does is = (does.0, does.1)
none_receives (Ok done) (Some client) after old new now piece outputs ok does is = absurd (cc)
none_receives (Err error) before after old new now piece outputs ok does is = absurd (false≢true ok)

none_ticks : (result : Result (Unit {0}) NoMemory) (before after : Option (ClientState GroupPlace)) (old new : Broker) (now : ℕ) (outputs : List StepOutput) → IsOk result
    → TicksFor Calls slot_of old before now outputs result after new → before ≡ None → (outputs ≡ []) × (after ≡ None)
none_ticks (Ok done) None after old new now outputs ok does is = (does.0, does.1)
none_ticks (Ok done) (Some client) after old new now outputs ok does is = absurd (cc)
none_ticks (Err error) before after old new now outputs ok does is = absurd (false≢true ok)

none_ends : (result : Result (Unit {0}) NoMemory) (before after : Option (ClientState GroupPlace)) (old new : Broker) (now : ℕ) (input : Input) (outputs : List StepOutput) → IsOk result
    → EndsFor Calls slot_of old before now input outputs result after new → before ≡ None → (outputs ≡ []) × (after ≡ None)
none_ends (Ok done) None after old new now input outputs ok does is = (does.0, does.1)
none_ends (Ok done) (Some client) after old new now input outputs ok does is = absurd (cc)
none_ends (Err error) before after old new now input outputs ok does is = absurd (false≢true ok)

-- the steps of several connections
record Taken (Is : TakenStep → Type 0) (Answer : List ConnStep → Type 0) (old : Broker) (clients : Clients) (outputs : List StepOutput) (clients' : Clients) (new : Broker) : Type 0 where
  steps : List TakenStep
  outputs_are : outputs ≡ map output_of steps
  lawful : AllByRecursion IsLawfulStep steps
  broker : LeadBroker old steps new
  phases : (number : ℕ) → LeadPhase (phase_of (client_at clients number)) (steps_of number steps) (phase_of (client_at clients' number))
  each : AllByRecursion Is steps
  -- a connection that is not open takes none, and is not open then
  closed : (number : ℕ) → client_at clients number ≡ None → (steps_of number steps ≡ []) × (client_at clients' number ≡ None)
  answers : Answer (map conn_step_of steps)

-- the steps of a connection among those of one
pub its_own : (number : ℕ) (steps : List TakenStep) → AllByRecursion (λ (step : TakenStep). step.connection ≡ number) steps → steps_of number steps ≡ steps
its_own number [] whose = refl
its_own number (step ∷ steps) whose =
    ap (λ (b : Bool). if b then step ∷ steps_of number steps else steps_of number steps) (eq-eqb step.connection number whose.0) ∙ ap (λ (s : List TakenStep). step ∷ s) (its_own number steps whose.1)

pub no_other : (number other : ℕ) (steps : List TakenStep) → other ≢ number → AllByRecursion (λ (step : TakenStep). step.connection ≡ number) steps → steps_of other steps ≡ []
no_other number other [] apart whose = refl
no_other number other (step ∷ steps) apart whose =
    ap (λ (b : Bool). if b then step ∷ steps_of other steps else steps_of other steps) (ne_eqb step.connection other (λ same. apart (sym same ∙ whose.0))) ∙ no_other number other steps apart whose.1

none_said : (outputs : List StepOutput) (steps : List TakenStep) → outputs ≡ [] → outputs ≡ map output_of steps → steps ≡ []
none_said outputs [] silent outputs_are = refl
none_said outputs (step ∷ steps) silent outputs_are = absurd (let e = sym silent ∙ outputs_are in cc)

in_cell : (clients clients' : Clients) (number : ℕ) (Becomes : Option (ClientState GroupPlace) → Option (ClientState GroupPlace) → Type 0) (Is : TakenStep → Type 0)
    (Answer : List ConnStep → Type 0) (old new : Broker) (outputs : List StepOutput) (cell : InCell clients number Becomes clients')
    → (cell.before ≡ None → (outputs ≡ []) × (cell.after ≡ None))
    → (takes : Takes number Answer old (phase_of cell.before) outputs (phase_of cell.after) new) → AllByRecursion Is takes.steps → Taken Is Answer old clients outputs clients' new
in_cell clients clients' number Becomes Is Answer old new outputs cell nothing takes each_is =
    record {
      steps = takes.steps;
      outputs_are = takes.outputs_are;
      lawful = takes.lawful;
      broker = takes.broker;
      phases = λ each.
          ⊎_elim
          (λ (same : each ≡ number).
          subst (λ (n : ℕ). LeadPhase (phase_of (client_at clients n)) (steps_of n takes.steps) (phase_of (client_at clients' n))) (sym same)
          (cell_heard clients clients' number Becomes cell (λ before after. LeadPhase (phase_of before) (steps_of number takes.steps) (phase_of after))
          (subst (λ (s : List TakenStep). LeadPhase (phase_of cell.before) s (phase_of cell.after)) (sym (its_own number takes.steps takes.whose)) takes.phases)))
          (λ (other : each ≢ number).
          subst (λ (s : List TakenStep). LeadPhase (phase_of (client_at clients each)) s (phase_of (client_at clients' each))) (sym (no_other number each takes.steps other takes.whose))
          (ap phase_of (beside each other)))
          (cases_eq each number);
      each = each_is;
      closed = λ each none.
          ⊎_elim
          (λ (same : each ≡ number).
          let here = nothing (sym (client_in clients number cell.before cell.has) ∙ ap (client_at clients) (sym same) ∙ none) in
          let empty : takes.steps ≡ [] = none_said outputs takes.steps here.0 takes.outputs_are in (
            ap (steps_of each) empty,
            ap (client_at clients') same
                ∙ cell_heard clients clients' number Becomes cell (λ before after. after ≡ None) here.1,
          ))
          (λ (other : each ≢ number). (no_other number each takes.steps other takes.whose, beside each other ∙ none))
          (cases_eq each number);
      answers = takes.answers;
    }
  where
    beside : (each : ℕ) → each ≢ number → client_at clients' each ≡ client_at clients each
    beside each other = ap (λ (l : Clients). client_at l each) cell.is ∙ ap open_in (slice_get-set_other clients number each cell.after other)

then_taken : (Is : TakenStep → Type 0) (These Those All : List ConnStep → Type 0) (old mid new : Broker) (clients between clients' : Clients) (outputs later : List StepOutput)
    → ((these those : List ConnStep) → These these → Those those → All (these ++ those)) → Taken Is These old clients outputs between mid → Taken Is Those mid between later clients' new
    → Taken Is All old clients (outputs ++ later) clients' new
then_taken Is These Those All old mid new clients between clients' outputs later both these those =
    record {
      steps = these.steps ++ those.steps;
      outputs_are = outputs_on outputs later these.steps those.steps these.outputs_are those.outputs_are;
      lawful = all_of_both IsLawfulStep these.steps those.steps these.lawful those.lawful;
      broker = broker_on these.steps those.steps old mid new these.broker those.broker;
      phases = λ number.
          subst (λ (s : List TakenStep). LeadPhase (phase_of (client_at clients number)) s (phase_of (client_at clients' number)))
          (sym (filter-append (λ (step : TakenStep). nat_eq step.connection number) these.steps those.steps))
          (phase_on (steps_of number these.steps) (steps_of number those.steps) (phase_of (client_at clients number)) (phase_of (client_at between number)) (phase_of (client_at clients' number))
          (these.phases number) (those.phases number));
      each = all_of_both Is these.steps those.steps these.each those.each;
      closed = λ number none.
          let first = these.closed number none in
          let last = those.closed number first.1 in
          (filter-append (λ (step : TakenStep). nat_eq step.connection number) these.steps those.steps ∙ (λ i. first.0 i ++ last.0 i), last.1);
      answers =
          subst All (sym (map-append conn_step_of these.steps those.steps))
          (both (map conn_step_of these.steps) (map conn_step_of those.steps) these.answers those.answers);
    }

taken_so : (Is : TakenStep → Type 0) (These All : List ConnStep → Type 0) (old new : Broker) (clients clients' : Clients) (outputs : List StepOutput) → ((these : List ConnStep) → These these → All these)
    → Taken Is These old clients outputs clients' new → Taken Is All old clients outputs clients' new
taken_so Is These All old new clients clients' outputs so taken =
    record { steps = taken.steps; outputs_are = taken.outputs_are; lawful = taken.lawful; broker = taken.broker; phases = taken.phases; each = taken.each; closed = taken.closed; answers = so (map conn_step_of taken.steps) taken.answers }

-- the close
abbrev ToldOfClose : TakenStep → Type 0
ToldOfClose step = step.input ≡ inputs.Closing

abbrev first_input : List ConnStep → Input
first_input [] = inputs.Closing
first_input (conn_step ∷ others) = conn_step.input

told_of_it : (number : ℕ) (client : Option (ClientState GroupPlace)) (steps : List TakenStep) → EndsSteps number inputs.Closing client (map conn_step_of steps)
    → AllByRecursion ToldOfClose steps
told_of_it number client [] ends = tt
told_of_it number None (step ∷ steps) ends = absurd (cc)
told_of_it number (Some client) (step ∷ []) ends = (ap first_input ends.1 ∙ ends.3, tt)
told_of_it number (Some client) (step ∷ other ∷ steps) ends = absurd (let is = ends.1 in cc)

ended : (number now : ℕ) (old new : Broker) (clients clients' : Clients) (outputs : List StepOutput) (result : Result (Unit {0}) NoMemory) → IsOk result → AreNumbered clients → AreSound now clients
    → (ends : EndsAt number old clients now outputs result clients' new) → Taken ToldOfClose (AllAt now (EndsSteps number inputs.Closing (client_at clients number))) old clients outputs clients' new
ended number now old new clients clients' outputs result ok all sound ends =
    let takes =
    ends_for result ends.before ends.after number now old new inputs.Closing outputs ok (at ends.before clients number all ends.has) (sound_at ends.before clients number now sound ends.has) ends.becomes in
    subst (λ (c : Option (ClientState GroupPlace)). Taken ToldOfClose (AllAt now (EndsSteps number inputs.Closing c)) old clients outputs clients' new) (sym (client_in clients number ends.before ends.has))
    (in_cell clients clients' number _ ToldOfClose (AllAt now (EndsSteps number inputs.Closing ends.before)) old new outputs ends
    (none_ends result ends.before ends.after old new now inputs.Closing outputs ok ends.becomes) takes (told_of_it number ends.before takes.steps takes.answers.1))

first_ended : (number now : ℕ) (old new : Broker) (clients clients' : Clients) (outputs : List StepOutput) (result : Result (Unit {0}) NoMemory) → IsOk result → AreNumbered clients → AreSound now clients
    → EndsFirst number old clients now outputs result clients' new → Taken ToldOfClose (AllAt now (EndsBelow number clients)) old clients outputs clients' new
first_ended zero now old new clients clients' outputs result ok all sound ends =
    record {
      steps = [];
      outputs_are = ends.0;
      lawful = tt;
      broker = ends.3;
      each = tt;
      phases = λ number. ap (λ (c : Clients). phase_of (client_at c number)) ends.2;
      closed = λ number none. (refl, ap (λ (c : Clients). client_at c number) ends.2 ∙ none);
      answers = (tt, none_below clients);
    }
first_ended (suc number) now old new clients clients' outputs result ok all sound ends =
    let both : IsOk (result_and ends.4 ends.5) = subst IsOk ends.9 ok in
    subst (λ (s : List StepOutput). Taken ToldOfClose (AllAt now (EndsBelow (suc number) clients)) old clients s clients' new) (sym ends.8)
    (then_taken ToldOfClose (AllAt now (EndsBelow number clients)) (AllAt now (EndsSteps number inputs.Closing (client_at ends.1 number))) (AllAt now (EndsBelow (suc number) clients))
    old ends.0 new clients ends.1 clients' ends.2 ends.3
    (λ these those below last. (
      all_of_both (λ (t : ConnStep). t.at ≡ now) these those below.0 last.0,
      one_more_below number clients these those below.1
          (subst (λ (c : Option (ClientState GroupPlace)). EndsSteps number inputs.Closing c those)
          (untouched number number old ends.0 clients ends.1 now ends.2 ends.4 (omega arith) ends.6) last.1),
    ))
    (first_ended number now old ends.0 clients ends.1 ends.2 ends.4 (first_ok ends.4 ends.5 both) all sound ends.6)
    (ended number now ends.0 new ends.1 clients' ends.3 ends.5 (then_ok ends.4 ends.5 both)
    (addressed.first_ended number old ends.0 clients ends.1 now ends.2 ends.4 all ends.6)
    (sounding.first_ended number old ends.0 clients ends.1 now ends.2 ends.4 (first_ok ends.4 ends.5 both) sound ends.6) ends.7))

-- the moment of each step
made_at : (now : ℕ) (steps : List TakenStep) → AreMadeAt now (map conn_step_of steps) → AllByRecursion (λ (step : TakenStep). step.at ≡ now) steps
made_at now [] made = tt
made_at now (step ∷ steps) made = (made.0, made_at now steps made.1)

-- where a connection is opened
opened : (number : ℕ) (opening : Opening) (before after : Option (ClientState GroupPlace)) → Opens number opening before after → phase_of after ≡ first_phase true opening before
opened number opening None after does = ap phase_of does
opened number opening (Some client) after does = ap phase_of does

opened_in : (clients clients' : Clients) (number : ℕ) (opening : Opening) (cell : InCell clients number (Opens number opening) clients') (each : ℕ)
    → phase_of (client_at clients' each) ≡ first_phase (nat_eq number each) opening (client_at clients each)
opened_in clients clients' number opening cell each =
    ⊎_elim
    (λ (same : each ≡ number).
    subst (λ (n : ℕ). phase_of (client_at clients' n) ≡ first_phase (nat_eq number n) opening (client_at clients n)) (sym same)
    (subst (λ (b : Bool). phase_of (client_at clients' number) ≡ first_phase b opening (client_at clients number)) (sym (eq-eqb number number refl))
    (cell_heard clients clients' number (Opens number opening) cell (λ before after. phase_of after ≡ first_phase true opening before) (opened number opening cell.before cell.after cell.becomes))))
    (λ (other : each ≢ number).
    subst (λ (b : Bool). phase_of (client_at clients' each) ≡ first_phase b opening (client_at clients each)) (sym (ne_eqb number each (λ e. other (sym e))))
    (ap phase_of (ap (λ (l : Clients). client_at l each) cell.is ∙ ap open_in (slice_get-set_other clients number each cell.after other))))
    (cases_eq each number)

-- an event of a server that was open, where no allocation failed
record Done (event : ServerEvent) (old : ServerState) (outputs : List StepOutput) (new : ServerState) : Type 0 where
  steps : List TakenStep
  outputs_are : outputs ≡ map output_of steps
  lawful : AllByRecursion IsLawfulStep steps
  made : AllByRecursion (λ (step : TakenStep). step.at ≡ new.clock) steps
  lead : AreTakenIn event old steps new
  answer : EventIsAnswered event old.clients (map conn_step_of steps) new.clients

-- an event that opens no connection
in_event : (event : ServerEvent) (old new : ServerState) (outputs : List StepOutput) (first : Broker) → ((number : ℕ) → opens event number ≡ false) → BeginsWith event old.broker first
    → Taken (IsOf event) (AllAt new.clock (λ more. EventIsAnswered event old.clients more new.clients)) first old.clients outputs new.clients new.broker → Done event old outputs new
in_event event old new outputs first opens_none begins taken =
    let opening : Opening = record { at = new.clock; limits = inflight_alone old.max_inflight } in
    record {
      steps = taken.steps;
      outputs_are = taken.outputs_are;
      lawful = taken.lawful;
      made = made_at new.clock taken.steps taken.answers.0;
      lead = record {
        first = first;
        begins = begins;
        broker = taken.broker;
        phases = λ number.
            subst (λ (b : Bool). LeadPhase (first_phase b opening (client_at old.clients number)) (steps_of number taken.steps) (phase_of (client_at new.clients number))) (sym (opens_none number))
            (taken.phases number);
        each = taken.each;
        closed = λ number none. (taken.closed number none).0;
      };
      answer = taken.answers.1;
    }

does : (event : ServerEvent) (old new : ServerState) (outputs : List StepOutput) (result : Result (Unit {0}) NoMemory) → IsOk result → AreNumbered old.clients → AreSound new.clock old.clients
    → Does event old.max_inflight old.broker old.clients new.clock outputs result new.clients new.broker → Done event old outputs new
does (events.Open number) old new outputs result ok all sound done =
    let opening : Opening = record { at = new.clock; limits = inflight_alone old.max_inflight } in
    record {
      steps = [];
      outputs_are = done.2;
      lawful = tt;
      made = tt;
      lead = record { first = old.broker; begins = refl; broker = done.1; phases = λ each. opened_in old.clients new.clients number opening done.0 each; each = tt; closed = λ each none. refl };
      answer = refl;
    }
does (events.Bytes number piece) old new outputs result ok all sound cell =
    let takes =
    receives result cell.before cell.after number new.clock old.broker new.broker piece outputs ok (at cell.before old.clients number all cell.has)
    (sound_at cell.before old.clients number new.clock sound cell.has) cell.becomes in
    in_event (events.Bytes number piece) old new outputs old.broker (λ each. refl) refl
    (cell_heard old.clients new.clients number _ cell
    (λ before after. Taken (IsOf (events.Bytes number piece)) (AllAt new.clock (λ more. PieceIsAnswered before piece more after)) old.broker old.clients outputs new.clients new.broker)
    (in_cell old.clients new.clients number _ (IsOf (events.Bytes number piece)) (AllAt new.clock (λ more. PieceIsAnswered cell.before piece more cell.after)) old.broker new.broker outputs cell
    (none_receives result cell.before cell.after old.broker new.broker new.clock piece outputs ok cell.becomes) takes takes.whose))
does (events.Tick number) old new outputs result ok all sound cell =
    let takes =
    ticks_for result cell.before cell.after number new.clock old.broker new.broker outputs ok (at cell.before old.clients number all cell.has)
    (sound_at cell.before old.clients number new.clock sound cell.has) cell.becomes in
    in_event (events.Tick number) old new outputs old.broker (λ each. refl) refl
    (cell_heard old.clients new.clients number _ cell
    (λ before after. Taken (IsOf (events.Tick number)) (AllAt new.clock (λ more. TickIsAnswered before more after)) old.broker old.clients outputs new.clients new.broker)
    (in_cell old.clients new.clients number _ (IsOf (events.Tick number)) (AllAt new.clock (λ more. TickIsAnswered cell.before more cell.after)) old.broker new.broker outputs cell
    (none_ticks result cell.before cell.after old.broker new.broker new.clock outputs ok cell.becomes) takes takes.whose))
does (events.End number) old new outputs result ok all sound cell =
    let takes =
    ends_for result cell.before cell.after number new.clock old.broker new.broker inputs.EndOfInput outputs ok (at cell.before old.clients number all cell.has)
    (sound_at cell.before old.clients number new.clock sound cell.has) cell.becomes in
    in_event (events.End number) old new outputs old.broker (λ each. refl) refl
    (cell_heard old.clients new.clients number _ cell
    (λ before after. Taken (IsOf (events.End number)) (AllAt new.clock (LastIsAnswered inputs.EndOfInput before)) old.broker old.clients outputs new.clients new.broker)
    (taken_so (IsOf (events.End number)) (AllAt new.clock (EndsSteps number inputs.EndOfInput cell.before)) (AllAt new.clock (LastIsAnswered inputs.EndOfInput cell.before)) old.broker new.broker old.clients new.clients outputs
    (λ these ends. (ends.0, ends_heard number inputs.EndOfInput cell.before these ends.1))
    (in_cell old.clients new.clients number _ (IsOf (events.End number)) (AllAt new.clock (EndsSteps number inputs.EndOfInput cell.before)) old.broker new.broker outputs cell
    (none_ends result cell.before cell.after old.broker new.broker new.clock inputs.EndOfInput outputs ok cell.becomes) takes takes.whose)))
does events.Close old new outputs result ok all sound closes =
    in_event events.Close old new outputs closes.0 (λ each. refl) closes.1
    (taken_so (IsOf events.Close) (AllAt new.clock (EndsBelow closes.2 old.clients)) (AllAt new.clock (λ more. EventIsAnswered events.Close old.clients more new.clients)) closes.0 new.broker old.clients new.clients outputs
    (λ these below. (below.0, λ number less. ends_heard number inputs.Closing (client_at old.clients number) _ ((below.1 number).0 (let is = closes.3 in omega arith))))
    (first_ended closes.2 new.clock closes.0 new.broker old.clients new.clients outputs result ok all sound closes.4))

-- an event, before the close or after it
does_if : (open? : Bool) (event : ServerEvent) (old new : ServerState) (outputs : List StepOutput) (result : Result (Unit {0}) NoMemory) → IsOk result → AreNumbered old.clients → AreSound new.clock old.clients
    → DoesIf open? event old.max_inflight old.broker old.clients new.clock outputs result new.clients new.broker
    → (steps : List TakenStep) × (outputs ≡ map output_of steps) × AllByRecursion IsLawfulStep steps × AllByRecursion (λ (step : TakenStep). step.at ≡ new.clock) steps
    × AreTakenIf open? event old steps new × EventIsAnsweredIf open? event old.clients (map conn_step_of steps) new.clients
does_if true event old new outputs result ok all sound done =
    let it = does event old new outputs result ok all sound done in (it.steps, it.outputs_are, it.lawful, it.made, it.lead, it.answer)
does_if false event old new outputs result ok all sound done = ([], done.0, tt, tt, (refl, done.3, done.2), refl)

-- one event after the other
clock_later : (old new : ServerState) (moment : ℕ) → new.clock ≡ max old.clock moment → old.clock ≤ new.clock
clock_later old new moment is = subst (λ (n : ℕ). old.clock ≤ n) (sym is) (le-max_left old.clock moment)

happened : (events : List TimedEvent) (outputs : List StepOutput) (old new : ServerState) → AreNumbered old.clients → AreSound old.clock old.clients → (run : HappensAll old events outputs new)
    → (steps : List TakenStep) × AllAreTaken old events outputs new run steps
happened [] outputs old new all sound run = ([], refl)
happened (event ∷ others) outputs old new all sound run =
    let mid = run.0 in
    let timely = sound_later old.clients old.clock mid.clock (clock_later old mid event.moment run.3.clock) sound in
    let these = does_if (is_open old.broker) event.event old mid run.1 (Ok tt) refl all timely run.3.does in
    let later = happened others run.2 mid new (answered event.moment event.event run.1 (Ok tt) old mid all run.3).0
    (still_sound _ (is_open old.broker) event.event old.broker mid.broker old.clients mid.clients mid.clock run.1 (Ok tt) refl timely run.3.does) run.4 in (
      these.0 ++ later.0,
      (these.0, later.0, record { outputs_are = these.1; lawful = these.2; made = these.3; lead = these.4; answer = these.5 }, later.1, refl),
    )

pub taken : (setup : Setup) (events : List TimedEvent) (outputs : List StepOutput) (first last : ServerState) → IsNewServer setup first → (run : HappensAll first events outputs last)
    → (steps : List TakenStep) × AllAreTaken first events outputs last run steps
taken setup events outputs first last new run = happened events outputs first last (new_numbered setup first new) (new_sound setup first new) run

-- each of the steps of a run is lawful
pub all_lawful : (events : List TimedEvent) (outputs : List StepOutput) (old new : ServerState) (run : HappensAll old events outputs new) (steps : List TakenStep) → AllAreTaken old events outputs new run steps
    → AllByRecursion IsLawfulStep steps
all_lawful [] outputs old new run steps taken = subst (AllByRecursion IsLawfulStep) (sym taken) tt
all_lawful (event ∷ others) outputs old new run steps taken =
    subst (AllByRecursion IsLawfulStep) (sym taken.4)
    (all_of_both IsLawfulStep taken.0 taken.1 taken.2.lawful (all_lawful others run.2 run.0 new run.4 taken.1 taken.3))

-- each of the steps of a connection is lawful
lawful_if : (b : Bool) (step : TakenStep) (steps : List TakenStep) → IsLawfulStep step → AllByRecursion IsLawfulStep steps → AllByRecursion IsLawfulStep (if b then step ∷ steps else steps)
lawful_if true step steps first rest = (first, rest)
lawful_if false step steps first rest = rest

pub lawful_of : (number : ℕ) (steps : List TakenStep) → AllByRecursion IsLawfulStep steps → AllByRecursion IsLawfulStep (steps_of number steps)
lawful_of number [] lawful = tt
lawful_of number (step ∷ steps) lawful = lawful_if (nat_eq step.connection number) step (steps_of number steps) lawful.0 (lawful_of number steps lawful.1)
