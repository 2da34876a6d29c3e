-- No connection vanishes.
use Rattle.std.proofs.Common.{◌≡◌, ◌≢◌, ◌⊎◌, ℕ, zero, suc, Bool, true, false, List, [], ◌∷◌, ◌++◌, map, Option, Some, None, Result, Ok, Err, slice_get, replicate, refl, sym, ap, subst, ◌∙◌, inl, inr, ⊎_elim}
use Rattle.std.specs.List.{AllByRecursion}
use Rattle.std.specs.Prelude.{⊤}
use Rattle.std.proofs.lemmas.Bool.{cases_eq, false≢true}
use Rattle.std.proofs.lemmas.Option.{slice_get_within}
use Rattle.dispatch_core.proofs.Spots.{slice_get-set_same, slice_get-set_other}
use Rattle.conn_supply.specs.declared.supply.NoMemory.{NoMemory}
use Rattle.conn_engine.specs.declared.input.Input.{Input}
use Rattle.conn_engine.specs.declared.input.Input.TheVariants as inputs
use Rattle.conn_engine.specs.declared.phase.Opening.{Opening}
use Rattle.conn_engine.specs.declared.phase.ConnPhase.{ConnPhase}
use Rattle.conn_engine.specs.declared.phase.ConnPhase.TheVariants.{Unconnected, Waiting, Connected, Ended}
use Rattle.conn_laws.proofs.Ended.{ends}
use Rattle.client_table.specs.Clients.{ClientState, StepOutput}
use Rattle.client_table.specs.Cells.{kept_as, kept, InCell, Opens, Receives, TicksFor, EndsFor}
use Rattle.local_broker.specs.Places.{GroupPlace}
use Rattle.local_broker.specs.Broker.{Broker, is_open}
use Rattle.local_broker.specs.Calls.{Calls}
use Rattle.local_server.specs.declared.event.ServerEvent.{ServerEvent}
use Rattle.local_server.specs.declared.event.ServerEvent.TheVariants as events
use Rattle.local_server.specs.declared.event.TimedEvent.{TimedEvent}
use Rattle.conn_rules.specs.Connecting.{inflight_alone}
use Rattle.conn_rules.specs.declared.setup.Setup.{Setup}
use Rattle.local_server.specs.Servers.{Clients, ServerState, IsNewServer}
use Rattle.local_server.specs.Happening.{slot_of, EndsFirst, Does, DoesIf, Happens, HappensAll}
use Rattle.local_server.specs.Streams.{open_in, client_at, EventIsAnswered, EventIsAnsweredIf}
use Rattle.local_server.specs.TakenSteps.{TakenStep, IsLawfulStep, conn_step_of, steps_of, LeadPhase, phase_of, opens, first_phase, AreTakenIn, AreTakenIf, AllAreTaken}
use Rattle.local_server.proofs.TakenSteps.{lawful_of}
use Rattle.local_server.specs.Connections.{EndsByItsLast, KeepsConnection, KeepsConnectionsIf, AllKeepConnections, IsOfAnother}

-- an open connection has not ended
abbrev pub IsUp : Option (ClientState GroupPlace) → Type 0
IsUp None = ⊤
IsUp (Some client) = client.conn.phase ≢ Ended

abbrev pub AreUp : Clients → Type 0
AreUp clients = (number : ℕ) → IsUp (client_at clients number)

kept_up : (phase : ConnPhase GroupPlace) (client : ClientState GroupPlace) → client.conn.phase ≡ phase → IsUp (kept_as phase client)
kept_up (Unconnected opened) client is = λ over. let e = sym is ∙ over in cc
kept_up (Waiting request ticks) client is = λ over. let e = sym is ∙ over in cc
kept_up (Connected connected) client is = λ over. let e = sym is ∙ over in cc
kept_up Ended client is = tt

becomes_up : (client : ClientState GroupPlace) (after : Option (ClientState GroupPlace)) → after ≡ kept client → IsUp after
becomes_up client after is = subst IsUp (sym is) (kept_up client.conn.phase client refl)

gone_up : (after : Option (ClientState GroupPlace)) → after ≡ None → IsUp after
gone_up after is = subst IsUp (sym is) tt

opens_up : (number : ℕ) (opening : Opening) (before after : Option (ClientState GroupPlace)) → IsUp before → Opens number opening before after → IsUp after
opens_up number opening None after up does = subst IsUp (sym does) (λ over. cc)
opens_up number opening (Some client) after up does = subst IsUp (sym does) up

receives_up : (result : Result (Unit {0}) NoMemory) (before after : Option (ClientState GroupPlace)) (old new : Broker) (now : ℕ) (piece : List ℕ) (outputs : List StepOutput)
    → Receives Calls slot_of old before now piece outputs result after new → IsUp after
receives_up (Ok done) None after old new now piece outputs does = gone_up after does.1
receives_up (Ok done) (Some client) after old new now piece outputs does = becomes_up does.0 after does.2
receives_up (Err error) None after old new now piece outputs does = absurd does
receives_up (Err error) (Some client) after old new now piece outputs does = becomes_up does.0 after does.2

ticks_up : (result : Result (Unit {0}) NoMemory) (before after : Option (ClientState GroupPlace)) (old new : Broker) (now : ℕ) (outputs : List StepOutput)
    → TicksFor Calls slot_of old before now outputs result after new → IsUp after
ticks_up (Ok done) None after old new now outputs does = gone_up after does.1
ticks_up (Ok done) (Some client) after old new now outputs does = becomes_up does.0 after does.2
ticks_up (Err error) None after old new now outputs does = absurd does
ticks_up (Err error) (Some client) after old new now outputs does = becomes_up does.0 after does.2

ends_up : (result : Result (Unit {0}) NoMemory) (before after : Option (ClientState GroupPlace)) (old new : Broker) (now : ℕ) (input : Input) (outputs : List StepOutput)
    → EndsFor Calls slot_of old before now input outputs result after new → IsUp after
ends_up (Ok done) None after old new now input outputs does = gone_up after does.1
ends_up (Ok done) (Some client) after old new now input outputs does = becomes_up does.0 after does.2
ends_up (Err error) None after old new now input outputs does = absurd does
ends_up (Err error) (Some client) after old new now input outputs does = becomes_up does.0 after does.2

cell_up : (clients clients' : Clients) (number : ℕ) (Becomes : Option (ClientState GroupPlace) → Option (ClientState GroupPlace) → Type 0) (cell : InCell clients number Becomes clients')
    → AreUp clients → IsUp cell.after → AreUp clients'
cell_up clients clients' number Becomes cell all up each =
    ⊎_elim
    (λ (same : each ≡ number).
    subst IsUp
    (sym
    (ap (client_at clients') same ∙ ap (λ (l : Clients). client_at l number) cell.is
    ∙ ap open_in (slice_get-set_same clients number cell.after (slice_get_within clients number cell.before cell.has)))) up)
    (λ (other : each ≢ number).
    subst IsUp (sym (ap (λ (l : Clients). client_at l each) cell.is ∙ ap open_in (slice_get-set_other clients number each cell.after other))) (all each))
    (cases_eq each number)

first_ended : (number : ℕ) (old new : Broker) (clients clients' : Clients) (now : ℕ) (outputs : List StepOutput) (result : Result (Unit {0}) NoMemory) → AreUp clients
    → EndsFirst number old clients now outputs result clients' new → AreUp clients'
first_ended zero old new clients clients' now outputs result all ends = subst AreUp (sym ends.2) all
first_ended (suc number) old new clients clients' now outputs result all ends =
    let cell = ends.7 in
    cell_up ends.1 clients' number _ cell (first_ended number old ends.0 clients ends.1 now ends.2 ends.4 all ends.6)
    (ends_up ends.5 cell.before cell.after ends.0 new now inputs.Closing ends.3 cell.becomes)

at_cell : (clients : Clients) (number : ℕ) (cell : Option (ClientState GroupPlace)) → AreUp clients → slice_get clients number ≡ Some cell → IsUp cell
at_cell clients number cell all has = subst IsUp (ap open_in has) (all number)

does_up : (max_inflight : ℕ) (event : ServerEvent) (old new : Broker) (clients clients' : Clients) (now : ℕ) (outputs : List StepOutput) (result : Result (Unit {0}) NoMemory) → AreUp clients
    → Does event max_inflight old clients now outputs result clients' new → AreUp clients'
does_up max_inflight (events.Open number) old new clients clients' now outputs result all done =
    let cell = done.0 in
    cell_up clients clients' number _ cell all (opens_up number _ cell.before cell.after (at_cell clients number cell.before all cell.has) cell.becomes)
does_up max_inflight (events.Bytes number piece) old new clients clients' now outputs result all cell =
    cell_up clients clients' number _ cell all (receives_up result cell.before cell.after old new now piece outputs cell.becomes)
does_up max_inflight (events.Tick number) old new clients clients' now outputs result all cell =
    cell_up clients clients' number _ cell all (ticks_up result cell.before cell.after old new now outputs cell.becomes)
does_up max_inflight (events.End number) old new clients clients' now outputs result all cell =
    cell_up clients clients' number _ cell all (ends_up result cell.before cell.after old new now inputs.EndOfInput outputs cell.becomes)
does_up max_inflight events.Close old new clients clients' now outputs result all closes = first_ended closes.2 closes.0 new clients clients' now outputs result all closes.4

pub does_up_if : (max_inflight : ℕ) (open? : Bool) (event : ServerEvent) (old new : Broker) (clients clients' : Clients) (now : ℕ) (outputs : List StepOutput) (result : Result (Unit {0}) NoMemory) → AreUp clients
    → DoesIf open? event max_inflight old clients now outputs result clients' new → AreUp clients'
does_up_if max_inflight true event old new clients clients' now outputs result all done = does_up max_inflight event old new clients clients' now outputs result all done
does_up_if max_inflight false event old new clients clients' now outputs result all done = subst AreUp (sym done.2) all

pub none_at : (count number : ℕ) → open_in (slice_get (replicate {A = Option (ClientState GroupPlace)} count None) number) ≡ None
none_at zero number = refl
none_at (suc count) zero = refl
none_at (suc count) (suc number) = none_at count number

pub new_up : (setup : Setup) (server : ServerState) → IsNewServer setup server → AreUp server.clients
new_up setup server new number = gone_up _ (ap (λ (l : Clients). client_at l number) new.clients ∙ none_at 64 number)

-- the last step of a connection that is open no more
ends_last : (step : TakenStep) (steps : List TakenStep) → AllByRecursion IsLawfulStep (step ∷ steps) → LeadPhase step.phase_after steps Ended → EndsByItsLast (step ∷ steps)
ends_last step [] lawful leads =
    record {
      earlier = [];
      last = step;
      are = refl;
      ends =
          (ends Calls slot_of step.broker_before step.broker_after step.connection step.at step.phase_before step.phase_after step.input step.packets step.next lawful.0).0
          (sym leads);
    }
ends_last step (other ∷ others) lawful leads =
    let rest = ends_last other others lawful.1 leads.1 in
    record { earlier = step ∷ rest.earlier; last = rest.last; are = ap (λ (s : List TakenStep). step ∷ s) rest.are; ends = rest.ends }

ends_by_last : (phase : ConnPhase GroupPlace) (steps : List TakenStep) → phase ≢ Ended → AllByRecursion IsLawfulStep steps → LeadPhase phase steps Ended → EndsByItsLast steps
ends_by_last phase [] up lawful leads = absurd (up (sym leads))
ends_by_last phase (step ∷ steps) up lawful leads = ends_last step steps lawful leads.1

-- one that is open before an event
stays_or_ends : (opened : Bool) (opening : Opening) (before after : Option (ClientState GroupPlace)) (steps : List TakenStep) → IsUp before → before ≢ None → AllByRecursion IsLawfulStep steps
    → LeadPhase (first_phase opened opening before) steps (phase_of after) → (after ≢ None) ⊎ (EndsByItsLast steps × (after ≡ None))
stays_or_ends opened opening None after steps up there lawful leads = absurd (there refl)
stays_or_ends opened opening (Some client) (Some other) steps up there lawful leads = inl (λ none. cc)
stays_or_ends true opening (Some client) None steps up there lawful leads = inr (ends_by_last client.conn.phase steps up lawful leads, refl)
stays_or_ends false opening (Some client) None steps up there lawful leads = inr (ends_by_last client.conn.phase steps up lawful leads, refl)

-- one that its last step ends
last_leads : (phase after : ConnPhase GroupPlace) (earlier : List TakenStep) (last : TakenStep) → LeadPhase phase (earlier ++ last ∷ []) after → after ≡ last.phase_after
last_leads phase after [] last leads = leads.1
last_leads phase after (step ∷ earlier) last leads = last_leads step.phase_after after earlier last leads.1

last_lawful : (earlier : List TakenStep) (last : TakenStep) → AllByRecursion IsLawfulStep (earlier ++ last ∷ []) → IsLawfulStep last
last_lawful [] last lawful = lawful.0
last_lawful (step ∷ earlier) last lawful = last_lawful earlier last lawful.1

none_ended : (after : Option (ClientState GroupPlace)) → IsUp after → phase_of after ≡ Ended → after ≡ None
none_ended None up over = refl
none_ended (Some client) up over = absurd (up over)

ended_leaves : (phase : ConnPhase GroupPlace) (after : Option (ClientState GroupPlace)) (steps : List TakenStep) → EndsByItsLast steps → IsUp after → AllByRecursion IsLawfulStep steps
    → LeadPhase phase steps (phase_of after) → after ≡ None
ended_leaves phase after steps its up lawful leads =
    let last = its.last in
    let made : IsLawfulStep last = last_lawful its.earlier last (subst (AllByRecursion IsLawfulStep) its.are lawful) in
    none_ended after up
    (last_leads phase (phase_of after) its.earlier last (subst (λ (s : List TakenStep). LeadPhase phase s (phase_of after)) its.are leads)
    ∙ (ends Calls slot_of last.broker_before last.broker_after last.connection last.at last.phase_before last.phase_after last.input last.packets last.next made).1 its.ends)

-- one that the event opens
opened_stays : (opened : Bool) (opening : Opening) (before after : Option (ClientState GroupPlace)) (steps : List TakenStep) → opened ≡ true → IsUp before → steps ≡ []
    → LeadPhase (first_phase opened opening before) steps (phase_of after) → after ≢ None
opened_stays false opening before after steps is up none leads = absurd (cc)
opened_stays true opening None after steps is up none leads =
    let phase : phase_of after ≡ Unconnected opening = subst (λ (s : List TakenStep). LeadPhase (Unconnected opening) s (phase_of after)) none leads in
    λ gone. (let e = sym phase ∙ ap phase_of gone in cc)
opened_stays true opening (Some client) after steps is up none leads =
    let phase : phase_of after ≡ client.conn.phase = subst (λ (s : List TakenStep). LeadPhase client.conn.phase s (phase_of after)) none leads in
    λ gone. up (sym phase ∙ ap phase_of gone)

-- one that is open after it
was_open : (opened : Bool) (opening : Opening) (before after : Option (ClientState GroupPlace)) (steps : List TakenStep) → (before ≡ None → steps ≡ []) → IsUp after
    → LeadPhase (first_phase opened opening before) steps (phase_of after) → after ≢ None → (before ≢ None) ⊎ (opened ≡ true)
was_open true opening before after steps none up leads there = inr refl
was_open false opening (Some client) after steps none up leads there = inl (λ gone. cc)
was_open false opening None None steps none up leads there = absurd (there refl)
was_open false opening None (Some client) steps none up leads there =
    absurd (up (subst (λ (s : List TakenStep). LeadPhase Ended s client.conn.phase) (none refl) leads))

-- an event that opens a connection has no steps
none_mapped : (steps : List TakenStep) → map conn_step_of steps ≡ [] → steps ≡ []
none_mapped [] none = refl
none_mapped (step ∷ steps) none = absurd (cc)

no_steps : (event : ServerEvent) (number : ℕ) (old new : Clients) (steps : List TakenStep) → opens event number ≡ true → EventIsAnswered event old (map conn_step_of steps) new → steps ≡ []
no_steps (events.Open its) number old new steps opened answer = none_mapped steps answer
no_steps (events.Bytes its piece) number old new steps opened answer = absurd (false≢true opened)
no_steps (events.Tick its) number old new steps opened answer = absurd (false≢true opened)
no_steps (events.End its) number old new steps opened answer = absurd (false≢true opened)
no_steps events.Close number old new steps opened answer = absurd (false≢true opened)

keeps : (event : ServerEvent) (old new : ServerState) (steps : List TakenStep) → AllByRecursion IsLawfulStep steps → AreUp old.clients → AreUp new.clients → AreTakenIn event old steps new
    → EventIsAnswered event old.clients (map conn_step_of steps) new.clients → (number : ℕ) → KeepsConnection event old.clients steps new.clients number
keeps event old new steps lawful up up' taken answer number =
    let opening : Opening = record { at = new.clock; limits = inflight_alone old.max_inflight } in
    let before = client_at old.clients number in
    let after = client_at new.clients number in
    let its = steps_of number steps in
    let first = first_phase (opens event number) opening before in
    record {
      kept = λ there. stays_or_ends (opens event number) opening before after its (up number) there (lawful_of number steps lawful) (taken.phases number);
      ended = λ ends. ended_leaves first after its ends (up' number) (lawful_of number steps lawful) (taken.phases number);
      opened = λ opened.
          opened_stays (opens event number) opening before after its opened (up number)
          (ap (steps_of number) (no_steps event number old.clients new.clients steps opened answer)) (taken.phases number);
      only = λ there. was_open (opens event number) opening before after its (λ none. taken.closed number none) (up' number) (taken.phases number) there;
    }

keeps_if : (open? : Bool) (event : ServerEvent) (old new : ServerState) (steps : List TakenStep) → AllByRecursion IsLawfulStep steps → AreUp old.clients → AreUp new.clients
    → AreTakenIf open? event old steps new → EventIsAnsweredIf open? event old.clients (map conn_step_of steps) new.clients → KeepsConnectionsIf open? event old.clients steps new.clients
keeps_if true event old new steps lawful up up' taken answer = λ number. keeps event old new steps lawful up up' taken answer number
keeps_if false event old new steps lawful up up' taken answer = (taken.0, taken.2)

all_keep : (events : List TimedEvent) (outputs : List StepOutput) (old new : ServerState) → AreUp old.clients → (run : HappensAll old events outputs new) (steps : List TakenStep)
    → (taken : AllAreTaken old events outputs new run steps) → AllKeepConnections old events outputs new run steps taken
all_keep [] outputs old new up run steps taken = tt
all_keep (event ∷ others) outputs old new up run steps taken =
    let mid = run.0 in
    let these = taken.2 in
    let up' = does_up_if old.max_inflight (is_open old.broker) event.event old.broker mid.broker old.clients mid.clients mid.clock run.1 (Ok tt) up run.3.does in (
      keeps_if (is_open old.broker) event.event old mid taken.0 these.lawful up up' these.lead these.answer,
      all_keep others run.2 mid new up' run.4 taken.1 taken.3,
    )

pub kept_in_run : (setup : Setup) (events : List TimedEvent) (outputs : List StepOutput) (first last : ServerState) → IsNewServer setup first → (run : HappensAll first events outputs last)
    → (steps : List TakenStep) (taken : AllAreTaken first events outputs last run steps) → AllKeepConnections first events outputs last run steps taken
kept_in_run setup events outputs first last new run steps taken = all_keep events outputs first last (new_up setup first new) run steps taken

-- an event of another connection
stays_in_cell : (clients clients' : Clients) (number other : ℕ) (Becomes : Option (ClientState GroupPlace) → Option (ClientState GroupPlace) → Type 0) → InCell clients number Becomes clients' → other ≢ number
    → client_at clients' other ≡ client_at clients other
stays_in_cell clients clients' number other Becomes cell apart =
    ap (λ (l : Clients). client_at l other) cell.is ∙ ap open_in (slice_get-set_other clients number other cell.after apart)

pub does_aside : (max_inflight : ℕ) (event : ServerEvent) (old new : Broker) (clients clients' : Clients) (now : ℕ) (outputs : List StepOutput) (result : Result (Unit {0}) NoMemory) (number : ℕ)
    → IsOfAnother event number → Does event max_inflight old clients now outputs result clients' new → client_at clients' number ≡ client_at clients number
does_aside max_inflight (events.Open its) old new clients clients' now outputs result number apart done = stays_in_cell clients clients' its number _ done.0 apart
does_aside max_inflight (events.Bytes its piece) old new clients clients' now outputs result number apart cell = stays_in_cell clients clients' its number _ cell apart
does_aside max_inflight (events.Tick its) old new clients clients' now outputs result number apart cell = stays_in_cell clients clients' its number _ cell apart
does_aside max_inflight (events.End its) old new clients clients' now outputs result number apart cell = stays_in_cell clients clients' its number _ cell apart
does_aside max_inflight events.Close old new clients clients' now outputs result number apart closes = absurd apart

does_aside_if : (max_inflight : ℕ) (open? : Bool) (event : ServerEvent) (old new : Broker) (clients clients' : Clients) (now : ℕ) (outputs : List StepOutput) (result : Result (Unit {0}) NoMemory) (number : ℕ)
    → IsOfAnother event number → DoesIf open? event max_inflight old clients now outputs result clients' new → client_at clients' number ≡ client_at clients number
does_aside_if max_inflight true event old new clients clients' now outputs result number apart done = does_aside max_inflight event old new clients clients' now outputs result number apart done
does_aside_if max_inflight false event old new clients clients' now outputs result number apart done = ap (λ (l : Clients). client_at l number) done.2

pub others_stay : (moment : ℕ) (event : ServerEvent) (outputs : List StepOutput) (result : Result (Unit {0}) NoMemory) (old new : ServerState) (number : ℕ) → Happens old moment event outputs result new
    → IsOfAnother event number → client_at new.clients number ≡ client_at old.clients number
others_stay moment event outputs result old new number happens apart =
    does_aside_if old.max_inflight (is_open old.broker) event old.broker new.broker old.clients new.clients new.clock outputs result number apart happens.does
