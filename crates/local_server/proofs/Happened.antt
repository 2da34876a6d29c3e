-- What becomes of a broker in a run of its server.
use Rattle.std.proofs.Common.{◌≡◌, ℕ, ◌≤◌, zero, suc, Bool, true, false, List, [], ◌∷◌, ◌++◌, map, Option, Ok, Err, IsOk, Result, refl, sym, ap, subst, ◌∙◌}
use Rattle.std.specs.Result.{result_and}
use Rattle.std.specs.List.{cons_option}
use Rattle.std.proofs.lemmas.Bool.{false≢true}
use Rattle.std.proofs.lemmas.List.Elements.{filter_map-append}
use Rattle.dispatch_core.proofs.RunLaws.{lawful_run}
use Rattle.limits.specs.Limits.{default_sessions}
use Rattle.session_desk.specs.Hands.{DeskLaw, living_in}
use Rattle.conn_supply.specs.declared.supply.NoMemory.{NoMemory}
use Rattle.conn_supply.specs.SupplyCalls.{SupplyCall}
use Rattle.conn_engine.specs.declared.input.Input.{Input}
use Rattle.conn_engine.specs.declared.input.Input.TheVariants as inputs
use Rattle.conn_laws.specs.Calls.{hand_out_of, handed, Outcome, hand_outs_of, sent_of, contents_of, MakesAll, CallsLead}
use Rattle.conn_laws.proofs.HandingOut.{hands_of_both}
use Rattle.client_table.specs.Clients.{ClientState, StepOutput}
use Rattle.client_table.specs.Cells.{Receives, TicksFor, EndsFor}
use Rattle.client_table.specs.Deliveries.{fresh_sent, Delivers}
use Rattle.client_table.proofs.Calling.{fresh_sent-append, contents_of_both, receives_told, ticks_told, ends_told, receives, ticks_for, ends_for}
use Rattle.local_broker.specs.Places.{GroupPlace}
use Rattle.local_broker.specs.Broker.{Broker, is_open}
use Rattle.local_broker.specs.Calls.{Calls, Closes}
use Rattle.local_broker.specs.HandOuts.{handed_by, handed_by_all, seen_by_group}
use Rattle.local_broker.specs.Histories.{Happening, HappensAll as HappensToBroker}
use Rattle.local_broker.specs.Histories.Happening.{Called, Closed}
use Rattle.local_broker.proofs.HandedOut.{handed_all}
use Rattle.local_broker.proofs.Happened.{running_all, running_first, law_all_along, few_all_along, new_desk, new_few}
use Rattle.local_server.specs.declared.event.ServerEvent.{ServerEvent}
use Rattle.local_server.specs.declared.event.ServerEvent.TheVariants as events
use Rattle.local_server.specs.declared.event.TimedEvent.{TimedEvent}
use Rattle.conn_rules.specs.declared.setup.Setup.{Setup}
use Rattle.local_server.specs.Servers.{Clients, ServerState, IsNewServer}
use Rattle.local_server.specs.Happening.{slot_of, EndsAt, EndsFirst, ClosesAll, Does, DoesIf, Happens, HappensAll}
use Rattle.local_server.specs.GoingThrough.{GoesThrough}
use Rattle.local_server.specs.Deliveries.{HandsOutWhatIsSent}
use Rattle.local_server.specs.Runs.{IsReachedBy, AllRunLawfully}

-- what was handed out is what was said, but for what was discarded
record Told (happenings : List Happening) (outputs : List StepOutput) : Type 0 where
  outcomes : List (Outcome GroupPlace)
  handed_out : handed_by_all happenings ≡ hand_outs_of outcomes
  sent : fresh_sent outputs ≡ contents_of (sent_of outcomes)

-- what happened to a broker in an event by which this was said; what was said is what was handed out, where no allocation failed
record Ran (result : Result (Unit {0}) NoMemory) (old : Broker) (outputs : List StepOutput) (new : Broker) : Type 0 where
  happenings : List Happening
  led : HappensToBroker old happenings new
  told : IsOk result → Told happenings outputs

still : (result : Result (Unit {0}) NoMemory) (old new : Broker) (outputs : List StepOutput) → outputs ≡ [] → new ≡ old → Ran result old outputs new
still result old new outputs none same = record { happenings = []; led = same; told = λ ok. record { outcomes = []; handed_out = refl; sent = ap fresh_sent none } }

pub joins : (happenings others : List Happening) (old mid new : Broker) → HappensToBroker old happenings mid → HappensToBroker mid others new → HappensToBroker old (happenings ++ others) new
joins [] others old mid new these those = subst (λ b. HappensToBroker b others new) these those
joins (happening ∷ happenings) others old mid new these those = (these.0, these.1, joins happenings others these.0 mid new these.2 those)

-- what is said first and then, and what is handed out first and then
told_behind : (outputs more all : List StepOutput) (happenings others : List Happening) → all ≡ outputs ++ more → Told happenings outputs → Told others more → Told (happenings ++ others) all
told_behind outputs more all happenings others is these those =
    record {
      outcomes = these.outcomes ++ those.outcomes;
      handed_out = filter_map-append handed_by happenings others ∙ (λ i. these.handed_out i ++ those.handed_out i) ∙ sym (hands_of_both these.outcomes those.outcomes);
      sent = ap fresh_sent is ∙ fresh_sent-append outputs more ∙ (λ i. these.sent i ++ those.sent i) ∙ sym (contents_of_both these.outcomes those.outcomes);
    }

pub first_ok : (first then : Result (Unit {0}) NoMemory) → IsOk (result_and first then) → IsOk first
first_ok (Ok done) then ok = refl
first_ok (Err error) then ok = ok

pub then_ok : (first then : Result (Unit {0}) NoMemory) → IsOk (result_and first then) → IsOk then
then_ok (Ok done) then ok = ok
then_ok (Err error) then ok = absurd (false≢true ok)

behind : (first then : Result (Unit {0}) NoMemory) (old mid new : Broker) (outputs more all : List StepOutput) → all ≡ outputs ++ more → Ran first old outputs mid → Ran then mid more new
    → Ran (result_and first then) old all new
behind first then old mid new outputs more all is these those =
    record {
      happenings = these.happenings ++ those.happenings;
      led = joins these.happenings those.happenings old mid new these.led those.led;
      told = λ ok. told_behind outputs more all these.happenings those.happenings is (these.told (first_ok first then ok)) (those.told (then_ok first then ok));
    }

-- calls of connections
pub called : (supply_calls : List (SupplyCall GroupPlace)) (old new : Broker) → MakesAll Calls old supply_calls new → HappensToBroker old (map Called supply_calls) new
called [] old new same = same
called (supply_call ∷ supply_calls) old new made = (made.0, made.1, called supply_calls made.0 new made.2)

pub handed_by_calls : (supply_calls : List (SupplyCall GroupPlace)) → handed_by_all (map Called supply_calls) ≡ handed supply_calls
handed_by_calls [] = refl
handed_by_calls (supply_call ∷ supply_calls) = ap (cons_option (hand_out_of supply_call)) (handed_by_calls supply_calls)

by_calls : (result : Result (Unit {0}) NoMemory) (old new : Broker) (outputs : List StepOutput) → Delivers Calls old outputs new → Ran result old outputs new
by_calls result old new outputs calls =
    record {
      happenings = map Called calls.supply_calls;
      led = called calls.supply_calls old new calls.made;
      told = λ ok. record { outcomes = calls.outcomes; handed_out = handed_by_calls calls.supply_calls ∙ calls.handed_out; sent = calls.told };
    }

cut_short : (error : NoMemory) (old new : Broker) (outputs : List StepOutput) → CallsLead Calls old new → Ran (Err error) old outputs new
cut_short error old new outputs calls = record { happenings = map Called calls.0; led = called calls.0 old new calls.1; told = λ ok. absurd (false≢true ok) }

-- what happens to the client of a number
received : (result : Result (Unit {0}) NoMemory) (old new : Broker) (before after : Option (ClientState GroupPlace)) (now : ℕ) (piece : List ℕ) (outputs : List StepOutput)
    → Receives Calls slot_of old before now piece outputs result after new → Ran result old outputs new
received (Ok done) old new before after now piece outputs does = by_calls (Ok done) old new outputs (receives_told Calls slot_of before old new now piece outputs after does)
received (Err error) old new before after now piece outputs does = cut_short error old new outputs (receives Calls slot_of (Err error) before old new now piece outputs after does)

ticked : (result : Result (Unit {0}) NoMemory) (old new : Broker) (before after : Option (ClientState GroupPlace)) (now : ℕ) (outputs : List StepOutput)
    → TicksFor Calls slot_of old before now outputs result after new → Ran result old outputs new
ticked (Ok done) old new before after now outputs does = by_calls (Ok done) old new outputs (ticks_told Calls slot_of before old new now outputs after does)
ticked (Err error) old new before after now outputs does = cut_short error old new outputs (ticks_for Calls slot_of (Err error) before old new now outputs after does)

ended : (result : Result (Unit {0}) NoMemory) (old new : Broker) (before after : Option (ClientState GroupPlace)) (now : ℕ) (input : Input) (outputs : List StepOutput)
    → EndsFor Calls slot_of old before now input outputs result after new → Ran result old outputs new
ended (Ok done) old new before after now input outputs does = by_calls (Ok done) old new outputs (ends_told Calls slot_of before old new now input outputs after does)
ended (Err error) old new before after now input outputs does = cut_short error old new outputs (ends_for Calls slot_of (Err error) before old new now input outputs after does)

-- the close
ended_at : (number : ℕ) (result : Result (Unit {0}) NoMemory) (old new : Broker) (clients clients' : Clients) (now : ℕ) (outputs : List StepOutput)
    → EndsAt number old clients now outputs result clients' new → Ran result old outputs new
ended_at number result old new clients clients' now outputs ends = ended result old new ends.before ends.after now inputs.Closing outputs ends.becomes

first_ended : (number : ℕ) (old new : Broker) (clients clients' : Clients) (now : ℕ) (outputs : List StepOutput) (result : Result (Unit {0}) NoMemory)
    → EndsFirst number old clients now outputs result clients' new → Ran result old outputs new
first_ended zero old new clients clients' now outputs result ends = still result old new outputs ends.0 ends.3
first_ended (suc number) old new clients clients' now outputs result ends =
    subst (λ r. Ran r old outputs new) (sym ends.9)
    (behind ends.4 ends.5 old ends.0 new ends.2 ends.3 outputs ends.8 (first_ended number old ends.0 clients ends.1 now ends.2 ends.4 ends.6) (ended_at number ends.5 ends.0 new ends.1 clients' now ends.3 ends.7))

pub each_ended : (number : ℕ) (old new : Broker) (clients clients' : Clients) (now : ℕ) (outputs : List StepOutput) (result : Result (Unit {0}) NoMemory)
    → EndsFirst number old clients now outputs result clients' new → IsReachedBy old new
each_ended number old new clients clients' now outputs result ends = let run = first_ended number old new clients clients' now outputs result ends in (run.happenings, run.led)

all_closed : (old closed : Broker) → Closes old closed → Ran (Ok tt) old [] closed
all_closed old closed closes = record { happenings = Closed ∷ []; led = (closed, closes, refl); told = λ ok. record { outcomes = []; handed_out = refl; sent = refl } }

closed : (result : Result (Unit {0}) NoMemory) (old new : Broker) (clients clients' : Clients) (now : ℕ) (outputs : List StepOutput)
    → ClosesAll old clients now outputs result clients' new → Ran result old outputs new
closed result old new clients clients' now outputs closes =
    behind (Ok tt) result old closes.0 new [] outputs outputs refl (all_closed old closes.0 closes.1) (first_ended closes.2 closes.0 new clients clients' now outputs result closes.4)

does : (max_inflight : ℕ) (event : ServerEvent) (old new : Broker) (clients clients' : Clients) (now : ℕ) (outputs : List StepOutput) (result : Result (Unit {0}) NoMemory)
    → Does event max_inflight old clients now outputs result clients' new → Ran result old outputs new
does max_inflight (events.Open number) old new clients clients' now outputs result done = still result old new outputs done.2 done.1
does max_inflight (events.Bytes number piece) old new clients clients' now outputs result done = received result old new done.before done.after now piece outputs done.becomes
does max_inflight (events.Tick number) old new clients clients' now outputs result done = ticked result old new done.before done.after now outputs done.becomes
does max_inflight (events.End number) old new clients clients' now outputs result done = ended result old new done.before done.after now inputs.EndOfInput outputs done.becomes
does max_inflight events.Close old new clients clients' now outputs result done = closed result old new clients clients' now outputs done

does_if : (max_inflight : ℕ) (open? : Bool) (event : ServerEvent) (old new : Broker) (clients clients' : Clients) (now : ℕ) (outputs : List StepOutput) (result : Result (Unit {0}) NoMemory)
    → DoesIf open? event max_inflight old clients now outputs result clients' new → Ran result old outputs new
does_if max_inflight true event old new clients clients' now outputs result done = does max_inflight event old new clients clients' now outputs result done
does_if max_inflight false event old new clients clients' now outputs result done = still result old new outputs done.0 done.3

ran : (moment : ℕ) (event : ServerEvent) (outputs : List StepOutput) (result : Result (Unit {0}) NoMemory) (old new : ServerState) → Happens old moment event outputs result new → Ran result old.broker outputs new.broker
ran moment event outputs result old new happens = does_if _ (is_open old.broker) event old.broker new.broker old.clients new.clients new.clock outputs result happens.does

pub happened : (moment : ℕ) (event : ServerEvent) (outputs : List StepOutput) (result : Result (Unit {0}) NoMemory) (old new : ServerState) → Happens old moment event outputs result new → IsReachedBy old.broker new.broker
happened moment event outputs result old new happens = let run = ran moment event outputs result old new happens in (run.happenings, run.led)

all_ran : (events : List TimedEvent) (outputs : List StepOutput) (old new : ServerState) → HappensAll old events outputs new → Ran (Ok tt) old.broker outputs new.broker
all_ran [] outputs old new all = still (Ok tt) old.broker new.broker outputs all.0 (ap (λ s. s.broker) all.1)
all_ran (first ∷ others) outputs old new all =
    behind (Ok tt) (Ok tt) old.broker all.0.broker new.broker all.1 all.2 outputs all.5 (ran first.moment first.event all.1 (Ok tt) old all.0 all.3) (all_ran others all.2 all.0 new all.4)

pub all_happened : (events : List TimedEvent) (outputs : List StepOutput) (old new : ServerState) → HappensAll old events outputs new → IsReachedBy old.broker new.broker
all_happened events outputs old new all = let run = all_ran events outputs old new all in (run.happenings, run.led)

-- the same, whether an allocation failed or not
pub undergone : (events : List TimedEvent) (old new : ServerState) → GoesThrough old events new → IsReachedBy old.broker new.broker
undergone [] old new same = ([], ap (λ s. s.broker) same)
undergone (first ∷ others) old new all =
    let one = happened first.moment first.event all.1 all.2 old all.0 all.3 in
    let rest = undergone others all.0 new all.4 in
    (one.0 ++ rest.0, joins one.0 rest.0 old.broker all.0.broker new.broker one.1 rest.1)

pub undergoes : (events : List TimedEvent) (outputs : List StepOutput) (old new : ServerState) → HappensAll old events outputs new → GoesThrough old events new
undergoes [] outputs old new all = all.1
undergoes (first ∷ others) outputs old new all = (all.0, all.1, Ok tt, all.3, undergoes others all.2 all.0 new all.4)

-- what is handed out in a run is what is said
pub hands : (setup : Setup) (events : List TimedEvent) (outputs : List StepOutput) (first last : ServerState) → IsNewServer setup first → HappensAll first events outputs last → HandsOutWhatIsSent last outputs
hands setup events outputs first last new all =
    let run = all_ran events outputs first last all in
    let told = run.told refl in
    record {
      outcomes = told.outcomes;
      sent = told.sent;
      handed = λ slot group there.
          handed_all setup.capacity setup.groups run.happenings first.broker last.broker new.broker run.led slot group there ∙ ap (seen_by_group slot) told.handed_out;
    }

pub runs : (setup : Setup) (events : List TimedEvent) (first last : ServerState) → IsNewServer setup first → GoesThrough first events last → AllRunLawfully last.broker
runs setup events first last new all slot group there =
    let led = undergone events first last all in
    let running = running_all led.0 first.broker last.broker (running_first setup.capacity setup.groups first.broker new.broker) led.1 slot group there in
    record { run = running.run; lawful = lawful_run group.events group.state running.run }

pub desk : (setup : Setup) (events : List TimedEvent) (first last : ServerState) → IsNewServer setup first → GoesThrough first events last → DeskLaw last.broker.desk.rows last.broker.desk.made
desk setup events first last new all =
    let led = undergone events first last all in
    law_all_along led.0 first.broker last.broker (new_desk setup.capacity setup.groups first.broker new.broker) led.1

pub few : (setup : Setup) (events : List TimedEvent) (first last : ServerState) → IsNewServer setup first → GoesThrough first events last → living_in last.broker.desk.rows ≤ default_sessions
few setup events first last new all =
    let led = undergone events first last all in
    few_all_along led.0 first.broker last.broker (new_desk setup.capacity setup.groups first.broker new.broker) (new_few setup.capacity setup.groups first.broker new.broker) led.1

-- after the close
passed : (moment : ℕ) (event : ServerEvent) (outputs : List StepOutput) (old new : ServerState) → is_open old.broker ≡ false → Happens old moment event outputs (Ok tt) new
    → (outputs ≡ []) × (new.broker ≡ old.broker) × (new.clients ≡ old.clients)
passed moment event outputs old new shut happens =
    let done : DoesIf false event old.max_inflight old.broker old.clients new.clock outputs (Ok tt) new.clients new.broker =
    subst (λ b. DoesIf b event old.max_inflight old.broker old.clients new.clock outputs (Ok tt) new.clients new.broker) shut happens.does in
    (done.0, done.3, done.2)

pub all_passed : (events : List TimedEvent) (outputs : List StepOutput) (old new : ServerState) → is_open old.broker ≡ false → HappensAll old events outputs new
    → (outputs ≡ []) × (new.broker ≡ old.broker) × (new.clients ≡ old.clients)
all_passed [] outputs old new shut all = (all.0, ap (λ s. s.broker) all.1, ap (λ s. s.clients) all.1)
all_passed (first ∷ others) outputs old new shut all =
    let one = passed first.moment first.event all.1 old all.0 shut all.3 in
    let rest = all_passed others all.2 all.0 new (ap is_open one.1 ∙ shut) all.4 in
    (all.5 ∙ ap (λ xs. xs ++ all.2) one.0 ∙ rest.0, rest.1 ∙ one.1, rest.2 ∙ one.2)
