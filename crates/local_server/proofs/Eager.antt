-- What was given back is handed out first, in every run of a server.
use Rattle.std.proofs.Common.{◌≡◌, ℕ, zero, suc, Bool, true, false, List, [], ◌∷◌, Ok, Result, sym, ap, subst}
use Rattle.conn_supply.specs.declared.supply.NoMemory.{NoMemory}
use Rattle.conn_engine.specs.declared.input.Input.TheVariants as inputs
use Rattle.client_table.specs.Clients.{StepOutput}
use Rattle.client_table.proofs.ReturnedFirst.{receives, ticks_for, ends_for}
use Rattle.local_broker.specs.Broker.{Broker, is_open}
use Rattle.local_broker.specs.Calls.{Calls}
use Rattle.local_broker.specs.ReturnedFirst.{AllServeReturnedFirst}
use Rattle.local_broker.proofs.ReturnedFirst.{begins_first, stays_first, stays_first_closed}
use Rattle.local_server.specs.declared.event.ServerEvent.{ServerEvent}
use Rattle.local_server.specs.declared.event.ServerEvent.TheVariants as events
use Rattle.local_server.specs.declared.event.TimedEvent.{TimedEvent}
use Rattle.conn_rules.specs.declared.setup.Setup.{Setup}
use Rattle.local_server.specs.Servers.{Clients, ServerState, IsNewServer}
use Rattle.local_server.specs.Happening.{slot_of, EndsFirst, Does, DoesIf, Happens, HappensAll}
use Rattle.local_server.specs.Eager.{AllHandReturnedFirst}

unchanged : (old new : Broker) → new ≡ old → AllServeReturnedFirst old → AllServeReturnedFirst new
unchanged old new same all = subst AllServeReturnedFirst (sym same) all

-- one connection after another ends
all_end : (number : ℕ) (old new : Broker) (clients clients' : Clients) (now : ℕ) (outputs : List StepOutput) (result : Result (Unit {0}) NoMemory)
    → EndsFirst number old clients now outputs result clients' new → AllServeReturnedFirst old → AllServeReturnedFirst new
all_end zero old new clients clients' now outputs result ends all = unchanged old new ends.3 all
all_end (suc number) old new clients clients' now outputs result ends all =
    stays_first ends.0 new (ends_for Calls slot_of ends.5 ends.7.before ends.0 new now inputs.Closing ends.3 ends.7.after ends.7.becomes)
    (all_end number old ends.0 clients ends.1 now ends.2 ends.4 ends.6 all)

does : (max_inflight : ℕ) (event : ServerEvent) (old new : Broker) (clients clients' : Clients) (now : ℕ) (outputs : List StepOutput) (result : Result (Unit {0}) NoMemory)
    → Does event max_inflight old clients now outputs result clients' new → AllServeReturnedFirst old → AllServeReturnedFirst new
does max_inflight (events.Open number) old new clients clients' now outputs result done all = unchanged old new done.1 all
does max_inflight (events.Bytes number piece) old new clients clients' now outputs result done all =
    stays_first old new (receives Calls slot_of result done.before old new now piece outputs done.after done.becomes) all
does max_inflight (events.Tick number) old new clients clients' now outputs result done all =
    stays_first old new (ticks_for Calls slot_of result done.before old new now outputs done.after done.becomes) all
does max_inflight (events.End number) old new clients clients' now outputs result done all =
    stays_first old new (ends_for Calls slot_of result done.before old new now inputs.EndOfInput outputs done.after done.becomes) all
does max_inflight events.Close old new clients clients' now outputs result done all =
    all_end done.2 done.0 new clients clients' now outputs result done.4 (stays_first_closed old done.0 done.1 all)

does_if : (max_inflight : ℕ) (going : Bool) (event : ServerEvent) (old new : Broker) (clients clients' : Clients) (now : ℕ) (outputs : List StepOutput) (result : Result (Unit {0}) NoMemory)
    → DoesIf going event max_inflight old clients now outputs result clients' new → AllServeReturnedFirst old → AllServeReturnedFirst new
does_if max_inflight true event old new clients clients' now outputs result done all = does max_inflight event old new clients clients' now outputs result done all
does_if max_inflight false event old new clients clients' now outputs result done all = unchanged old new done.3 all

happens : (moment : ℕ) (event : ServerEvent) (outputs : List StepOutput) (result : Result (Unit {0}) NoMemory) (old new : ServerState) → Happens old moment event outputs result new
    → AllServeReturnedFirst old.broker → AllServeReturnedFirst new.broker
happens moment event outputs result old new happened all =
    does_if _ (is_open old.broker) event old.broker new.broker old.clients new.clients new.clock outputs result happened.does all

stays : (events : List TimedEvent) (outputs : List StepOutput) (old new : ServerState) → HappensAll old events outputs new → AllServeReturnedFirst old.broker → AllServeReturnedFirst new.broker
stays [] outputs old new run all = unchanged old.broker new.broker (ap (λ s. s.broker) run.1) all
stays (first ∷ others) outputs old new run all =
    stays others run.2 run.0 new run.4 (happens first.moment first.event run.1 (Ok tt) old run.0 run.3 all)

served : (setup : Setup) (events : List TimedEvent) (outputs : List StepOutput) (first last : ServerState) → IsNewServer setup first → HappensAll first events outputs last
    → AllServeReturnedFirst last.broker
served setup events outputs first last new run = stays events outputs first last run (begins_first setup.capacity setup.groups first.broker new.broker)

pub eager : (setup : Setup) (events : List TimedEvent) (outputs : List StepOutput) (first last : ServerState) → IsNewServer setup first → HappensAll first events outputs last
    → AllHandReturnedFirst last.broker
eager setup events outputs first last new run slot group there = (served setup events outputs first last new run slot group there).first

pub eager_next : (setup : Setup) (events : List TimedEvent) (earlier outputs : List StepOutput) (moment : ℕ) (event : ServerEvent) (result : Result (Unit {0}) NoMemory) (first old new : ServerState)
    → IsNewServer setup first → HappensAll first events earlier old → Happens old moment event outputs result new → AllHandReturnedFirst new.broker
eager_next setup events earlier outputs moment event result first old new begins run happened slot group there =
    (happens moment event outputs result old new happened (served setup events earlier first old begins run) slot group there).first
