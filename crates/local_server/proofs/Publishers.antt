-- What a group accepts in an event comes from its connection.
use Rattle.std.proofs.Common.{◌≡◌, ℕ, Bool, true, false, List, Result, ap}
use Rattle.conn_supply.specs.declared.supply.NoMemory.{NoMemory}
use Rattle.conn_engine.specs.declared.input.Input.TheVariants as inputs
use Rattle.client_table.specs.Clients.{StepOutput}
use Rattle.client_table.proofs.Publishers.{receives, ticks_for, ends_for}
use Rattle.local_broker.specs.Broker.{Broker, is_open}
use Rattle.local_broker.specs.Calls.{Calls}
use Rattle.local_broker.specs.Publishers.{AcceptsThrough, AcceptsNothing}
use Rattle.local_broker.proofs.Publishers.{still, published, behind_close}
use Rattle.local_server.specs.declared.event.ServerEvent.{ServerEvent}
use Rattle.local_server.specs.declared.event.ServerEvent.TheVariants as events
use Rattle.local_server.specs.Servers.{Clients, ServerState}
use Rattle.local_server.specs.Addressed.{AreNumbered}
use Rattle.local_server.specs.Happening.{slot_of, Does, DoesIf, Happens}
use Rattle.local_server.specs.Publishers.{AcceptsFrom}
use Rattle.local_server.proofs.Addressed.{at}
use Rattle.local_server.proofs.Happened.{each_ended}

does : (max_inflight : ℕ) (event : ServerEvent) (old new : Broker) (clients clients' : Clients) (now : ℕ) (outputs : List StepOutput) (result : Result (Unit {0}) NoMemory)
    → AreNumbered clients → Does event max_inflight old clients now outputs result clients' new → AcceptsFrom event old new
does max_inflight (events.Open number) old new clients clients' now outputs result all done = still (AcceptsThrough number) old new (ap (λ b. b.groups) done.1)
does max_inflight (events.Bytes number piece) old new clients clients' now outputs result all cell =
    published number old new (receives Calls slot_of result cell.before number old new now piece outputs cell.after (at cell.before clients number all cell.has) cell.becomes)
does max_inflight (events.Tick number) old new clients clients' now outputs result all cell =
    published number old new (ticks_for Calls slot_of result cell.before number old new now outputs cell.after (at cell.before clients number all cell.has) cell.becomes)
does max_inflight (events.End number) old new clients clients' now outputs result all cell =
    published number old new (ends_for Calls slot_of result cell.before number old new now inputs.EndOfInput outputs cell.after (at cell.before clients number all cell.has) cell.becomes)
does max_inflight events.Close old new clients clients' now outputs result all closes =
    let ended = each_ended closes.2 closes.0 new clients clients' now outputs result closes.4 in
    behind_close ended.0 old closes.0 new closes.1 ended.1

nothing : (event : ServerEvent) (old new : Broker) → new ≡ old → AcceptsFrom event old new
nothing (events.Open number) old new same = still (AcceptsThrough number) old new (ap (λ b. b.groups) same)
nothing (events.Bytes number piece) old new same = still (AcceptsThrough number) old new (ap (λ b. b.groups) same)
nothing (events.Tick number) old new same = still (AcceptsThrough number) old new (ap (λ b. b.groups) same)
nothing (events.End number) old new same = still (AcceptsThrough number) old new (ap (λ b. b.groups) same)
nothing events.Close old new same = still AcceptsNothing old new (ap (λ b. b.groups) same)

does_if : (max_inflight : ℕ) (open? : Bool) (event : ServerEvent) (old new : Broker) (clients clients' : Clients) (now : ℕ) (outputs : List StepOutput) (result : Result (Unit {0}) NoMemory)
    → AreNumbered clients → DoesIf open? event max_inflight old clients now outputs result clients' new → AcceptsFrom event old new
does_if max_inflight true event old new clients clients' now outputs result all done = does max_inflight event old new clients clients' now outputs result all done
does_if max_inflight false event old new clients clients' now outputs result all done = nothing event old new done.3

pub accepted : (moment : ℕ) (event : ServerEvent) (outputs : List StepOutput) (result : Result (Unit {0}) NoMemory) (old new : ServerState) → AreNumbered old.clients → Happens old moment event outputs result new
    → AcceptsFrom event old.broker new.broker
accepted moment event outputs result old new all happens = does_if _ (is_open old.broker) event old.broker new.broker old.clients new.clients new.clock outputs result all happens.does
