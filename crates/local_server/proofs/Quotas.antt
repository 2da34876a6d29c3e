-- The quota of every connection, whatever happens.
use Rattle.std.proofs.Common.{◌≡◌, ℕ, zero, suc, Bool, true, false, List, [], ◌∷◌, Option, Some, None, Result, refl, sym, ap, subst, slice_get, slice_set, replicate}
use Rattle.std.proofs.lemmas.Option.{same_Some}
use Rattle.std.specs.List.{AllByRecursion}
use Rattle.conn_supply.specs.declared.supply.NoMemory.{NoMemory}
use Rattle.conn_engine.specs.declared.input.Input.TheVariants as inputs
use Rattle.conn_engine.specs.declared.phase.ConnectedClient.{ConnectedClient}
use Rattle.conn_engine.specs.declared.phase.ConnPhase.{ConnPhase}
use Rattle.conn_engine.specs.declared.phase.ConnPhase.TheVariants.{Unconnected, Waiting, Connected, Ended}
use Rattle.conn_laws.specs.Quotas.{quota_of, KeepsQuota, IsWithinQuota}
use Rattle.conn_laws.proofs.Quotas as steps
use Rattle.conn_laws.specs.Transcripts.{connected_of}
use Rattle.client_table.specs.Cells.{InCell}
use Rattle.client_table.specs.Clients.{ClientState, StepOutput}
use Rattle.client_table.specs.Quotas.{IsCellWithinQuota}
use Rattle.client_table.proofs.Quotas.{opens, receives, ticks_for, ends_for}
use Rattle.local_broker.specs.Places.{GroupPlace}
use Rattle.local_broker.specs.Broker.{Broker, is_open}
use Rattle.local_broker.specs.Calls.{Calls}
use Rattle.local_server.specs.declared.event.ServerEvent.{ServerEvent}
use Rattle.local_server.specs.declared.event.ServerEvent.TheVariants as events
use Rattle.local_server.specs.declared.event.TimedEvent.{TimedEvent}
use Rattle.conn_rules.specs.declared.setup.Setup.{Setup}
use Rattle.local_server.specs.Servers.{Clients, ServerState, IsNewServer}
use Rattle.local_server.specs.Happening.{slot_of, EndsAt, EndsFirst, ClosesAll, Does, DoesIf, Happens}
use Rattle.local_server.specs.GoingThrough.{GoesThrough}
use Rattle.local_server.specs.Quotas.{AllWithinQuota}
use Rattle.local_server.specs.Transcripts.{connected_in, connected_at}

-- one cell of a row
cell_of : {X : Type 0} (IsSo : X → Type 0) (cells : List X) (number : ℕ) (cell : X) → slice_get cells number ≡ Some cell → AllByRecursion IsSo cells → IsSo cell
cell_of IsSo [] number cell there all = absurd (cc)
cell_of IsSo (first ∷ others) zero cell there all = subst IsSo (same_Some first cell there) all.0
cell_of IsSo (first ∷ others) (suc number) cell there all = cell_of IsSo others number cell there all.1

set_of : {X : Type 0} (IsSo : X → Type 0) (cells : List X) (number : ℕ) (cell : X) → IsSo cell → AllByRecursion IsSo cells → AllByRecursion IsSo (slice_set cells number cell)
set_of IsSo [] number cell is_so all = all
set_of IsSo (first ∷ others) zero cell is_so all = (is_so, all.1)
set_of IsSo (first ∷ others) (suc number) cell is_so all = (all.0, set_of IsSo others number cell is_so all.1)

all_of : {X : Type 0} (IsSo : X → Type 0) (many : ℕ) (cell : X) → IsSo cell → AllByRecursion IsSo (replicate many cell)
all_of IsSo zero cell is_so = tt
all_of IsSo (suc many) cell is_so = (is_so, all_of IsSo many cell is_so)

-- one cell becomes another that is within its quota
in_cell : (old new : Clients) (number : ℕ) (Becomes : Option (ClientState GroupPlace) → Option (ClientState GroupPlace) → Type 0)
    → ((before after : Option (ClientState GroupPlace)) → Becomes before after → IsCellWithinQuota before → IsCellWithinQuota after)
    → InCell old number Becomes new → AllWithinQuota old → AllWithinQuota new
in_cell old new number Becomes keeps cell all =
    let before = cell_of IsCellWithinQuota old number cell.before cell.has all in
    subst AllWithinQuota (sym cell.is) (set_of IsCellWithinQuota old number cell.after (keeps cell.before cell.after cell.becomes before) all)

ended : (number : ℕ) (old new : Broker) (clients clients' : Clients) (now : ℕ) (outputs : List StepOutput) (result : Result (Unit {0}) NoMemory)
    → EndsAt number old clients now outputs result clients' new → AllWithinQuota clients → AllWithinQuota clients'
ended number old new clients clients' now outputs result ends all =
    in_cell clients clients' number _ (λ before after is within. ends_for Calls slot_of IsWithinQuota tt (steps.within Calls slot_of) result before old new now inputs.Closing outputs after is within) ends all

first_ended : (number : ℕ) (old new : Broker) (clients clients' : Clients) (now : ℕ) (outputs : List StepOutput) (result : Result (Unit {0}) NoMemory)
    → EndsFirst number old clients now outputs result clients' new → AllWithinQuota clients → AllWithinQuota clients'
first_ended zero old new clients clients' now outputs result ends all = subst AllWithinQuota (sym ends.2) all
first_ended (suc number) old new clients clients' now outputs result ends all =
    ended number ends.0 new ends.1 clients' now ends.3 ends.5 ends.7 (first_ended number old ends.0 clients ends.1 now ends.2 ends.4 ends.6 all)

closed : (old new : Broker) (clients clients' : Clients) (now : ℕ) (outputs : List StepOutput) (result : Result (Unit {0}) NoMemory) → ClosesAll old clients now outputs result clients' new
    → AllWithinQuota clients → AllWithinQuota clients'
closed old new clients clients' now outputs result closes all = first_ended closes.2 closes.0 new clients clients' now outputs result closes.4 all

does : (max_inflight : ℕ) (event : ServerEvent) (old new : Broker) (clients clients' : Clients) (now : ℕ) (outputs : List StepOutput) (result : Result (Unit {0}) NoMemory)
    → Does event max_inflight old clients now outputs result clients' new → AllWithinQuota clients → AllWithinQuota clients'
does max_inflight (events.Open number) old new clients clients' now outputs result done all =
    in_cell clients clients' number _ (λ before after is within. opens number _ before after is within) done.0 all
does max_inflight (events.Bytes number piece) old new clients clients' now outputs result done all =
    in_cell clients clients' number _ (λ before after is within. receives Calls slot_of IsWithinQuota tt (steps.within Calls slot_of) result before old new now piece outputs after is within) done all
does max_inflight (events.Tick number) old new clients clients' now outputs result done all =
    in_cell clients clients' number _ (λ before after is within. ticks_for Calls slot_of IsWithinQuota tt (steps.within Calls slot_of) result before old new now outputs after is within) done all
does max_inflight (events.End number) old new clients clients' now outputs result done all =
    in_cell clients clients' number _ (λ before after is within. ends_for Calls slot_of IsWithinQuota tt (steps.within Calls slot_of) result before old new now inputs.EndOfInput outputs after is within) done all
does max_inflight events.Close old new clients clients' now outputs result done all = closed old new clients clients' now outputs result done all

does_if : (max_inflight : ℕ) (going : Bool) (event : ServerEvent) (old new : Broker) (clients clients' : Clients) (now : ℕ) (outputs : List StepOutput) (result : Result (Unit {0}) NoMemory)
    → DoesIf going event max_inflight old clients now outputs result clients' new → AllWithinQuota clients → AllWithinQuota clients'
does_if max_inflight true event old new clients clients' now outputs result done all = does max_inflight event old new clients clients' now outputs result done all
does_if max_inflight false event old new clients clients' now outputs result done all = subst AllWithinQuota (sym done.2) all

pub happened : (moment : ℕ) (event : ServerEvent) (outputs : List StepOutput) (result : Result (Unit {0}) NoMemory) (old new : ServerState) → Happens old moment event outputs result new
    → AllWithinQuota old.clients → AllWithinQuota new.clients
happened moment event outputs result old new happens all = does_if _ (is_open old.broker) event old.broker new.broker old.clients new.clients new.clock outputs result happens.does all

undergone : (events : List TimedEvent) (old new : ServerState) → GoesThrough old events new → AllWithinQuota old.clients → AllWithinQuota new.clients
undergone [] old new same all = subst AllWithinQuota (sym (ap (λ s. s.clients) same)) all
undergone (first ∷ others) old new run all = undergone others run.0 new run.4 (happened first.moment first.event run.1 run.2 old run.0 run.3 all)

pub new_within : (setup : Setup) (first : ServerState) → IsNewServer setup first → AllWithinQuota first.clients
new_within setup first new = subst AllWithinQuota (sym new.clients) (all_of (IsCellWithinQuota {P = GroupPlace}) 64 None tt)

pub within : (setup : Setup) (events : List TimedEvent) (first last : ServerState) → IsNewServer setup first → GoesThrough first events last → AllWithinQuota last.clients
within setup events first last new run = undergone events first last run (new_within setup first new)

-- so what a connection has keeps the quota of its CONNECT
client_in_phase : (phase : ConnPhase GroupPlace) (connected : ConnectedClient GroupPlace) → connected_of phase ≡ Some connected → IsWithinQuota phase
    → KeepsQuota (quota_of connected.terms) connected.session.window
client_in_phase (Unconnected opened) connected is within = absurd (cc)
client_in_phase (Waiting request ticks) connected is within = absurd (cc)
client_in_phase (Connected its) connected is within = subst (λ (l : ConnectedClient GroupPlace). KeepsQuota (quota_of l.terms) l.session.window) (same_Some its connected is) within
client_in_phase Ended connected is within = absurd (cc)

connected_in_cell : (cell : Option (Option (ClientState GroupPlace))) (clients : Clients) (number : ℕ) (connected : ConnectedClient GroupPlace) → slice_get clients number ≡ cell
    → connected_in cell ≡ Some connected → AllWithinQuota clients → KeepsQuota (quota_of connected.terms) connected.session.window
connected_in_cell None clients number connected there is all = absurd (cc)
connected_in_cell (Some None) clients number connected there is all = absurd (cc)
connected_in_cell (Some (Some client)) clients number connected there is all =
    client_in_phase client.conn.phase connected is (cell_of IsCellWithinQuota clients number (Some client) there all)

pub keeps_quota : (clients : Clients) (number : ℕ) (connected : ConnectedClient GroupPlace) → AllWithinQuota clients → connected_at clients number ≡ Some connected
    → KeepsQuota (quota_of connected.terms) connected.session.window
keeps_quota clients number connected all is = connected_in_cell (slice_get clients number) clients number connected refl is all
