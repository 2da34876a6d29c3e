-- A close ends every connection.
use Rattle.std.proofs.Common.{◌≡◌, ◌≢◌, ℕ, zero, suc, Bool, true, false, List, Option, Some, None, Result, Ok, Err, sym, ap, subst, ◌∙◌, ⊎_elim, slice_get, slice_set, arith}
use Rattle.std.proofs.lemmas.Bool.{cases_eq}
use Rattle.std.proofs.lemmas.Option.{slice_get_within}
use Rattle.dispatch_core.proofs.Spots.{slice_get-set_same, slice_get-set_other}
use Rattle.conn_supply.specs.declared.supply.NoMemory.{NoMemory}
use Rattle.conn_engine.specs.declared.input.Input.TheVariants as inputs
use Rattle.conn_engine.specs.declared.phase.ConnPhase.{ConnPhase}
use Rattle.conn_engine.specs.declared.phase.ConnPhase.TheVariants.{Ended}
use Rattle.conn_laws.proofs.Ended.{ends_by}
use Rattle.client_table.specs.Cells.{kept_as, EndsFor}
use Rattle.client_table.specs.Clients.{ClientState, moment_of, StepOutput, ClientSteps, ClientFailsToStep, IsGivenUp}
use Rattle.local_broker.specs.Places.{GroupPlace}
use Rattle.local_broker.specs.Broker.{Broker, is_open}
use Rattle.local_broker.specs.Calls.{Calls}
use Rattle.local_server.specs.declared.event.ServerEvent.TheVariants as events
use Rattle.local_server.specs.Servers.{Clients, ServerState, HasNoneBelow}
use Rattle.local_server.specs.Happening.{slot_of, EndsFirst, DoesIf, Happens}

gone_as : (phase : ConnPhase GroupPlace) (client : ClientState GroupPlace) → phase ≡ Ended → kept_as phase client ≡ None
gone_as phase client over = ap (λ s. kept_as s client) over

-- a connection that is told of the close has ended
has_ended : (client client' : ClientState GroupPlace) (old new : Broker) (now : ℕ) (output : StepOutput) → ClientSteps Calls slot_of old client now inputs.Closing output client' new
    → client'.conn.phase ≡ Ended
has_ended client client' old new now output moved =
    ends_by Calls slot_of old new client.conn.number (moment_of client now) client.conn.phase client'.conn.phase inputs.Closing output.packets output.next moved.stepped tt

was_given_up : (client client' : ClientState GroupPlace) (old new : Broker) (now : ℕ) → IsGivenUp Calls slot_of old client now inputs.Closing client' new
    → client'.conn.phase ≡ Ended
was_given_up client client' old new now is =
    ⊎_elim
    (λ (moved : (output : StepOutput) × ClientSteps Calls slot_of old client now inputs.Closing output client' new). has_ended client client' old new now moved.0 moved.1)
    (λ (failed : ClientFailsToStep Calls slot_of old client now inputs.Closing client' new). failed.over)
    is

gone : (before : Option (ClientState GroupPlace)) (old new : Broker) (now : ℕ) (outputs : List StepOutput) (result : Result (Unit {0}) NoMemory) (after : Option (ClientState GroupPlace))
    → EndsFor Calls slot_of old before now inputs.Closing outputs result after new → after ≡ None
gone None old new now outputs (Ok done) after ends = ends.1
gone (Some client) old new now outputs (Ok done) after ends = ends.2 ∙ gone_as ends.0.conn.phase ends.0 (has_ended client ends.0 old new now ends.1.0 ends.1.2)
gone None old new now outputs (Err error) after ends = absurd ends
gone (Some client) old new now outputs (Err error) after ends = ends.2 ∙ gone_as ends.0.conn.phase ends.0 (was_given_up client ends.0 old new now ends.1.1)

one_more_gone : (number : ℕ) (clients : Clients) (before : Option (ClientState GroupPlace)) → slice_get clients number ≡ Some before → HasNoneBelow number clients
    → HasNoneBelow (suc number) (slice_set clients number None)
one_more_gone number clients before there below each less =
    ⊎_elim
    (λ (same : each ≡ number). subst (λ n. slice_get (slice_set clients number None) n ≡ Some None) (sym same) (slice_get-set_same clients number None (slice_get_within clients number before there)))
    (λ (other : each ≢ number). slice_get-set_other clients number each None other ∙ below each (omega arith))
    (cases_eq each number)

pub gone_below : (number : ℕ) (old new : Broker) (clients clients' : Clients) (now : ℕ) (outputs : List StepOutput) (result : Result (Unit {0}) NoMemory)
    → EndsFirst number old clients now outputs result clients' new → HasNoneBelow number clients'
gone_below zero old new clients clients' now outputs result ends = λ each less. absurd (omega (arith, less))
gone_below (suc number) old new clients clients' now outputs result ends =
    let cell = ends.7 in
    let none = gone cell.before ends.0 new now ends.3 ends.5 cell.after cell.becomes in
    subst (HasNoneBelow (suc number)) (sym (cell.is ∙ ap (slice_set ends.1 number) none))
    (one_more_gone number ends.1 cell.before cell.has (gone_below number old ends.0 clients ends.1 now ends.2 ends.4 ends.6))

emptied_if : (going : Bool) (old new : ServerState) (outputs : List StepOutput) (result : Result (Unit {0}) NoMemory) → going ≡ true
    → DoesIf going events.Close old.max_inflight old.broker old.clients new.clock outputs result new.clients new.broker → HasNoneBelow 64 new.clients
emptied_if true old new outputs result is closes = subst (λ n. HasNoneBelow n new.clients) closes.3 (gone_below closes.2 closes.0 new.broker old.clients new.clients new.clock outputs result closes.4)
emptied_if false old new outputs result is closes = absurd (cc)

pub emptied : (moment : ℕ) (outputs : List StepOutput) (result : Result (Unit {0}) NoMemory) (old new : ServerState)
    → is_open old.broker ≡ true → Happens old moment events.Close outputs result new → HasNoneBelow 64 new.clients
emptied moment outputs result old new opens happens = emptied_if (is_open old.broker) old new outputs result opens happens.does
