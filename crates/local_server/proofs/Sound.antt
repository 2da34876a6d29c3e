-- An open connection has met no fault in its stream, and nothing came to it after the moment of the clock.
use Rattle.std.proofs.Common.{◌≡◌, ◌≢◌, ◌≤◌, ℕ, zero, suc, Bool, true, false, List, [], ◌∷◌, Option, Some, None, Result, Ok, Err, IsOk, slice_get, slice_set, replicate, refl, sym, ap, subst, ◌∙◌, inl, inr, ⊎_elim}
use Rattle.std.proofs.Math.Nat.{le_refl, le_trans}
use Rattle.std.specs.Result.{result_and}
use Rattle.std.proofs.lemmas.Bool.{cases_eq, false≢true}
use Rattle.std.proofs.lemmas.Option.{slice_get_within, same_Some}
use Rattle.dispatch_core.proofs.Spots.{slice_get-set_same, slice_get-set_other}
use Rattle.mqtt_wire.specs.Stream.{Unread}
use Rattle.conn_supply.specs.declared.supply.NoMemory.{NoMemory}
use Rattle.conn_engine.specs.declared.input.Input.TheVariants as inputs
use Rattle.conn_engine.specs.declared.phase.Opening.{Opening}
use Rattle.conn_engine.specs.declared.phase.ConnPhase.{ConnPhase}
use Rattle.conn_engine.specs.declared.phase.ConnPhase.TheVariants.{Unconnected, Waiting, Connected, Ended}
use Rattle.client_table.specs.Cells.{kept_as, kept, InCell, Opens, Receives, TicksFor, EndsFor}
use Rattle.client_table.specs.Clients.{ClientState, StepOutput}
use Rattle.client_table.specs.Streams.{fed, Reads, Ticks}
use Rattle.local_broker.specs.Places.{GroupPlace}
use Rattle.local_broker.specs.Broker.{Broker}
use Rattle.local_broker.specs.Calls.{Calls}
use Rattle.local_server.specs.declared.event.ServerEvent.{ServerEvent}
use Rattle.local_server.specs.declared.event.ServerEvent.TheVariants as events
use Rattle.conn_rules.specs.declared.setup.Setup.{Setup}
use Rattle.local_server.specs.Servers.{Clients, ServerState, IsNewServer}
use Rattle.local_server.specs.Happening.{slot_of, EndsFirst, Does, DoesIf}
use Rattle.local_server.proofs.Going.{ended_by, stopped, closed_by}
use Rattle.local_server.proofs.Happened.{first_ok, then_ok}
use Rattle.local_server.proofs.Reading.{IsSound, still_timely, fed_unread}

abbrev pub AreSound : ℕ → Clients → Type 0
AreSound now clients = (number : ℕ) (client : ClientState GroupPlace) → slice_get clients number ≡ Some (Some client) → (client.unread.fault ≡ None) × (client.conn.latest ≤ now)

pub sound_at : (cell : Option (ClientState GroupPlace)) (clients : Clients) (number now : ℕ) → AreSound now clients → slice_get clients number ≡ Some cell → IsSound now cell
sound_at None clients number now all has = tt
sound_at (Some client) clients number now all has = all number client has

-- so it is at a later moment
pub sound_later : (clients : Clients) (now later : ℕ) → now ≤ later → AreSound now clients → AreSound later clients
sound_later clients now later less all number client has = let is = all number client has in (is.0, le_trans is.1 less)

-- a client that is kept, and one that is gone
stays : (phase : ConnPhase GroupPlace) (client : ClientState GroupPlace) (now : ℕ) → IsSound now (Some client) → IsSound now (kept_as phase client)
stays (Unconnected opened) client now is = is
stays (Waiting request count) client now is = is
stays (Connected connected) client now is = is
stays Ended client now is = tt

gone : (after : Option (ClientState GroupPlace)) (now : ℕ) → after ≡ None → IsSound now after
gone after now is = subst (IsSound now) (sym is) tt

reads : (outputs : List StepOutput) (old new : Broker) (client after : ClientState GroupPlace) (now : ℕ) → IsSound now (Some client) → Reads Calls slot_of old client now outputs after new
    → IsSound now (kept after)
reads [] old new client after now sound read = subst (λ (c : ClientState GroupPlace). IsSound now (kept c)) (sym read.1) (stays client.conn.phase client now sound)
reads (outputs ∷ rest) old new client after now sound (inl last) = gone (kept after) now (closed_by old new client after now last.0.input outputs last.0.moved last.0.closes)
reads (outputs ∷ rest) old new client after now sound (inr more) =
    reads rest more.1 new more.0 after now (more.2.taken.goes_on, still_timely client more.0 now sound.1 more.2.moved.latest) more.3

ticks : (outputs : List StepOutput) (old new : Broker) (client after : ClientState GroupPlace) (now : ℕ) → IsSound now (Some client) → Ticks Calls slot_of old client now outputs after new
    → IsSound now (kept after)
ticks [] old new client after now sound ticked = absurd ticked
ticks (outputs ∷ rest) old new client after now sound (inl last) = gone (kept after) now (stopped old new client after now inputs.Tick outputs last.0 last.1)
ticks (outputs ∷ rest) old new client after now sound (inr more) =
    reads rest more.1 new more.0 after now (ap (λ (u : Unread). u.fault) more.5 ∙ sound.0, still_timely client more.0 now sound.1 more.2.latest) more.4

-- a cell
opens : (number : ℕ) (opening : Opening) (before after : Option (ClientState GroupPlace)) → IsSound opening.at before → Opens number opening before after → IsSound opening.at after
opens number opening None after is does = subst (IsSound opening.at) (sym does) (refl, le_refl opening.at)
opens number opening (Some client) after is does = subst (IsSound opening.at) (sym does) is

receives : (result : Result (Unit {0}) NoMemory) (before after : Option (ClientState GroupPlace)) (old new : Broker) (now : ℕ) (piece : List ℕ) (outputs : List StepOutput) → IsOk result
    → IsSound now before → Receives Calls slot_of old before now piece outputs result after new → IsSound now after
receives (Ok done) None after old new now piece outputs ok is does = gone after now does.1
receives (Ok done) (Some client) after old new now piece outputs ok is does =
    subst (IsSound now) (sym does.2) (reads outputs old new (fed client piece) does.0 now (ap (λ (u : Unread). u.fault) (fed_unread client piece is.0), is.1) does.1)
receives (Err error) before after old new now piece outputs ok is does = absurd (false≢true ok)

ticks_for : (result : Result (Unit {0}) NoMemory) (before after : Option (ClientState GroupPlace)) (old new : Broker) (now : ℕ) (outputs : List StepOutput) → IsOk result
    → IsSound now before → TicksFor Calls slot_of old before now outputs result after new → IsSound now after
ticks_for (Ok done) None after old new now outputs ok is does = gone after now does.1
ticks_for (Ok done) (Some client) after old new now outputs ok is does = subst (IsSound now) (sym does.2) (ticks outputs old new client does.0 now is does.1)
ticks_for (Err error) before after old new now outputs ok is does = absurd (false≢true ok)

ends_by_end : (result : Result (Unit {0}) NoMemory) (before after : Option (ClientState GroupPlace)) (old new : Broker) (now : ℕ) (outputs : List StepOutput) → IsOk result
    → EndsFor Calls slot_of old before now inputs.EndOfInput outputs result after new → IsSound now after
ends_by_end (Ok done) None after old new now outputs ok does = gone after now does.1
ends_by_end (Ok done) (Some client) after old new now outputs ok does = gone after now (does.2 ∙ ended_by old new client does.0 now inputs.EndOfInput does.1.0 does.1.2 tt)
ends_by_end (Err error) before after old new now outputs ok does = absurd (false≢true ok)

ends_by_closing : (result : Result (Unit {0}) NoMemory) (before after : Option (ClientState GroupPlace)) (old new : Broker) (now : ℕ) (outputs : List StepOutput) → IsOk result
    → EndsFor Calls slot_of old before now inputs.Closing outputs result after new → IsSound now after
ends_by_closing (Ok done) None after old new now outputs ok does = gone after now does.1
ends_by_closing (Ok done) (Some client) after old new now outputs ok does = gone after now (does.2 ∙ ended_by old new client does.0 now inputs.Closing does.1.0 does.1.2 tt)
ends_by_closing (Err error) before after old new now outputs ok does = absurd (false≢true ok)

-- among the others
in_cell : (clients clients' : Clients) (number now : ℕ) (Becomes : Option (ClientState GroupPlace) → Option (ClientState GroupPlace) → Type 0) (cell : InCell clients number Becomes clients')
    → AreSound now clients → IsSound now cell.after → AreSound now clients'
in_cell clients clients' number now Becomes cell all is other client has =
    let set : slice_get (slice_set clients number cell.after) other ≡ Some (Some client) = ap (λ l. slice_get l other) (sym cell.is) ∙ has in
    ⊎_elim
    (λ (same : other ≡ number).
    let here =
    same_Some cell.after (Some client)
    (sym (slice_get-set_same clients number cell.after (slice_get_within clients number cell.before cell.has))
    ∙ ap (slice_get (slice_set clients number cell.after)) (sym same) ∙ set) in
    subst (IsSound now) here is)
    (λ (elsewhere : other ≢ number). all other client (sym (slice_get-set_other clients number other cell.after elsewhere) ∙ set))
    (cases_eq other number)

pub first_ended : (number : ℕ) (old new : Broker) (clients clients' : Clients) (now : ℕ) (outputs : List StepOutput) (result : Result (Unit {0}) NoMemory) → IsOk result
    → AreSound now clients → EndsFirst number old clients now outputs result clients' new → AreSound now clients'
first_ended zero old new clients clients' now outputs result ok all ends = subst (AreSound now) (sym ends.2) all
first_ended (suc number) old new clients clients' now outputs result ok all ends =
    let both : IsOk (result_and ends.4 ends.5) = subst IsOk ends.9 ok in
    let cell = ends.7 in
    in_cell ends.1 clients' number now _ cell (first_ended number old ends.0 clients ends.1 now ends.2 ends.4 (first_ok ends.4 ends.5 both) all ends.6)
    (ends_by_closing ends.5 cell.before cell.after ends.0 new now ends.3 (then_ok ends.4 ends.5 both) cell.becomes)

does : (max_inflight : ℕ) (event : ServerEvent) (old new : Broker) (clients clients' : Clients) (now : ℕ) (outputs : List StepOutput) (result : Result (Unit {0}) NoMemory) → IsOk result
    → AreSound now clients → Does event max_inflight old clients now outputs result clients' new → AreSound now clients'
does max_inflight (events.Open number) old new clients clients' now outputs result ok all done =
    let cell = done.0 in
    in_cell clients clients' number now _ cell all (opens number _ cell.before cell.after (sound_at cell.before clients number now all cell.has) cell.becomes)
does max_inflight (events.Bytes number piece) old new clients clients' now outputs result ok all cell =
    in_cell clients clients' number now _ cell all
    (receives result cell.before cell.after old new now piece outputs ok (sound_at cell.before clients number now all cell.has) cell.becomes)
does max_inflight (events.Tick number) old new clients clients' now outputs result ok all cell =
    in_cell clients clients' number now _ cell all
    (ticks_for result cell.before cell.after old new now outputs ok (sound_at cell.before clients number now all cell.has) cell.becomes)
does max_inflight (events.End number) old new clients clients' now outputs result ok all cell =
    in_cell clients clients' number now _ cell all (ends_by_end result cell.before cell.after old new now outputs ok cell.becomes)
does max_inflight events.Close old new clients clients' now outputs result ok all closes = first_ended closes.2 closes.0 new clients clients' now outputs result ok all closes.4

pub still_sound : (max_inflight : ℕ) (open? : Bool) (event : ServerEvent) (old new : Broker) (clients clients' : Clients) (now : ℕ) (outputs : List StepOutput) (result : Result (Unit {0}) NoMemory) → IsOk result
    → AreSound now clients → DoesIf open? event max_inflight old clients now outputs result clients' new → AreSound now clients'
still_sound max_inflight true event old new clients clients' now outputs result ok all done = does max_inflight event old new clients clients' now outputs result ok all done
still_sound max_inflight false event old new clients clients' now outputs result ok all done = subst (AreSound now) (sym done.2) all

nobody_at : (count number : ℕ) (client : ClientState GroupPlace) → slice_get (replicate {A = Option (ClientState GroupPlace)} count None) number ≡ Some (Some client) → ⊥
nobody_at zero number client has = cc has
nobody_at (suc count) zero client has = cc has
nobody_at (suc count) (suc number) client has = nobody_at count number client has

pub new_sound : (setup : Setup) (server : ServerState) → IsNewServer setup server → AreSound server.clock server.clients
new_sound setup server new number client has = absurd (nobody_at 64 number client (ap (λ l. slice_get l number) (sym new.clients) ∙ has))
