-- What is said in an event is said to its connection.
use Rattle.std.proofs.Common.{◌≡◌, ◌≢◌, ℕ, zero, suc, Bool, true, false, List, [], ◌∷◌, Option, Some, None, Result, Ok, Err, slice_get, slice_set, replicate, refl, sym, ap, subst, ◌∙◌, inl, inr, ⊎_elim}
use Rattle.std.proofs.lemmas.Bool.{cases_eq}
use Rattle.std.proofs.lemmas.Option.{slice_get_within, same_Some}
use Rattle.dispatch_core.proofs.Spots.{slice_get-set_same, slice_get-set_other}
use Rattle.conn_supply.specs.declared.supply.NoMemory.{NoMemory}
use Rattle.conn_engine.specs.declared.input.Input.{Input}
use Rattle.conn_engine.specs.declared.input.Input.TheVariants as inputs
use Rattle.conn_engine.specs.declared.phase.Opening.{Opening}
use Rattle.conn_engine.specs.declared.phase.ConnPhase.{ConnPhase}
use Rattle.conn_engine.specs.declared.phase.ConnPhase.TheVariants.{Unconnected, Waiting, Connected, Ended}
use Rattle.client_table.specs.Clients.{ClientState, StepOutput, IsGivenUp}
use Rattle.client_table.specs.Numbers.{IsNumbered}
use Rattle.client_table.specs.Streams.{fed, Reads, FailsToReadOne, FailsToRead, Ticks, FailsToTick}
use Rattle.client_table.specs.Cells.{kept_as, kept, InCell, Opens, Receives, TicksFor, EndsFor}
use Rattle.local_broker.specs.Places.{GroupPlace}
use Rattle.local_broker.specs.Broker.{Broker, is_open}
use Rattle.local_broker.specs.Calls.{Calls}
use Rattle.local_server.specs.declared.event.ServerEvent.{ServerEvent}
use Rattle.local_server.specs.declared.event.ServerEvent.TheVariants as events
use Rattle.local_server.specs.declared.event.TimedEvent.{TimedEvent}
use Rattle.conn_rules.specs.declared.setup.Setup.{Setup}
use Rattle.local_server.specs.Servers.{Clients, ServerState, IsNewServer}
use Rattle.local_server.specs.Happening.{slot_of, EndsAt, EndsFirst, ClosesAll, Does, DoesIf, Happens}
use Rattle.local_server.specs.GoingThrough.{GoesThrough}
use Rattle.local_server.specs.Addressed.{AreNumbered, AreSentTo, Answers}

-- a client that keeps this number, and to which all is said
abbrev Keeps : ℕ → List StepOutput → ClientState GroupPlace → Type 0
Keeps number outputs client = (client.conn.number ≡ number) × AreSentTo number outputs

given_up : (number : ℕ) (old new : Broker) (client after : ClientState GroupPlace) (now : ℕ) (input : Input) → client.conn.number ≡ number
    → IsGivenUp Calls slot_of old client now input after new → after.conn.number ≡ number
given_up number old new client after now input is (inl moved) = moved.1.same ∙ is
given_up number old new client after now input is (inr fails) = fails.same ∙ is

reads : (outputs : List StepOutput) (number : ℕ) (old new : Broker) (client after : ClientState GroupPlace) (now : ℕ) → client.conn.number ≡ number
    → Reads Calls slot_of old client now outputs after new → Keeps number outputs after
reads [] number old new client after now is read = (ap (λ c. c.conn.number) read.1 ∙ is, tt)
reads (outputs ∷ rest) number old new client after now is (inl last) = (last.0.moved.same ∙ is, (last.0.moved.told ∙ is, subst (AreSentTo number) (sym last.1) tt))
reads (outputs ∷ rest) number old new client after now is (inr more) =
    let later = reads rest number more.1 new more.0 after now (more.2.moved.same ∙ is) more.3 in (later.0, (more.2.moved.told ∙ is, later.1))

fails_to_read_one : (number : ℕ) (old new : Broker) (client after : ClientState GroupPlace) (now : ℕ) → client.conn.number ≡ number
    → FailsToReadOne Calls slot_of old client now after new → after.conn.number ≡ number
fails_to_read_one number old new client after now is (inl given) = given_up number old new client after now inputs.EndOfInput is given
fails_to_read_one number old new client after now is (inr fails) = fails.2.same ∙ is

fails_to_read : (outputs : List StepOutput) (number : ℕ) (old new : Broker) (client after : ClientState GroupPlace) (now : ℕ) → client.conn.number ≡ number
    → FailsToRead Calls slot_of old client now outputs after new → Keeps number outputs after
fails_to_read [] number old new client after now is fails = (fails_to_read_one number old new client after now is fails, tt)
fails_to_read (outputs ∷ rest) number old new client after now is fails =
    let later = fails_to_read rest number fails.1 new fails.0 after now (fails.2.moved.same ∙ is) fails.3 in (later.0, (fails.2.moved.told ∙ is, later.1))

ticks : (outputs : List StepOutput) (number : ℕ) (old new : Broker) (client after : ClientState GroupPlace) (now : ℕ) → client.conn.number ≡ number
    → Ticks Calls slot_of old client now outputs after new → Keeps number outputs after
ticks [] number old new client after now is ticked = absurd ticked
ticks (outputs ∷ rest) number old new client after now is (inl last) = (last.0.same ∙ is, (last.0.told ∙ is, subst (AreSentTo number) (sym last.2) tt))
ticks (outputs ∷ rest) number old new client after now is (inr more) =
    let later = reads rest number more.1 new more.0 after now (more.2.same ∙ is) more.4 in (later.0, (more.2.told ∙ is, later.1))

fails_at_tick : (number : ℕ) (old new : Broker) (client after : ClientState GroupPlace) (now : ℕ) → client.conn.number ≡ number
    → FailsToTick Calls slot_of old client now [] after new → after.conn.number ≡ number
fails_at_tick number old new client after now is (inl given) = given_up number old new client after now inputs.EndOfInput is given
fails_at_tick number old new client after now is (inr fails) = fails.same ∙ is

fails_to_tick : (outputs : List StepOutput) (number : ℕ) (old new : Broker) (client after : ClientState GroupPlace) (now : ℕ) → client.conn.number ≡ number
    → FailsToTick Calls slot_of old client now outputs after new → Keeps number outputs after
fails_to_tick [] number old new client after now is fails = (fails_at_tick number old new client after now is fails, tt)
fails_to_tick (outputs ∷ rest) number old new client after now is fails =
    let later = fails_to_read rest number fails.1 new fails.0 after now (fails.2.same ∙ is) fails.4 in (later.0, (fails.2.told ∙ is, later.1))

stays : (phase : ConnPhase GroupPlace) (number : ℕ) (client : ClientState GroupPlace) → client.conn.number ≡ number → IsNumbered number (kept_as phase client)
stays (Unconnected opened) number client is = is
stays (Waiting request count) number client is = is
stays (Connected connected) number client is = is
stays Ended number client is = tt

-- what happened in a cell: it keeps its number, and all is said to it
abbrev Cell : ℕ → List StepOutput → Option (ClientState GroupPlace) → Type 0
Cell number outputs after = IsNumbered number after × AreSentTo number outputs

becomes : (number : ℕ) (outputs : List StepOutput) (client : ClientState GroupPlace) (after : Option (ClientState GroupPlace)) → after ≡ kept client → Keeps number outputs client → Cell number outputs after
becomes number outputs client after is keeps = (subst (IsNumbered number) (sym is) (stays client.conn.phase number client keeps.0), keeps.1)

nobody : (number : ℕ) (outputs : List StepOutput) (after : Option (ClientState GroupPlace)) → outputs ≡ [] → after ≡ None → Cell number outputs after
nobody number outputs after silent is = (subst (IsNumbered number) (sym is) tt, subst (AreSentTo number) (sym silent) tt)

opens : (number : ℕ) (opening : Opening) (before after : Option (ClientState GroupPlace)) → IsNumbered number before → Opens number opening before after → IsNumbered number after
opens number opening None after is does = subst (IsNumbered number) (sym does) refl
opens number opening (Some client) after is does = subst (IsNumbered number) (sym does) is

receives : (result : Result (Unit {0}) NoMemory) (before : Option (ClientState GroupPlace)) (number : ℕ) (old new : Broker) (now : ℕ) (piece : List ℕ) (more : List StepOutput) (after : Option (ClientState GroupPlace))
    → IsNumbered number before → Receives Calls slot_of old before now piece more result after new → Cell number more after
receives (Ok done) None number old new now piece more after is does = nobody number more after does.0 does.1
receives (Ok done) (Some client) number old new now piece more after is does = becomes number more does.0 after does.2 (reads more number old new (fed client piece) does.0 now is does.1)
receives (Err error) None number old new now piece more after is does = absurd does
receives (Err error) (Some client) number old new now piece more after is does =
    becomes number more does.0 after does.2 (⊎_elim
    (λ (given : IsGivenUp Calls slot_of old client now inputs.EndOfInput does.0 new × (more ≡ [])).
    (given_up number old new client does.0 now inputs.EndOfInput is given.0, subst (AreSentTo number) (sym given.1) tt))
    (λ (fails : FailsToRead Calls slot_of old (fed client piece) now more does.0 new). fails_to_read more number old new (fed client piece) does.0 now is fails)
    does.1)

ticks_for : (result : Result (Unit {0}) NoMemory) (before : Option (ClientState GroupPlace)) (number : ℕ) (old new : Broker) (now : ℕ) (more : List StepOutput) (after : Option (ClientState GroupPlace))
    → IsNumbered number before → TicksFor Calls slot_of old before now more result after new → Cell number more after
ticks_for (Ok done) None number old new now more after is does = nobody number more after does.0 does.1
ticks_for (Ok done) (Some client) number old new now more after is does = becomes number more does.0 after does.2 (ticks more number old new client does.0 now is does.1)
ticks_for (Err error) None number old new now more after is does = absurd does
ticks_for (Err error) (Some client) number old new now more after is does = becomes number more does.0 after does.2 (fails_to_tick more number old new client does.0 now is does.1)

ends_for : (result : Result (Unit {0}) NoMemory) (before : Option (ClientState GroupPlace)) (number : ℕ) (old new : Broker) (now : ℕ) (input : Input) (more : List StepOutput) (after : Option (ClientState GroupPlace))
    → IsNumbered number before → EndsFor Calls slot_of old before now input more result after new → Cell number more after
ends_for (Ok done) None number old new now input more after is does = nobody number more after does.0 does.1
ends_for (Ok done) (Some client) number old new now input more after is does =
    becomes number more does.0 after does.2 (does.1.2.same ∙ is, subst (AreSentTo number) (sym does.1.1) (does.1.2.told ∙ is, tt))
ends_for (Err error) None number old new now input more after is does = absurd does
ends_for (Err error) (Some client) number old new now input more after is does =
    becomes number more does.0 after does.2 (given_up number old new client does.0 now input is does.1.1, subst (AreSentTo number) (sym does.1.0) tt)

-- a cell among the others
pub at : (cell : Option (ClientState GroupPlace)) (clients : Clients) (number : ℕ) → AreNumbered clients → slice_get clients number ≡ Some cell → IsNumbered number cell
at None clients number all has = tt
at (Some client) clients number all has = all number client has

in_cell : (clients clients' : Clients) (number : ℕ) (Becomes : Option (ClientState GroupPlace) → Option (ClientState GroupPlace) → Type 0) (cell : InCell clients number Becomes clients')
    → AreNumbered clients → IsNumbered number cell.after → AreNumbered clients'
in_cell clients clients' number Becomes cell all is other client has =
    let set : slice_get (slice_set clients number cell.after) other ≡ Some (Some client) = ap (λ l. slice_get l other) (sym cell.is) ∙ has in
    ⊎_elim
    (λ (same : other ≡ number).
    let here = same_Some cell.after (Some client) (sym (slice_get-set_same clients number cell.after (slice_get_within clients number cell.before cell.has)) ∙ ap (slice_get (slice_set clients number cell.after)) (sym same) ∙ set) in
    subst (IsNumbered number) here is ∙ sym same)
    (λ (elsewhere : other ≢ number). all other client (sym (slice_get-set_other clients number other cell.after elsewhere) ∙ set))
    (cases_eq other number)

-- the close
ended : (number : ℕ) (old new : Broker) (clients clients' : Clients) (now : ℕ) (outputs : List StepOutput) (result : Result (Unit {0}) NoMemory)
    → AreNumbered clients → EndsAt number old clients now outputs result clients' new → AreNumbered clients'
ended number old new clients clients' now outputs result all ends =
    in_cell clients clients' number _ ends all (ends_for result ends.before number old new now inputs.Closing outputs ends.after (at ends.before clients number all ends.has) ends.becomes).0

pub first_ended : (number : ℕ) (old new : Broker) (clients clients' : Clients) (now : ℕ) (outputs : List StepOutput) (result : Result (Unit {0}) NoMemory)
    → AreNumbered clients → EndsFirst number old clients now outputs result clients' new → AreNumbered clients'
first_ended zero old new clients clients' now outputs result all ends = subst AreNumbered (sym ends.2) all
first_ended (suc number) old new clients clients' now outputs result all ends =
    ended number ends.0 new ends.1 clients' now ends.3 ends.5 (first_ended number old ends.0 clients ends.1 now ends.2 ends.4 all ends.6) ends.7

closed : (result : Result (Unit {0}) NoMemory) (old new : Broker) (clients clients' : Clients) (now : ℕ) (outputs : List StepOutput)
    → AreNumbered clients → ClosesAll old clients now outputs result clients' new → AreNumbered clients'
closed result old new clients clients' now outputs all closes = first_ended closes.2 closes.0 new clients clients' now outputs result all closes.4

-- an event: those that are open keep their numbers, and it is answered
does : (max_inflight : ℕ) (event : ServerEvent) (old new : Broker) (clients clients' : Clients) (now : ℕ) (outputs : List StepOutput) (result : Result (Unit {0}) NoMemory)
    → AreNumbered clients → Does event max_inflight old clients now outputs result clients' new → AreNumbered clients' × Answers event outputs
does max_inflight (events.Open number) old new clients clients' now outputs result all done =
    let cell = done.0 in
    (in_cell clients clients' number _ cell all (opens number _ cell.before cell.after (at cell.before clients number all cell.has) cell.becomes), subst (AreSentTo number) (sym done.2) tt)
does max_inflight (events.Bytes number piece) old new clients clients' now outputs result all cell =
    let is = receives result cell.before number old new now piece outputs cell.after (at cell.before clients number all cell.has) cell.becomes in
    (in_cell clients clients' number _ cell all is.0, is.1)
does max_inflight (events.Tick number) old new clients clients' now outputs result all cell =
    let is = ticks_for result cell.before number old new now outputs cell.after (at cell.before clients number all cell.has) cell.becomes in
    (in_cell clients clients' number _ cell all is.0, is.1)
does max_inflight (events.End number) old new clients clients' now outputs result all cell =
    let is = ends_for result cell.before number old new now inputs.EndOfInput outputs cell.after (at cell.before clients number all cell.has) cell.becomes in
    (in_cell clients clients' number _ cell all is.0, is.1)
does max_inflight events.Close old new clients clients' now outputs result all closes = (closed result old new clients clients' now outputs all closes, tt)

silent : (event : ServerEvent) (outputs : List StepOutput) → outputs ≡ [] → Answers event outputs
silent (events.Open number) outputs none = subst (AreSentTo number) (sym none) tt
silent (events.Bytes number piece) outputs none = subst (AreSentTo number) (sym none) tt
silent (events.Tick number) outputs none = subst (AreSentTo number) (sym none) tt
silent (events.End number) outputs none = subst (AreSentTo number) (sym none) tt
silent events.Close outputs none = tt

does_if : (max_inflight : ℕ) (open? : Bool) (event : ServerEvent) (old new : Broker) (clients clients' : Clients) (now : ℕ) (outputs : List StepOutput) (result : Result (Unit {0}) NoMemory)
    → AreNumbered clients → DoesIf open? event max_inflight old clients now outputs result clients' new → AreNumbered clients' × Answers event outputs
does_if max_inflight true event old new clients clients' now outputs result all done = does max_inflight event old new clients clients' now outputs result all done
does_if max_inflight false event old new clients clients' now outputs result all done = (subst AreNumbered (sym done.2) all, silent event outputs done.0)

pub answered : (moment : ℕ) (event : ServerEvent) (outputs : List StepOutput) (result : Result (Unit {0}) NoMemory) (old new : ServerState) → AreNumbered old.clients → Happens old moment event outputs result new
    → AreNumbered new.clients × Answers event outputs
answered moment event outputs result old new all happens = does_if _ (is_open old.broker) event old.broker new.broker old.clients new.clients new.clock outputs result all happens.does

nobody_at : (count number : ℕ) (client : ClientState GroupPlace) → slice_get (replicate {A = Option (ClientState GroupPlace)} count None) number ≡ Some (Some client) → ⊥
nobody_at zero number client has = cc has
nobody_at (suc count) zero client has = cc has
nobody_at (suc count) (suc number) client has = nobody_at count number client has

pub new_numbered : (setup : Setup) (server : ServerState) → IsNewServer setup server → AreNumbered server.clients
new_numbered setup server new number client has = absurd (nobody_at 64 number client (ap (λ l. slice_get l number) (sym new.clients) ∙ has))

pub numbered : (events : List TimedEvent) (old new : ServerState) → AreNumbered old.clients → GoesThrough old events new → AreNumbered new.clients
numbered [] old new all undergoes = subst (λ s. AreNumbered s.clients) (sym undergoes) all
numbered (first ∷ others) old new all undergoes =
    numbered others undergoes.0 new (answered first.moment first.event undergoes.1 undergoes.2 old undergoes.0 all undergoes.3).0 undergoes.4
