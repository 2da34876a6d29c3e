-- The close is what happens last in each group: a connection that ends with the server makes no call of a group.
use Rattle.std.proofs.Common.{◌≡◌, ℕ, zero, suc, Bool, true, false, not, List, length, Option, Some, None, Result, Ok, Err, IsOk, refl, sym, ap, subst, ◌∙◌, slice_get, get_or, ⊎_elim, arith}
use Rattle.std.specs.Result.{result_and}
use Rattle.std.specs.List.{list_all}
use Rattle.std.proofs.lemmas.Bool.{false≢true}
use Rattle.std.proofs.lemmas.List.Folds.{list_all_at}
use Rattle.std.proofs.lemmas.Option.{slice_get_within, slice_get-get_or, same_Some}
use Rattle.local_group.specs.Groups.{Group}
use Rattle.conn_supply.specs.declared.reply.Reply.{Reply}
use Rattle.conn_supply.specs.declared.supply.NoMemory.{NoMemory}
use Rattle.conn_engine.specs.declared.input.Input.TheVariants as inputs
use Rattle.conn_engine.specs.declared.phase.ConnPhase.{ConnPhase}
use Rattle.conn_engine.specs.declared.phase.ConnPhase.TheVariants.{Unconnected, Waiting, Connected, Ended}
use Rattle.conn_engine.specs.Step.{Reacts, Hands}
use Rattle.client_table.specs.Cells.{EndsFor}
use Rattle.client_table.specs.Clients.{ClientState, moment_of, StepOutput, ClientSteps}
use Rattle.local_broker.specs.Places.{GroupPlace}
use Rattle.local_broker.specs.Groups.{ClosesEach}
use Rattle.local_broker.specs.Broker.{Broker, is_open}
use Rattle.local_broker.specs.Calls.{Calls}
use Rattle.local_broker.proofs.Closed.{either}
use Rattle.local_server.specs.declared.event.ServerEvent.TheVariants as events
use Rattle.local_server.specs.Servers.{Clients, ServerState}
use Rattle.local_server.specs.Happening.{slot_of, EndsFirst, DoesIf, Happens}
use Rattle.local_server.specs.LastEvents.{AddsTheClose, AllAddTheClose}
use Rattle.local_server.proofs.Happened.{first_ok, then_ok}

abbrev Keep : Broker → Broker → Type 0
Keep old new = new.groups ≡ old.groups

-- told of the close, a connection ends, and hands its session in or withdraws its wait
reacts : (phase between : ConnPhase GroupPlace) (old new : Broker) (number now : ℕ) (reply : Reply)
    → Reacts Calls slot_of old number phase now inputs.Closing between reply new → (between ≡ Ended) × Keep old new
reacts (Unconnected opened) between old new number now reply is = (is.0.over, ap (λ b. b.groups) is.1)
reacts (Waiting request ticks) between old new number now reply is = (is.1.over, is.0.groups)
reacts (Connected connected) between old new number now reply is = (is.2, is.1.1.groups)
reacts Ended between old new number now reply is = (is.0.over, ap (λ b. b.groups) is.1)

moves : (client client' : ClientState GroupPlace) (old new : Broker) (now : ℕ) (output : StepOutput) → ClientSteps Calls slot_of old client now inputs.Closing output client' new → Keep old new
moves client client' old new now output moved =
    let steps = moved.stepped in
    let told = reacts client.conn.phase steps.between old steps.mid client.conn.number (moment_of client now) steps.reply steps.reacts in
    let none : Hands Calls slot_of steps.mid Ended (moment_of client now) steps.sent client'.conn.phase new =
    subst (λ s. Hands Calls slot_of steps.mid s (moment_of client now) steps.sent client'.conn.phase new) told.0 steps.hands in
    ap (λ b. b.groups) none.2 ∙ told.1

ends : (result : Result (Unit {0}) NoMemory) (before : Option (ClientState GroupPlace)) (old new : Broker) (now : ℕ) (outputs : List StepOutput) (after : Option (ClientState GroupPlace))
    → IsOk result → EndsFor Calls slot_of old before now inputs.Closing outputs result after new → Keep old new
ends (Ok done) None old new now outputs after ok does = ap (λ b. b.groups) does.2
ends (Ok done) (Some client) old new now outputs after ok does = moves client does.0 old new now does.1.0 does.1.2
ends (Err error) before old new now outputs after ok does = absurd (false≢true ok)

all_end : (number : ℕ) (old new : Broker) (clients clients' : Clients) (now : ℕ) (outputs : List StepOutput) (result : Result (Unit {0}) NoMemory)
    → IsOk result → EndsFirst number old clients now outputs result clients' new → Keep old new
all_end zero old new clients clients' now outputs result ok all = ap (λ b. b.groups) all.3
all_end (suc number) old new clients clients' now outputs result ok all =
    let both : IsOk (result_and all.4 all.5) = subst IsOk all.9 ok in
    ends all.5 all.7.before all.0 new now all.3 all.7.after (then_ok all.4 all.5 both) all.7.becomes
    ∙ all_end number old all.0 clients all.1 now all.2 all.4 (first_ok all.4 all.5 both) all.6

-- where none is closed, each is open
each_open : (groups : List Group) (slot : ℕ) (group : Group) → list_all (λ (g : Group). not g.state.closed) groups ≡ true → slice_get groups slot ≡ Some group
    → group.state.closed ≡ false
each_open groups slot group all there =
    let within = slice_get_within groups slot group there in
    let is : get_or groups slot group ≡ group = same_Some (get_or groups slot group) group (sym (slice_get-get_or groups slot group within) ∙ there) in
    ⊎_elim
    (λ (was : group.state.closed ≡ true).
    absurd (false≢true (sym (list_all_at (λ (g : Group). not g.state.closed) groups slot group within (ap (λ (g : Group). not g.state.closed) is ∙ ap not was)) ∙ all)))
    (λ (not_yet : group.state.closed ≡ false). not_yet)
    (either group.state.closed)

adds_close : (old new : Broker) → is_open old ≡ true → ClosesEach old.groups new.groups → (slot : ℕ) (group : Group) → slice_get new.groups slot ≡ Some group
    → AddsTheClose old slot group
adds_close old new opens closes slot group there =
    let within = slice_get_within new.groups slot group there in
    let before = get_or old.groups slot group in
    let was = slice_get-get_or old.groups slot group (let as_many = closes.as_many in omega arith) in
    let has = closes.each slot before was in
    let adds = has.is_so.closed (each_open old.groups slot before opens was) in
    record {
      before = before;
      was = was;
      events = ap (λ (g : Group). g.events) (same_Some group has.group (sym there ∙ has.there)) ∙ adds.events;
    }

closed_once : (old new : Broker) → is_open old ≡ true → ClosesEach old.groups new.groups → AllAddTheClose old new
closed_once old new opens closes = record { as_many = closes.as_many; each = adds_close old new opens closes }

added : (old mid new : Broker) → AllAddTheClose old mid → Keep mid new → AllAddTheClose old new
added old mid new adds keeps =
    record {
      as_many = ap (λ (l : List Group). length l) keeps ∙ adds.as_many;
      each = λ slot group there. adds.each slot group (ap (λ (l : List Group). slice_get l slot) (sym keeps) ∙ there);
    }

closes_if : (going : Bool) (old new : ServerState) (outputs : List StepOutput) → going ≡ true → is_open old.broker ≡ true
    → DoesIf going events.Close old.max_inflight old.broker old.clients new.clock outputs (Ok tt) new.clients new.broker → AllAddTheClose old.broker new.broker
closes_if true old new outputs going opens does =
    added old.broker does.0 new.broker (closed_once old.broker does.0 opens does.1.groups) (all_end does.2 does.0 new.broker old.clients new.clients new.clock outputs (Ok tt) refl does.4)
closes_if false old new outputs going opens does = absurd (cc)

pub closed_last : (moment : ℕ) (outputs : List StepOutput) (old new : ServerState)
    → is_open old.broker ≡ true → Happens old moment events.Close outputs (Ok tt) new → AllAddTheClose old.broker new.broker
closed_last moment outputs old new opens happens = closes_if (is_open old.broker) old new outputs opens opens happens.does
