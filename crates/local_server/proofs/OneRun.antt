-- A run of a server has one outcome.
use Rattle.std.proofs.Common.{◌≡◌, ℕ, zero, suc, max, Bool, true, false, List, [], ◌∷◌, ◌++◌, Result, Ok, Err, refl, sym, ap, ◌∙◌, subst}
use Rattle.std.specs.Result.{result_and}
use Rattle.session_desk.specs.Hands.{DeskLaw}
use Rattle.conn_supply.specs.declared.supply.NoMemory.{NoMemory}
use Rattle.conn_engine.specs.declared.input.Input.TheVariants as inputs
use Rattle.conn_engine.specs.declared.phase.Opening.{Opening}
use Rattle.client_table.specs.Clients.{StepOutput}
use Rattle.client_table.specs.Cells.{Opens, Receives, TicksFor, EndsFor}
use Rattle.client_table.proofs.OneCell.{in_cell, opens, received, ticked_for, ended_for}
use Rattle.local_broker.specs.Broker.{Broker, is_open}
use Rattle.local_broker.specs.Calls.{Calls}
use Rattle.local_broker.proofs.Happened.{new_desk}
use Rattle.local_broker.proofs.OneBeginning.{one_new}
use Rattle.local_broker.proofs.OneOpen.{AreLawful, answers, closes, same_open}
use Rattle.local_server.specs.declared.event.ServerEvent.{ServerEvent}
use Rattle.local_server.specs.declared.event.ServerEvent.TheVariants as events
use Rattle.local_server.specs.declared.event.TimedEvent.{TimedEvent}
use Rattle.conn_rules.specs.Connecting.{inflight_alone}
use Rattle.conn_rules.specs.declared.setup.Setup.{Setup}
use Rattle.local_server.specs.Servers.{Clients, ServerState, IsNewServer}
use Rattle.local_server.specs.Alike.{AreAlike}
use Rattle.local_server.specs.Happening.{slot_of, EndsAt, EndsFirst, ClosesAll, Does, DoesIf, Happens, HappensAll}

-- what becomes of the clients, what is said, and what becomes of what they share
abbrev AreOne : List StepOutput → List StepOutput → Clients → Clients → Broker → Broker → Type 0
AreOne xs ys c d a b = (c ≡ d) × ((xs ≡ ys) × AreLawful a b)

ended_at : (number : ℕ) (a a' b b' : Broker) (clients c d : Clients) (now : ℕ) (xs ys : List StepOutput) → AreLawful a b
    → EndsAt number a clients now xs (Ok tt) c a' → EndsAt number b clients now ys (Ok tt) d b' → AreOne xs ys c d a' b'
ended_at number a a' b b' clients c d now xs ys alike h k =
    in_cell clients c d number (λ before after. EndsFor Calls slot_of a before now inputs.Closing xs (Ok tt) after a') (λ before after. EndsFor Calls slot_of b before now inputs.Closing ys (Ok tt) after b')
    (λ before after then does also. ended_for Calls AreLawful answers slot_of before a a' b b' now inputs.Closing xs ys after then tt alike does also) h k

first_done : (first then : Result (Unit {0}) NoMemory) → result_and first then ≡ Ok tt → first ≡ Ok tt
first_done (Ok done) then is = refl
first_done (Err error) then is = absurd (cc)

then_done : (first then : Result (Unit {0}) NoMemory) → result_and first then ≡ Ok tt → then ≡ Ok tt
then_done (Ok done) then is = is
then_done (Err error) then is = absurd (cc)

-- so many connections are told, and an allocation fails for none
abbrev FirstDone : ℕ → Broker → Clients → ℕ → List StepOutput → Clients → Broker → Type 0
FirstDone number old clients now outputs clients' new = EndsFirst number old clients now outputs (Ok tt) clients' new

ended_first : (number : ℕ) (a a' b b' : Broker) (clients c d : Clients) (now : ℕ) (xs ys : List StepOutput) → AreLawful a b
    → FirstDone number a clients now xs c a' → FirstDone number b clients now ys d b' → AreOne xs ys c d a' b'
ended_first zero a a' b b' clients c d now xs ys alike h k = (h.2 ∙ sym k.2, (h.0 ∙ sym k.0, subst (λ s. AreLawful s b') (sym h.3) (subst (AreLawful a) (sym k.3) alike)))
ended_first (suc number) a a' b b' clients c d now xs ys alike h k =
    let these = subst (λ r. EndsFirst number a clients now h.2 r h.1 h.0) (first_done h.4 h.5 (sym h.9)) h.6 in
    let those = subst (λ r. EndsFirst number b clients now k.2 r k.1 k.0) (first_done k.4 k.5 (sym k.9)) k.6 in
    let one = ended_first number a h.0 b k.0 clients h.1 k.1 now h.2 k.2 alike these those in
    let this = subst (λ r. EndsAt number h.0 h.1 now h.3 r c a') (then_done h.4 h.5 (sym h.9)) h.7 in
    let that = subst (λ r. EndsAt number k.0 k.1 now k.3 r d b') (then_done k.4 k.5 (sym k.9)) k.7 in
    let last = ended_at number h.0 a' k.0 b' h.1 c d now h.3 k.3 one.1.1 this (subst (λ z. EndsAt number k.0 z now k.3 (Ok tt) d b') (sym one.0) that) in
    (last.0, (h.8 ∙ (λ i. one.1.0 i ++ last.1.0 i) ∙ sym k.8, last.1.1))

closed : (a a' b b' : Broker) (clients c d : Clients) (now : ℕ) (xs ys : List StepOutput) → AreLawful a b
    → ClosesAll a clients now xs (Ok tt) c a' → ClosesAll b clients now ys (Ok tt) d b' → AreOne xs ys c d a' b'
closed a a' b b' clients c d now xs ys alike h k =
    ended_first h.2 h.0 a' k.0 b' clients c d now xs ys (closes a b h.0 k.0 alike h.1 k.1) h.4 (subst (λ many. FirstDone many k.0 clients now ys d b') (k.3 ∙ sym h.3) k.4)

done : (max_inflight : ℕ) (event : ServerEvent) (a a' b b' : Broker) (clients c d : Clients) (now : ℕ) (xs ys : List StepOutput) → AreLawful a b
    → Does event max_inflight a clients now xs (Ok tt) c a' → Does event max_inflight b clients now ys (Ok tt) d b' → AreOne xs ys c d a' b'
done max_inflight (events.Open number) a a' b b' clients c d now xs ys alike h k =
    let opening : Opening = record { at = now; limits = inflight_alone max_inflight } in
    let one = in_cell {X = Unit {0}} clients c d number (Opens number opening) (Opens number opening) (λ before after then does also. (opens number opening before after then does also, tt)) h.0 k.0 in
    (one.0, (h.2 ∙ sym k.2, subst (λ s. AreLawful s b') (sym h.1) (subst (AreLawful a) (sym k.1) alike)))
done max_inflight (events.Bytes number piece) a a' b b' clients c d now xs ys alike h k =
    in_cell clients c d number (λ before after. Receives Calls slot_of a before now piece xs (Ok tt) after a') (λ before after. Receives Calls slot_of b before now piece ys (Ok tt) after b')
    (λ before after then does also. received Calls AreLawful answers slot_of before a a' b b' now piece xs ys after then alike does also) h k
done max_inflight (events.Tick number) a a' b b' clients c d now xs ys alike h k =
    in_cell clients c d number (λ before after. TicksFor Calls slot_of a before now xs (Ok tt) after a') (λ before after. TicksFor Calls slot_of b before now ys (Ok tt) after b')
    (λ before after then does also. ticked_for Calls AreLawful answers slot_of before a a' b b' now xs ys after then alike does also) h k
done max_inflight (events.End number) a a' b b' clients c d now xs ys alike h k =
    in_cell clients c d number (λ before after. EndsFor Calls slot_of a before now inputs.EndOfInput xs (Ok tt) after a') (λ before after. EndsFor Calls slot_of b before now inputs.EndOfInput ys (Ok tt) after b')
    (λ before after then does also. ended_for Calls AreLawful answers slot_of before a a' b b' now inputs.EndOfInput xs ys after then tt alike does also) h k
done max_inflight events.Close a a' b b' clients c d now xs ys alike h k = closed a a' b b' clients c d now xs ys alike h k

done_if : (max_inflight : ℕ) (open? : Bool) (event : ServerEvent) (a a' b b' : Broker) (clients c d : Clients) (now : ℕ) (xs ys : List StepOutput) → AreLawful a b
    → DoesIf open? event max_inflight a clients now xs (Ok tt) c a' → DoesIf open? event max_inflight b clients now ys (Ok tt) d b' → AreOne xs ys c d a' b'
done_if max_inflight true event a a' b b' clients c d now xs ys alike h k = done max_inflight event a a' b b' clients c d now xs ys alike h k
done_if max_inflight false event a a' b b' clients c d now xs ys alike h k =
    (h.2 ∙ sym k.2, (h.0 ∙ sym k.0, subst (λ s. AreLawful s b') (sym h.3) (subst (AreLawful a) (sym k.3) alike)))

-- alike, and the one keeps the desk law
abbrev pub AreLawfulServers : ServerState → ServerState → Type 0
AreLawfulServers one other = DeskLaw one.broker.desk.rows one.broker.desk.made × AreAlike one other

pub happened : (one other one' other' : ServerState) (moment : ℕ) (event : ServerEvent) (xs ys : List StepOutput) → AreLawfulServers one other
    → Happens one moment event xs (Ok tt) one' → Happens other moment event ys (Ok tt) other' → (xs ≡ ys) × AreLawfulServers one' other'
happened one other one' other' moment event xs ys alike h k =
    let like = alike.1 in
    let clock : one'.clock ≡ other'.clock = h.clock ∙ ap (λ c. max c moment) like.clock ∙ sym k.clock in
    let its : DoesIf (is_open one.broker) event one.max_inflight other.broker one.clients one'.clock ys (Ok tt) other'.clients other'.broker =
    subst (λ b. DoesIf b event one.max_inflight other.broker one.clients one'.clock ys (Ok tt) other'.clients other'.broker) (sym (same_open one.broker other.broker like.broker))
    (subst (λ limit. DoesIf (is_open other.broker) event limit other.broker one.clients one'.clock ys (Ok tt) other'.clients other'.broker) (sym like.max_inflight)
    (subst (λ c. DoesIf (is_open other.broker) event other.max_inflight other.broker c one'.clock ys (Ok tt) other'.clients other'.broker) (sym like.clients)
    (subst (λ n. DoesIf (is_open other.broker) event other.max_inflight other.broker other.clients n ys (Ok tt) other'.clients other'.broker) (sym clock) k.does))) in
    let both = done_if _ (is_open one.broker) event one.broker one'.broker other.broker other'.broker one.clients one'.clients other'.clients one'.clock xs ys (alike.0, like.broker) h.does its in
    (both.1.0, (both.1.1.0, record { broker = both.1.1.1; clients = both.0; clock = clock; max_inflight = h.max_inflight ∙ like.max_inflight ∙ sym k.max_inflight }))

pub all_happened : (events : List TimedEvent) (one other one' other' : ServerState) (xs ys : List StepOutput) → AreLawfulServers one other
    → HappensAll one events xs one' → HappensAll other events ys other' → (xs ≡ ys) × AreLawfulServers one' other'
all_happened [] one other one' other' xs ys alike h k = (h.0 ∙ sym k.0, subst (λ s. AreLawfulServers s other') (sym h.1) (subst (AreLawfulServers one) (sym k.1) alike))
all_happened (first ∷ others) one other one' other' xs ys alike h k =
    let now = happened one other h.0 k.0 first.moment first.event h.1 k.1 alike h.3 k.3 in
    let later = all_happened others h.0 k.0 one' other' h.2 k.2 now.1 h.4 k.4 in
    (h.5 ∙ (λ i. now.0 i ++ later.0 i) ∙ sym k.5, later.1)

pub new : (setup : Setup) (one other : ServerState) → IsNewServer setup one → IsNewServer setup other → AreAlike one other
new setup one other h k =
    record {
      broker = one_new setup.capacity setup.groups one.broker other.broker h.broker k.broker;
      clients = h.clients ∙ sym k.clients;
      clock = h.clock ∙ sym k.clock;
      max_inflight = h.max_inflight ∙ sym k.max_inflight;
    }

pub one_run : (setup : Setup) (events : List TimedEvent) (xs ys : List StepOutput) (first first' last last' : ServerState) → IsNewServer setup first → IsNewServer setup first'
    → HappensAll first events xs last → HappensAll first' events ys last' → (xs ≡ ys) × AreAlike last last'
one_run setup events xs ys first first' last last' is also h k =
    let all = all_happened events first first' last last' xs ys (new_desk setup.capacity setup.groups first.broker is.broker, new setup first first' is also) h k in
    (all.0, all.1.1)
