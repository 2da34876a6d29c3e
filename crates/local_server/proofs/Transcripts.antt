-- The transcripts of the sessions of a server, along every run.
use Rattle.std.proofs.Common.{◌≡◌, ◌≢◌, ◌≤◌, ℕ, zero, suc, max, Bool, true, false, List, [], ◌∷◌, ◌++◌, map, Option, Some, None, Result, Ok, IsOk, filter_map, slice_get, slice_set, replicate, refl, sym, ap, subst, ◌∙◌, ⊎_elim, arith, append-nil}
use Rattle.std.proofs.Math.Nat.{le-max_left}
use Rattle.std.specs.Result.{result_and}
use Rattle.std.specs.Ordering.{nat_cmp}
use Rattle.std.specs.FinMap as map
use Rattle.std.specs.FinMap.{get-empty}
use Rattle.std.proofs.lemmas.Bool.{cases_eq}
use Rattle.std.proofs.lemmas.Option.{slice_get_within}
use Rattle.std.proofs.lemmas.List.Elements.{filter_map-append}
use Rattle.dispatch_core.proofs.Spots.{slice_get-set_same, slice_get-set_other}
use Rattle.group_jobs.specs.Stamps.{Held}
use Rattle.local_group.specs.Groups.{Group}
use Rattle.member_window.specs.Marks.{window_down, window_after_all}
use Rattle.member_window.specs.Runs.{window_state}
use Rattle.member_window.proofs.Lists.{contains_nil}
use Rattle.session_desk.specs.declared.row.Row.{Row}
use Rattle.session_desk.specs.declared.row.Holder.TheVariants.{Parked}
use Rattle.session_desk.specs.declared.session.Session.{Session}
use Rattle.session_desk.specs.Rows.{HasRow, session_in}
use Rattle.session_desk.specs.Books.{Books}
use Rattle.conn_supply.specs.declared.supply.NoMemory.{NoMemory}
use Rattle.conn_engine.specs.declared.input.Input.TheVariants as inputs
use Rattle.conn_engine.specs.declared.phase.ConnectedClient.{ConnectedClient}
use Rattle.conn_engine.specs.declared.phase.Opening.{Opening}
use Rattle.conn_laws.proofs.Aside.{all_of_both}
use Rattle.client_table.specs.Cells.{InCell, Opens}
use Rattle.client_table.specs.Clients.{ClientState, StepOutput}
use Rattle.local_broker.specs.Places.{GroupPlace}
use Rattle.local_broker.specs.Broker.{Broker, is_open}
use Rattle.local_broker.specs.Calls.{Closes}
use Rattle.local_broker.specs.HandOuts.{HandOut, handed_by, handed_by_all}
use Rattle.local_broker.specs.Histories.{Closed}
use Rattle.local_broker.proofs.Happened.{new_desk}
use Rattle.local_server.specs.declared.event.ServerEvent.{ServerEvent}
use Rattle.local_server.specs.declared.event.ServerEvent.TheVariants as events
use Rattle.local_server.specs.declared.event.TimedEvent.{TimedEvent}
use Rattle.conn_rules.specs.declared.setup.Setup.{Setup}
use Rattle.local_server.specs.Servers.{Clients, ServerState, IsNewServer}
use Rattle.local_server.specs.Addressed.{AreNumbered}
use Rattle.local_server.specs.Happening.{EndsAt, EndsFirst, Does, DoesIf, HappensAll}
use Rattle.local_server.specs.Quotas.{AllWithinQuota}
use Rattle.local_server.specs.ConnSteps.{ConnStep, AllTell}
use Rattle.local_server.specs.Streams.{PieceIsAnswered, TickIsAnswered, LastIsAnswered, client_at, EventIsAnswered, EventIsAnsweredIf, AllAreAnswered}
use Rattle.local_server.specs.Transcripts.{transcript_of, connected_in, connected_at, session_of, place_of, StandsAsTold, AccountFor, KeepsTranscripts, AccountAlong}
use Rattle.local_server.specs.Settling.{Settlement, settled_in_all, settled_seen_by, HeldIsOut, SettlesWhatIsAcknowledged}
use Rattle.local_server.proofs.Settled.{AddsIn, adds_nothing, adds_then, none_closed}
use Rattle.local_server.specs.Messages.{SendsWhatWasAccepted}
use Rattle.local_server.specs.Sizes.{AllShort}
use Rattle.local_server.proofs.Known.{Log}
use Rattle.local_server.proofs.Many.{as_many}
use Rattle.local_server.proofs.Owning.{AtDesk, InHand, Owns, owns_closed, owns_new}
use Rattle.local_server.proofs.Addressed as addressed
use Rattle.local_server.proofs.Addressed.{at, answered, new_numbered}
use Rattle.local_server.proofs.Happened.{joins, first_ok, then_ok, undergoes}
use Rattle.local_server.proofs.HandOuts.{handed}
use Rattle.local_server.proofs.Quotas as quotas
use Rattle.local_server.proofs.Quotas.{keeps_quota}
use Rattle.local_server.proofs.Lent.{IsLentTo, one_holder}
use Rattle.local_server.proofs.Sessions.{with_connected, connected_here, connected_beside, with_same, KeepsSessions}
use Rattle.local_server.proofs.Stepping.{Links}
use Rattle.local_server.proofs.Turning.{Keeps, Says, silent, then_says, says_so, receives, ticks_for, ends_for}
use Rattle.local_server.proofs.Reading.{AllAt, EndsSteps, ends_heard}
use Rattle.local_server.proofs.Sound as sounding
use Rattle.local_server.proofs.Sound.{AreSound, sound_at, sound_later, still_sound, new_sound}
use Rattle.local_server.proofs.Heard.{client_in, cell_heard, EndsBelow, none_below, one_more_below, untouched}

-- what the clients in these cells have
abbrev all_connected_at : Clients → Links
all_connected_at clients = λ connection. connected_at clients connection

-- one cell is written
written_at : (clients clients' : Clients) (number : ℕ) (before after : Option (ClientState GroupPlace)) → slice_get clients number ≡ Some before
    → clients' ≡ slice_set clients number after
    → (each : ℕ) → with_connected (all_connected_at clients) number (connected_in (Some after)) each ≡ all_connected_at clients' each
written_at clients clients' number before after has is each =
    ⊎_elim
    (λ (same : each ≡ number).
    ap (with_connected (all_connected_at clients) number (connected_in (Some after))) same ∙ connected_here (all_connected_at clients) number (connected_in (Some after))
    ∙ sym
    (ap (all_connected_at clients') same ∙ ap (λ (l : Clients). connected_at l number) is
    ∙ ap connected_in (slice_get-set_same clients number after (slice_get_within clients number before has))))
    (λ (other : each ≢ number).
    connected_beside (all_connected_at clients) number each (connected_in (Some after)) other
    ∙ sym (ap (λ (l : Clients). connected_at l each) is ∙ ap connected_in (slice_get-set_other clients number each after other)))
    (cases_eq each number)

in_cell : (first : Broker) (conn_steps : List ConnStep) (outputs : List StepOutput) (clients clients' : Clients) (number : ℕ) (old new : Broker)
    (Becomes : Option (ClientState GroupPlace) → Option (ClientState GroupPlace) → Type 0) (Answers : List ConnStep → Type 0)
    (cell : InCell clients number Becomes clients') → Keeps first conn_steps (all_connected_at clients) old
    → (Keeps first conn_steps (with_connected (all_connected_at clients) number (connected_in (Some cell.before))) old
    → Says first conn_steps outputs Answers (with_connected (all_connected_at clients) number (connected_in (Some cell.after))) new)
    → Says first conn_steps outputs Answers (all_connected_at clients') new
in_cell first conn_steps outputs clients clients' number old new Becomes Answers cell keeps does =
    subst (λ (l : Links). Says first conn_steps outputs Answers l new) (λ i each. written_at clients clients' number cell.before cell.after cell.has cell.is each i)
    (does (subst (λ (l : Links). Keeps first conn_steps l old) (sym (with_same (all_connected_at clients) number (connected_in (Some cell.before)) (ap connected_in cell.has))) keeps))

-- a connection is opened: it has no session
opened : (number : ℕ) (opening : Opening) (before after : Option (ClientState GroupPlace)) → Opens number opening before after → connected_in (Some before) ≡ connected_in (Some after)
opened number opening None after does = ap (λ (c : Option (ClientState GroupPlace)). connected_in (Some c)) (sym does)
opened number opening (Some client) after does = ap (λ (c : Option (ClientState GroupPlace)). connected_in (Some c)) (sym does)

-- the close
ended : (number : ℕ) (first : Broker) (conn_steps : List ConnStep) (old new : Broker) (clients clients' : Clients) (now : ℕ) (outputs : List StepOutput) (result : Result (Unit {0}) NoMemory)
    → IsOk result → AreNumbered clients → AreSound now clients → Keeps first conn_steps (all_connected_at clients) old → (ends : EndsAt number old clients now outputs result clients' new)
    → Says first conn_steps outputs (AllAt now (EndsSteps number inputs.Closing (client_at clients number))) (all_connected_at clients') new
ended number first conn_steps old new clients clients' now outputs result ok all sound keeps ends =
    subst (λ (c : Option (ClientState GroupPlace)). Says first conn_steps outputs (AllAt now (EndsSteps number inputs.Closing c)) (all_connected_at clients') new)
    (sym (client_in clients number ends.before ends.has))
    (in_cell first conn_steps outputs clients clients' number old new _ (AllAt now (EndsSteps number inputs.Closing ends.before)) ends keeps
    (λ has.
    ends_for result ends.before ends.after first conn_steps (all_connected_at clients) number old new now inputs.Closing outputs ok tt (at ends.before clients number all ends.has)
    (sound_at ends.before clients number now sound ends.has) has ends.becomes))

first_ended : (number : ℕ) (first : Broker) (conn_steps : List ConnStep) (old new : Broker) (clients clients' : Clients) (now : ℕ) (outputs : List StepOutput) (result : Result (Unit {0}) NoMemory)
    → IsOk result → AreNumbered clients → AreSound now clients → Keeps first conn_steps (all_connected_at clients) old → EndsFirst number old clients now outputs result clients' new
    → Says first conn_steps outputs (AllAt now (EndsBelow number clients)) (all_connected_at clients') new
first_ended zero first conn_steps old new clients clients' now outputs result ok all sound keeps ends =
    subst (λ (c : Clients). Says first conn_steps outputs (AllAt now (EndsBelow 0 clients)) (all_connected_at c) new) (sym ends.2)
    (silent first conn_steps (AllAt now (EndsBelow 0 clients)) (all_connected_at clients) old new outputs (tt, none_below clients) ends.0 ends.3 keeps)
first_ended (suc number) first conn_steps old new clients clients' now outputs result ok all sound keeps ends =
    let both : IsOk (result_and ends.4 ends.5) = subst IsOk ends.9 ok in
    subst (λ (s : List StepOutput). Says first conn_steps s (AllAt now (EndsBelow (suc number) clients)) (all_connected_at clients') new) (sym ends.8)
    (then_says first conn_steps ends.2 ends.3 (AllAt now (EndsBelow number clients)) (AllAt now (EndsSteps number inputs.Closing (client_at ends.1 number)))
    (AllAt now (EndsBelow (suc number) clients)) (all_connected_at ends.1) (all_connected_at clients') ends.0 new
    (λ these those below last. (
      all_of_both (λ (t : ConnStep). t.at ≡ now) these those below.0 last.0,
      one_more_below number clients these those below.1
          (subst (λ (c : Option (ClientState GroupPlace)). EndsSteps number inputs.Closing c those)
          (untouched number number old ends.0 clients ends.1 now ends.2 ends.4 (omega arith) ends.6) last.1),
    ))
    (first_ended number first conn_steps old ends.0 clients ends.1 now ends.2 ends.4 (first_ok ends.4 ends.5 both) all sound keeps ends.6)
    (λ before kept.
    ended number first before ends.0 new ends.1 clients' now ends.3 ends.5 (then_ok ends.4 ends.5 both)
    (addressed.first_ended number old ends.0 clients ends.1 now ends.2 ends.4 all ends.6)
    (sounding.first_ended number old ends.0 clients ends.1 now ends.2 ends.4 (first_ok ends.4 ends.5 both) sound ends.6) kept ends.7))

shut : (first : Broker) (conn_steps : List ConnStep) (all_connected : Links) (old closed : Broker) → Closes old closed → Keeps first conn_steps all_connected old → Keeps first conn_steps all_connected closed
shut first conn_steps all_connected old closed closes keeps =
    record {
      happenings = keeps.happenings ++ Closed ∷ [];
      led = joins keeps.happenings (Closed ∷ []) first old closed keeps.led (closed, closes, refl);
      handed = keeps.handed ∙ ap (map (λ (h : HandOut). h.1)) (sym (filter_map-append handed_by keeps.happenings (Closed ∷ []) ∙ append-nil (handed_by_all keeps.happenings)));
      sessions = subst (λ (desk : Books Held GroupPlace). KeepsSessions conn_steps desk all_connected) (sym closes.desk) keeps.sessions;
      accepted = keeps.accepted;
      accepts = keeps.accepts;
      sent = keeps.sent;
      light = keeps.light;
      placed = keeps.placed;
      sends = keeps.sends;
      at = keeps.at;
      owns = owns_closed (record { all_connected = all_connected; log = keeps.accepted }) old closed closes keeps.owns;
      settled = keeps.settled;
      acknowledged = keeps.acknowledged;
      adds =
          subst (λ (settled : List Settlement). AddsIn first.groups settled closed.groups) (append-nil keeps.settled)
          (adds_then keeps.settled [] first.groups old.groups closed.groups keeps.adds (none_closed old.groups closed.groups closes.groups));
    }

-- an event, where no allocation failed
does : (max_inflight : ℕ) (event : ServerEvent) (first : Broker) (conn_steps : List ConnStep) (old new : Broker) (clients clients' : Clients) (now : ℕ) (outputs : List StepOutput) (result : Result (Unit {0}) NoMemory)
    → IsOk result → AreNumbered clients → AreSound now clients → Keeps first conn_steps (all_connected_at clients) old → Does event max_inflight old clients now outputs result clients' new
    → Says first conn_steps outputs (AllAt now (λ more. EventIsAnswered event clients more clients')) (all_connected_at clients') new
does max_inflight (events.Open number) first conn_steps old new clients clients' now outputs result ok all sound keeps done =
    let cell = done.0 in
    let Silent : List ConnStep → Type 0 = AllAt now (λ more. more ≡ []) in
    in_cell first conn_steps outputs clients clients' number old new _ Silent cell keeps
    (λ has.
    subst (λ (l : Option (ConnectedClient GroupPlace)). Says first conn_steps outputs Silent (with_connected (all_connected_at clients) number l) new) (opened number _ cell.before cell.after cell.becomes)
    (silent first conn_steps Silent (with_connected (all_connected_at clients) number (connected_in (Some cell.before))) old new outputs (tt, refl) done.2 done.1 has))
does max_inflight (events.Bytes number piece) first conn_steps old new clients clients' now outputs result ok all sound keeps cell =
    cell_heard clients clients' number _ cell (λ before after. Says first conn_steps outputs (AllAt now (λ more. PieceIsAnswered before piece more after)) (all_connected_at clients') new)
    (in_cell first conn_steps outputs clients clients' number old new _ (AllAt now (λ more. PieceIsAnswered cell.before piece more cell.after)) cell keeps
    (λ has.
    receives result cell.before cell.after first conn_steps (all_connected_at clients) number old new now piece outputs ok (at cell.before clients number all cell.has)
    (sound_at cell.before clients number now sound cell.has) has cell.becomes))
does max_inflight (events.Tick number) first conn_steps old new clients clients' now outputs result ok all sound keeps cell =
    cell_heard clients clients' number _ cell (λ before after. Says first conn_steps outputs (AllAt now (λ more. TickIsAnswered before more after)) (all_connected_at clients') new)
    (in_cell first conn_steps outputs clients clients' number old new _ (AllAt now (λ more. TickIsAnswered cell.before more cell.after)) cell keeps
    (λ has.
    ticks_for result cell.before cell.after first conn_steps (all_connected_at clients) number old new now outputs ok (at cell.before clients number all cell.has)
    (sound_at cell.before clients number now sound cell.has) has cell.becomes))
does max_inflight (events.End number) first conn_steps old new clients clients' now outputs result ok all sound keeps cell =
    cell_heard clients clients' number _ cell (λ before after. Says first conn_steps outputs (AllAt now (LastIsAnswered inputs.EndOfInput before)) (all_connected_at clients') new)
    (says_so first conn_steps outputs (AllAt now (EndsSteps number inputs.EndOfInput cell.before)) (AllAt now (LastIsAnswered inputs.EndOfInput cell.before)) (all_connected_at clients') new
    (λ these ends. (ends.0, ends_heard number inputs.EndOfInput cell.before these ends.1))
    (in_cell first conn_steps outputs clients clients' number old new _ (AllAt now (EndsSteps number inputs.EndOfInput cell.before)) cell keeps
    (λ has.
    ends_for result cell.before cell.after first conn_steps (all_connected_at clients) number old new now inputs.EndOfInput outputs ok tt
    (at cell.before clients number all cell.has) (sound_at cell.before clients number now sound cell.has) has cell.becomes)))
does max_inflight events.Close first conn_steps old new clients clients' now outputs result ok all sound keeps closes =
    says_so first conn_steps outputs (AllAt now (EndsBelow closes.2 clients)) (AllAt now (λ more. EventIsAnswered events.Close clients more clients')) (all_connected_at clients') new
    (λ these below. (below.0, λ number less. ends_heard number inputs.Closing (client_at clients number) _ ((below.1 number).0 (let is = closes.3 in omega arith))))
    (first_ended closes.2 first conn_steps closes.0 new clients clients' now outputs result ok all sound (shut first conn_steps (all_connected_at clients) old closes.0 closes.1 keeps) closes.4)

does_if : (max_inflight : ℕ) (open? : Bool) (event : ServerEvent) (first : Broker) (conn_steps : List ConnStep) (old new : Broker) (clients clients' : Clients) (now : ℕ) (outputs : List StepOutput)
    (result : Result (Unit {0}) NoMemory)
    → IsOk result → AreNumbered clients → AreSound now clients → Keeps first conn_steps (all_connected_at clients) old → DoesIf open? event max_inflight old clients now outputs result clients' new
    → Says first conn_steps outputs (AllAt now (λ more. EventIsAnsweredIf open? event clients more clients')) (all_connected_at clients') new
does_if max_inflight true event first conn_steps old new clients clients' now outputs result ok all sound keeps done =
    does max_inflight event first conn_steps old new clients clients' now outputs result ok all sound keeps done
does_if max_inflight false event first conn_steps old new clients clients' now outputs result ok all sound keeps done =
    subst (λ (c : Clients). Says first conn_steps outputs (AllAt now (λ more. more ≡ [])) (all_connected_at c) new) (sym done.2)
    (silent first conn_steps (AllAt now (λ more. more ≡ [])) (all_connected_at clients) old new outputs (tt, refl) done.0 done.3 keeps)

-- what is said is told by the steps
and_told : (first : Broker) (conn_steps : List ConnStep) (outputs : List StepOutput) (Answers : List ConnStep → Type 0) (all_connected : Links) (new : Broker) → Says first conn_steps outputs Answers all_connected new
    → Says first conn_steps outputs (λ more. AllTell outputs more × Answers more) all_connected new
and_told first conn_steps outputs Answers all_connected new says =
    record { more = says.more; told = says.told; short = says.short; answers = (says.told, says.answers); keeps = says.keeps }

-- the clock does not go back
clock_later : (old new : ServerState) (moment : ℕ) → new.clock ≡ max old.clock moment → old.clock ≤ new.clock
clock_later old new moment is = subst (λ (n : ℕ). old.clock ≤ n) (sym is) (le-max_left old.clock moment)

happened : (events : List TimedEvent) (first : Broker) (conn_steps : List ConnStep) (outputs : List StepOutput) (old new : ServerState) → AreNumbered old.clients → AreSound old.clock old.clients
    → Keeps first conn_steps (all_connected_at old.clients) old.broker
    → (run : HappensAll old events outputs new) → Says first conn_steps outputs (λ more. AllAreAnswered old events outputs new run more) (all_connected_at new.clients) new.broker
happened [] first conn_steps outputs old new all sound keeps run =
    subst (λ (s : ServerState). Says first conn_steps outputs (λ more. more ≡ []) (all_connected_at s.clients) s.broker) (sym run.1)
    (silent first conn_steps (λ more. more ≡ []) (all_connected_at old.clients) old.broker old.broker outputs refl run.0 refl keeps)
happened (event ∷ others) first conn_steps outputs old new all sound keeps run =
    let mid = run.0 in
    let timely = sound_later old.clients old.clock mid.clock (clock_later old mid event.moment run.3.clock) sound in
    subst (λ (s : List StepOutput). Says first conn_steps s (λ more. AllAreAnswered old (event ∷ others) outputs new run more) (all_connected_at new.clients) new.broker) (sym run.5)
    (then_says first conn_steps run.1 run.2 (λ more. AllTell run.1 more × AllAt mid.clock (λ more. EventIsAnsweredIf (is_open old.broker) event.event old.clients more mid.clients) more)
    (λ more. AllAreAnswered mid others run.2 new run.4 more) (λ more. AllAreAnswered old (event ∷ others) outputs new run more) (all_connected_at mid.clients) (all_connected_at new.clients)
    mid.broker new.broker (λ these those one other. (these, those, one.0, one.1.0, one.1.1, other, refl))
    (and_told first conn_steps run.1 (AllAt mid.clock (λ more. EventIsAnsweredIf (is_open old.broker) event.event old.clients more mid.clients)) (all_connected_at mid.clients) mid.broker
    (does_if _ (is_open old.broker) event.event first conn_steps old.broker mid.broker old.clients mid.clients mid.clock run.1 (Ok tt) refl all timely keeps run.3.does))
    (λ before kept.
    happened others first before run.2 mid new (answered event.moment event.event run.1 (Ok tt) old mid all run.3).0
    (still_sound _ (is_open old.broker) event.event old.broker mid.broker old.clients mid.clients mid.clock run.1 (Ok tt) refl timely run.3.does) kept run.4))

-- a new server: no session, and nobody has one
none_at : (count connection : ℕ) → connected_in (slice_get (replicate {A = Option (ClientState GroupPlace)} count None) connection) ≡ None
none_at zero connection = refl
none_at (suc count) zero = refl
none_at (suc count) (suc connection) = none_at count connection

nobody : (setup : Setup) (server : ServerState) → IsNewServer setup server → (connection : ℕ) → connected_at server.clients connection ≡ None
nobody setup server new connection = ap (λ (l : Clients). connected_at l connection) new.clients ∙ none_at 64 connection

pub new_sessions : (setup : Setup) (server : ServerState) → IsNewServer setup server → KeepsSessions [] server.broker.desk (all_connected_at server.clients)
new_sessions setup server new =
    let none = nobody setup server new in
    record {
      law = new_desk setup.capacity setup.groups server.broker new.broker;
      has_connected = λ connection connected is. absurd (let e = none connection in cc);
      parked = λ number session is.
          absurd
          (let empty = ap (λ (b : Books Held GroupPlace). map.get b.rows number) new.broker.desk.books
          ∙ get-empty {X = Row Held GroupPlace} nat_cmp number in let has = is.has in cc);
      later = λ number from. refl;
      legal = λ number. tt;
      own = λ connection. ap session_of (none connection);
    }

-- each open connection's session stands where it was told to
stands : (conn_steps : List ConnStep) (connected : Option (ConnectedClient GroupPlace)) (b : Broker) (clients : Clients) (connection : ℕ) → KeepsSessions conn_steps b.desk (all_connected_at clients)
    → AllWithinQuota clients → connected_at clients connection ≡ connected → StandsAsTold conn_steps connected
stands conn_steps None b clients connection keeps within is = tt
stands conn_steps (Some connected) b clients connection keeps within is = ((keeps.has_connected connection connected is).leads.stands, keeps_quota clients connection connected within is)

starts : (setup : Setup) (first : ServerState) → IsNewServer setup first → Keeps first.broker [] (all_connected_at first.clients) first.broker
starts setup first new =
    record {
      happenings = [];
      led = refl;
      handed = refl;
      sessions = new_sessions setup first new;
      accepted = [];
      accepts = refl;
      sent = λ envelope has. absurd (contains_nil envelope has);
      light = tt;
      placed = tt;
      sends = tt;
      at = λ connection. ap place_of (sym (nobody setup first new connection));
      owns = owns_new (all_connected_at first.clients) setup.capacity setup.groups first.broker new.broker (nobody setup first new);
      settled = [];
      acknowledged = refl;
      adds = adds_nothing first.broker first.broker refl;
    }

whole : (setup : Setup) (events : List TimedEvent) (outputs : List StepOutput) (first last : ServerState) → IsNewServer setup first → (run : HappensAll first events outputs last)
    → Says first.broker [] outputs (λ more. AllAreAnswered first events outputs last run more) (all_connected_at last.clients) last.broker
whole setup events outputs first last new run =
    happened events first.broker [] outputs first last (new_numbered setup first new) (new_sound setup first new) (starts setup first new) run

-- two connections that have one session are one
alone : (conn_steps : List ConnStep) (b : Broker) (all_connected : Links) (one other : ℕ) (these those : ConnectedClient GroupPlace) → KeepsSessions conn_steps b.desk all_connected
    → all_connected one ≡ Some these → all_connected other ≡ Some those → these.session.identity.number ≡ those.session.identity.number → one ≡ other
alone conn_steps b all_connected one other these those keeps is is' same =
    one_holder b.desk.rows those.session.identity.number one other
    (subst (λ (n : ℕ). IsLentTo b.desk.rows n one) same (keeps.has_connected one these is).holds)
    (keeps.has_connected other those is').holds

-- so does a session that the desk keeps parked
parked : (conn_steps : List ConnStep) (b : Broker) (all_connected : Links) (number : ℕ) (row : Row Held GroupPlace) (session : Session Held GroupPlace) → KeepsSessions conn_steps b.desk all_connected
    → HasRow b.desk.rows number row → row.held_by ≡ Parked session
    → window_after_all (window_down []) (transcript_of session.identity.number conn_steps) ≡ window_state session.window
parked conn_steps b all_connected number row session keeps has is =
    let its : session.identity.number ≡ number = ap (λ w. w.number) (keeps.law.own number row session has (ap session_in is)) in
    ap (λ (n : ℕ). window_after_all (window_down []) (transcript_of n conn_steps)) its
    ∙ (keeps.parked number session (record { row = row; has = has; parked = is })).leads.stands

account : (setup : Setup) (first : ServerState) (conn_steps : List ConnStep) (server : ServerState) → IsNewServer setup first
    → Keeps first.broker conn_steps (all_connected_at server.clients) server.broker → AllWithinQuota server.clients → AccountFor conn_steps server
account setup first conn_steps server new keeps within =
    let sessions = keeps.sessions in
    let all_connected = all_connected_at server.clients in
    record {
      legal = sessions.legal;
      own = sessions.own;
      alone = λ one other these those is is' same. alone conn_steps server.broker all_connected one other these those sessions is is' same;
      stands = λ connection. stands conn_steps (connected_at server.clients connection) server.broker server.clients connection sessions within refl;
      parked = λ number row session has is. parked conn_steps server.broker all_connected number row session sessions has is;
      placed = keeps.placed;
      sends = keeps.sends;
      at = keeps.at;
      handed = handed setup.capacity setup.groups keeps.happenings first.broker server.broker _ new.broker keeps.led keeps.handed;
    }

told_in : (setup : Setup) (events : List TimedEvent) (outputs : List StepOutput) (first last : ServerState) → IsNewServer setup first → (run : HappensAll first events outputs last)
    → Says first.broker [] outputs (λ more. AllAreAnswered first events outputs last run more) (all_connected_at last.clients) last.broker → AllWithinQuota last.clients
    → KeepsTranscripts first events outputs last run
told_in setup events outputs first last new run says within =
    record { conn_steps = says.more; told = says.told; came = says.answers; account = account setup first says.more last new says.keeps within }

pub transcripts : (setup : Setup) (events : List TimedEvent) (outputs : List StepOutput) (first last : ServerState) → IsNewServer setup first → (run : HappensAll first events outputs last)
    → KeepsTranscripts first events outputs last run
transcripts setup events outputs first last new run =
    told_in setup events outputs first last new run (whole setup events outputs first last new run) (quotas.within setup events first last new (undergoes events outputs first last run))

-- at each moment of the run
moments : (setup : Setup) (first : ServerState) (events : List TimedEvent) (conn_steps : List ConnStep) (outputs : List StepOutput) (old new : ServerState) → IsNewServer setup first
    → AreNumbered old.clients → AreSound old.clock old.clients → Keeps first.broker conn_steps (all_connected_at old.clients) old.broker → AllWithinQuota old.clients
    → (run : HappensAll old events outputs new) → AccountAlong conn_steps old events outputs new run
moments setup first [] conn_steps outputs old new is all sound keeps within run = account setup first conn_steps old is keeps within
moments setup first (event ∷ others) conn_steps outputs old new is all sound keeps within run =
    let mid = run.0 in
    let timely = sound_later old.clients old.clock mid.clock (clock_later old mid event.moment run.3.clock) sound in
    let says = does_if _ (is_open old.broker) event.event first.broker conn_steps old.broker mid.broker old.clients mid.clients mid.clock run.1 (Ok tt) refl all timely keeps run.3.does in (
      account setup first conn_steps old is keeps within,
      says.more,
      says.told,
      says.answers.0,
      says.answers.1,
      moments setup first others (conn_steps ++ says.more) run.2 mid new is (answered event.moment event.event run.1 (Ok tt) old mid all run.3).0
          (still_sound _ (is_open old.broker) event.event old.broker mid.broker old.clients mid.clients mid.clock run.1 (Ok tt) refl timely run.3.does) says.keeps
          (quotas.happened event.moment event.event run.1 (Ok tt) old mid run.3 within) run.4,
    )

pub along : (setup : Setup) (events : List TimedEvent) (outputs : List StepOutput) (first last : ServerState) → IsNewServer setup first → (run : HappensAll first events outputs last)
    → AccountAlong [] first events outputs last run
along setup events outputs first last new run =
    moments setup first events [] outputs first last new (new_numbered setup first new) (new_sound setup first new) (starts setup first new) (quotas.new_within setup first new) run

-- a group that was new has nothing settled but that
settled_since : (setup : Setup) (first : ServerState) (settled : List Settlement) (last : Broker) → IsNewServer setup first → AddsIn first.broker.groups settled last.groups
    → (slot : ℕ) (group : Group) → slice_get last.groups slot ≡ Some group → settled_in_all group.events ≡ filter_map (settled_seen_by slot) settled
settled_since setup first settled last new adds slot group there =
    let since = adds slot group there in
    since.ends ∙ ap (λ events. settled_in_all events ++ filter_map (settled_seen_by slot) settled) (new.broker.groups slot since.before since.was).fresh.events

-- what each open connection's session holds is out at its place
held_out : (connected : Option (ConnectedClient GroupPlace)) (b : Broker) (all_connected : Links) (log : Log) (connection : ℕ) → Owns (record { all_connected = all_connected; log = log }) b → all_connected connection ≡ connected
    → HeldIsOut b connected
held_out None b all_connected log connection owns is = tt
held_out (Some connected) b all_connected log connection owns is = owns.owned (InHand connection) connected.session (record { connected = connected; has = is; its = refl })

settled_in_run : (setup : Setup) (events : List TimedEvent) (outputs : List StepOutput) (first last : ServerState) → IsNewServer setup first → (run : HappensAll first events outputs last)
    → Says first.broker [] outputs (λ more. AllAreAnswered first events outputs last run more) (all_connected_at last.clients) last.broker → AllWithinQuota last.clients
    → SettlesWhatIsAcknowledged first events outputs last run
unfolding told_in
settled_in_run setup events outputs first last new run says within =
    record {
      transcripts = told_in setup events outputs first last new run says within;
      settled = says.keeps.settled;
      acknowledged = says.keeps.acknowledged;
      fates = settled_since setup first says.keeps.settled last.broker new says.keeps.adds;
      held_out = λ connection. held_out (connected_at last.clients connection) last.broker (all_connected_at last.clients) says.keeps.accepted connection says.keeps.owns refl;
      parked_out = λ number row session has stands. says.keeps.owns.owned (AtDesk number) session (record { row = row; has = has; stands = stands });
    }

pub settlings : (setup : Setup) (events : List TimedEvent) (outputs : List StepOutput) (first last : ServerState) → IsNewServer setup first → (run : HappensAll first events outputs last)
    → SettlesWhatIsAcknowledged first events outputs last run
settlings setup events outputs first last new run =
    settled_in_run setup events outputs first last new run (whole setup events outputs first last new run) (quotas.within setup events first last new (undergoes events outputs first last run))

-- what is sent was accepted
pub messages : (setup : Setup) (events : List TimedEvent) (outputs : List StepOutput) (first last : ServerState) → IsNewServer setup first → (run : HappensAll first events outputs last)
    → SendsWhatWasAccepted first events outputs last run
unfolding settled_in_run told_in
messages setup events outputs first last new run =
    let says = whole setup events outputs first last new run in
    record {
      settling = settled_in_run setup events outputs first last new run says (quotas.within setup events first last new (undergoes events outputs first last run));
      eight = as_many says.keeps.happenings first.broker last.broker says.keeps.led ∙ new.broker.eight;
      accepted = says.keeps.accepted;
      brought = says.keeps.accepts;
      accepts = λ slot group there. (says.keeps.owns.know slot group there).told;
      sent = says.keeps.sent;
    }

-- what is said is short
pub shortness : (setup : Setup) (events : List TimedEvent) (outputs : List StepOutput) (first last : ServerState) → IsNewServer setup first → HappensAll first events outputs last → AllShort outputs
shortness setup events outputs first last new run = (whole setup events outputs first last new run).short
