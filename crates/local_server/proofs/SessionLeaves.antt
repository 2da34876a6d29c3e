-- Between any two steps of a session, over however many connections: once it left its group it is handed nothing.
use Rattle.std.proofs.Common.{◌≡◌, ◌≢◌, ℕ, nat_eq, Bool, true, false, if◌then◌else◌, List, [], ◌∷◌, ◌++◌, Option, Some, None, slice_get, refl, sym, ap, subst, ◌∙◌, ⊎_elim}
use Rattle.std.specs.List.{AllByRecursion}
use Rattle.std.proofs.lemmas.Bool.{cases_eq, eq-eqb, ne_eqb}
use Rattle.std.proofs.lemmas.Option.{same_Some}
use Rattle.group_jobs.specs.Stamps.{Held}
use Rattle.session_desk.specs.Books.{Books}
use Rattle.conn_engine.specs.declared.phase.ConnectedClient.{ConnectedClient}
use Rattle.conn_engine.specs.declared.phase.Opening.{Opening}
use Rattle.conn_engine.specs.declared.phase.ConnPhase.{ConnPhase}
use Rattle.conn_engine.specs.declared.phase.ConnPhase.TheVariants.{Unconnected, Waiting, Connected, Ended}
use Rattle.conn_laws.specs.Transcripts.{connected_of, IsNotEnding}
use Rattle.conn_laws.proofs.Transcripts.{transcribed_with}
use Rattle.client_table.specs.Clients.{ClientState, StepOutput}
use Rattle.local_broker.specs.Places.{GroupPlace}
use Rattle.local_broker.specs.Broker.{Broker, is_open}
use Rattle.local_broker.specs.Calls.{Calls}
use Rattle.local_server.specs.declared.event.ServerEvent.{ServerEvent}
use Rattle.local_server.specs.declared.event.ServerEvent.TheVariants as events
use Rattle.local_server.specs.declared.event.TimedEvent.{TimedEvent}
use Rattle.conn_rules.specs.Connecting.{inflight_alone}
use Rattle.conn_rules.specs.declared.setup.Setup.{Setup}
use Rattle.local_server.specs.Servers.{Clients, ServerState, IsNewServer}
use Rattle.local_server.specs.Happening.{slot_of, HappensAll}
use Rattle.local_server.specs.Streams.{open_in, client_at}
use Rattle.local_server.specs.ConnSteps.{ConnStep}
use Rattle.local_server.specs.Transcripts.{connected_in, connected_at, session_of}
use Rattle.local_server.specs.TakenSteps.{TakenStep, IsLawfulStep, steps_of, LeadBroker, LeadPhase, phase_of, opens, first_phase, BeginsWith, AreTakenIf, AllAreTaken}
use Rattle.local_server.specs.Unsubscribed.{HandsOutNothing, Joins, session_at, IsOfSession, HandsNothingToSessionsThatLeft}
use Rattle.local_server.proofs.Going.{goes_as}
use Rattle.local_server.proofs.Lent.{IsLentTo, one_holder, not_both}
use Rattle.local_server.proofs.Sessions.{with_connected, connected_here, connected_beside, KeepsSessions}
use Rattle.local_server.proofs.Stepping.{Links, adds_step}
use Rattle.local_server.proofs.SessionsOut.{IsOutThere, session_step}
use Rattle.local_server.proofs.TakenSteps.{all_lawful}
use Rattle.local_server.proofs.Transcripts.{new_sessions}
use Rattle.local_server.proofs.Unsubscribed.{IsOutside, IsOut, goes_out}

abbrev Desk : Type 0
Desk = Books Held GroupPlace

-- these steps lead from what the connections have, and this desk, to those
abbrev Along : Links → Desk → List TakenStep → Links → Desk → Type 0
Along links desk [] links' desk' = (links' ≡ links) × (desk' ≡ desk)
Along links desk (step ∷ steps) links' desk' =
    (step.broker_before.desk ≡ desk) × (connected_of step.phase_before ≡ links step.connection)
    × Along (with_connected links step.connection (connected_of step.phase_after)) step.broker_after.desk steps links' desk'

along_both : (steps others : List TakenStep) (links between links' : Links) (desk mid desk' : Desk) → Along links desk steps between mid → Along between mid others links' desk'
    → Along links desk (steps ++ others) links' desk'
along_both [] others links between links' desk mid desk' these those =
    subst (λ (l : Links). Along l desk others links' desk') these.0 (subst (λ (d : Desk). Along between d others links' desk') these.1 those)
along_both (step ∷ steps) others links between links' desk mid desk' these those =
    (these.0, these.1, along_both steps others (with_connected links step.connection (connected_of step.phase_after)) between links' step.broker_after.desk mid desk' these.2 those)

-- how far each connection has come, one by one
abbrev with_phase : (ℕ → ConnPhase GroupPlace) → ℕ → ConnPhase GroupPlace → ℕ → ConnPhase GroupPlace
with_phase phases number phase other = if nat_eq other number then phase else phases other

in_one : (b : Bool) (one other : ConnPhase GroupPlace) → connected_of (if b then one else other) ≡ (if b then connected_of one else connected_of other)
in_one true one other = refl
in_one false one other = refl

one_step : (phases phases' : ℕ → ConnPhase GroupPlace) (step : TakenStep) (steps : List TakenStep) → ((number : ℕ) → LeadPhase (phases number) (steps_of number (step ∷ steps)) (phases' number))
    → (step.phase_before ≡ phases step.connection)
    × ((number : ℕ) → LeadPhase (with_phase phases step.connection step.phase_after number) (steps_of number steps) (phases' number))
one_step phases phases' step steps leads =
    let here : LeadPhase (phases step.connection) (step ∷ steps_of step.connection steps) (phases' step.connection) =
    subst (λ (b : Bool). LeadPhase (phases step.connection) (if b then step ∷ steps_of step.connection steps else steps_of step.connection steps) (phases' step.connection))
    (eq-eqb step.connection step.connection refl) (leads step.connection) in (
      here.0,
      λ number.
          ⊎_elim
          (λ (same : number ≡ step.connection).
          subst (λ (k : ℕ). LeadPhase (with_phase phases step.connection step.phase_after k) (steps_of k steps) (phases' k)) (sym same)
          (subst (λ (b : Bool). LeadPhase (if b then step.phase_after else phases step.connection) (steps_of step.connection steps) (phases' step.connection))
          (sym (eq-eqb step.connection step.connection refl)) here.1))
          (λ (other : number ≢ step.connection).
          subst (λ (b : Bool). LeadPhase (if b then step.phase_after else phases number) (steps_of number steps) (phases' number)) (sym (ne_eqb number step.connection other))
          (subst (λ (b : Bool). LeadPhase (phases number) (if b then step ∷ steps_of number steps else steps_of number steps) (phases' number))
          (ne_eqb step.connection number (λ same. other (sym same))) (leads number)))
          (cases_eq number step.connection),
    )

in_order : (steps : List TakenStep) (phases phases' : ℕ → ConnPhase GroupPlace) (old new : Broker) → LeadBroker old steps new
    → ((number : ℕ) → LeadPhase (phases number) (steps_of number steps) (phases' number)) → Along (λ number. connected_of (phases number)) old.desk steps (λ number. connected_of (phases' number)) new.desk
in_order [] phases phases' old new brokers leads = ((λ i number. connected_of (leads number i)), ap (λ (b : Broker). b.desk) brokers)
in_order (step ∷ steps) phases phases' old new brokers leads =
    let both = one_step phases phases' step steps leads in
    let moved = with_phase phases step.connection step.phase_after in
    let rest = in_order steps moved phases' step.broker_after new brokers.1 both.1 in (
      ap (λ (b : Broker). b.desk) brokers.0,
      ap connected_of both.0,
      subst (λ (l : Links). Along l step.broker_after.desk steps (λ number. connected_of (phases' number)) new.desk)
          (λ i number. in_one (nat_eq number step.connection) step.phase_after (phases number) i) rest,
    )

-- an event
at_cell : (cell : Option (Option (ClientState GroupPlace))) → connected_of (phase_of (open_in cell)) ≡ connected_in cell
at_cell None = refl
at_cell (Some None) = refl
at_cell (Some (Some client)) = refl

at_first : (opened : Bool) (opening : Opening) (client : Option (ClientState GroupPlace)) → connected_of (first_phase opened opening client) ≡ connected_of (phase_of client)
at_first true opening None = refl
at_first true opening (Some client) = refl
at_first false opening client = refl

abbrev links_at : Clients → Links
links_at clients = λ number. connected_at clients number

first_desk : (event : ServerEvent) (old first : Broker) → BeginsWith event old first → first.desk ≡ old.desk
first_desk (events.Open number) old first begins = ap (λ (b : Broker). b.desk) begins
first_desk (events.Bytes number piece) old first begins = ap (λ (b : Broker). b.desk) begins
first_desk (events.Tick number) old first begins = ap (λ (b : Broker). b.desk) begins
first_desk (events.End number) old first begins = ap (λ (b : Broker). b.desk) begins
first_desk events.Close old first begins = begins.desk

in_event : (open? : Bool) (event : ServerEvent) (old new : ServerState) (steps : List TakenStep) → AreTakenIf open? event old steps new
    → Along (links_at old.clients) old.broker.desk steps (links_at new.clients) new.broker.desk
in_event true event old new steps taken =
    let opening : Opening = record { at = new.clock; limits = inflight_alone old.max_inflight } in
    let there = in_order steps (λ number. first_phase (opens event number) opening (client_at old.clients number)) (λ number. phase_of (client_at new.clients number)) taken.first new.broker taken.broker taken.phases in
    subst (λ (l : Links). Along l old.broker.desk steps (links_at new.clients) new.broker.desk)
    (λ i number. (at_first (opens event number) opening (client_at old.clients number) ∙ at_cell (slice_get old.clients number)) i)
    (subst (λ (l : Links). Along (λ number. connected_of (first_phase (opens event number) opening (client_at old.clients number))) old.broker.desk steps l new.broker.desk)
    (λ i number. at_cell (slice_get new.clients number) i)
    (subst (λ (d : Desk). Along (λ number. connected_of (first_phase (opens event number) opening (client_at old.clients number))) d steps (λ number. connected_of (phase_of (client_at new.clients number))) new.broker.desk)
    (first_desk event old.broker taken.first taken.begins) there))
in_event false event old new steps taken =
    subst (λ (s : List TakenStep). Along (links_at old.clients) old.broker.desk s (links_at new.clients) new.broker.desk) (sym taken.0)
    (ap links_at taken.2, ap (λ (b : Broker). b.desk) taken.1)

in_run : (events : List TimedEvent) (outputs : List StepOutput) (old new : ServerState) (run : HappensAll old events outputs new) (steps : List TakenStep) → AllAreTaken old events outputs new run steps
    → Along (links_at old.clients) old.broker.desk steps (links_at new.clients) new.broker.desk
in_run [] outputs old new run steps taken =
    subst (λ (s : List TakenStep). Along (links_at old.clients) old.broker.desk s (links_at new.clients) new.broker.desk) (sym taken)
    (ap (λ (s : ServerState). links_at s.clients) run.1, ap (λ (s : ServerState). s.broker.desk) run.1)
in_run (event ∷ others) outputs old new run steps taken =
    let mid = run.0 in
    subst (λ (s : List TakenStep). Along (links_at old.clients) old.broker.desk s (links_at new.clients) new.broker.desk) (sym taken.4)
    (along_both taken.0 taken.1 (links_at old.clients) (links_at mid.clients) (links_at new.clients) old.broker.desk mid.broker.desk new.broker.desk
    (in_event (is_open old.broker) event.event old mid taken.0 taken.2.lead) (in_run others run.2 mid new run.4 taken.1 taken.3))

-- one step leads the sessions on
not_ending : (phase : ConnPhase GroupPlace) → ((connected : ConnectedClient GroupPlace) → connected_of phase ≡ Some connected → connected.session.window.retired ≡ false) → IsNotEnding phase
not_ending (Unconnected opened) all = tt
not_ending (Waiting request ticks) all = tt
not_ending (Connected connected) all = all connected refl
not_ending Ended all = tt

keeps : (conn_steps : List ConnStep) (links : Links) (step : TakenStep) → IsLawfulStep step → connected_of step.phase_before ≡ links step.connection → KeepsSessions conn_steps step.broker_before.desk links
    → (conn_step : ConnStep) × KeepsSessions (conn_steps ++ conn_step ∷ []) step.broker_after.desk (with_connected links step.connection (connected_of step.phase_after))
keeps conn_steps links step lawful has was =
    let sound = not_ending step.phase_before (λ connected is. (was.has_connected step.connection connected (sym has ∙ is)).leads.goes_on) in
    let old = step.broker_before in
    let new = step.broker_after in
    let told = transcribed_with Calls slot_of old new step.connection step.at step.phase_before step.phase_after step.input step.packets step.next lawful sound in
    let goes = goes_as old new step.connection step.at step.phase_before step.phase_after step.input step.packets step.next lawful in
    let adds =
    adds_step (connected_of step.phase_before) (connected_of step.phase_after) conn_steps old new links step.connection step.at step.input step.next told.step.marks told.step.outcomes told.step.session goes
    (sym has) was in
    (adds.conn_step, adds.keeps)

record Reached (steps : List TakenStep) (links' : Links) (desk' : Desk) : Type 0 where
  conn_steps : List ConnStep
  links : Links
  desk : Desk
  keeps_sessions : KeepsSessions conn_steps desk links
  along : Along links desk steps links' desk'
  lawful : AllByRecursion IsLawfulStep steps

one_on : (step : TakenStep) (steps : List TakenStep) (links' : Links) (desk' : Desk) → Reached (step ∷ steps) links' desk' → Reached steps links' desk'
one_on step steps links' desk' reached =
    let more = keeps reached.conn_steps reached.links step reached.lawful.0 reached.along.1
    (subst (λ (d : Desk). KeepsSessions reached.conn_steps d reached.links) (sym reached.along.0) reached.keeps_sessions) in
    record {
      conn_steps = reached.conn_steps ++ more.0 ∷ [];
      links = with_connected reached.links step.connection (connected_of step.phase_after);
      desk = step.broker_after.desk;
      keeps_sessions = more.1;
      along = reached.along.2;
      lawful = reached.lawful.1;
    }

all_on : (earlier steps : List TakenStep) (links' : Links) (desk' : Desk) → Reached (earlier ++ steps) links' desk' → Reached steps links' desk'
all_on [] steps links' desk' reached = reached
all_on (step ∷ earlier) steps links' desk' reached = all_on earlier steps links' desk' (one_on step (earlier ++ steps) links' desk' reached)

-- the client that a connection has its session with
has_session : (connected : Option (ConnectedClient GroupPlace)) (n : ℕ) → session_of connected ≡ Some n → (its : ConnectedClient GroupPlace) × (connected ≡ Some its) × (its.session.identity.number ≡ n)
has_session None n is = absurd (cc)
has_session (Some connected) n is = (connected, refl, same_Some connected.session.identity.number n is)

out_of : (phase : ConnPhase GroupPlace) (connected : ConnectedClient GroupPlace) → connected_of phase ≡ Some connected → IsOut phase → IsOutside connected
out_of (Unconnected opened) connected is out = absurd out
out_of (Waiting request ticks) connected is out = absurd out
out_of (Connected its) connected is out = subst IsOutside (same_Some its connected is) out
out_of Ended connected is out = absurd (cc)

as_out : (phase : ConnPhase GroupPlace) (connected : ConnectedClient GroupPlace) → connected_of phase ≡ Some connected → IsOutside connected → IsOut phase
as_out (Unconnected opened) connected is out = absurd (cc)
as_out (Waiting request ticks) connected is out = absurd (cc)
as_out (Connected its) connected is out = subst IsOutside (sym (same_Some its connected is)) out
as_out Ended connected is out = tt

-- each connection that has the session of this number is no member
abbrev LinksOut : ℕ → Links → Type 0
LinksOut n links = (number : ℕ) (connected : ConnectedClient GroupPlace) → links number ≡ Some connected → connected.session.identity.number ≡ n → IsOutside connected

-- after the step in which it left its group
after_left : (n : ℕ) (conn_steps : List ConnStep) (links : Links) (desk : Desk) (number : ℕ) (phase : ConnPhase GroupPlace) → KeepsSessions conn_steps desk links → links number ≡ connected_of phase
    → session_at phase ≡ Some n → IsOut phase → IsOutThere n desk × LinksOut n links
after_left n conn_steps links desk number phase keeps_sessions has its out =
    let mine = has_session (connected_of phase) n its in
    let connected = mine.0 in
    let lent : IsLentTo desk.rows n number = subst (λ (k : ℕ). IsLentTo desk.rows k number) mine.2 (keeps_sessions.has_connected number connected (has ∙ mine.1)).holds in (
      record {
        law = keeps_sessions.law;
        rows = λ session parked. absurd (not_both desk.rows n number session lent parked);
        made = keeps_sessions.law.made_before n lent.row lent.has;
      },
      λ other theirs is same.
          let their : IsLentTo desk.rows n other = subst (λ (k : ℕ). IsLentTo desk.rows k other) same (keeps_sessions.has_connected other theirs is).holds in
          let here : other ≡ number = one_holder desk.rows n other number their lent in
          out_of phase theirs (sym has ∙ ap links (sym here) ∙ is) out,
    )

-- the steps after it
before_is : (n : ℕ) (links : Links) (step : TakenStep) → connected_of step.phase_before ≡ links step.connection → LinksOut n links → session_at step.phase_before ≡ Some n → IsOut step.phase_before
before_is n links step has all its =
    let mine = has_session (connected_of step.phase_before) n its in
    as_out step.phase_before mine.0 mine.1 (all step.connection mine.0 (sym has ∙ mine.1) mine.2)

links_on : (n : ℕ) (links : Links) (step : TakenStep) → LinksOut n links → (session_at step.phase_after ≡ Some n → IsOut step.phase_after)
    → LinksOut n (with_connected links step.connection (connected_of step.phase_after))
links_on n links step all out number connected is same =
    ⊎_elim
    (λ (here : number ≡ step.connection).
    let its : connected_of step.phase_after ≡ Some connected =
    sym (connected_here links step.connection (connected_of step.phase_after)) ∙ ap (with_connected links step.connection (connected_of step.phase_after)) (sym here) ∙ is in
    out_of step.phase_after connected its (out (ap session_of its ∙ ap (λ (k : ℕ). let some : Option ℕ = Some k in some) same)))
    (λ (other : number ≢ step.connection). all number connected (sym (connected_beside links step.connection number (connected_of step.phase_after) other) ∙ is) same)
    (cases_eq number step.connection)

along_between : (n : ℕ) (between later : List TakenStep) (step : TakenStep) (links links' : Links) (desk desk' : Desk) → Along links desk (between ++ step ∷ later) links' desk'
    → AllByRecursion IsLawfulStep (between ++ step ∷ later) → IsOutThere n desk → LinksOut n links → AllByRecursion (λ (each : TakenStep). IsOfSession n each → ¬ Joins each) between
    → IsOfSession n step → ¬ Joins step → HandsOutNothing step
along_between n [] later step links links' desk desk' along lawful there all stays its no_join =
    (session_step n step lawful.0 (subst (IsOutThere n) (sym along.0) there) (before_is n links step along.1 all) (λ of_it. no_join)).2 its
along_between n (first ∷ between) later step links links' desk desk' along lawful there all stays its no_join =
    let went = session_step n first lawful.0 (subst (IsOutThere n) (sym along.0) there) (before_is n links first along.1 all) stays.0 in
    along_between n between later step (with_connected links first.connection (connected_of first.phase_after)) links' first.broker_after.desk desk' along.2 lawful.1 went.0
    (links_on n links first all went.1) stays.1 its no_join

pub in_whole_run : (setup : Setup) (events : List TimedEvent) (outputs : List StepOutput) (first last : ServerState) → IsNewServer setup first → (run : HappensAll first events outputs last)
    (steps : List TakenStep) → AllAreTaken first events outputs last run steps → HandsNothingToSessionsThatLeft steps
unfolding one_on
in_whole_run setup events outputs first last new run steps taken n earlier between later left step are leaves its stays of_it no_join =
    let begins : Reached steps (links_at last.clients) last.broker.desk = record {
      conn_steps = [];
      links = links_at first.clients;
      desk = first.broker.desk;
      keeps_sessions = new_sessions setup first new;
      along = in_run events outputs first last run steps taken;
      lawful = all_lawful events outputs first last run steps taken;
    } in
    let at_left = all_on earlier (left ∷ (between ++ step ∷ later)) (links_at last.clients) last.broker.desk
    (subst (λ (s : List TakenStep). Reached s (links_at last.clients) last.broker.desk) are begins) in
    let after = one_on left (between ++ step ∷ later) (links_at last.clients) last.broker.desk at_left in
    let there = after_left n after.conn_steps after.links after.desk left.connection left.phase_after after.keeps_sessions
    (connected_here at_left.links left.connection (connected_of left.phase_after)) its (goes_out left at_left.lawful.0 leaves).0 in
    along_between n between later step after.links (links_at last.clients) after.desk last.broker.desk after.along after.lawful there.0 there.1 stays of_it no_join
