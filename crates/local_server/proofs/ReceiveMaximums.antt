-- The quota of each connection is that of the CONNECT that came on it, along a run.
use Rattle.std.proofs.Common.{◌≡◌, ℕ, ◌≤◌, min, nat_eq, Bool, true, false, List, [], ◌∷◌, ◌++◌, length, Option, Some, None, sym, ap, subst, ◌∙◌, arith}
use Rattle.std.specs.List.{AllByRecursion}
use Rattle.std.proofs.lemmas.List.Elements.{filter-append}
use Rattle.mqtt_packet.specs.declared.packet.Connect.{Connect}
use Rattle.conn_rules.specs.Connecting.{inflight_alone, terms_of}
use Rattle.conn_rules.specs.declared.setup.Setup.{Setup}
use Rattle.conn_rules.specs.declared.client_limits.ClientLimits.{ClientLimits}
use Rattle.conn_rules.specs.declared.terms.Terms.{Terms}
use Rattle.conn_engine.specs.declared.input.Input.{Input}
use Rattle.conn_engine.specs.declared.phase.ConnectedClient.{ConnectedClient}
use Rattle.conn_engine.specs.declared.phase.Opening.{Opening}
use Rattle.conn_engine.specs.declared.phase.ConnPhase.{ConnPhase}
use Rattle.conn_engine.specs.declared.phase.ConnPhase.TheVariants.{Unconnected, Waiting, Connected, Ended}
use Rattle.conn_laws.specs.Quotas.{quota_of, KeepsQuota, IsWithinQuota}
use Rattle.conn_laws.proofs.Quotas as quotas
use Rattle.conn_laws.proofs.TermsAsked as terms_asked
use Rattle.client_table.specs.Clients.{ClientState, StepOutput}
use Rattle.local_broker.specs.Places.{GroupPlace}
use Rattle.local_broker.specs.Broker.{is_open}
use Rattle.local_broker.specs.Calls.{Calls}
use Rattle.local_server.specs.declared.event.ServerEvent.{ServerEvent}
use Rattle.local_server.specs.declared.event.TimedEvent.{TimedEvent}
use Rattle.local_server.specs.Servers.{Clients, ServerState, IsNewServer}
use Rattle.local_server.specs.Happening.{slot_of, HappensAll}
use Rattle.local_server.specs.Streams.{client_at}
use Rattle.local_server.specs.TakenSteps.{TakenStep, IsLawfulStep, steps_of, LeadPhase, phase_of, opens, first_phase, AreTakenIf, AllAreTaken}
use Rattle.local_server.specs.ReceiveMaximums.{receive_maximum_of, connect_once, KeepsToConnect, KeepsTo, KeepToTheirConnects}
use Rattle.local_server.proofs.TakenSteps.{lawful_of}
use Rattle.local_server.proofs.PacketSizes.{none_at}

-- ---- a step

-- what a connection is opened with, and the terms that it has
abbrev OpenedWith : ℕ → Opening → Type 0
OpenedWith limit opened = opened.limits ≡ inflight_alone limit

abbrev Asked : ℕ → Option Connect → Terms → Type 0
Asked limit came terms = (connect : Connect) × (came ≡ Some connect) × (terms ≡ terms_of (inflight_alone limit) connect)

abbrev HasAsked : ℕ → Option Connect → ConnPhase GroupPlace → Type 0
HasAsked limit came phase = terms_asked.Within Calls slot_of (OpenedWith limit) (Asked limit came) phase

-- it has what its CONNECT asked for, and is within the quota of that
abbrev IsWithin : ℕ → Option Connect → ConnPhase GroupPlace → Type 0
IsWithin limit came phase = HasAsked limit came phase × IsWithinQuota phase

has_asked : (limit : ℕ) (came : Option Connect) (phase : ConnPhase GroupPlace) (input : Input) → HasAsked limit came phase → HasAsked limit (connect_once came phase input) phase
has_asked limit came (Unconnected opened) input has = has
has_asked limit came (Waiting request ticks) input has = has
has_asked limit came (Connected connected) input has = has
has_asked limit came Ended input has = has

asks : (limit : ℕ) (came : Option Connect) (phase : ConnPhase GroupPlace) (input : Input)
    → terms_asked.Asks Calls slot_of (OpenedWith limit) (Asked limit (connect_once came phase input)) phase input
asks limit came phase input opened connect with_limit before is served =
    (connect, (λ i. connect_once came (before i) (is i)), ap (λ (l : ClientLimits). terms_of l connect) with_limit)

least_of : (limit asked n : ℕ) → n ≤ min (min limit asked) 256 → (n ≤ asked) × (n ≤ limit) × (n ≤ 256)
least_of limit asked n within = (omega (arith, within), omega (arith, within), omega (arith, within))

keeps_to_connect : (limit : ℕ) (connect : Connect) (connected : ConnectedClient GroupPlace) → connected.terms ≡ terms_of (inflight_alone limit) connect
    → KeepsQuota (quota_of connected.terms) connected.session.window → KeepsToConnect limit connect connected
keeps_to_connect limit connect connected terms keeps =
    let all = least_of limit (receive_maximum_of connect) (length connected.session.window.owed)
    (subst (λ (t : Terms). length connected.session.window.owed ≤ quota_of t) terms keeps.kept) in
    record { terms = terms; asked = all.0; limited = all.1; most = all.2 }

keeps_to : (limit : ℕ) (came : Option Connect) (phase : ConnPhase GroupPlace) → IsWithin limit came phase → KeepsTo limit came phase
keeps_to limit came (Unconnected opened) within = within.0
keeps_to limit came (Waiting request ticks) within = within.0
keeps_to limit came (Connected connected) within = (within.0.0, within.0.1, keeps_to_connect limit within.0.0 connected within.0.2 within.1)
keeps_to limit came Ended within = tt

one : (limit : ℕ) (came : Option Connect) (step : TakenStep) → IsLawfulStep step → IsWithin limit came step.phase_before → IsWithin limit (connect_once came step.phase_before step.input) step.phase_after
one limit came step lawful within = (
  terms_asked.within Calls slot_of (OpenedWith limit) (Asked limit (connect_once came step.phase_before step.input)) step.connection step.at step.phase_before step.phase_after step.input step.packets
      step.next step.broker_before step.broker_after lawful (asks limit came step.phase_before step.input) (has_asked limit came step.phase_before step.input within.0),
  quotas.within Calls slot_of step.connection step.at step.phase_before step.phase_after step.input step.packets step.next step.broker_before step.broker_after lawful within.1,
)

-- ---- the steps of a connection

-- the CONNECT that came last, after these steps
abbrev connect_after : Option Connect → List TakenStep → Option Connect
connect_after came [] = came
connect_after came (step ∷ steps) = connect_after (connect_once came step.phase_before step.input) steps

along : (steps : List TakenStep) (limit : ℕ) (came : Option Connect) (before after : ConnPhase GroupPlace) → AllByRecursion IsLawfulStep steps → LeadPhase before steps after → IsWithin limit came before
    → KeepToTheirConnects limit came steps × IsWithin limit (connect_after came steps) after
along [] limit came before after lawful leads within = (tt, subst (IsWithin limit came) (sym leads) within)
along (step ∷ steps) limit came before after lawful leads within =
    let connect = connect_once came step.phase_before step.input in
    let first : IsWithin limit connect step.phase_after = one limit came step lawful.0 (subst (IsWithin limit came) (sym leads.0) within) in
    let rest = along steps limit connect step.phase_after after lawful.1 leads.1 first in
    ((keeps_to limit connect step.phase_after first, rest.0), rest.1)

along_both : (these those : List TakenStep) (limit : ℕ) (came : Option Connect) → KeepToTheirConnects limit came these → KeepToTheirConnects limit (connect_after came these) those
    → KeepToTheirConnects limit came (these ++ those)
along_both [] those limit came keep rest = rest
along_both (step ∷ these) those limit came keep rest = (keep.0, along_both these those limit (connect_once came step.phase_before step.input) keep.1 rest)

-- ---- the steps of an event

first_within : (limit : ℕ) (opened : Bool) (opening : Opening) (before : Option (ClientState GroupPlace)) (came : Option Connect) → opening.limits ≡ inflight_alone limit → IsWithin limit came (phase_of before)
    → IsWithin limit came (first_phase opened opening before)
first_within limit true opening None came with_limit within = (with_limit, tt)
first_within limit true opening (Some client) came with_limit within = within
first_within limit false opening before came with_limit within = within

if_open : (open? : Bool) (event : ServerEvent) (old new : ServerState) (steps : List TakenStep) (number limit : ℕ) (came : Option Connect) → AreTakenIf open? event old steps new
    → AllByRecursion IsLawfulStep steps → old.max_inflight ≡ limit → IsWithin limit came (phase_of (client_at old.clients number))
    → KeepToTheirConnects limit came (steps_of number steps) × IsWithin limit (connect_after came (steps_of number steps)) (phase_of (client_at new.clients number))
if_open true event old new steps number limit came taken lawful with_limit within =
    let opening : Opening = record { at = new.clock; limits = inflight_alone old.max_inflight } in
    along (steps_of number steps) limit came (first_phase (opens event number) opening (client_at old.clients number)) (phase_of (client_at new.clients number))
    (lawful_of number steps lawful) (taken.phases number)
    (first_within limit (opens event number) opening (client_at old.clients number) came (ap inflight_alone with_limit) within)
if_open false event old new steps number limit came taken lawful with_limit within =
    subst (λ (s : List TakenStep). KeepToTheirConnects limit came (steps_of number s) × IsWithin limit (connect_after came (steps_of number s)) (phase_of (client_at new.clients number))) (sym taken.0)
    (tt, subst (λ (c : Clients). IsWithin limit came (phase_of (client_at c number))) (sym taken.2) within)

-- ---- a run

in_run : (events : List TimedEvent) (outputs : List StepOutput) (old new : ServerState) (number limit : ℕ) (came : Option Connect) (run : HappensAll old events outputs new) (steps : List TakenStep)
    → AllAreTaken old events outputs new run steps → old.max_inflight ≡ limit → IsWithin limit came (phase_of (client_at old.clients number)) → KeepToTheirConnects limit came (steps_of number steps)
in_run [] outputs old new number limit came run steps taken with_limit within = subst (λ (s : List TakenStep). KeepToTheirConnects limit came (steps_of number s)) (sym taken) tt
in_run (event ∷ others) outputs old new number limit came run steps taken with_limit within =
    let mid = run.0 in
    let first = if_open (is_open old.broker) event.event old mid taken.0 number limit came taken.2.lead taken.2.lawful with_limit within in
    subst (KeepToTheirConnects limit came) (sym (ap (steps_of number) taken.4 ∙ filter-append (λ (step : TakenStep). nat_eq step.connection number) taken.0 taken.1))
    (along_both (steps_of number taken.0) (steps_of number taken.1) limit came first.0
    (in_run others run.2 mid new number limit (connect_after came (steps_of number taken.0)) run.4 taken.1 taken.3 (run.3.max_inflight ∙ with_limit) first.1))

new_within : (setup : Setup) (server : ServerState) → IsNewServer setup server → (number : ℕ) → IsWithin setup.max_inflight None (phase_of (client_at server.clients number))
new_within setup server new number =
    subst (λ (c : Option (ClientState GroupPlace)). IsWithin setup.max_inflight None (phase_of c)) (sym (ap (λ (l : Clients). client_at l number) new.clients ∙ none_at 64 number)) (tt, tt)

pub all_keep : (setup : Setup) (events : List TimedEvent) (outputs : List StepOutput) (first last : ServerState) → IsNewServer setup first → (run : HappensAll first events outputs last)
    → (steps : List TakenStep) → AllAreTaken first events outputs last run steps → (number : ℕ) → KeepToTheirConnects setup.max_inflight None (steps_of number steps)
all_keep setup events outputs first last new run steps taken number =
    in_run events outputs first last number setup.max_inflight None run steps taken new.max_inflight (new_within setup first new number)
