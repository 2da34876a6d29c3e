-- No packet is longer than its client takes, along a run.
use Rattle.std.proofs.Common.{◌≡◌, ℕ, zero, suc, ◌≤◌, nat_eq, Bool, true, false, if◌then◌else◌, List, [], ◌∷◌, ◌++◌, map, Option, Some, None, Ok, slice_get, replicate, refl, sym, ap, subst, ◌∙◌, ltb-false}
use Rattle.std.specs.List.{AllByRecursion}
use Rattle.std.proofs.lemmas.Bool.{eq-eqb}
use Rattle.std.proofs.lemmas.List.Elements.{filter-append}
use Rattle.mqtt_packet.specs.declared.packet.Packet.{Packet}
use Rattle.mqtt_packet.specs.declared.packet.Packet.TheVariants as packets
use Rattle.mqtt_wire.specs.Writing.{written_size}
use Rattle.group_jobs.specs.Stamps.{Held}
use Rattle.member_window.specs.Contents.{held_of}
use Rattle.session_desk.specs.declared.newcomers.Newcomers.TheVariants.{IfRoom}
use Rattle.session_desk.proofs.Begun.{begun, begun_over}
use Rattle.session_desk.specs.declared.attached.Attached.{Attached}
use Rattle.session_desk.specs.declared.attached.Attached.TheVariants.{New, Resumed, Replace, Busy}
use Rattle.session_desk.specs.declared.session.Session.{Session}
use Rattle.session_desk.specs.Attaching.{Request, attaches_by}
use Rattle.session_desk.specs.Books.{Books, new_session}
use Rattle.conn_engine.specs.declared.input.Input.{Input}
use Rattle.conn_engine.specs.declared.input.Input.TheVariants as inputs
use Rattle.conn_engine.specs.declared.phase.Opening.{Opening}
use Rattle.conn_engine.specs.declared.phase.ConnPhase.{ConnPhase}
use Rattle.conn_engine.specs.declared.phase.ConnPhase.TheVariants.{Unconnected, Waiting, Connected, Ended}
use Rattle.conn_laws.specs.Sizes.{IsShort}
use Rattle.conn_laws.specs.PacketSizes.{maximum_named, HasMaximum, Takes, HoldsWhatFits, BringsAssignedName, AreNewEmpty, AreNamesAssigned}
use Rattle.conn_laws.proofs.Fitting.{kept, all_taken, as_named}
use Rattle.conn_laws.proofs.Lengths.{sized}
use Rattle.client_table.specs.Clients.{ClientState, StepOutput}
use Rattle.local_broker.specs.Places.{GroupPlace}
use Rattle.local_broker.specs.Broker.{is_open}
use Rattle.local_broker.specs.Calls.{Calls}
use Rattle.local_server.specs.declared.event.ServerEvent.{ServerEvent}
use Rattle.local_server.specs.declared.event.TimedEvent.{TimedEvent}
use Rattle.conn_rules.specs.Connecting.{inflight_alone}
use Rattle.conn_rules.specs.declared.setup.Setup.{Setup}
use Rattle.local_server.specs.Servers.{Clients, ServerState, IsNewServer}
use Rattle.local_server.specs.Happening.{slot_of, HappensAll}
use Rattle.local_server.specs.Sizes.{AllShort}
use Rattle.local_server.specs.Streams.{open_in, client_at}
use Rattle.local_server.specs.TakenSteps.{TakenStep, IsLawfulStep, output_of, steps_of, LeadPhase, phase_of, opens, first_phase, AreTakenIf, AllAreTaken}
use Rattle.local_server.specs.PacketSizes.{FitsIn, SendsWhatFits, named_in, named_once, FitTheirConnects}
use Rattle.local_server.proofs.Transcripts.{shortness}

-- ---- the calls of a broker

empty : (number : ℕ) (client : List ℕ) (session : Session Held GroupPlace) → session ≡ new_session (record { number = number; client = client }) → held_of session.window ≡ []
empty number client session is = ap (λ (s : Session Held GroupPlace). held_of s.window) is

lent_empty : (client : List ℕ) (old new : Books Held GroupPlace) (request : Request) (session : Session Held GroupPlace) (ended : Option (Session Held GroupPlace))
    → attaches_by (IfRoom 256) client old request (Ok (New session ended)) new → held_of session.window ≡ []
lent_empty client old new request session None attaches = (let h = begun (IfRoom 256) old new request session client attaches in empty old.made h.client session h.is)
lent_empty client old new request session (Some ended) attaches = (let h = begun_over (IfRoom 256) old new request session client ended attaches in empty old.made h.client session h.is)

-- a new session holds nothing
new_empty : AreNewEmpty Calls
new_empty old new request session ended call = lent_empty request.client old.desk new.desk request session ended call.makes

lent_named : (client : List ℕ) (old new : Books Held GroupPlace) (request : Request) (answer : Attached Held GroupPlace) → client ≡ [] → attaches_by (IfRoom 256) client old request (Ok answer) new
    → BringsAssignedName answer
lent_named [] old new request (New session None) is attaches = (attaches.number, ap (λ (s : Session Held GroupPlace). s.identity.client) attaches.begins.is)
lent_named [] old new request (New session (Some ended)) is attaches = (attaches.number, ap (λ (s : Session Held GroupPlace). s.identity.client) attaches.begins.is)
lent_named [] old new request (Resumed session) is attaches = absurd attaches
lent_named [] old new request (Replace holder) is attaches = absurd attaches
lent_named [] old new request Busy is attaches = absurd attaches
lent_named (byte ∷ bytes) old new request answer is attaches = absurd (cc)

-- a client without an identifier has a session under one that the desk assigns
names_assigned : AreNamesAssigned Calls
names_assigned old new request answer is call = lent_named request.client old.desk new.desk request answer is call.makes

-- ---- lists of steps

parts : {X : Type 0} (Q : X → Type 0) (these those : List X) → AllByRecursion Q (these ++ those) → AllByRecursion Q these × AllByRecursion Q those
parts Q [] those all = (tt, all)
parts Q (this ∷ these) those all =
    let rest = parts Q these those all.1 in
    ((all.0, rest.0), rest.1)

all_if : (Q : TakenStep → Type 0) (b : Bool) (step : TakenStep) (steps : List TakenStep) → Q step → AllByRecursion Q steps → AllByRecursion Q (if b then step ∷ steps else steps)
all_if Q true step steps first rest = (first, rest)
all_if Q false step steps first rest = rest

all_of : (Q : TakenStep → Type 0) (number : ℕ) (steps : List TakenStep) → AllByRecursion Q steps → AllByRecursion Q (steps_of number steps)
all_of Q number [] all = tt
all_of Q number (step ∷ steps) all = all_if Q (nat_eq step.connection number) step (steps_of number steps) all.0 (all_of Q number steps all.1)

first_if : (Q : TakenStep → Type 0) (b : Bool) (step : TakenStep) (steps : List TakenStep) → b ≡ true → AllByRecursion Q (if b then step ∷ steps else steps) → Q step
first_if Q true step steps is all = all.0
first_if Q false step steps is all = absurd (cc)

rest_if : (Q : TakenStep → Type 0) (b : Bool) (step : TakenStep) (steps : List TakenStep) → AllByRecursion Q (if b then step ∷ steps else steps) → AllByRecursion Q steps
rest_if Q true step steps all = all.1
rest_if Q false step steps all = all

-- what holds of the steps of each connection holds of all
of_each : (Q : TakenStep → Type 0) (steps : List TakenStep) → ((number : ℕ) → AllByRecursion Q (steps_of number steps)) → AllByRecursion Q steps
of_each Q [] all = tt
of_each Q (step ∷ steps) all = (
  first_if Q (nat_eq step.connection step.connection) step (steps_of step.connection steps) (eq-eqb step.connection step.connection refl) (all step.connection),
  of_each Q steps (λ number. rest_if Q (nat_eq step.connection number) step (steps_of number steps) (all number)),
)

-- ---- what is sent is short

abbrev IsShortStep : TakenStep → Type 0
IsShortStep step = AllByRecursion IsShort step.packets

short_steps : (steps : List TakenStep) → AllShort (map output_of steps) → AllByRecursion IsShortStep steps
short_steps [] all = tt
short_steps (step ∷ steps) all = (all.0, short_steps steps all.1)

-- what is short and taken fits
fits : (maximum : Option ℕ) (packet : Packet) → IsShort packet → Takes maximum packet → FitsIn maximum packet
fits None packet short takes = tt
fits (Some maximum) packet short takes = subst (λ (n : ℕ). n ≤ maximum) (sized packet short) (ltb-false maximum (written_size packet) takes)

all_fit : (maximum : Option ℕ) (sent : List Packet) → AllByRecursion IsShort sent → AllByRecursion (Takes maximum) sent → AllByRecursion (FitsIn maximum) sent
all_fit maximum [] short takes = tt
all_fit maximum (packet ∷ sent) short takes = (fits maximum packet short.0 takes.0, all_fit maximum sent short.1 takes.1)

-- ---- the steps of a connection

-- a connection holds what fits, and its client has named this
abbrev IsFit : Option ℕ → ConnPhase GroupPlace → Type 0
IsFit named phase = HoldsWhatFits phase × HasMaximum named phase

named_first : (opened : Opening) (input : Input) → maximum_named {P = GroupPlace} (Unconnected opened) input ≡ named_in input
named_first opened (inputs.Packet (packets.Connect connect)) = refl
named_first opened input = refl

-- what its terms say is what it has named
as_in_terms : (named : Option ℕ) (phase : ConnPhase GroupPlace) (input : Input) → HasMaximum named phase → maximum_named phase input ≡ named_once named phase input
as_in_terms named (Unconnected opened) input has = named_first opened input
as_in_terms named (Waiting request ticks) input has = has
as_in_terms named (Connected connected) input has = has
as_in_terms named Ended input has = refl

-- one step
record StepFits (named : Option ℕ) (step : TakenStep) : Type 0 where
  sends : SendsWhatFits step
  fit : AllByRecursion (FitsIn (named_once named step.phase_before step.input)) step.packets
  still : IsFit (named_once named step.phase_before step.input) step.phase_after

one : (named : Option ℕ) (step : TakenStep) → IsLawfulStep step → IsShortStep step → IsFit named step.phase_before → StepFits named step
one named step lawful short fit =
    let is : maximum_named step.phase_before step.input ≡ named_once named step.phase_before step.input = as_in_terms named step.phase_before step.input fit.1 in
    let sends : SendsWhatFits step = all_fit (maximum_named step.phase_before step.input) step.packets short
    (all_taken Calls slot_of step.connection step.at step.phase_before step.phase_after step.input step.packets step.next step.broker_before step.broker_after new_empty names_assigned lawful
    fit.0) in
    record {
      sends = sends;
      fit = subst (λ (m : Option ℕ). AllByRecursion (FitsIn m) step.packets) is sends;
      still = (
        kept Calls slot_of step.connection step.at step.phase_before step.phase_after step.input step.packets step.next step.broker_before step.broker_after new_empty lawful fit.0,
        subst (λ (m : Option ℕ). HasMaximum m step.phase_after) is
            (as_named Calls slot_of step.connection step.at step.phase_before step.phase_after step.input step.packets step.next step.broker_before step.broker_after lawful),
      );
    }

-- what the last client has named after these steps
abbrev named_after : Option ℕ → List TakenStep → Option ℕ
named_after named [] = named
named_after named (step ∷ steps) = named_after (named_once named step.phase_before step.input) steps

abbrev AllFit : Option ℕ → List TakenStep → Type 0
AllFit named steps = AllByRecursion SendsWhatFits steps × FitTheirConnects named steps

none_fit : (named : Option ℕ) → AllFit named []
none_fit named = (tt, tt)

along : (steps : List TakenStep) (named : Option ℕ) (before after : ConnPhase GroupPlace) → AllByRecursion IsLawfulStep steps → AllByRecursion IsShortStep steps → LeadPhase before steps after
    → IsFit named before → AllFit named steps × IsFit (named_after named steps) after
along [] named before after lawful short leads fit = (none_fit named, subst (IsFit named) (sym leads) fit)
along (step ∷ steps) named before after lawful short leads fit =
    let first = one named step lawful.0 short.0 (subst (IsFit named) (sym leads.0) fit) in
    let rest = along steps (named_once named step.phase_before step.input) step.phase_after after lawful.1 short.1 leads.1 first.still in
    (((first.sends, rest.0.0), (first.fit, first.still.1, rest.0.1)), rest.1)

along_both : (these those : List TakenStep) (named : Option ℕ) → AllFit named these → AllFit (named_after named these) those → AllFit named (these ++ those)
along_both [] those named fit rest = rest
along_both (step ∷ these) those named fit rest =
    let more = along_both these those (named_once named step.phase_before step.input) (fit.0.1, fit.1.2) rest in
    ((fit.0.0, more.0), (fit.1.0, fit.1.1, more.1))

-- ---- the steps of an event

first_fit : (opened : Bool) (opening : Opening) (before : Option (ClientState GroupPlace)) (named : Option ℕ) → IsFit named (phase_of before) → IsFit named (first_phase opened opening before)
first_fit true opening None named fit = (tt, tt)
first_fit true opening (Some client) named fit = fit
first_fit false opening before named fit = fit

if_open : (open? : Bool) (event : ServerEvent) (old new : ServerState) (steps : List TakenStep) (number : ℕ) (named : Option ℕ) → AreTakenIf open? event old steps new
    → AllByRecursion IsLawfulStep steps → AllByRecursion IsShortStep steps → IsFit named (phase_of (client_at old.clients number))
    → AllFit named (steps_of number steps) × IsFit (named_after named (steps_of number steps)) (phase_of (client_at new.clients number))
if_open true event old new steps number named taken lawful short fit =
    let opening : Opening = record { at = new.clock; limits = inflight_alone old.max_inflight } in
    along (steps_of number steps) named (first_phase (opens event number) opening (client_at old.clients number)) (phase_of (client_at new.clients number))
    (all_of IsLawfulStep number steps lawful) (all_of IsShortStep number steps short) (taken.phases number)
    (first_fit (opens event number) opening (client_at old.clients number) named fit)
if_open false event old new steps number named taken lawful short fit =
    subst (λ (s : List TakenStep). AllFit named (steps_of number s) × IsFit (named_after named (steps_of number s)) (phase_of (client_at new.clients number))) (sym taken.0)
    (none_fit named, subst (λ (c : Clients). IsFit named (phase_of (client_at c number))) (sym taken.2) fit)

-- ---- a run

in_run : (events : List TimedEvent) (outputs : List StepOutput) (old new : ServerState) (number : ℕ) (named : Option ℕ) (run : HappensAll old events outputs new) (steps : List TakenStep)
    → AllAreTaken old events outputs new run steps → AllShort outputs → IsFit named (phase_of (client_at old.clients number)) → AllFit named (steps_of number steps)
in_run [] outputs old new number named run steps taken short fit = subst (λ (s : List TakenStep). AllFit named (steps_of number s)) (sym taken) (none_fit named)
in_run (event ∷ others) outputs old new number named run steps taken short fit =
    let mid = run.0 in
    let both = parts (λ (output : StepOutput). AllByRecursion IsShort output.packets) run.1 run.2 (subst AllShort run.5 short) in
    let first = if_open (is_open old.broker) event.event old mid taken.0 number named taken.2.lead taken.2.lawful (short_steps taken.0 (subst AllShort taken.2.outputs_are both.0)) fit in
    subst (AllFit named) (sym (ap (steps_of number) taken.4 ∙ filter-append (λ (step : TakenStep). nat_eq step.connection number) taken.0 taken.1))
    (along_both (steps_of number taken.0) (steps_of number taken.1) named first.0
    (in_run others run.2 mid new number (named_after named (steps_of number taken.0)) run.4 taken.1 taken.3 both.1 first.1))

pub none_at : (count number : ℕ) → open_in (slice_get (replicate {A = Option (ClientState GroupPlace)} count None) number) ≡ None
none_at zero number = refl
none_at (suc count) zero = refl
none_at (suc count) (suc number) = none_at count number

new_fit : (setup : Setup) (server : ServerState) → IsNewServer setup server → (number : ℕ) → IsFit None (phase_of (client_at server.clients number))
new_fit setup server new number =
    subst (λ (c : Option (ClientState GroupPlace)). IsFit None (phase_of c)) (sym (ap (λ (l : Clients). client_at l number) new.clients ∙ none_at 64 number)) (tt, tt)

in_whole_run : (setup : Setup) (events : List TimedEvent) (outputs : List StepOutput) (first last : ServerState) → IsNewServer setup first → (run : HappensAll first events outputs last)
    → (steps : List TakenStep) → AllAreTaken first events outputs last run steps → (number : ℕ) → AllFit None (steps_of number steps)
in_whole_run setup events outputs first last new run steps taken number =
    in_run events outputs first last number None run steps taken (shortness setup events outputs first last new run) (new_fit setup first new number)

pub each_fits : (setup : Setup) (events : List TimedEvent) (outputs : List StepOutput) (first last : ServerState) → IsNewServer setup first → (run : HappensAll first events outputs last)
    → (steps : List TakenStep) → AllAreTaken first events outputs last run steps → AllByRecursion SendsWhatFits steps
each_fits setup events outputs first last new run steps taken = of_each SendsWhatFits steps (λ number. (in_whole_run setup events outputs first last new run steps taken number).0)

pub all_along : (setup : Setup) (events : List TimedEvent) (outputs : List StepOutput) (first last : ServerState) → IsNewServer setup first → (run : HappensAll first events outputs last)
    → (steps : List TakenStep) → AllAreTaken first events outputs last run steps → (number : ℕ) → FitTheirConnects None (steps_of number steps)
all_along setup events outputs first last new run steps taken number = (in_whole_run setup events outputs first last new run steps taken number).1
