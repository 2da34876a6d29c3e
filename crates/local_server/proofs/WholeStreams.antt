-- The whole stream of a connection, read packet by packet.
use Rattle.std.proofs.Common.{◌≡◌, ◌≢◌, ℕ, ◌<◌, ◌≤◌, nat_eq, Bool, true, false, if◌then◌else◌, List, [], ◌∷◌, ◌++◌, map, Option, Some, None, Result, Ok, refl, sym, ap, subst, ◌∙◌, inl, inr, ⊎_elim, append-nil, append_assoc}
use Rattle.std.specs.List.{AllByRecursion}
use Rattle.std.proofs.lemmas.Bool.{cases_eq, cases_lt, eq-eqb, ne_eqb}
use Rattle.mqtt_packet.specs.declared.packet.Packet.{Packet}
use Rattle.mqtt_wire.specs.Spelling.{Spells}
use Rattle.mqtt_wire.specs.Stream.{header_at, IsOpen}
use Rattle.conn_supply.specs.declared.supply.NoMemory.{NoMemory}
use Rattle.conn_supply.specs.declared.reply.Then.TheVariants.{Go}
use Rattle.conn_engine.specs.declared.input.Input.{Input}
use Rattle.conn_engine.specs.declared.input.Input.TheVariants as inputs
use Rattle.conn_engine.specs.declared.phase.Opening.{Opening}
use Rattle.conn_engine.specs.declared.phase.ConnPhase.{ConnPhase}
use Rattle.conn_engine.specs.declared.phase.ConnPhase.TheVariants.{Unconnected, Ended}
use Rattle.conn_rules.specs.Connecting.{inflight_alone}
use Rattle.conn_rules.specs.declared.setup.Setup.{Setup}
use Rattle.conn_laws.specs.Behind.{IsLast}
use Rattle.conn_laws.proofs.Ended.{ends, ends_by}
use Rattle.client_table.specs.Clients.{ClientState, arrived, StepOutput}
use Rattle.client_table.specs.Streams.{IsRead}
use Rattle.client_table.specs.Cells.{Opens}
use Rattle.local_broker.specs.Places.{GroupPlace}
use Rattle.local_broker.specs.Broker.{is_open}
use Rattle.local_broker.specs.Calls.{Calls}
use Rattle.local_server.specs.declared.event.ServerEvent.{ServerEvent}
use Rattle.local_server.specs.declared.event.ServerEvent.TheVariants as events
use Rattle.local_server.specs.declared.event.TimedEvent.{TimedEvent}
use Rattle.local_server.specs.Servers.{Clients, ServerState, IsNewServer}
use Rattle.local_server.specs.Happening.{slot_of, Does, DoesIf, HappensAll}
use Rattle.local_server.specs.ConnSteps.{ConnStep}
use Rattle.local_server.specs.Streams.{StandsInFront, AreRead, ReadsFrom, PieceIsAnswered, TickIsAnswered, LastIsAnswered, open_in, client_at, EventIsAnswered, EventIsAnsweredIf}
use Rattle.local_server.specs.TakenSteps.{TakenStep, IsLawfulStep, conn_step_of, steps_of, LeadPhase, phase_of, opens, AreTakenIn, AreTakenIf, AllAreTaken}
use Rattle.local_server.specs.WholeStreams.{is_read_of_stream, reading_steps, piece_in, piece_to, begins, since_opening, ReadsWholeStream}
use Rattle.local_server.proofs.Going.{goes}
use Rattle.local_server.proofs.Heard.{cell_heard, untouched}
use Rattle.local_server.proofs.Emptied.{gone_below}
use Rattle.local_server.proofs.TakenSteps.{its_own, no_other}
use Rattle.local_server.proofs.Connections.{IsUp, AreUp, does_up_if, new_up, none_at, does_aside}

-- steps that read packets from the front of a stream, after each of which the connection goes on
abbrev AreReadOn : List ConnStep → List ℕ → List ℕ → Type 0
AreReadOn [] stream rest = rest ≡ stream
AreReadOn (conn_step ∷ conn_steps) stream rest =
    (packet : Packet) × (front behind : List ℕ) × (conn_step.input ≡ inputs.Packet packet) × Spells packet front × (stream ≡ front ++ behind) × (conn_step.next ≡ Go)
    × AreReadOn conn_steps behind rest

-- what was read of a beginning is read of the longer stream, and what is read next comes after it
read_then : (earlier more : List ConnStep) (stream piece between rest : List ℕ) → AreReadOn earlier stream between → AreRead more (between ++ piece) rest
    → AreRead (earlier ++ more) (stream ++ piece) rest
read_then [] more stream piece between rest read later = subst (λ (s : List ℕ). AreRead more (s ++ piece) rest) read later
read_then (conn_step ∷ earlier) more stream piece between rest read later = (
  read.2 ++ piece,
  subst (λ (i : Input). StandsInFront i (stream ++ piece) (read.2 ++ piece)) (sym read.3)
      (read.1, read.4, ap (λ (s : List ℕ). s ++ piece) read.5 ∙ append_assoc read.1 read.2 piece),
  λ stops. absurd (stops read.6),
  read_then earlier more read.2 piece between rest read.7 later,
)

goes_then : (earlier more : List ConnStep) (stream piece between rest : List ℕ) → AreReadOn earlier stream between → AreReadOn more (between ++ piece) rest
    → AreReadOn (earlier ++ more) (stream ++ piece) rest
goes_then [] more stream piece between rest read later = subst (λ (s : List ℕ). AreReadOn more (s ++ piece) rest) read later
goes_then (conn_step ∷ earlier) more stream piece between rest read later = (
  read.0,
  read.1,
  read.2 ++ piece,
  read.3,
  read.4,
  ap (λ (s : List ℕ). s ++ piece) read.5 ∙ append_assoc read.1 read.2 piece,
  read.6,
  goes_then earlier more read.2 piece between rest read.7 later,
)

on_is_read : (earlier : List ConnStep) (stream rest : List ℕ) → AreReadOn earlier stream rest → AreRead earlier stream rest
on_is_read [] stream rest read = read
on_is_read (conn_step ∷ earlier) stream rest read = (
  read.2,
  subst (λ (i : Input). StandsInFront i stream read.2) (sym read.3) (read.1, read.4, read.5),
  λ stops. absurd (stops read.6),
  on_is_read earlier read.2 rest read.7,
)

-- a connection that is open after its steps went on after each of them
none_mapped : (steps : List TakenStep) → map conn_step_of steps ≡ [] → steps ≡ []
none_mapped [] none = refl
none_mapped (step ∷ steps) none = absurd (cc)

packet_in_front : (input : Input) (stream behind : List ℕ) → StandsInFront input stream behind → (IsLast input → ⊥)
    → (packet : Packet) × (front : List ℕ) × (input ≡ inputs.Packet packet) × Spells packet front × (stream ≡ front ++ behind)
packet_in_front (inputs.Packet packet) stream behind front goes_on = (packet, front.0, refl, front.1, front.2)
packet_in_front (inputs.Fault fault) stream behind front goes_on = absurd (goes_on tt)
packet_in_front inputs.Tick stream behind front goes_on = absurd front
packet_in_front inputs.EndOfInput stream behind front goes_on = absurd front
packet_in_front inputs.Closing stream behind front goes_on = absurd front

went_on : (steps : List TakenStep) (before after : ConnPhase GroupPlace) (stream rest : List ℕ) → after ≢ Ended → AllByRecursion IsLawfulStep steps → LeadPhase before steps after
    → AreRead (map conn_step_of steps) stream rest → AreReadOn (map conn_step_of steps) stream rest
went_on [] before after stream rest up lawful leads read = read
went_on (step ∷ steps) before after stream rest up lawful leads read =
    let told = ends Calls slot_of step.broker_before step.broker_after step.connection step.at step.phase_before step.phase_after step.input step.packets step.next lawful.0 in
    let going : step.phase_after ≢ Ended = λ over. up (subst (λ (s : List TakenStep). LeadPhase step.phase_after s after) (none_mapped steps (read.2 (told.0 over))) leads.1 ∙ over) in
    let front =
    packet_in_front step.input stream read.0 read.1
    (λ last. going (ends_by Calls slot_of step.broker_before step.broker_after step.connection step.at step.phase_before step.phase_after step.input step.packets step.next lawful.0 last)) in (
      front.0,
      front.1,
      read.0,
      front.2,
      front.3,
      front.4,
      goes step.next step.phase_after told.1 going,
      went_on steps step.phase_after after read.0 rest up lawful.1 leads.1 read.3,
    )

-- what was read of the stream of a connection so far
abbrev Keeps : List ℕ → List ConnStep → Option (ClientState GroupPlace) → Type 0
Keeps stream earlier None = (rest : List ℕ) × AreRead earlier stream rest
Keeps stream earlier (Some client) = AreReadOn earlier stream client.unread.bytes × IsRead client

reads_from : (stream : List ℕ) (earlier : List ConnStep) (client : Option (ClientState GroupPlace)) → Keeps stream earlier client → ReadsFrom stream earlier client
reads_from stream earlier None keeps = (keeps.0, keeps.1, tt)
reads_from stream earlier (Some client) keeps = (client.unread.bytes, on_is_read earlier stream client.unread.bytes keeps.0, (refl, keeps.1))

once_ended : (stream : List ℕ) (earlier : List ConnStep) (client : Option (ClientState GroupPlace)) → Keeps stream earlier client → Keeps stream earlier None
once_ended stream earlier None keeps = keeps
once_ended stream earlier (Some client) keeps = (client.unread.bytes, on_is_read earlier stream client.unread.bytes keeps.0)

reads_more : (stream piece : List ℕ) (earlier : List ConnStep) (client : ClientState GroupPlace) (after : Option (ClientState GroupPlace)) (before : ConnPhase GroupPlace) (steps : List TakenStep)
    → IsUp after → AllByRecursion IsLawfulStep steps → LeadPhase before steps (phase_of after) → Keeps stream earlier (Some client)
    → ReadsFrom (client.unread.bytes ++ piece) (map conn_step_of steps) after → Keeps (stream ++ piece) (earlier ++ map conn_step_of steps) after
reads_more stream piece earlier client None before steps up lawful leads keeps from =
    (from.0, read_then earlier (map conn_step_of steps) stream piece client.unread.bytes from.0 keeps.0 from.1)
reads_more stream piece earlier client (Some after) before steps up lawful leads keeps from = (
  goes_then earlier (map conn_step_of steps) stream piece client.unread.bytes after.unread.bytes keeps.0
      (went_on steps before after.conn.phase (client.unread.bytes ++ piece) after.unread.bytes up lawful leads
      (subst (λ (r : List ℕ). AreRead (map conn_step_of steps) (client.unread.bytes ++ piece) r) (sym from.2.0) from.1)),
  from.2.1,
)

nothing_more : (stream : List ℕ) (earlier these : List ConnStep) (client : Option (ClientState GroupPlace)) → these ≡ [] → Keeps stream earlier client → Keeps (stream ++ []) (earlier ++ these) client
nothing_more stream earlier these client none keeps =
    subst (λ (s : List ℕ). Keeps s (earlier ++ these) client) (sym (append-nil stream))
    (subst (λ (e : List ConnStep). Keeps stream e client) (sym (ap (λ (l : List ConnStep). earlier ++ l) none ∙ append-nil earlier)) keeps)

-- the steps that answer what is read
is_reading : (input : Input) (stream behind : List ℕ) → StandsInFront input stream behind → is_read_of_stream input ≡ true
is_reading (inputs.Packet packet) stream behind front = refl
is_reading (inputs.Fault fault) stream behind front = refl
is_reading inputs.Tick stream behind front = absurd front
is_reading inputs.EndOfInput stream behind front = absurd front
is_reading inputs.Closing stream behind front = absurd front

all_reading : (steps : List TakenStep) (stream rest : List ℕ) → AreRead (map conn_step_of steps) stream rest → reading_steps steps ≡ map conn_step_of steps
all_reading [] stream rest read = refl
all_reading (step ∷ steps) stream rest read =
    ap (λ (b : Bool). if b then conn_step_of step ∷ reading_steps steps else reading_steps steps) (is_reading step.input stream read.0 read.1)
    ∙ ap (λ (s : List ConnStep). conn_step_of step ∷ s) (all_reading steps read.0 rest read.3)

one_aside : (step : TakenStep) (steps : List TakenStep) → is_read_of_stream step.input ≡ false → reading_steps (step ∷ steps) ≡ reading_steps steps
one_aside step steps is = ap (λ (b : Bool). if b then conn_step_of step ∷ reading_steps steps else reading_steps steps) is

none_if : (b : Bool) (step : TakenStep) (steps : List TakenStep) → step.input ≡ inputs.Closing → reading_steps steps ≡ [] → reading_steps (if b then step ∷ steps else steps) ≡ []
none_if true step steps is none = one_aside step steps (ap is_read_of_stream is) ∙ none
none_if false step steps is none = none

none_reading : (number : ℕ) (steps : List TakenStep) → AllByRecursion (λ (step : TakenStep). step.input ≡ inputs.Closing) steps → reading_steps (steps_of number steps) ≡ []
none_reading number [] all = refl
none_reading number (step ∷ steps) all = none_if (nat_eq step.connection number) step (steps_of number steps) all.0 (none_reading number steps all.1)

-- what comes to one connection
gone_at : (after : Option (ClientState GroupPlace)) → IsUp after → phase_of after ≡ Ended → after ≡ None
gone_at None up over = refl
gone_at (Some client) up over = absurd (up over)

not_open : (stream : List ℕ) (earlier : List ConnStep) (after : Option (ClientState GroupPlace)) (steps : List TakenStep) → IsUp after → steps ≡ [] → LeadPhase Ended steps (phase_of after)
    → Keeps stream earlier None → Keeps (stream ++ []) (earlier ++ reading_steps steps) after
not_open stream earlier after steps up none leads keeps =
    subst (λ (c : Option (ClientState GroupPlace)). Keeps (stream ++ []) (earlier ++ reading_steps steps) c)
    (sym (gone_at after up (subst (λ (s : List TakenStep). LeadPhase Ended s (phase_of after)) none leads)))
    (nothing_more stream earlier (reading_steps steps) None (ap reading_steps none) keeps)

piece_read : (piece stream : List ℕ) (earlier : List ConnStep) (before after : Option (ClientState GroupPlace)) (steps : List TakenStep) → IsUp after → AllByRecursion IsLawfulStep steps
    → LeadPhase (phase_of before) steps (phase_of after) → PieceIsAnswered before piece (map conn_step_of steps) after → Keeps stream earlier before
    → Keeps (stream ++ piece_to true before piece) (earlier ++ reading_steps steps) after
piece_read piece stream earlier None after steps up lawful leads answer keeps = not_open stream earlier after steps up (none_mapped steps answer) leads keeps
piece_read piece stream earlier (Some client) after steps up lawful leads answer keeps =
    subst (λ (s : List ConnStep). Keeps (stream ++ piece) (earlier ++ s) after) (sym (all_reading steps (client.unread.bytes ++ piece) answer.0 answer.1))
    (reads_more stream piece earlier client after client.conn.phase steps up lawful leads keeps answer)

tick_read : (stream : List ℕ) (earlier : List ConnStep) (before after : Option (ClientState GroupPlace)) (steps : List TakenStep) → IsUp after → AllByRecursion IsLawfulStep steps
    → LeadPhase (phase_of before) steps (phase_of after) → TickIsAnswered before (map conn_step_of steps) after → Keeps stream earlier before
    → Keeps (stream ++ piece_to true before []) (earlier ++ reading_steps steps) after
tick_read stream earlier None after steps up lawful leads answer keeps = not_open stream earlier after steps up (none_mapped steps answer) leads keeps
tick_read stream earlier (Some client) after [] up lawful leads answer keeps = absurd answer
tick_read stream earlier (Some client) after (step ∷ steps) up lawful leads answer keeps =
    let from : ReadsFrom client.unread.bytes (map conn_step_of steps) after = answer.2 in
    subst (λ (s : List ConnStep). Keeps (stream ++ []) (earlier ++ s) after)
    (sym (one_aside step steps (ap is_read_of_stream answer.0) ∙ all_reading steps client.unread.bytes from.0 from.1))
    (reads_more stream [] earlier client after step.phase_after steps up lawful.1 leads.1 keeps
    (subst (λ (s : List ℕ). ReadsFrom s (map conn_step_of steps) after) (sym (append-nil client.unread.bytes)) from))

abbrev input_of : List ConnStep → Input
input_of [] = inputs.Closing
input_of (conn_step ∷ others) = conn_step.input

end_read : (stream : List ℕ) (earlier : List ConnStep) (before after : Option (ClientState GroupPlace)) (steps : List TakenStep) → IsUp after → AllByRecursion IsLawfulStep steps
    → LeadPhase (phase_of before) steps (phase_of after) → LastIsAnswered inputs.EndOfInput before (map conn_step_of steps) → Keeps stream earlier before
    → Keeps (stream ++ piece_to true before []) (earlier ++ reading_steps steps) after
end_read stream earlier None after steps up lawful leads answer keeps = not_open stream earlier after steps up (none_mapped steps answer) leads keeps
end_read stream earlier (Some client) after [] up lawful leads answer keeps = absurd (let is = answer.1 in cc)
end_read stream earlier (Some client) after (step ∷ other ∷ steps) up lawful leads answer keeps = absurd (let is = answer.1 in cc)
end_read stream earlier (Some client) after (step ∷ []) up lawful leads answer keeps =
    let input : step.input ≡ inputs.EndOfInput = ap input_of answer.1 ∙ answer.2 in
    let over : step.phase_after ≡ Ended =
    ends_by Calls slot_of step.broker_before step.broker_after step.connection step.at step.phase_before step.phase_after step.input step.packets step.next lawful.0
    (subst IsLast (sym input) tt) in
    subst (λ (c : Option (ClientState GroupPlace)). Keeps (stream ++ []) (earlier ++ reading_steps (step ∷ [])) c) (sym (gone_at after up (leads.1 ∙ over)))
    (nothing_more stream earlier (reading_steps (step ∷ [])) None (one_aside step [] (ap is_read_of_stream input)) (once_ended stream earlier (Some client) keeps))

-- what is kept after an event
abbrev IsKept : Bool → ServerEvent → ℕ → List ℕ → List ConnStep → Option (ClientState GroupPlace) → List TakenStep → Option (ClientState GroupPlace) → Type 0
IsKept open? event number stream earlier before these after =
    Keeps (since_opening (begins open? before event number) stream (piece_to open? before (piece_in event number))) (since_opening (begins open? before event number) earlier (reading_steps these)) after

begins_not : (open? : Bool) (client : Option (ClientState GroupPlace)) (event : ServerEvent) (number : ℕ) → opens event number ≡ false → begins open? client event number ≡ false
begins_not true None event number is = is
begins_not true (Some client) event number is = refl
begins_not false client event number is = refl

no_piece : (open? : Bool) (client : Option (ClientState GroupPlace)) → piece_to open? client [] ≡ []
no_piece true None = refl
no_piece true (Some client) = refl
no_piece false client = refl

goes_along : (open? : Bool) (event : ServerEvent) (number : ℕ) (stream piece : List ℕ) (earlier : List ConnStep) (before after : Option (ClientState GroupPlace)) (these own : List TakenStep)
    → opens event number ≡ false → piece_in event number ≡ piece → these ≡ own → Keeps (stream ++ piece_to open? before piece) (earlier ++ reading_steps own) after
    → IsKept open? event number stream earlier before these after
goes_along open? event number stream piece earlier before after these own opens_not is whose keeps =
    subst (λ (b : Bool). Keeps (since_opening b stream (piece_to open? before (piece_in event number))) (since_opening b earlier (reading_steps these)) after) (sym (begins_not open? before event number opens_not))
    (subst (λ (p : List ℕ). Keeps (stream ++ piece_to open? before p) (earlier ++ reading_steps these) after) (sym is)
    (subst (λ (s : List TakenStep). Keeps (stream ++ piece_to open? before piece) (earlier ++ reading_steps s) after) (sym whose) keeps))

-- nothing of its stream comes to a connection
stays_so : (open? : Bool) (event : ServerEvent) (number : ℕ) (stream : List ℕ) (earlier : List ConnStep) (before after : Option (ClientState GroupPlace)) (these : List TakenStep)
    → opens event number ≡ false → piece_in event number ≡ [] → reading_steps these ≡ [] → Keeps stream earlier after → IsKept open? event number stream earlier before these after
stays_so open? event number stream earlier before after these opens_not is none keeps =
    goes_along open? event number stream [] earlier before after these these opens_not is refl
    (subst (λ (p : List ℕ). Keeps (stream ++ p) (earlier ++ reading_steps these) after) (sym (no_piece open? before)) (nothing_more stream earlier (reading_steps these) after none keeps))

-- a connection is opened, where it is not open: nothing of its stream is there yet
none_whole : IsOpen []
unfolding header_at
none_whole = inl refl

opened_now : (opened : Bool) (stream : List ℕ) (conn_steps these : List ConnStep) (number : ℕ) (opening : Opening) (after : Option (ClientState GroupPlace)) → opened ≡ true → these ≡ []
    → Opens number opening None after → Keeps (since_opening opened stream []) (since_opening opened conn_steps these) after
opened_now true stream conn_steps these number opening after is none does =
    subst (λ (c : Option (ClientState GroupPlace)). Keeps [] these c) (sym does)
    (subst (λ (s : List ConnStep). Keeps [] s (Some (arrived (record { number = number; latest = opening.at; phase = Unconnected opening })))) (sym none) (refl, inr (refl, none_whole)))
opened_now false stream conn_steps these number opening after is none does = absurd (cc)

opens_it : (its number : ℕ) (stream : List ℕ) (earlier : List ConnStep) (before after : Option (ClientState GroupPlace)) (these : List TakenStep) (opening : Opening) → its ≡ number → these ≡ []
    → Opens number opening before after → Keeps stream earlier before → IsKept true (events.Open its) number stream earlier before these after
opens_it its number stream earlier None after these opening same none does keeps =
    opened_now (nat_eq its number) stream earlier (reading_steps these) number opening after (eq-eqb its number same) (ap reading_steps none) does
opens_it its number stream earlier (Some client) after these opening same none does keeps =
    nothing_more stream earlier (reading_steps these) after (ap reading_steps none) (subst (Keeps stream earlier) (sym does) keeps)

-- an event of a server that is open
in_event : (event : ServerEvent) (number : ℕ) (stream : List ℕ) (earlier : List ConnStep) (old new : ServerState) (outputs : List StepOutput) (result : Result (Unit {0}) NoMemory) (steps : List TakenStep)
    → AllByRecursion IsLawfulStep steps → AreUp new.clients → AreTakenIn event old steps new → EventIsAnswered event old.clients (map conn_step_of steps) new.clients
    → Does event old.max_inflight old.broker old.clients new.clock outputs result new.clients new.broker → Keeps stream earlier (client_at old.clients number)
    → IsKept true event number stream earlier (client_at old.clients number) (steps_of number steps) (client_at new.clients number)
in_event (events.Open its) number stream earlier old new outputs result steps lawful up taken answer done keeps =
    let none : steps_of number steps ≡ [] = ap (steps_of number) (none_mapped steps answer) in
    let cell = done.0 in
    ⊎_elim
    (λ (same : number ≡ its).
    opens_it its number stream earlier (client_at old.clients number) (client_at new.clients number) (steps_of number steps) (record { at = new.clock; limits = inflight_alone old.max_inflight }) (sym same) none
    (subst (λ (n : ℕ). Opens n (record { at = new.clock; limits = inflight_alone old.max_inflight }) (client_at old.clients n) (client_at new.clients n)) (sym same)
    (cell_heard old.clients new.clients its _ cell (Opens its (record { at = new.clock; limits = inflight_alone old.max_inflight })) cell.becomes)) keeps)
    (λ (other : number ≢ its).
    stays_so true (events.Open its) number stream earlier (client_at old.clients number) (client_at new.clients number) (steps_of number steps) (ne_eqb its number (λ e. other (sym e))) refl
    (ap reading_steps none)
    (subst (Keeps stream earlier) (sym (does_aside old.max_inflight (events.Open its) old.broker new.broker old.clients new.clients new.clock outputs result number other done)) keeps))
    (cases_eq number its)
in_event (events.Bytes its piece) number stream earlier old new outputs result steps lawful up taken answer done keeps =
    ⊎_elim
    (λ (same : number ≡ its).
    let own : steps_of number steps ≡ steps = ap (λ (n : ℕ). steps_of n steps) same ∙ its_own its steps taken.each in
    goes_along true (events.Bytes its piece) number stream piece earlier (client_at old.clients number) (client_at new.clients number) (steps_of number steps) steps refl
    (ap (λ (b : Bool). if b then piece else []) (eq-eqb its number (sym same))) own
    (piece_read piece stream earlier (client_at old.clients number) (client_at new.clients number) steps (up number) lawful
    (subst (λ (s : List TakenStep). LeadPhase (phase_of (client_at old.clients number)) s (phase_of (client_at new.clients number))) own (taken.phases number))
    (subst (λ (n : ℕ). PieceIsAnswered (client_at old.clients n) piece (map conn_step_of steps) (client_at new.clients n)) (sym same) answer) keeps))
    (λ (other : number ≢ its).
    stays_so true (events.Bytes its piece) number stream earlier (client_at old.clients number) (client_at new.clients number) (steps_of number steps) refl
    (ap (λ (b : Bool). if b then piece else []) (ne_eqb its number (λ e. other (sym e)))) (ap reading_steps (no_other its number steps other taken.each))
    (subst (Keeps stream earlier) (sym (does_aside old.max_inflight (events.Bytes its piece) old.broker new.broker old.clients new.clients new.clock outputs result number other done)) keeps))
    (cases_eq number its)
in_event (events.Tick its) number stream earlier old new outputs result steps lawful up taken answer done keeps =
    ⊎_elim
    (λ (same : number ≡ its).
    let own : steps_of number steps ≡ steps = ap (λ (n : ℕ). steps_of n steps) same ∙ its_own its steps taken.each in
    goes_along true (events.Tick its) number stream [] earlier (client_at old.clients number) (client_at new.clients number) (steps_of number steps) steps refl refl own
    (tick_read stream earlier (client_at old.clients number) (client_at new.clients number) steps (up number) lawful
    (subst (λ (s : List TakenStep). LeadPhase (phase_of (client_at old.clients number)) s (phase_of (client_at new.clients number))) own (taken.phases number))
    (subst (λ (n : ℕ). TickIsAnswered (client_at old.clients n) (map conn_step_of steps) (client_at new.clients n)) (sym same) answer) keeps))
    (λ (other : number ≢ its).
    stays_so true (events.Tick its) number stream earlier (client_at old.clients number) (client_at new.clients number) (steps_of number steps) refl refl
    (ap reading_steps (no_other its number steps other taken.each))
    (subst (Keeps stream earlier) (sym (does_aside old.max_inflight (events.Tick its) old.broker new.broker old.clients new.clients new.clock outputs result number other done)) keeps))
    (cases_eq number its)
in_event (events.End its) number stream earlier old new outputs result steps lawful up taken answer done keeps =
    ⊎_elim
    (λ (same : number ≡ its).
    let own : steps_of number steps ≡ steps = ap (λ (n : ℕ). steps_of n steps) same ∙ its_own its steps taken.each in
    goes_along true (events.End its) number stream [] earlier (client_at old.clients number) (client_at new.clients number) (steps_of number steps) steps refl refl own
    (end_read stream earlier (client_at old.clients number) (client_at new.clients number) steps (up number) lawful
    (subst (λ (s : List TakenStep). LeadPhase (phase_of (client_at old.clients number)) s (phase_of (client_at new.clients number))) own (taken.phases number))
    (subst (λ (n : ℕ). LastIsAnswered inputs.EndOfInput (client_at old.clients n) (map conn_step_of steps)) (sym same) answer) keeps))
    (λ (other : number ≢ its).
    stays_so true (events.End its) number stream earlier (client_at old.clients number) (client_at new.clients number) (steps_of number steps) refl refl
    (ap reading_steps (no_other its number steps other taken.each))
    (subst (Keeps stream earlier) (sym (does_aside old.max_inflight (events.End its) old.broker new.broker old.clients new.clients new.clock outputs result number other done)) keeps))
    (cases_eq number its)
in_event events.Close number stream earlier old new outputs result steps lawful up taken answer closes keeps =
    stays_so true events.Close number stream earlier (client_at old.clients number) (client_at new.clients number) (steps_of number steps) refl refl (none_reading number steps taken.each)
    (⊎_elim
    (λ (less : number < closes.2).
    subst (Keeps stream earlier) (sym (ap open_in (gone_below closes.2 closes.0 new.broker old.clients new.clients new.clock outputs result closes.4 number less)))
    (once_ended stream earlier (client_at old.clients number) keeps))
    (λ (more : closes.2 ≤ number).
    subst (Keeps stream earlier) (sym (untouched closes.2 number closes.0 new.broker old.clients new.clients new.clock outputs result more closes.4)) keeps)
    (cases_lt number closes.2))

-- an event after the close
passed_over : (event : ServerEvent) (number : ℕ) (stream : List ℕ) (earlier : List ConnStep) (before after : Option (ClientState GroupPlace)) (these : List TakenStep) → these ≡ [] → after ≡ before
    → Keeps stream earlier before → IsKept false event number stream earlier before these after
passed_over event number stream earlier before after these none same keeps =
    nothing_more stream earlier (reading_steps these) after (ap reading_steps none) (subst (Keeps stream earlier) (sym same) keeps)

in_event_if : (open? : Bool) (event : ServerEvent) (number : ℕ) (stream : List ℕ) (earlier : List ConnStep) (old new : ServerState) (outputs : List StepOutput) (result : Result (Unit {0}) NoMemory)
    (steps : List TakenStep) → AllByRecursion IsLawfulStep steps → AreUp new.clients → AreTakenIf open? event old steps new
    → EventIsAnsweredIf open? event old.clients (map conn_step_of steps) new.clients
    → DoesIf open? event old.max_inflight old.broker old.clients new.clock outputs result new.clients new.broker → Keeps stream earlier (client_at old.clients number)
    → IsKept open? event number stream earlier (client_at old.clients number) (steps_of number steps) (client_at new.clients number)
in_event_if true event number stream earlier old new outputs result steps lawful up taken answer done keeps =
    in_event event number stream earlier old new outputs result steps lawful up taken answer done keeps
in_event_if false event number stream earlier old new outputs result steps lawful up taken answer done keeps =
    passed_over event number stream earlier (client_at old.clients number) (client_at new.clients number) (steps_of number steps) (ap (steps_of number) taken.0)
    (ap (λ (l : Clients). client_at l number) taken.2) keeps

-- one event after the other
reads : (number : ℕ) (stream : List ℕ) (earlier : List ConnStep) (events : List TimedEvent) (outputs : List StepOutput) (old new : ServerState) → AreUp old.clients
    → Keeps stream earlier (client_at old.clients number) → (run : HappensAll old events outputs new) (steps : List TakenStep) (taken : AllAreTaken old events outputs new run steps)
    → ReadsWholeStream number stream earlier old events outputs new run steps taken
reads number stream earlier [] outputs old new up keeps run steps taken =
    subst (λ (s : ServerState). ReadsFrom stream earlier (client_at s.clients number)) (sym run.1) (reads_from stream earlier (client_at old.clients number) keeps)
reads number stream earlier (event ∷ others) outputs old new up keeps run steps taken =
    let mid = run.0 in
    let these = taken.2 in
    let before = client_at old.clients number in
    let anew = begins (is_open old.broker) before event.event number in
    let up' = does_up_if old.max_inflight (is_open old.broker) event.event old.broker mid.broker old.clients mid.clients mid.clock run.1 (Ok tt) up run.3.does in (
      reads_from stream earlier before keeps,
      reads number (since_opening anew stream (piece_to (is_open old.broker) before (piece_in event.event number)))
          (since_opening anew earlier (reading_steps (steps_of number taken.0))) others run.2 mid new up'
          (in_event_if (is_open old.broker) event.event number stream earlier old mid run.1 (Ok tt) taken.0 these.lawful up' these.lead these.answer run.3.does keeps)
          run.4 taken.1 taken.3,
    )

-- a new server has no connection
keeps_nothing : (client : Option (ClientState GroupPlace)) → client ≡ None → Keeps [] [] client
keeps_nothing client is = subst (Keeps [] []) (sym is) ([], refl)

pub reads_in_run : (setup : Setup) (events : List TimedEvent) (outputs : List StepOutput) (first last : ServerState) → IsNewServer setup first → (run : HappensAll first events outputs last)
    → (steps : List TakenStep) (taken : AllAreTaken first events outputs last run steps) (number : ℕ) → ReadsWholeStream number [] [] first events outputs last run steps taken
reads_in_run setup events outputs first last new run steps taken number =
    reads number [] [] events outputs first last (new_up setup first new)
    (keeps_nothing (client_at first.clients number) (ap (λ (l : Clients). client_at l number) new.clients ∙ none_at 64 number)) run steps taken
