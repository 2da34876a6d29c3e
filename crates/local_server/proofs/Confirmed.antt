-- A step acknowledges the PUBACK that comes in it for what its session holds, and nothing else.
use Rattle.std.proofs.Common.{◌≡◌, ◌≢◌, ◌⊎◌, ℕ, nat_eq, Bool, true, false, ◌||◌, if◌then◌else◌, List, [], ◌∷◌, Option, Some, None, Contains, refl, sym, ap, subst, ◌∙◌, inl, inr, ⊎_elim}
use Rattle.std.specs.List.{list_any}
use Rattle.std.proofs.lemmas.Bool.{cases_eq, eq-eqb, ne_eqb}
use Rattle.mqtt_packet.specs.declared.packet.Packet.{Packet}
use Rattle.mqtt_packet.specs.declared.packet.Packet.TheVariants as packets
use Rattle.mqtt_packet.specs.declared.packet.Puback.{Puback}
use Rattle.group_jobs.specs.Stamps.{Held}
use Rattle.member_window.specs.Contents.{held_of}
use Rattle.member_window.specs.Marks.{Mark, WindowState, held}
use Rattle.member_window.proofs.Lists.{contains_nil, contains_here, contains_there, contains_cons_cases}
use Rattle.session_desk.specs.declared.session.Membership.{Membership}
use Rattle.session_desk.specs.declared.session.Membership.TheVariants.{NotMember, Member, Leaving}
use Rattle.conn_rules.specs.Acknowledging.{fate_of}
use Rattle.conn_supply.specs.declared.reply.Then.{Then}
use Rattle.conn_supply.specs.declared.reply.Then.TheVariants.{Go}
use Rattle.conn_supply.specs.declared.reply.Reply.{Reply}
use Rattle.conn_engine.specs.declared.input.Input.{Input}
use Rattle.conn_engine.specs.declared.input.Input.TheVariants as inputs
use Rattle.conn_engine.specs.declared.phase.ConnectedClient.{ConnectedClient}
use Rattle.conn_engine.specs.declared.phase.ConnPhase.{ConnPhase}
use Rattle.conn_engine.specs.declared.phase.ConnPhase.TheVariants.{Unconnected, Waiting, Connected, Ended}
use Rattle.conn_engine.specs.Step.{Steps}
use Rattle.conn_laws.specs.Calls.{discards_of, Confirms, SettlesOne, SettlesNone}
use Rattle.conn_laws.specs.Marks.{acknowledged_of, IsAckedBy}
use Rattle.conn_laws.specs.Transcripts.{connected_of, SessionSteps, Transcribes}
use Rattle.conn_laws.specs.Places.{has_place}
use Rattle.local_broker.specs.Places.{GroupPlace}
use Rattle.local_broker.specs.Broker.{Broker}
use Rattle.local_broker.specs.Calls.{Calls}
use Rattle.local_server.specs.Happening.{slot_of}
use Rattle.local_server.specs.ConnSteps.{ConnStep}
use Rattle.local_server.specs.Transcripts.{transcript_of}
use Rattle.local_server.specs.Settling.{AreOutFor, confirmed_by, AcknowledgesWhatCame}
use Rattle.local_server.proofs.Stepping.{GoesAs}
use Rattle.local_server.proofs.Windows.{Leads}

abbrev Entries : Type 0
Entries = List (ℕ × Held)

-- under an identifier one is held, or none
record Finds (entries : Entries) (identifier : ℕ) : Type 0 where
  envelope : Held
  has : Contains entries (identifier, envelope)
  found : list_any (λ (entry : ℕ × Held). nat_eq entry.0 identifier) entries ≡ true

record FindsNone (entries : Entries) (identifier : ℕ) : Type 0 where
  none : (envelope : Held) → ¬ Contains entries (identifier, envelope)
  lacks : list_any (λ (entry : ℕ × Held). nat_eq entry.0 identifier) entries ≡ false

looked_for : (entries : Entries) (identifier : ℕ) → Finds entries identifier ⊎ FindsNone entries identifier
looked_for [] identifier = inr (record { none = λ envelope has. contains_nil (identifier, envelope) has; lacks = refl })
looked_for (entry ∷ entries) identifier =
    let rest = list_any (λ (one : ℕ × Held). nat_eq one.0 identifier) entries in
    ⊎_elim
    (λ (is : entry.0 ≡ identifier).
    inl (record {
      envelope = entry.1;
      has = subst (λ (k : ℕ). Contains (entry ∷ entries) (k, entry.1)) is (contains_here entry entries);
      found = ap (λ (b : Bool). b || rest) (eq-eqb entry.0 identifier is);
    }))
    (λ (other : entry.0 ≢ identifier).
    let skips : list_any (λ (one : ℕ × Held). nat_eq one.0 identifier) (entry ∷ entries) ≡ rest = ap (λ (b : Bool). b || rest) (ne_eqb entry.0 identifier other) in
    ⊎_elim
    (λ (later : Finds entries identifier).
    inl (record { envelope = later.envelope; has = contains_there entry entries (identifier, later.envelope) later.has; found = skips ∙ later.found }))
    (λ (nowhere : FindsNone entries identifier).
    inr (record {
      none = λ envelope has.
          ⊎_elim
          (λ (here : entry ≡ (identifier, envelope)). other (ap (λ (one : ℕ × Held). one.0) here))
          (λ (there : Contains entries (identifier, envelope)). nowhere.none envelope there)
          (contains_cons_cases entry entries (identifier, envelope) has);
      lacks = skips ∙ nowhere.lacks;
    }))
    (looked_for entries identifier))
    (cases_eq entry.0 identifier)

-- which PUBACK comes in for what is held
one_confirmed : (entries : Entries) (puback : Puback) (envelope : Held) → Contains entries (puback.packet_identifier, envelope)
    → confirmed_by entries (inputs.Packet (packets.Puback puback)) ≡ (puback.packet_identifier, puback.reason_code) ∷ []
one_confirmed entries puback envelope has =
    ⊎_elim
    (λ (finds : Finds entries puback.packet_identifier). ap (λ (b : Bool). if b then (puback.packet_identifier, puback.reason_code) ∷ [] else []) finds.found)
    (λ (nowhere : FindsNone entries puback.packet_identifier). absurd (nowhere.none envelope has))
    (looked_for entries puback.packet_identifier)

none_confirmed : (entries : Entries) (puback : Puback) → ((envelope : Held) → ¬ Contains entries (puback.packet_identifier, envelope))
    → confirmed_by entries (inputs.Packet (packets.Puback puback)) ≡ []
none_confirmed entries puback none =
    ⊎_elim
    (λ (finds : Finds entries puback.packet_identifier). absurd (none finds.envelope finds.has))
    (λ (nowhere : FindsNone entries puback.packet_identifier). ap (λ (b : Bool). if b then (puback.packet_identifier, puback.reason_code) ∷ [] else []) nowhere.lacks)
    (looked_for entries puback.packet_identifier)

-- who holds something has a place
holder : (b : Broker) (membership : Membership GroupPlace) (entries : Entries) (identifier : ℕ) (envelope : Held) → AreOutFor b membership entries
    → Contains entries (identifier, envelope) → has_place membership ≡ true
holder b NotMember entries identifier envelope out has = absurd (contains_nil (identifier, envelope) (subst (λ (es : Entries). Contains es (identifier, envelope)) out has))
holder b (Member place) entries identifier envelope out has = refl
holder b (Leaving place) entries identifier envelope out has = refl

-- a connection that goes on after a PUBACK has its client's session
was_connected : (phase : ConnPhase GroupPlace) (old new : Broker) (number now : ℕ) (phase' : ConnPhase GroupPlace) (puback : Puback) (sent : List Packet) (next : Then)
    → Steps Calls slot_of old number phase now (inputs.Packet (packets.Puback puback)) sent next phase' new → next ≡ Go
    → (connected : ConnectedClient GroupPlace) × (phase ≡ Connected connected)
was_connected (Unconnected opened) old new number now phase' puback sent next steps goes =
    absurd (let closes : Go ≡ _ = sym goes ∙ steps.followed ∙ ap (λ (r : Reply). r.next) steps.reacts.0.told in cc)
was_connected (Waiting request ticks) old new number now phase' puback sent next steps goes = absurd steps.reacts
was_connected (Connected connected) old new number now phase' puback sent next steps goes = (connected, refl)
was_connected Ended old new number now phase' puback sent next steps goes =
    absurd (let closes : Go ≡ _ = sym goes ∙ steps.followed ∙ ap (λ (r : Reply). r.next) steps.reacts.0.told in cc)

-- where a connection ends, or has no session, nothing is acknowledged
ends_none : (before after : Option (ConnectedClient GroupPlace)) (old new : Broker) (number : ℕ) (next : Then) (marks : List (Mark Held)) → SessionSteps Calls old number before after marks new
    → GoesAs before after next → next ≢ Go → acknowledged_of marks ≡ []
ends_none None None old new number next marks conn_steps goes stops = ap acknowledged_of conn_steps.0
ends_none None (Some connected) old new number next marks conn_steps goes stops = absurd (stops goes)
ends_none (Some connected) (Some connected') old new number next marks conn_steps goes stops = absurd (stops goes)
ends_none (Some connected) None old new number next marks conn_steps goes stops = ap acknowledged_of conn_steps.marks_are

module _ (old new : Broker) (number now : ℕ) (phase phase' : ConnPhase GroupPlace) (sent : List Packet) (next : Then) where
  -- a PUBACK of a connection with its session
  puback_heard : (puback : Puback) (connected : ConnectedClient GroupPlace) (entries : Entries)
      (step : Transcribes Calls old number phase now (inputs.Packet (packets.Puback puback)) sent next phase' new) → phase ≡ Connected connected → entries ≡ held_of connected.session.window
      → AreOutFor old connected.session.membership (held_of connected.session.window) → next ≡ Go
      → acknowledged_of step.marks ≡ confirmed_by entries (inputs.Packet (packets.Puback puback))
  puback_heard puback connected entries step is same out goes =
      let window = held_of connected.session.window in
      let input = inputs.Packet (packets.Puback puback) in
      let there : confirmed_by entries input ≡ confirmed_by window input = ap (λ (es : Entries). confirmed_by es input) same in
      ⊎_elim
      (λ (one : SettlesOne phase input step.supply_calls (discards_of step.outcomes) × ((acked : ℕ × ℕ) × (acknowledged_of step.marks ≡ acked ∷ []) × IsAckedBy input acked)).
      let confirmed = subst (λ (s : ConnPhase GroupPlace). Confirms s input one.0.envelope one.0.fate) is one.0.confirmed in
      one.1.1 ∙ ap (λ (a : ℕ × ℕ). a ∷ []) one.1.2 ∙ sym (there ∙ one_confirmed window puback one.0.envelope confirmed.1))
      (λ (none : SettlesNone phase input step.supply_calls next (discards_of step.outcomes) × (acknowledged_of step.marks ≡ [])).
      let nowhere : (envelope : Held) → ¬ Contains window (puback.packet_identifier, envelope) = λ envelope has.
      (let taken = none.0.unless envelope (fate_of puback.reason_code)
      (subst (λ (s : ConnPhase GroupPlace). Confirms s input envelope (fate_of puback.reason_code)) (sym is)
      (holder old connected.session.membership window puback.packet_identifier envelope out has, has, refl)) in
      let e = sym goes ∙ taken in cc) in
      none.1 ∙ sym (there ∙ none_confirmed window puback nowhere))
      step.settles

  -- an input that is no PUBACK acknowledges nothing
  other_heard : (input : Input) (step : Transcribes Calls old number phase now input sent next phase' new) → ((acked : ℕ × ℕ) → ¬ IsAckedBy input acked)
      → acknowledged_of step.marks ≡ []
  other_heard input step no_puback =
      ⊎_elim
      (λ (one : SettlesOne phase input step.supply_calls (discards_of step.outcomes) × ((acked : ℕ × ℕ) × (acknowledged_of step.marks ≡ acked ∷ []) × IsAckedBy input acked)). absurd (no_puback one.1.0 one.1.2))
      (λ (none : SettlesNone phase input step.supply_calls next (discards_of step.outcomes) × (acknowledged_of step.marks ≡ [])). none.1)
      step.settles

  abbrev Steps_by : Input → Type 0
  Steps_by input = Steps Calls slot_of old number phase now input sent next phase' new

  heard : (input : Input) (entries : Entries) (step : Transcribes Calls old number phase now input sent next phase' new) → Steps_by input
      → ((connected : ConnectedClient GroupPlace) → connected_of phase ≡ Some connected → entries ≡ held_of connected.session.window)
      → ((connected : ConnectedClient GroupPlace) → connected_of phase ≡ Some connected → AreOutFor old connected.session.membership (held_of connected.session.window)) → next ≡ Go
      → acknowledged_of step.marks ≡ confirmed_by entries input
  heard (inputs.Packet (packets.Puback puback)) entries step steps same out goes =
      let connected = was_connected phase old new number now phase' puback sent next steps goes in
      let has : connected_of phase ≡ Some connected.0 = ap connected_of connected.1 in
      puback_heard puback connected.0 entries step connected.1 (same connected.0 has) (out connected.0 has) goes
  heard (inputs.Packet (packets.Connect connect)) entries step steps same out goes = other_heard _ step (λ acked is. is)
  heard (inputs.Packet (packets.Connack connack)) entries step steps same out goes = other_heard _ step (λ acked is. is)
  heard (inputs.Packet (packets.Publish publish)) entries step steps same out goes = other_heard _ step (λ acked is. is)
  heard (inputs.Packet (packets.Subscribe subscribe)) entries step steps same out goes = other_heard _ step (λ acked is. is)
  heard (inputs.Packet (packets.Suback suback)) entries step steps same out goes = other_heard _ step (λ acked is. is)
  heard (inputs.Packet (packets.Unsubscribe unsubscribe)) entries step steps same out goes = other_heard _ step (λ acked is. is)
  heard (inputs.Packet (packets.Unsuback unsuback)) entries step steps same out goes = other_heard _ step (λ acked is. is)
  heard (inputs.Packet packets.Pingreq) entries step steps same out goes = other_heard _ step (λ acked is. is)
  heard (inputs.Packet packets.Pingresp) entries step steps same out goes = other_heard _ step (λ acked is. is)
  heard (inputs.Packet (packets.Disconnect disconnect)) entries step steps same out goes = other_heard _ step (λ acked is. is)
  heard (inputs.Packet (packets.Foreign kind)) entries step steps same out goes = other_heard _ step (λ acked is. is)
  heard (inputs.Packet (packets.OtherVersion version)) entries step steps same out goes = other_heard _ step (λ acked is. is)
  heard (inputs.Packet packets.WithWill) entries step steps same out goes = other_heard _ step (λ acked is. is)
  heard (inputs.Fault fault) entries step steps same out goes = other_heard _ step (λ acked is. is)
  heard inputs.Tick entries step steps same out goes = other_heard _ step (λ acked is. is)
  heard inputs.EndOfInput entries step steps same out goes = other_heard _ step (λ acked is. is)
  heard inputs.Closing entries step steps same out goes = other_heard _ step (λ acked is. is)

  -- this step acknowledges what came
  pub conn_step_hears : (input : Input) (conn_steps : List ConnStep) (conn_step : ConnStep) (step : Transcribes Calls old number phase now input sent next phase' new) → Steps_by input
      → conn_step.input ≡ input → conn_step.next ≡ next → conn_step.marks ≡ step.marks → GoesAs (connected_of phase) (connected_of phase') next
      → ((connected : ConnectedClient GroupPlace) → connected_of phase ≡ Some connected → Leads (transcript_of connected.session.identity.number conn_steps) connected.session.window)
      → ((connected : ConnectedClient GroupPlace) → connected_of phase ≡ Some connected → conn_step.session ≡ connected.session.identity.number)
      → ((connected : ConnectedClient GroupPlace) → connected_of phase ≡ Some connected → AreOutFor old connected.session.membership (held_of connected.session.window))
      → AcknowledgesWhatCame conn_step (held [] (transcript_of conn_step.session conn_steps))
  conn_step_hears input conn_steps conn_step step steps its on marks goes leads session out =
      let entries = held [] (transcript_of conn_step.session conn_steps) in
      let same : (connected : ConnectedClient GroupPlace) → connected_of phase ≡ Some connected → entries ≡ held_of connected.session.window = λ connected has.
      ap (λ (n : ℕ). held [] (transcript_of n conn_steps)) (session connected has) ∙ ap (λ (s : WindowState Held). s.held) (leads connected has).stands in
      record {
        goes_on = λ goes_on.
            ap acknowledged_of marks ∙ heard input entries step steps same out (sym on ∙ goes_on) ∙ ap (confirmed_by entries) (sym its);
        ends = λ stops.
            ap acknowledged_of marks
            ∙ ends_none (connected_of phase) (connected_of phase') old new number next step.marks step.session goes (λ is. stops (on ∙ is));
      }
