-- What a step acknowledges is settled: its marks name what its session held, and its calls settle that.
use Rattle.std.proofs.Common.{◌≡◌, ℕ, List, [], ◌∷◌, ◌++◌, Option, Some, None, Contains, refl, sym, ap, subst, ◌∙◌, ⊎_elim, append-nil, append_assoc}
use Rattle.mqtt_packet.specs.declared.packet.Packet.TheVariants as packets
use Rattle.mqtt_packet.specs.declared.packet.Puback.{Puback}
use Rattle.group_jobs.specs.declared.fate.Fate.{Fate}
use Rattle.group_jobs.specs.Stamps.{Held}
use Rattle.member_window.specs.Contents.{held_of}
use Rattle.member_window.specs.Marks.{Mark, WindowState, held}
use Rattle.conn_rules.specs.Acknowledging.{fate_of}
use Rattle.conn_supply.specs.declared.reply.Then.{Then}
use Rattle.conn_engine.specs.declared.input.Input.{Input}
use Rattle.conn_engine.specs.declared.input.Input.TheVariants as inputs
use Rattle.conn_engine.specs.declared.phase.ConnectedClient.{ConnectedClient}
use Rattle.conn_engine.specs.declared.phase.ConnPhase.{ConnPhase}
use Rattle.conn_engine.specs.declared.phase.ConnPhase.TheVariants.{Unconnected, Waiting, Connected, Ended}
use Rattle.conn_laws.specs.Calls.{discards_of, SettlesOne, SettlesNone, Confirms}
use Rattle.conn_laws.specs.Marks.{acknowledged_of, IsAckedBy}
use Rattle.conn_laws.specs.Transcripts.{connected_of, SessionSteps}
use Rattle.conn_laws.proofs.Transcripts.{RepliesFirst}
use Rattle.local_broker.specs.Places.{GroupPlace}
use Rattle.local_broker.specs.Broker.{Broker}
use Rattle.local_broker.specs.Calls.{Calls}
use Rattle.local_server.specs.ConnSteps.{ConnStep}
use Rattle.local_server.specs.Transcripts.{transcript_of}
use Rattle.local_server.specs.Settling.{Settlement, AreSettled, AcknowledgesWhatCame, AllSettle}
use Rattle.local_server.proofs.Windows.{Leads}
use Rattle.local_server.proofs.Settled.{AddsIn, none_of_all}
use Rattle.local_server.proofs.Acting.{Tells, IfUp}

-- one more step settles these besides
abbrev SettlesBehind : ConnStep → List Settlement → List ConnStep → Type 0
SettlesBehind conn_step now before =
    let entries = held [] (transcript_of conn_step.session before) in
    AcknowledgesWhatCame conn_step entries × AreSettled entries (acknowledged_of conn_step.marks) now

pub settle_on : (before conn_steps : List ConnStep) (conn_step : ConnStep) (settled now : List Settlement) → AllSettle before conn_steps settled → SettlesBehind conn_step now (before ++ conn_steps)
    → AllSettle before (conn_steps ++ conn_step ∷ []) (settled ++ (now ++ discards_of conn_step.outcomes))
settle_on before [] conn_step settled now all are =
    let here = subst (SettlesBehind conn_step now) (append-nil before) are in
    let these = now ++ discards_of conn_step.outcomes in
    (now, [], here.0, here.1, refl, ap (λ (s : List Settlement). s ++ these) all ∙ sym (append-nil these))
settle_on before (first ∷ others) conn_step settled now all are = (
  all.0,
  all.1 ++ (now ++ discards_of conn_step.outcomes),
  all.2,
  all.3,
  settle_on (before ++ first ∷ []) others conn_step all.1 now all.4 (subst (SettlesBehind conn_step now) (sym (append_assoc before (first ∷ []) others)) are),
  ap (λ (s : List Settlement). s ++ (now ++ discards_of conn_step.outcomes)) all.5 ∙ append_assoc (all.0 ++ discards_of first.outcomes) all.1 (now ++ discards_of conn_step.outcomes),
)

-- what the answer of a step settles
pub record Settles (conn_steps : List ConnStep) (conn_step : ConnStep) (old new : Broker) : Type 0 where
  pub now : List Settlement
  pub are : AreSettled (held [] (transcript_of conn_step.session conn_steps)) (acknowledged_of conn_step.marks) now
  pub adds : AddsIn old.groups now new.groups

-- nothing is acknowledged, and nothing is settled
settles_none : (conn_steps : List ConnStep) (conn_step : ConnStep) (old new : Broker) → acknowledged_of conn_step.marks ≡ [] → AddsIn old.groups [] new.groups → Settles conn_steps conn_step old new
settles_none conn_steps conn_step old new none adds =
    record { now = []; are = subst (λ (acked : List (ℕ × ℕ)). AreSettled (held [] (transcript_of conn_step.session conn_steps)) acked []) (sym none) refl; adds = adds }

-- a PUBACK came for what the session holds, which goes on
settles_one : (conn_steps : List ConnStep) (conn_step : ConnStep) (old new : Broker) (connected : ConnectedClient GroupPlace) (envelope : Held) (identifier code : ℕ) (now : List Settlement)
    → acknowledged_of conn_step.marks ≡ (identifier, code) ∷ [] → Contains (held_of connected.session.window) (identifier, envelope)
    → Leads (transcript_of conn_step.session conn_steps) connected.session.window → now ≡ (envelope, fate_of code) ∷ [] → AddsIn old.groups now new.groups → Settles conn_steps conn_step old new
settles_one conn_steps conn_step old new connected envelope identifier code now acked has leads is adds =
    let entries : held [] (transcript_of conn_step.session conn_steps) ≡ held_of connected.session.window = ap (λ (s : WindowState Held). s.held) leads.stands in
    record {
      now = now;
      are =
          subst (λ (a : List (ℕ × ℕ)). AreSettled (held [] (transcript_of conn_step.session conn_steps)) a now) (sym acked)
          (envelope, subst (λ (es : List (ℕ × Held)). Contains es (identifier, envelope)) (sym entries) has, is);
      adds = adds;
    }

-- a session that ends acknowledges nothing
goes_on : (after : Option (ConnectedClient GroupPlace)) (old new : Broker) (number : ℕ) (connected : ConnectedClient GroupPlace) (marks : List (Mark Held)) (acked : ℕ × ℕ) (Says : Type 0)
    → SessionSteps Calls old number (Some connected) after marks new → acknowledged_of marks ≡ acked ∷ [] → IfUp after Says → Says
goes_on None old new number connected marks acked Says ends are says = absurd (let none = ap acknowledged_of ends.marks_are in cc)
goes_on (Some connected') old new number connected marks acked Says goes are says = says

module _ (conn_steps : List ConnStep) (conn_step : ConnStep) (old mid new : Broker) (number : ℕ) (marks : List (Mark Held)) (after : Option (ConnectedClient GroupPlace)) (same : conn_step.marks ≡ marks) (acked : ℕ × ℕ)
    (are : acknowledged_of marks ≡ acked ∷ []) (now : List Settlement) (adds : AddsIn old.groups now mid.groups) where
  puback_settles : (connected : ConnectedClient GroupPlace) (puback : Puback) (envelope : Held) → SessionSteps Calls old number (Some connected) after marks new
      → Contains (held_of connected.session.window) (puback.packet_identifier, envelope) → acked ≡ (puback.packet_identifier, puback.reason_code)
      → Leads (transcript_of conn_step.session conn_steps) connected.session.window → IfUp after (Tells (Some connected) (inputs.Packet (packets.Puback puback)) now) → Settles conn_steps conn_step old mid
  puback_settles connected puback envelope session has is leads tells =
      let told = goes_on after old new number connected marks acked (Tells (Some connected) (inputs.Packet (packets.Puback puback)) now) session are tells in
      settles_one conn_steps conn_step old mid connected envelope puback.packet_identifier puback.reason_code now
      (ap acknowledged_of same ∙ are ∙ ap (λ (a : ℕ × ℕ). a ∷ []) is) has leads (told envelope has) adds

  settles_by : (phase : ConnPhase GroupPlace) (input : Input) (envelope : Held) (fate : Fate) → Confirms phase input envelope fate → IsAckedBy input acked
      → SessionSteps Calls old number (connected_of phase) after marks new
      → ((connected : ConnectedClient GroupPlace) → connected_of phase ≡ Some connected → Leads (transcript_of conn_step.session conn_steps) connected.session.window)
      → IfUp after (Tells (connected_of phase) input now) → Settles conn_steps conn_step old mid
  settles_by (Connected connected) (inputs.Packet (packets.Puback puback)) envelope fate confirms is session leads tells =
      puback_settles connected puback envelope session confirms.1 is (leads connected refl) tells
  settles_by (Unconnected opened) input envelope fate confirms is session leads tells = absurd confirms
  settles_by (Waiting request ticks) input envelope fate confirms is session leads tells = absurd confirms
  settles_by Ended input envelope fate confirms is session leads tells = absurd confirms
  settles_by (Connected connected) input envelope fate confirms is session leads tells = absurd confirms

pub settled_on : (conn_steps : List ConnStep) (conn_step : ConnStep) (old mid new : Broker) (number : ℕ) (phase phase' : ConnPhase GroupPlace) (input : Input) (next : Then) (marks : List (Mark Held))
    → SessionSteps Calls old number (connected_of phase) (connected_of phase') marks new → RepliesFirst Calls old phase input next marks mid → conn_step.marks ≡ marks
    → ((connected : ConnectedClient GroupPlace) → connected_of phase ≡ Some connected → Leads (transcript_of connected.session.identity.number conn_steps) connected.session.window)
    → ((connected : ConnectedClient GroupPlace) → connected_of phase ≡ Some connected → conn_step.session ≡ connected.session.identity.number)
    → (now : List Settlement) → AddsIn old.groups now mid.groups → IfUp (connected_of phase') (Tells (connected_of phase) input now) → Settles conn_steps conn_step old mid
settled_on conn_steps conn_step old mid new number phase phase' input next marks session_steps replies same leads session now adds tells =
    let its : (connected : ConnectedClient GroupPlace) → connected_of phase ≡ Some connected → Leads (transcript_of conn_step.session conn_steps) connected.session.window = λ connected has.
    subst (λ (n : ℕ). Leads (transcript_of n conn_steps) connected.session.window) (sym (session connected has)) (leads connected has) in
    ⊎_elim
    (λ (one : SettlesOne phase input replies.supply_calls [] × ((acked : ℕ × ℕ) × (acknowledged_of marks ≡ acked ∷ []) × IsAckedBy input acked)).
    settles_by conn_steps conn_step old mid new number marks
    (connected_of phase') same one.1.0 one.1.1 now adds phase input one.0.envelope one.0.fate one.0.confirmed one.1.2 session_steps its tells)
    (λ (none : SettlesNone phase input replies.supply_calls next [] × (acknowledged_of marks ≡ [])).
    settles_none conn_steps conn_step old mid (ap acknowledged_of same ∙ none.1) (none_of_all replies.supply_calls old mid none.0.settles replies.made))
    replies.settles
