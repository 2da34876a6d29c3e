-- What a step sends is held by its session after it, or was before it.
use Rattle.std.proofs.Common.{◌≡◌, ◌≢◌, ◌⊎◌, ℕ, not, Bool, true, false, if◌then◌else◌, List, [], ◌∷◌, ◌++◌, filter_map, Some, None, Contains, sym, ap, subst, ◌∙◌, inl, inr, ⊎_elim}
use Rattle.std.proofs.lemmas.Bool.{cases_eq, eq-eqb, ne_eqb}
use Rattle.std.proofs.lemmas.List.Elements.{Contains-append_left, Contains-append_right, Contains-append_cases}
use Rattle.std.proofs.lemmas.Option.{same_Some}
use Rattle.mqtt_packet.specs.declared.packet.Packet.{Packet}
use Rattle.mqtt_packet.specs.declared.packet.Packet.TheVariants as packets
use Rattle.group_jobs.specs.declared.fate.Fate.{Fate}
use Rattle.group_jobs.specs.Stamps.{Held}
use Rattle.member_window.specs.Contents.{held_of}
use Rattle.member_window.specs.Identifiers.{identifiers, entries_without}
use Rattle.member_window.specs.Marks.{Mark, Up, Sent, Acked, Down, WindowState, window_after, window_after_all}
use Rattle.member_window.specs.Transcript.{IsLegalFrom, MaySend, MayResend}
use Rattle.member_window.proofs.Lists.{contains_here, contains_there, contains_cons_cases, contains_nil, contains_identifier}
use Rattle.conn_supply.specs.declared.reply.Then.{Then}
use Rattle.conn_engine.specs.declared.input.Input.{Input}
use Rattle.conn_engine.specs.declared.input.Input.TheVariants as inputs
use Rattle.conn_engine.specs.declared.phase.ConnectedClient.{ConnectedClient}
use Rattle.conn_engine.specs.declared.phase.ConnPhase.{ConnPhase}
use Rattle.conn_engine.specs.declared.phase.ConnPhase.TheVariants.{Unconnected, Waiting, Connected, Ended}
use Rattle.conn_laws.specs.Calls.{discards_of, Confirms, SettlesNone}
use Rattle.conn_laws.specs.Marks.{acknowledged_of, IsAckedBy}
use Rattle.conn_laws.specs.Transcripts.{connected_of, Transcribes}
use Rattle.local_broker.specs.Places.{GroupPlace}
use Rattle.local_broker.specs.Broker.{Broker}
use Rattle.local_broker.specs.Calls.{Calls}
use Rattle.local_server.specs.Messages.{sent_in}

abbrev Entries : Type 0
Entries = List (ℕ × Held)

abbrev Marks : Type 0
Marks = List (Mark Held)

-- a message that is held, under some identifier
pub record IsHeldIn (entries : Entries) (envelope : Held) : Type 0 where
  pub identifier : ℕ
  pub has : Contains entries (identifier, envelope)

-- what is held under other identifiers stays
without_keeps : (k : ℕ) (entries : Entries) (j : ℕ) (f : Held) → j ≢ k → Contains entries (j, f) → Contains (entries_without k entries) (j, f)
without_keeps k [] j f other has = absurd (contains_nil (j, f) has)
without_keeps k (entry ∷ entries) j f other has =
    let rest = entries_without k entries in
    ⊎_elim
    (λ (is : entry.0 ≡ k).
    subst (λ (b : Bool). Contains (if not b then entry ∷ rest else rest) (j, f)) (sym (eq-eqb entry.0 k is))
    (⊎_elim (λ (here : entry ≡ (j, f)). absurd (other (sym (ap (λ (x : ℕ × Held). x.0) here) ∙ is)))
    (λ (there : Contains entries (j, f)). without_keeps k entries j f other there) (contains_cons_cases entry entries (j, f) has)))
    (λ (differs : entry.0 ≢ k).
    subst (λ (b : Bool). Contains (if not b then entry ∷ rest else rest) (j, f)) (sym (ne_eqb entry.0 k differs))
    (⊎_elim (λ (here : entry ≡ (j, f)). subst (λ (x : ℕ × Held). Contains (entry ∷ rest) x) here (contains_here entry rest))
    (λ (there : Contains entries (j, f)). contains_there entry rest (j, f) (without_keeps k entries j f other there)) (contains_cons_cases entry entries (j, f) has)))
    (cases_eq entry.0 k)

-- what is held stays held where nothing is acknowledged
stays_held : (marks : Marks) (s : WindowState Held) → acknowledged_of marks ≡ [] → (k : ℕ) (e : Held) → Contains s.held (k, e) → Contains (window_after_all s marks).held (k, e)
stays_held [] s none k e has = has
stays_held (Up receive_maximum ∷ marks) s none k e has = stays_held marks (window_after s (Up receive_maximum)) none k e has
stays_held (Sent identifier false item ∷ marks) s none k e has =
    stays_held marks (window_after s (Sent identifier false item)) none k e (Contains-append_left s.held ((identifier, item) ∷ []) (k, e) has)
stays_held (Sent identifier true item ∷ marks) s none k e has = stays_held marks (window_after s (Sent identifier true item)) none k e has
stays_held (Acked identifier code ∷ marks) s none k e has = absurd (cc)
stays_held (Down ∷ marks) s none k e has = stays_held marks (window_after s Down) none k e has

-- and where one other is
acknowledges : (identifier code : ℕ) (marks : Marks) (acked : ℕ × ℕ) → acknowledged_of (Acked identifier code ∷ marks) ≡ acked ∷ []
    → (identifier ≡ acked.0) × (acknowledged_of marks ≡ [])
acknowledges identifier code marks acked is = (
  (let first : (identifier, code) ≡ acked = cc in ap (λ (x : ℕ × ℕ). x.0) first),
  cc,
)

others_stay : (marks : Marks) (s : WindowState Held) (acked : ℕ × ℕ) → acknowledged_of marks ≡ acked ∷ [] → (k : ℕ) (e : Held) → k ≢ acked.0 → Contains s.held (k, e)
    → Contains (window_after_all s marks).held (k, e)
others_stay [] s acked one k e other has = has
others_stay (Up receive_maximum ∷ marks) s acked one k e other has = others_stay marks (window_after s (Up receive_maximum)) acked one k e other has
others_stay (Sent identifier false item ∷ marks) s acked one k e other has =
    others_stay marks (window_after s (Sent identifier false item)) acked one k e other (Contains-append_left s.held ((identifier, item) ∷ []) (k, e) has)
others_stay (Sent identifier true item ∷ marks) s acked one k e other has = others_stay marks (window_after s (Sent identifier true item)) acked one k e other has
others_stay (Acked identifier code ∷ marks) s acked one k e other has =
    let is = acknowledges identifier code marks acked one in
    stays_held marks (window_after s (Acked identifier code)) is.1 k e (without_keeps identifier s.held k e (λ same. other (same ∙ is.0)) has)
others_stay (Down ∷ marks) s acked one k e other has = others_stay marks (window_after s Down) acked one k e other has

-- what is sent, and again what is held
resent_held : (s : WindowState Held) (identifier : ℕ) (item : Held) → MayResend s identifier item → Contains s.held (identifier, item)
resent_held s identifier item may =
    subst (λ (es : Entries). Contains es (identifier, item)) (sym may.is_held)
    (Contains-append_right may.before ((identifier, item) ∷ may.behind) (identifier, item) (contains_here (identifier, item) may.behind))

sent_last : (entries : Entries) (identifier : ℕ) (item : Held) → Contains (entries ++ (identifier, item) ∷ []) (identifier, item)
sent_last entries identifier item = Contains-append_right entries ((identifier, item) ∷ []) (identifier, item) (contains_here (identifier, item) [])

-- where nothing is acknowledged, what is sent is held after it
pub none_acked : (marks : Marks) (s : WindowState Held) → acknowledged_of marks ≡ [] → IsLegalFrom s marks → (e : Held) → Contains (filter_map sent_in marks) e
    → IsHeldIn (window_after_all s marks).held e
none_acked [] s none legal e sent = absurd (contains_nil e sent)
none_acked (Up receive_maximum ∷ marks) s none legal e sent = none_acked marks (window_after s (Up receive_maximum)) none legal.2 e sent
none_acked (Sent identifier false item ∷ marks) s none legal e sent =
    let behind = window_after s (Sent identifier false item) in
    ⊎_elim
    (λ (here : item ≡ e).
    subst (IsHeldIn (window_after_all behind marks).held) here
    (record { identifier = identifier; has = stays_held marks behind none identifier item (sent_last s.held identifier item) }))
    (λ (later : Contains (filter_map sent_in marks) e). none_acked marks behind none legal.2 e later)
    (contains_cons_cases item (filter_map sent_in marks) e sent)
none_acked (Sent identifier true item ∷ marks) s none legal e sent =
    let behind = window_after s (Sent identifier true item) in
    ⊎_elim
    (λ (here : item ≡ e).
    subst (IsHeldIn (window_after_all behind marks).held) here
    (record { identifier = identifier; has = stays_held marks behind none identifier item (resent_held s identifier item legal.1) }))
    (λ (later : Contains (filter_map sent_in marks) e). none_acked marks behind none legal.2 e later)
    (contains_cons_cases item (filter_map sent_in marks) e sent)
none_acked (Acked identifier code ∷ marks) s none legal e sent = absurd (cc)
none_acked (Down ∷ marks) s none legal e sent = none_acked marks (window_after s Down) none legal.2 e sent

-- where one is acknowledged that was held, what is sent is held after it, or was before
pub one_acked : (marks : Marks) (s : WindowState Held) (acked : ℕ × ℕ) (its : Held) → acknowledged_of marks ≡ acked ∷ [] → IsLegalFrom s marks → Contains s.held (acked.0, its)
    → (e : Held) → Contains (filter_map sent_in marks) e → IsHeldIn (window_after_all s marks).held e ⊎ IsHeldIn s.held e
one_acked [] s acked its one legal has e sent = absurd (contains_nil e sent)
one_acked (Up receive_maximum ∷ marks) s acked its one legal has e sent = one_acked marks (window_after s (Up receive_maximum)) acked its one legal.2 has e sent
one_acked (Sent identifier false item ∷ marks) s acked its one legal has e sent =
    let behind = window_after s (Sent identifier false item) in
    let may : MaySend s identifier = legal.1 in
    let other : identifier ≢ acked.0 = λ same.
    may.least.free (subst (Contains (identifiers s.held)) (sym same) (contains_identifier s.held acked.0 its has)) in
    let fresh : IsHeldIn (window_after_all behind marks).held item =
    record { identifier = identifier; has = others_stay marks behind acked one identifier item other (sent_last s.held identifier item) } in
    ⊎_elim
    (λ (here : item ≡ e). inl (subst (IsHeldIn (window_after_all behind marks).held) here fresh))
    (λ (later : Contains (filter_map sent_in marks) e).
    ⊎_elim (λ (after : IsHeldIn (window_after_all behind marks).held e). inl after)
    (λ (before : IsHeldIn behind.held e).
    ⊎_elim (λ (was : Contains s.held (before.identifier, e)). inr (record { identifier = before.identifier; has = was }))
    (λ (last : Contains ((identifier, item) ∷ []) (before.identifier, e)).
    ⊎_elim
    (λ (is : (identifier, item) ≡ (before.identifier, e)). inl (subst (IsHeldIn (window_after_all behind marks).held) (ap (λ (x : ℕ × Held). x.1) is) fresh))
    (λ (none : Contains [] (before.identifier, e)). absurd (contains_nil (before.identifier, e) none))
    (contains_cons_cases (identifier, item) [] (before.identifier, e) last))
    (Contains-append_cases s.held ((identifier, item) ∷ []) (before.identifier, e) before.has))
    (one_acked marks behind acked its one legal.2 (Contains-append_left s.held ((identifier, item) ∷ []) (acked.0, its) has) e later))
    (contains_cons_cases item (filter_map sent_in marks) e sent)
one_acked (Sent identifier true item ∷ marks) s acked its one legal has e sent =
    let behind = window_after s (Sent identifier true item) in
    ⊎_elim
    (λ (here : item ≡ e). inr (subst (IsHeldIn s.held) here (record { identifier = identifier; has = resent_held s identifier item legal.1 })))
    (λ (later : Contains (filter_map sent_in marks) e). one_acked marks behind acked its one legal.2 has e later)
    (contains_cons_cases item (filter_map sent_in marks) e sent)
one_acked (Acked identifier code ∷ marks) s acked its one legal has e sent =
    inl (none_acked marks (window_after s (Acked identifier code)) (acknowledges identifier code marks acked one).1 legal.2 e sent)
one_acked (Down ∷ marks) s acked its one legal has e sent = one_acked marks (window_after s Down) acked its one legal.2 has e sent

-- what is legal after what came before
pub legal_behind : (before behind : Marks) (s : WindowState Held) → IsLegalFrom s (before ++ behind) → IsLegalFrom (window_after_all s before) behind
legal_behind [] behind s legal = legal
legal_behind (mark ∷ before) behind s legal = legal_behind before behind (window_after s mark) legal.2

-- a connection without a session acknowledges nothing
pub none_first : (phase phase' : ConnPhase GroupPlace) (old new : Broker) (number now : ℕ) (input : Input) (sent : List Packet) (next : Then) → connected_of phase ≡ None
    → (step : Transcribes Calls old number phase now input sent next phase' new) → acknowledged_of step.marks ≡ []
none_first (Unconnected opened) phase' old new number now input sent next none step =
    ⊎_elim (λ one. absurd one.0.confirmed) (λ (nothing : SettlesNone (Unconnected opened) input step.supply_calls next (discards_of step.outcomes) × (acknowledged_of step.marks ≡ [])). nothing.1) step.settles
none_first (Waiting request ticks) phase' old new number now input sent next none step =
    ⊎_elim (λ one. absurd one.0.confirmed) (λ (nothing : SettlesNone (Waiting request ticks) input step.supply_calls next (discards_of step.outcomes) × (acknowledged_of step.marks ≡ [])). nothing.1) step.settles
none_first (Connected connected) phase' old new number now input sent next none step = absurd (cc)
none_first Ended phase' old new number now input sent next none step =
    ⊎_elim (λ one. absurd one.0.confirmed) (λ (nothing : SettlesNone Ended input step.supply_calls next (discards_of step.outcomes) × (acknowledged_of step.marks ≡ [])). nothing.1) step.settles

-- one that has its own acknowledges what that holds, or nothing
pub record AcksOne (connected : ConnectedClient GroupPlace) (marks : Marks) : Type 0 where
  pub acked : ℕ × ℕ
  pub its : Held
  pub one : acknowledged_of marks ≡ acked ∷ []
  pub has : Contains (held_of connected.session.window) (acked.0, its)

confirmed_one : (input : Input) (connected : ConnectedClient GroupPlace) (marks : Marks) (acked : ℕ × ℕ) (envelope : Held) (fate : Fate) → Confirms (Connected connected) input envelope fate
    → acknowledged_of marks ≡ acked ∷ [] → IsAckedBy input acked → AcksOne connected marks
confirmed_one (inputs.Packet (packets.Puback puback)) connected marks acked envelope fate confirms one by =
    record { acked = acked; its = envelope; one = one; has = subst (λ (k : ℕ). Contains (held_of connected.session.window) (k, envelope)) (sym (ap (λ (x : ℕ × ℕ). x.0) by)) confirms.1 }
confirmed_one input connected marks acked envelope fate confirms one by = absurd (confirms)

pub acks : (phase phase' : ConnPhase GroupPlace) (connected : ConnectedClient GroupPlace) (old new : Broker) (number now : ℕ) (input : Input) (sent : List Packet) (next : Then)
    → connected_of phase ≡ Some connected → (step : Transcribes Calls old number phase now input sent next phase' new) → AcksOne connected step.marks ⊎ (acknowledged_of step.marks ≡ [])
acks (Unconnected opened) phase' connected old new number now input sent next is step = absurd (cc)
acks (Waiting request ticks) phase' connected old new number now input sent next is step = absurd (cc)
acks (Connected own) phase' connected old new number now input sent next is step =
    subst (λ (l : ConnectedClient GroupPlace). AcksOne l step.marks ⊎ (acknowledged_of step.marks ≡ [])) (same_Some own connected is)
    (⊎_elim
    (λ one. inl (confirmed_one input own step.marks one.1.0 one.0.envelope one.0.fate one.0.confirmed one.1.1 one.1.2))
    (λ (nothing : SettlesNone (Connected own) input step.supply_calls next (discards_of step.outcomes) × (acknowledged_of step.marks ≡ [])). inr nothing.1) step.settles)
acks Ended phase' connected old new number now input sent next is step = absurd (cc)
