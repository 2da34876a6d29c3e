-- What each act of a life is to the session of its connection.
use Rattle.std.proofs.Common.{◌≡◌, ◌≢◌, ◌⊎◌, ℕ, Bool, true, List, [], ◌∷◌, ◌++◌, Option, Some, None, refl, sym, ap, subst, ◌∙◌, append-nil, inl, inr}
use Rattle.std.specs.List.{AllByRecursion}
use Rattle.std.proofs.lemmas.List.Elements.{filter_map-append}
use Rattle.mqtt_packet.specs.declared.packet.Connect.{Connect}
use Rattle.mqtt_packet.specs.declared.packet.Packet.{Packet}
use Rattle.mqtt_packet.specs.declared.packet.Packet.TheVariants as packets
use Rattle.transport.specs.declared.counts.Counts.{Counts}
use Rattle.transport.specs.declared.answers.Got.{Got}
use Rattle.transport.specs.declared.answers.Got.TheVariants as got
use Rattle.group_jobs.specs.Stamps.{Held}
use Rattle.member_window.specs.Contents.{Contents}
use Rattle.member_window.specs.Marks.{Mark}
use Rattle.member_window.specs.Transcript.{IsLegalFrom}
use Rattle.member_window.specs.Runs.{window_state}
use Rattle.conn_rules.specs.Connecting.{is_served, terms_of}
use Rattle.conn_rules.specs.declared.client_limits.ClientLimits.{ClientLimits}
use Rattle.conn_rules.specs.declared.terms.Terms.{Terms}
use Rattle.conn_supply.specs.declared.reply.Then.{Then}
use Rattle.conn_supply.specs.SupplyCalls.{SupplyCall}
use Rattle.conn_engine.specs.declared.input.Input.{Input}
use Rattle.conn_engine.specs.declared.input.Input.TheVariants as inputs
use Rattle.conn_engine.specs.declared.phase.ConnectedClient.{ConnectedClient}
use Rattle.conn_engine.specs.declared.phase.Opening.{Opening}
use Rattle.conn_engine.specs.declared.phase.ConnPhase.{ConnPhase}
use Rattle.conn_engine.specs.declared.phase.ConnPhase.TheVariants.{Unconnected, Waiting, Connected, Ended}
use Rattle.conn_engine.specs.Step.{Steps as Stepping}
use Rattle.conn_laws.specs.Behind.{KeepsOrEnds}
use Rattle.conn_laws.specs.Marks.{publishes_in, publishes_of, as_publish}
use Rattle.conn_laws.specs.Transcripts.{connected_of, SessionSteps, Transcribes}
use Rattle.conn_laws.proofs.Ended.{keeping, silent}
use Rattle.conn_laws.proofs.Failing as failing
use Rattle.conn_laws.proofs.TermsAsked as asked
use Rattle.conn_laws.proofs.Transcripts.{transcribed}
use Rattle.client_table.specs.Clients.{ClientState, moment_of, IsGivenUp}
use Rattle.conn_service.specs.Services.{ServiceState}
use Rattle.conn_service.specs.Acts.{Act, Enters, Leaves, Asks, Reads, Writes, Steps, Loses, Fails, Starves, IsFull, IsStopped, Stalls, GivesUp, Ends, Others, input_in, packets_sent_in, packets_sent}
use Rattle.conn_service.specs.Moments.{fed_by}
use Rattle.conn_service.specs.Lives.{Does}
use Rattle.conn_service.specs.Sessions.{IsNotUp, LastStepAdds, Adds, Gives}
use Rattle.conn_service.proofs.Marks.{not_ending_none, LegalAt, legal_at, is_going, step_leads}

-- an act that sends no PUBLISH
abbrev pub SendsNone : Act → Type 0
SendsNone act = publishes_in (packets_sent_in act) ≡ []

pub none_in_all : (act : Act) (acts : List Act) → SendsNone act → publishes_in (packets_sent acts) ≡ [] → publishes_in (packets_sent (act ∷ acts)) ≡ []
none_in_all act acts none others =
    filter_map-append as_publish (packets_sent_in act) (packets_sent acts) ∙ (λ i. none i ++ others i)

same_conn : {P : Type 0} (its : Got) (client : ClientState P) (bytes : List ℕ) → (fed_by its client bytes).conn ≡ client.conn
same_conn (got.Bytes count) client bytes = refl
same_conn got.Idle client bytes = refl
same_conn got.End client bytes = refl
same_conn got.Failed client bytes = refl

-- the terms of a connection that was opened with these limits are those of a CONNECT that came, of a client that is served
abbrev pub IsOpen : ClientLimits → Opening → Type 0
IsOpen limits opened = opened.limits ≡ limits

abbrev pub AreAsked : ClientLimits → (Connect → Type 0) → Terms → Type 0
AreAsked limits Came terms = (connect : Connect) × Came connect × (is_served limits.users connect ≡ true) × (terms ≡ terms_of limits connect)

module _ {S P : Type 0} (call : S → SupplyCall P → S → Type 0) (slot_of : P → ℕ) where
  abbrev pub TermsAt : ClientLimits → (Connect → Type 0) → ConnPhase P → Type 0
  TermsAt limits Came phase = asked.Within call slot_of (IsOpen limits) (AreAsked limits Came) phase

  pub terms_given : (limits : ClientLimits) (Came : Connect → Type 0) (phase : ConnPhase P) (connected : ConnectedClient P) → connected_of phase ≡ Some connected
      → TermsAt limits Came phase → AreAsked limits Came connected.terms
  terms_given limits Came (Unconnected opened) connected has terms = absurd (let n = has in cc)
  terms_given limits Came (Waiting request ticks) connected has terms = absurd (let n = has in cc)
  terms_given limits Came (Connected its) connected has terms =
      let same : its ≡ connected = (let h = has in cc) in
      subst (λ (c : ConnectedClient P). AreAsked limits Came c.terms) same terms
  terms_given limits Came Ended connected has terms = absurd (let n = has in cc)

  -- who has its session has it, or its connection has ended
  step_keeps : (number moment : ℕ) (phase phase' : ConnPhase P) (input : Input) (packets : List Packet) (next : Then) (supply supply' : S) → phase ≢ Ended → KeepsOrEnds phase
      → Stepping call slot_of supply number phase moment input packets next phase' supply' → KeepsOrEnds phase'
  step_keeps number moment (Unconnected opened) phase' input packets next supply supply' not_over keeps steps = absurd keeps
  step_keeps number moment (Waiting request ticks) phase' input packets next supply supply' not_over keeps steps = absurd keeps
  step_keeps number moment (Connected connected) phase' input packets next supply supply' not_over keeps steps =
      keeping call slot_of supply supply' number moment connected phase' input packets next steps
  step_keeps number moment Ended phase' input packets next supply supply' not_over keeps steps = absurd (not_over refl)

module _ {S P T : Type 0} (call : S → SupplyCall P → S → Type 0) (slot_of : P → ℕ) where
  -- an act that steps nothing leaves the connection
  pub record LeavesAs (act : Act) (old : ServiceState P T) (supply : S) (new : ServiceState P T) (supply' : S) : Type 0 where
    sent : packets_sent_in act ≡ []
    same : new.client.conn.phase ≡ old.client.conn.phase
    whose : new.client.conn.number ≡ old.client.conn.number
    adds : Adds call act old supply new supply' []

  -- an act in which an allocation failed ends it
  pub record FailsAs (act : Act) (old : ServiceState P T) (supply : S) (new : ServiceState P T) (supply' : S) : Type 0 where
    sent : packets_sent_in act ≡ []
    over : new.client.conn.phase ≡ Ended
    whose : new.client.conn.number ≡ old.client.conn.number
    adds : Adds call act old supply new supply' []

  -- and any other is a step of it
  pub record StepsAs (act : Act) (old : ServiceState P T) (supply : S) (new : ServiceState P T) (supply' : S) : Type 0 where
    moment : ℕ
    input : Input
    packets : List Packet
    next : Then
    came : input_in act ≡ input ∷ []
    sent : packets_sent_in act ≡ packets
    not_over : old.client.conn.phase ≢ Ended
    whose : new.client.conn.number ≡ old.client.conn.number
    stepped : Stepping call slot_of supply old.client.conn.number old.client.conn.phase moment input packets next new.client.conn.phase supply'
    adds : (step : Transcribes call supply old.client.conn.number old.client.conn.phase moment input packets next new.client.conn.phase supply') → Adds call act old supply new supply' step.marks

  abbrev pub Turn : Act → ServiceState P T → S → ServiceState P T → S → Type 0
  Turn act old supply new supply' = LeavesAs act old supply new supply' ⊎ (FailsAs act old supply new supply' ⊎ StepsAs act old supply new supply')

  left : (act : Act) (old new : ServiceState P T) (supply supply' : S) → packets_sent_in act ≡ [] → new.client.conn ≡ old.client.conn → Adds call act old supply new supply' [] → Turn act old supply new supply'
  left act old new supply supply' sent is adds = inl (record { sent = sent; same = ap (λ c. c.phase) is; whose = ap (λ c. c.number) is; adds = adds })

  -- a connection that is given up makes its last step, or an allocation failed in that
  given_up : (now : ℕ) (act : Act) (old new : ServiceState P T) (supply supply' : S) → input_in act ≡ inputs.EndOfInput ∷ [] → packets_sent_in act ≡ [] → old.client.conn.phase ≢ Ended
      → ((marks : List (Mark Held)) → LastStepAdds call old.client.conn.number old.client.conn.phase (moment_of old.client now) supply new.client.conn.phase supply' marks
      → Adds call act old supply new supply' marks)
      → IsGivenUp call slot_of supply old.client now inputs.EndOfInput new.client supply' → Turn act old supply new supply'
  given_up now act old new supply supply' came sent not_over adds (inl moved) =
      let at = moment_of old.client now in
      let none = silent call slot_of supply supply' old.client.conn.number at old.client.conn.phase new.client.conn.phase moved.0.packets moved.0.next moved.1.stepped in
      inr (inr (record {
        moment = at;
        input = inputs.EndOfInput;
        packets = [];
        next = moved.0.next;
        came = came;
        sent = sent;
        not_over = not_over;
        whose = moved.1.same;
        stepped = subst (λ (packets : List Packet). Stepping call slot_of supply old.client.conn.number old.client.conn.phase at inputs.EndOfInput packets moved.0.next new.client.conn.phase supply') none moved.1.stepped;
        adds = λ step. adds step.marks (inl (moved.0.next, step, refl));
      }))
  given_up now act old new supply supply' came sent not_over adds (inr failed) =
      inr (inl (record {
        sent = sent;
        over = failed.over;
        whose = failed.same;
        adds = adds [] (inr (failing.failed call slot_of supply supply' old.client.conn.number (moment_of old.client now) old.client.conn.phase inputs.EndOfInput failed.failed, refl));
      }))

  pub turn_keeps : (act : Act) (old new : ServiceState P T) (supply supply' : S) → KeepsOrEnds old.client.conn.phase → Turn act old supply new supply' → KeepsOrEnds new.client.conn.phase
  turn_keeps act old new supply supply' keeps (inl leaves) = subst KeepsOrEnds (sym leaves.same) keeps
  turn_keeps act old new supply supply' keeps (inr (inl fails)) = subst KeepsOrEnds (sym fails.over) tt
  turn_keeps act old new supply supply' keeps (inr (inr steps)) =
      step_keeps call slot_of old.client.conn.number steps.moment old.client.conn.phase new.client.conn.phase steps.input steps.packets steps.next supply supply' steps.not_over keeps steps.stepped

  pub turn_terms : (limits : ClientLimits) (Came : Connect → Type 0) (act : Act) (old new : ServiceState P T) (supply supply' : S)
      → ((connect : Connect) → input_in act ≡ inputs.Packet (packets.Connect connect) ∷ [] → Came connect) → TermsAt call slot_of limits Came old.client.conn.phase
      → Turn act old supply new supply' → TermsAt call slot_of limits Came new.client.conn.phase
  turn_terms limits Came act old new supply supply' comes kept (inl leaves) = subst (λ (phase : ConnPhase P). TermsAt call slot_of limits Came phase) (sym leaves.same) kept
  turn_terms limits Came act old new supply supply' comes kept (inr (inl fails)) = subst (λ (phase : ConnPhase P). TermsAt call slot_of limits Came phase) (sym fails.over) tt
  turn_terms limits Came act old new supply supply' comes kept (inr (inr steps)) =
      asked.within call slot_of (IsOpen limits) (AreAsked limits Came) old.client.conn.number steps.moment old.client.conn.phase new.client.conn.phase steps.input steps.packets steps.next
      supply supply' steps.stepped
      (λ opened connect may before is served.
      (connect, comes connect (steps.came ∙ ap (λ (i : Input). i ∷ []) is), subst (λ (l : ClientLimits). is_served l.users connect ≡ true) may served, ap (λ (l : ClientLimits). terms_of l connect) may)) kept

  -- the number of a connection stays
  pub turn_whose : (act : Act) (old new : ServiceState P T) (supply supply' : S) → Turn act old supply new supply' → new.client.conn.number ≡ old.client.conn.number
  turn_whose act old new supply supply' (inl leaves) = leaves.whose
  turn_whose act old new supply supply' (inr (inl fails)) = fails.whose
  turn_whose act old new supply supply' (inr (inr steps)) = steps.whose

  -- a step before there is a session gives one, or sends no PUBLISH
  abbrev pub FirstTurn : Act → ServiceState P T → S → ServiceState P T → S → Type 0
  FirstTurn act old supply new supply' = (SendsNone act × (connected_of new.client.conn.phase ≡ None)) ⊎ Gives call act old supply new supply'

  first_by : (act : Act) (old new : ServiceState P T) (supply supply' : S) → connected_of old.client.conn.phase ≡ None → (steps : StepsAs act old supply new supply')
      → (step : Transcribes call supply old.client.conn.number old.client.conn.phase steps.moment steps.input steps.packets steps.next new.client.conn.phase supply')
      → (its : Option (ConnectedClient P)) → connected_of new.client.conn.phase ≡ its → SessionSteps call supply old.client.conn.number None its step.marks supply' → FirstTurn act old supply new supply'
  first_by act old new supply supply' none steps step None is session =
      inl (ap publishes_in steps.sent ∙ step.publishes ∙ ap (publishes_of steps.moment) session.0, is)
  first_by act old new supply supply' none steps step (Some connected) is session =
      inr (record { none = none; connected = connected; has = is; marks = step.marks; adds = steps.adds step; begun = session })

  pub first_turn : (act : Act) (old new : ServiceState P T) (supply supply' : S) → connected_of old.client.conn.phase ≡ None → Turn act old supply new supply' → FirstTurn act old supply new supply'
  first_turn act old new supply supply' none (inl leaves) = inl (ap publishes_in leaves.sent, ap connected_of leaves.same ∙ none)
  first_turn act old new supply supply' none (inr (inl fails)) = inl (ap publishes_in fails.sent, ap connected_of fails.over)
  first_turn act old new supply supply' none (inr (inr steps)) =
      let step = transcribed call slot_of supply supply' old.client.conn.number steps.moment old.client.conn.phase new.client.conn.phase steps.input steps.packets steps.next steps.stepped
      (not_ending_none old.client.conn.phase none) in
      first_by act old new supply supply' none steps step (connected_of new.client.conn.phase) refl
      (subst (λ (l : Option (ConnectedClient P)). SessionSteps call supply old.client.conn.number l (connected_of new.client.conn.phase) step.marks supply') none step.session)

  -- where the connection has ended, no session is given
  pub none_after : (act : Act) (old new : ServiceState P T) (supply supply' : S) → old.client.conn.phase ≡ Ended → Gives call act old supply new supply' → Turn act old supply new supply' → ⊥
  none_after act old new supply supply' over gives (inl leaves) = absurd (let n = sym (ap connected_of (leaves.same ∙ over)) ∙ gives.has in cc)
  none_after act old new supply supply' over gives (inr (inl fails)) = absurd (let n = sym (ap connected_of fails.over) ∙ gives.has in cc)
  none_after act old new supply supply' over gives (inr (inr steps)) = steps.not_over over

  -- an act of a connection that has its session, or has ended
  pub record TurnsOn (first : Contents Held) (told : List (Mark Held)) (act : Act) (old : ServiceState P T) (supply : S) (new : ServiceState P T) (supply' : S) : Type 0 where
    pub marks : List (Mark Held)
    pub adds : Adds call act old supply new supply' marks
    pub no_up : AllByRecursion IsNotUp marks
    pub keeps : KeepsOrEnds new.client.conn.phase
    pub legal : LegalAt first (told ++ marks) new.client.conn.phase

  pub turns_on : (first : Contents Held) (told : List (Mark Held)) (act : Act) (old new : ServiceState P T) (supply supply' : S) → KeepsOrEnds old.client.conn.phase → LegalAt first told old.client.conn.phase
      → KeepsOrEnds new.client.conn.phase → Turn act old supply new supply' → TurnsOn first told act old supply new supply'
  turns_on first told act old new supply supply' keeps legal keeps' (inl leaves) =
      record {
        marks = [];
        adds = leaves.adds;
        no_up = tt;
        keeps = keeps';
        legal = subst (λ (phase : ConnPhase P). LegalAt first (told ++ []) phase) (sym leaves.same)
            (subst (λ (m : List (Mark Held)). LegalAt first m old.client.conn.phase) (sym (append-nil told)) legal);
      }
  turns_on first told act old new supply supply' keeps legal keeps' (inr (inl fails)) =
      record {
        marks = [];
        adds = fails.adds;
        no_up = tt;
        keeps = keeps';
        legal = subst (λ (phase : ConnPhase P). LegalAt first (told ++ []) phase) (sym fails.over)
            (subst (λ (m : List (Mark Held)). IsLegalFrom (window_state first) m) (sym (append-nil told)) (legal_at first told old.client.conn.phase legal));
      }
  turns_on first told act old new supply supply' keeps legal keeps' (inr (inr steps)) =
      let step = transcribed call slot_of supply supply' old.client.conn.number steps.moment old.client.conn.phase new.client.conn.phase steps.input steps.packets steps.next steps.stepped
      (is_going first told old.client.conn.phase legal) in
      let leads = step_leads call first told old.client.conn.number steps.moment old.client.conn.phase new.client.conn.phase steps.input steps.packets steps.next supply supply' steps.not_over keeps keeps' legal step in
      record { marks = step.marks; adds = steps.adds step; no_up = leads.0; keeps = keeps'; legal = leads.1 }

module _ {S P T : Type 0} (call : S → SupplyCall P → S → Type 0) (begins ends : S → S → Type 0) (visiting : S → Bool) (slot_of : P → ℕ)
    (counts : T → Counts) (given accepted : T → Option (List ℕ)) where
  pub turn : (act : Act) (old new : ServiceState P T) (supply supply' : S) → Does call begins ends visiting slot_of counts given accepted act old supply new supply' → Turn call slot_of act old supply new supply'
  turn (Enters is_open reads) old new supply supply' does = left call slot_of (Enters is_open reads) old new supply supply' refl (ap (λ (s : ServiceState P T). s.client.conn) does.becomes) refl
  turn Leaves old new supply supply' does = left call slot_of Leaves old new supply supply' refl (ap (λ (s : ServiceState P T). s.client.conn) does.same) refl
  turn (Asks is_kicked) old new supply supply' does = left call slot_of (Asks is_kicked) old new supply supply' refl (ap (λ (s : ServiceState P T). s.client.conn) does.same) refl
  turn Others old new supply supply' does = left call slot_of Others old new supply supply' refl (ap (λ (s : ServiceState P T). s.client.conn) does) refl
  turn (Reads size its bytes) old new supply supply' does = left call slot_of (Reads size its bytes) old new supply supply' refl (ap (λ (s : ServiceState P T). s.client.conn) does.does.becomes ∙ same_conn its old.client bytes) refl
  turn (Starves its bytes) old new supply supply' does = left call slot_of (Starves its bytes) old new supply supply' refl (ap (λ (s : ServiceState P T). s.client.conn) does.does.becomes) refl
  turn (Writes now put) old new supply supply' does = left call slot_of (Writes now put) old new supply supply' refl (ap (λ (s : ServiceState P T). s.client.conn) does.does.becomes) refl
  turn IsStopped old new supply supply' does = left call slot_of IsStopped old new supply supply' refl (ap (λ (s : ServiceState P T). s.client.conn) does.does.becomes) refl
  turn (Stalls now) old new supply supply' does = left call slot_of (Stalls now) old new supply supply' refl (ap (λ (s : ServiceState P T). s.client.conn) does.does.becomes) refl
  turn Ends old new supply supply' does = left call slot_of Ends old new supply supply' refl (ap (λ (s : ServiceState P T). s.client.conn) does.does.becomes) refl
  turn (Steps now input packets next) old new supply supply' does =
      inr (inr (record {
        moment = moment_of old.client now;
        input = input;
        packets = packets;
        next = next;
        came = refl;
        sent = refl;
        not_over = does.due.not_over;
        whose = does.moved.same;
        stepped = does.moved.stepped;
        adds = λ step. (step, refl);
      }))
  turn (Loses now input packets next) old new supply supply' does =
      inr (inr (record {
        moment = moment_of old.client now;
        input = input;
        packets = packets;
        next = next;
        came = refl;
        sent = refl;
        not_over = does.due.not_over;
        whose = does.moved.same;
        stepped = does.moved.stepped;
        adds = λ step. (step, refl);
      }))
  turn (Fails now input) old new supply supply' does =
      inr (inl (record {
        sent = refl;
        over = does.failed.over;
        whose = does.failed.same;
        adds = (failing.failed call slot_of supply supply' old.client.conn.number (moment_of old.client now) old.client.conn.phase input does.failed.failed, refl);
      }))
  turn (IsFull now) old new supply supply' does = given_up call slot_of now (IsFull now) old new supply supply' refl refl does.not_over (λ marks last. last) does.given_up
  turn (GivesUp now) old new supply supply' does = given_up call slot_of now (GivesUp now) old new supply supply' refl refl does.not_over (λ marks last. last) does.given_up
