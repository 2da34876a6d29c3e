-- A connection is over exactly where its step says so.
use Rattle.std.proofs.Common.{◌≡◌, ◌≢◌, ◌↔◌, ℕ, Bool, true, false, List, [], ◌++◌, Option, Some, None, Result, Ok, Err, refl, sym, ap, subst, ◌∙◌, nat_lt}
use Rattle.std.specs.Option.{option_to_list}
use Rattle.mqtt_packet.specs.declared.packet.Packet.{Packet}
use Rattle.mqtt_packet.specs.declared.packet.ConnectRefusal.{ConnectRefusal}
use Rattle.group_jobs.specs.Stamps.{Held}
use Rattle.session_desk.specs.declared.attached.Attached.{Attached}
use Rattle.session_desk.specs.declared.attached.Attached.TheVariants.{New, Resumed, Replace, Busy}
use Rattle.session_desk.specs.declared.error.DeskError.{DeskError}
use Rattle.session_desk.specs.declared.error.DeskError.TheVariants as errors
use Rattle.session_desk.specs.declared.session.Session.{Session}
use Rattle.conn_rules.specs.declared.client_limits.ClientLimits.{ClientLimits}
use Rattle.conn_rules.specs.declared.connecting.FirstAnswer.{FirstAnswer}
use Rattle.conn_rules.specs.declared.connecting.FirstAnswer.TheVariants as first
use Rattle.conn_rules.specs.Connecting.{first_answer}
use Rattle.conn_rules.specs.Faults.{fault_refusal}
use Rattle.conn_supply.specs.declared.reply.Then.{Then}
use Rattle.conn_supply.specs.declared.reply.Then.TheVariants.{Go, Close, Kicked}
use Rattle.conn_supply.specs.declared.reply.Reply.{Reply}
use Rattle.conn_supply.specs.SupplyCalls.{SupplyCall}
use Rattle.conn_engine.specs.declared.input.Input.{Input}
use Rattle.conn_engine.specs.declared.input.Input.TheVariants as inputs
use Rattle.conn_engine.specs.declared.phase.ConnectRequest.{ConnectRequest}
use Rattle.conn_engine.specs.declared.phase.ConnectedClient.{ConnectedClient}
use Rattle.conn_engine.specs.declared.phase.Opening.{Opening}
use Rattle.conn_engine.specs.declared.phase.ConnPhase.{ConnPhase}
use Rattle.conn_engine.specs.declared.phase.ConnPhase.TheVariants.{Unconnected, Waiting, Connected, Ended}
use Rattle.conn_engine.specs.Connecting.{holds_message_too_long, most_ticks, IsRefused, Accepts, WaitsAs, ResumesAs, AttachedAs}
use Rattle.conn_laws.specs.Behind.{IsLast, KeepsOrEnds}
use Rattle.conn_engine.specs.Step.{IsClosed, IsRefusedIf, WaitsForConnect, AnswersFirst, Concludes, AnswersPacket, AnswersTick, AnswersUnlessKicked, IsHeard, Reacts, Hands, Steps}

-- a connection has ended, or not
abbrev over : {P : Type 0} → ConnPhase P → Bool
over (Unconnected opened) = false
over (Waiting request ticks) = false
over (Connected connected) = false
over Ended = true

-- a connection does not go on, or does
abbrev stops : Then → Bool
stops Go = false
stops Close = true
stops Kicked = true

-- what became of a connection is what its reply says
abbrev Agrees : {P : Type 0} → ConnPhase P → Then → Type 0
Agrees phase next = over phase ≡ stops next

told : {P : Type 0} (phase : ConnPhase P) (reply : Reply) (is : ConnPhase P) (was : Reply) → phase ≡ is → reply ≡ was → Agrees is was.next → Agrees phase reply.next
told phase reply is was at said agrees = ap over at ∙ agrees ∙ sym (ap (λ r. stops r.next) said)

closes : {P : Type 0} (phase : ConnPhase P) (reply : Reply) → IsClosed phase reply → Agrees phase reply.next
closes phase reply is = told phase reply _ _ is.over is.told refl

refuses : {P : Type 0} (phase : ConnPhase P) (reply : Reply) (refusal : ConnectRefusal) → IsRefused refusal phase reply → Agrees phase reply.next
refuses phase reply refusal is = told phase reply _ _ is.over is.told refl

accepts : {P : Type 0} (phase : ConnPhase P) (reply : Reply) (request : ConnectRequest) (present : Bool) (session : Session Held P)
    → Accepts request present session phase reply → Agrees phase reply.next
accepts phase reply request present session is = told phase reply _ _ is.begun is.told refl

waits : {P : Type 0} (fewer : Bool) (phase : ConnPhase P) (reply : Reply) (request : ConnectRequest) (ticks : ℕ) → WaitsAs fewer request ticks phase reply → Agrees phase reply.next
waits true phase reply request ticks is = told phase reply _ _ is.0 is.1 refl
waits false phase reply request ticks is = refuses phase reply _ is

refused_if : {P : Type 0} (refusal : Option ConnectRefusal) (phase : ConnPhase P) (reply : Reply) → IsRefusedIf refusal phase reply → Agrees phase reply.next
refused_if (Some refusal) phase reply is = refuses phase reply refusal is
refused_if None phase reply is = closes phase reply is

waits_for_connect : {P : Type 0} (late : Bool) (opened : Opening) (phase : ConnPhase P) (reply : Reply) → WaitsForConnect late opened phase reply → Agrees phase reply.next
waits_for_connect true opened phase reply is = closes phase reply is
waits_for_connect false opened phase reply is = told phase reply _ _ is.0 is.1 refl

module _ {S P : Type 0} (call : S → SupplyCall P → S → Type 0) (slot_of : P → ℕ) where
  resumes : (no : Bool) (old new : S) (request : ConnectRequest) (session : Session Held P) (phase : ConnPhase P) (reply : Reply)
      → ResumesAs call no old request session phase reply new → Agrees phase reply.next
  resumes true old new request session phase reply is = refuses phase reply _ is.1
  resumes false old new request session phase reply is = accepts phase reply request true session is.1

  attached : (answer : Result (Attached Held P) DeskError) (old new : S) (request : ConnectRequest) (ticks : ℕ) (phase : ConnPhase P) (reply : Reply)
      → AttachedAs call old request ticks answer phase reply new → Agrees phase reply.next
  attached (Ok (New session ended)) old new request ticks phase reply is = accepts phase reply request false session is.1
  attached (Ok (Resumed session)) old new request ticks phase reply is =
      resumes (holds_message_too_long request.terms.maximum_packet_size session.window) old new request session phase reply is
  attached (Ok (Replace holder)) old new request ticks phase reply is = waits (nat_lt ticks most_ticks) phase reply request ticks is.0
  attached (Ok Busy) old new request ticks phase reply is = refuses phase reply _ is.0
  attached (Err errors.Full) old new request ticks phase reply is = refuses phase reply _ is.0
  attached (Err errors.NoPlace) old new request ticks phase reply is = refuses phase reply _ is.0
  attached (Err errors.NoName) old new request ticks phase reply is = refuses phase reply _ is.0
  attached (Err errors.Memory) old new request ticks phase reply is = absurd is

  answers_first : (answer : FirstAnswer) (old new : S) (number : ℕ) (limits : ClientLimits) (now : ℕ) (packet : Packet) (phase : ConnPhase P) (reply : Reply)
      → AnswersFirst call slot_of answer old number limits now packet phase reply new → Agrees phase reply.next
  answers_first first.Close old new number limits now packet phase reply is = closes phase reply is.0
  answers_first (first.Refuse refusal) old new number limits now packet phase reply is = refuses phase reply refusal is.0
  answers_first first.Attach old new number limits now packet phase reply is = attached is.2.answer is.2.mid new _ 0 phase reply is.2.answered

  concludes : (next : Then) (old new : S) (connected : ConnectedClient P) (now : ℕ) (phase : ConnPhase P) → Concludes call slot_of old connected now next phase new → Agrees phase next
  concludes Go old new connected now phase is = ap over is.0
  concludes Close old new connected now phase is = ap over is.1
  concludes Kicked old new connected now phase is = ap over is.1

  heard : (overdue : Bool) (old new : S) (connected : ConnectedClient P) (now : ℕ) (phase : ConnPhase P) (reply : Reply)
      → IsHeard call slot_of overdue old connected now phase reply new → Agrees phase reply.next
  heard true old new connected now phase reply is = told phase reply _ _ is.1.1 is.0 refl
  heard false old new connected now phase reply is = told phase reply _ _ is.1 is.0 refl

  unless_kicked : (kicked : Bool) (old new : S) (connected : ConnectedClient P) (now : ℕ) (Does : ConnPhase P → Reply → S → Type 0) (phase : ConnPhase P) (reply : Reply)
      → (Does phase reply new → Agrees phase reply.next)
      → AnswersUnlessKicked call slot_of kicked old connected now Does phase reply new → Agrees phase reply.next
  unless_kicked true old new connected now Does phase reply does is = told phase reply _ _ is.1.1 is.0 refl
  unless_kicked false old new connected now Does phase reply does is = does is

  reacts : (phase : ConnPhase P) (input : Input) (old new : S) (number now : ℕ) (between : ConnPhase P) (reply : Reply)
      → Reacts call slot_of old number phase now input between reply new → Agrees between reply.next
  reacts (Unconnected opened) (inputs.Packet packet) old new number now between reply is = answers_first (first_answer opened.limits.users packet) old new number opened.limits now packet between reply is
  reacts (Unconnected opened) (inputs.Fault fault) old new number now between reply is = refused_if (fault_refusal fault) between reply is.0
  reacts (Unconnected opened) inputs.Tick old new number now between reply is = waits_for_connect _ opened between reply is.1
  reacts (Unconnected opened) inputs.EndOfInput old new number now between reply is = closes between reply is.0
  reacts (Unconnected opened) inputs.Closing old new number now between reply is = closes between reply is.0
  reacts (Waiting request ticks) (inputs.Packet packet) old new number now between reply is = absurd is
  reacts (Waiting request ticks) (inputs.Fault fault) old new number now between reply is = absurd is
  reacts (Waiting request ticks) inputs.Tick old new number now between reply is =
      let again = is.2.attaches in attached again.answer again.mid _ _ _ between reply again.answered
  reacts (Waiting request ticks) inputs.EndOfInput old new number now between reply is = closes between reply is.1
  reacts (Waiting request ticks) inputs.Closing old new number now between reply is = closes between reply is.1
  reacts (Connected connected) (inputs.Packet packet) old new number now between reply is =
      unless_kicked is.0 is.1 new connected now _ between reply (λ (does : AnswersPacket call slot_of is.1 number connected now packet between reply new).
      concludes reply.next does.1 new does.0 now between does.3) is.3
  reacts (Connected connected) (inputs.Fault fault) old new number now between reply is = told between reply _ _ is.1.1 is.0 refl
  reacts (Connected connected) inputs.Tick old new number now between reply is =
      unless_kicked is.0 is.1 new connected now _ between reply (λ (does : AnswersTick call slot_of is.1 connected now between reply new).
      heard _ does.0 new connected now between reply does.2) is.3
  reacts (Connected connected) inputs.EndOfInput old new number now between reply is = told between reply _ _ is.1.1 is.0 refl
  reacts (Connected connected) inputs.Closing old new number now between reply is = told between reply _ _ is.2 is.0 refl
  reacts Ended input old new number now between reply is = closes between reply is.0

  hands : (between : ConnPhase P) (now : ℕ) (old new : S) (sent : List Packet) (phase : ConnPhase P) → Hands call slot_of old between now sent phase new → over phase ≡ over between
  hands (Unconnected opened) now old new sent phase is = ap over is.1
  hands (Waiting request ticks) now old new sent phase is = ap over is.1
  hands (Connected connected) now old new sent phase is = ap over is.3
  hands Ended now old new sent phase is = ap over is.1

  steps_agree : (old new : S) (number now : ℕ) (phase phase' : ConnPhase P) (input : Input) (packets : List Packet) (next : Then)
      → Steps call slot_of old number phase now input packets next phase' new → Agrees phase' next
  steps_agree old new number now phase phase' input packets next steps =
      hands steps.between now steps.mid new steps.sent phase' steps.hands
      ∙ reacts phase input old steps.mid number now steps.between steps.reply steps.reacts ∙ sym (ap stops steps.followed)

  as_told : (phase : ConnPhase P) (next : Then) → Agrees phase next → (phase ≡ Ended) ↔ (next ≢ Go)
  as_told (Unconnected opened) Go agrees = (λ is. cc, λ no. absurd (no refl))
  as_told (Unconnected opened) Close agrees = cc
  as_told (Unconnected opened) Kicked agrees = cc
  as_told (Waiting request ticks) Go agrees = (λ is. cc, λ no. absurd (no refl))
  as_told (Waiting request ticks) Close agrees = cc
  as_told (Waiting request ticks) Kicked agrees = cc
  as_told (Connected connected) Go agrees = (λ is. cc, λ no. absurd (no refl))
  as_told (Connected connected) Close agrees = cc
  as_told (Connected connected) Kicked agrees = cc
  as_told Ended Go agrees = cc
  as_told Ended Close agrees = (λ is go. cc, λ no. refl)
  as_told Ended Kicked agrees = (λ is go. cc, λ no. refl)

  pub ends : (old new : S) (number now : ℕ) (phase phase' : ConnPhase P) (input : Input) (packets : List Packet) (next : Then)
      → Steps call slot_of old number phase now input packets next phase' new → (phase' ≡ Ended) ↔ (next ≢ Go)
  ends old new number now phase phase' input packets next steps =
      as_told phase' next (steps_agree old new number now phase phase' input packets next steps)

  -- a fault, an end and a closing end it
  refused_over : (refusal : Option ConnectRefusal) (phase : ConnPhase P) (reply : Reply) → IsRefusedIf refusal phase reply → phase ≡ Ended
  refused_over (Some refusal) phase reply is = is.over
  refused_over None phase reply is = is.over

  pub last_over : (phase : ConnPhase P) (input : Input) (old new : S) (number now : ℕ) (between : ConnPhase P) (reply : Reply) → IsLast input
      → Reacts call slot_of old number phase now input between reply new → between ≡ Ended
  last_over phase (inputs.Packet packet) old new number now between reply last is = absurd last
  last_over phase inputs.Tick old new number now between reply last is = absurd last
  last_over (Unconnected opened) (inputs.Fault fault) old new number now between reply last is = refused_over (fault_refusal fault) between reply is.0
  last_over (Unconnected opened) inputs.EndOfInput old new number now between reply last is = is.0.over
  last_over (Unconnected opened) inputs.Closing old new number now between reply last is = is.0.over
  last_over (Waiting request ticks) (inputs.Fault fault) old new number now between reply last is = absurd is
  last_over (Waiting request ticks) inputs.EndOfInput old new number now between reply last is = is.1.over
  last_over (Waiting request ticks) inputs.Closing old new number now between reply last is = is.1.over
  last_over (Connected connected) (inputs.Fault fault) old new number now between reply last is = is.1.1
  last_over (Connected connected) inputs.EndOfInput old new number now between reply last is = is.1.1
  last_over (Connected connected) inputs.Closing old new number now between reply last is = is.2
  last_over Ended (inputs.Fault fault) old new number now between reply last is = is.0.over
  last_over Ended inputs.EndOfInput old new number now between reply last is = is.0.over
  last_over Ended inputs.Closing old new number now between reply last is = is.0.over

  pub ends_by : (old new : S) (number now : ℕ) (phase phase' : ConnPhase P) (input : Input) (packets : List Packet) (next : Then)
      → Steps call slot_of old number phase now input packets next phase' new → IsLast input → phase' ≡ Ended
  ends_by old new number now phase phase' input packets next steps last =
      let over = last_over phase input old steps.mid number now steps.between steps.reply last steps.reacts in
      let hands = rw over at steps.hands in hands.1

  -- the end of the input is answered by nothing
  none_at_the_end : (phase : ConnPhase P) (old new : S) (number now : ℕ) (between : ConnPhase P) (reply : Reply)
      → Reacts call slot_of old number phase now inputs.EndOfInput between reply new → reply.packet ≡ None
  none_at_the_end (Unconnected opened) old new number now between reply is = ap (λ (r : Reply). r.packet) is.0.told
  none_at_the_end (Waiting request ticks) old new number now between reply is = ap (λ (r : Reply). r.packet) is.1.told
  none_at_the_end (Connected connected) old new number now between reply is = ap (λ (r : Reply). r.packet) is.0
  none_at_the_end Ended old new number now between reply is = ap (λ (r : Reply). r.packet) is.0.told

  pub silent : (old new : S) (number now : ℕ) (phase phase' : ConnPhase P) (packets : List Packet) (next : Then)
      → Steps call slot_of old number phase now inputs.EndOfInput packets next phase' new → packets ≡ []
  silent old new number now phase phase' packets next steps =
      let over = last_over phase inputs.EndOfInput old steps.mid number now steps.between steps.reply tt steps.reacts in
      let hands = rw over at steps.hands in
      steps.written ∙ ap (λ packet. option_to_list packet ++ steps.sent) (none_at_the_end phase old steps.mid number now steps.between steps.reply steps.reacts) ∙ hands.0

  -- a connection that has its session has it after a step, or has ended
  concludes_keeping : (next : Then) (old new : S) (connected : ConnectedClient P) (now : ℕ) (phase : ConnPhase P) → Concludes call slot_of old connected now next phase new → KeepsOrEnds phase
  concludes_keeping Go old new connected now phase is = subst KeepsOrEnds (sym is.0) tt
  concludes_keeping Close old new connected now phase is = subst KeepsOrEnds (sym is.1) tt
  concludes_keeping Kicked old new connected now phase is = subst KeepsOrEnds (sym is.1) tt

  heard_keeping : (overdue : Bool) (old new : S) (connected : ConnectedClient P) (now : ℕ) (phase : ConnPhase P) (reply : Reply)
      → IsHeard call slot_of overdue old connected now phase reply new → KeepsOrEnds phase
  heard_keeping true old new connected now phase reply is = subst KeepsOrEnds (sym is.1.1) tt
  heard_keeping false old new connected now phase reply is = subst KeepsOrEnds (sym is.1) tt

  unless_kicked_keeping : (kicked : Bool) (old new : S) (connected : ConnectedClient P) (now : ℕ) (Does : ConnPhase P → Reply → S → Type 0) (phase : ConnPhase P) (reply : Reply)
      → (Does phase reply new → KeepsOrEnds phase) → AnswersUnlessKicked call slot_of kicked old connected now Does phase reply new → KeepsOrEnds phase
  unless_kicked_keeping true old new connected now Does phase reply does is = subst KeepsOrEnds (sym is.1.1) tt
  unless_kicked_keeping false old new connected now Does phase reply does is = does is

  reacts_keeping : (input : Input) (old new : S) (number now : ℕ) (connected : ConnectedClient P) (between : ConnPhase P) (reply : Reply)
      → Reacts call slot_of old number (Connected connected) now input between reply new → KeepsOrEnds between
  reacts_keeping (inputs.Packet packet) old new number now connected between reply is =
      unless_kicked_keeping is.0 is.1 new connected now _ between reply (λ (does : AnswersPacket call slot_of is.1 number connected now packet between reply new).
      concludes_keeping reply.next does.1 new does.0 now between does.3) is.3
  reacts_keeping (inputs.Fault fault) old new number now connected between reply is = subst KeepsOrEnds (sym is.1.1) tt
  reacts_keeping inputs.Tick old new number now connected between reply is =
      unless_kicked_keeping is.0 is.1 new connected now _ between reply (λ (does : AnswersTick call slot_of is.1 connected now between reply new).
      heard_keeping _ does.0 new connected now between reply does.2) is.3
  reacts_keeping inputs.EndOfInput old new number now connected between reply is = subst KeepsOrEnds (sym is.1.1) tt
  reacts_keeping inputs.Closing old new number now connected between reply is = subst KeepsOrEnds (sym is.2) tt

  hands_keeping : (between : ConnPhase P) (now : ℕ) (old new : S) (sent : List Packet) (phase : ConnPhase P) → KeepsOrEnds between → Hands call slot_of old between now sent phase new → KeepsOrEnds phase
  hands_keeping (Unconnected opened) now old new sent phase keeps is = absurd keeps
  hands_keeping (Waiting request ticks) now old new sent phase keeps is = absurd keeps
  hands_keeping (Connected connected) now old new sent phase keeps is = subst KeepsOrEnds (sym is.3) tt
  hands_keeping Ended now old new sent phase keeps is = subst KeepsOrEnds (sym is.1) tt

  pub keeping : (old new : S) (number now : ℕ) (connected : ConnectedClient P) (phase' : ConnPhase P) (input : Input) (packets : List Packet) (next : Then)
      → Steps call slot_of old number (Connected connected) now input packets next phase' new → KeepsOrEnds phase'
  keeping old new number now connected phase' input packets next steps =
      hands_keeping steps.between now steps.mid new steps.sent phase' (reacts_keeping input old steps.mid number now connected steps.between steps.reply steps.reacts) steps.hands
