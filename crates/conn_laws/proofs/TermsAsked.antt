-- The terms of a connection are those that its client asked for: what holds of these holds of them.
use Rattle.std.proofs.Common.{◌≡◌, ℕ, Bool, true, false, List, Option, Some, None, Result, Ok, Err, refl, sym, ap, subst, ◌∙◌}
use Rattle.mqtt_packet.specs.declared.packet.Connect.{Connect}
use Rattle.mqtt_packet.specs.declared.packet.Packet.{Packet}
use Rattle.mqtt_packet.specs.declared.packet.Packet.TheVariants as packets
use Rattle.group_jobs.specs.Stamps.{Held}
use Rattle.session_desk.specs.declared.attached.Attached.{Attached}
use Rattle.session_desk.specs.declared.attached.Attached.TheVariants.{New, Resumed, Replace, Busy}
use Rattle.session_desk.specs.declared.error.DeskError.{DeskError}
use Rattle.session_desk.specs.declared.error.DeskError.TheVariants as errors
use Rattle.session_desk.specs.declared.session.Session.{Session}
use Rattle.mqtt_packet.specs.declared.packet.ConnectRefusal.{ConnectRefusal}
use Rattle.conn_rules.specs.Connecting.{first_answer, is_served, terms_of}
use Rattle.conn_rules.specs.declared.terms.Terms.{Terms}
use Rattle.conn_rules.specs.declared.connecting.FirstAnswer.{FirstAnswer}
use Rattle.conn_rules.specs.declared.connecting.FirstAnswer.TheVariants as first
use Rattle.conn_supply.specs.declared.reply.Then.{Then}
use Rattle.conn_supply.specs.declared.reply.Then.TheVariants.{Go, Close, Kicked}
use Rattle.conn_supply.specs.declared.reply.Reply.{Reply}
use Rattle.conn_supply.specs.SupplyCalls.{SupplyCall}
use Rattle.conn_engine.specs.declared.input.Input.{Input}
use Rattle.conn_engine.specs.declared.input.Input.TheVariants as inputs
use Rattle.conn_engine.specs.declared.phase.ConnectRequest.{ConnectRequest}
use Rattle.conn_engine.specs.declared.phase.ConnectedClient.{ConnectedClient}
use Rattle.conn_engine.specs.declared.phase.Opening.{Opening}
use Rattle.conn_engine.specs.declared.phase.ConnPhase.{ConnPhase}
use Rattle.conn_engine.specs.declared.phase.ConnPhase.TheVariants.{Unconnected, Waiting, Connected, Ended}
use Rattle.conn_engine.specs.Answering.{Answers, Disconnects, DisconnectsIf}
use Rattle.conn_engine.specs.Connecting.{Accepts, AttachedAs, ResumesAs, WaitsAs}
use Rattle.conn_engine.specs.Step.{request_of, hearing, IsRefusedIf, WaitsForConnect, AnswersFirst, Concludes, AnswersPacket, IsHeard, AnswersUnlessKicked, Reacts, Hands, Steps}
use Rattle.conn_laws.proofs.FirstAnswers.{is_served_there}

module _ {S P : Type 0} (call : S → SupplyCall P → S → Type 0) (slot_of : P → ℕ) (Open : Opening → Type 0) (Of : Terms → Type 0) where
  -- of what it was opened with, of the terms that it waits with, or of those that it has
  abbrev pub Within : ConnPhase P → Type 0
  Within (Unconnected opened) = Open opened
  Within (Waiting request ticks) = Of request.terms
  Within (Connected connected) = Of connected.terms
  Within Ended = Unit {0}

  -- the phase is another in nothing that counts here
  ended : (phase : ConnPhase P) → phase ≡ Ended → Within phase
  ended phase is = subst Within (sym is) tt

  same : (connected connected' : ConnectedClient P) → connected' ≡ connected → Within (Connected connected) → Within (Connected connected')
  same connected connected' is within = subst (λ l. Within (Connected l)) (sym is) within

  handed : (phase phase' : ConnPhase P) (now : ℕ) (old new : S) (sent : List Packet) → Hands call slot_of old phase now sent phase' new → Within phase → Within phase'
  handed (Unconnected opened) phase' now old new sent hands within = subst Within (sym hands.1) within
  handed (Waiting request ticks) phase' now old new sent hands within = subst Within (sym hands.1) within
  handed (Connected connected) phase' now old new sent hands within = subst Within (sym hands.3) within
  handed Ended phase' now old new sent hands within = ended phase' hands.1

  accepted : (request : ConnectRequest) (present : Bool) (session : Session Held P) (phase : ConnPhase P) (reply : Reply) → Accepts request present session phase reply
      → Of request.terms → Within phase
  accepted request present session phase reply accepts within = subst Within (sym accepts.begun) within

  resumed : (takes : Bool) (old new : S) (request : ConnectRequest) (session : Session Held P) (phase : ConnPhase P) (reply : Reply)
      → ResumesAs call takes old request session phase reply new → Of request.terms → Within phase
  resumed true old new request session phase reply resumes within = ended phase resumes.1.over
  resumed false old new request session phase reply resumes within = accepted request true session phase reply resumes.1 within

  waits : (more : Bool) (request : ConnectRequest) (ticks : ℕ) (phase : ConnPhase P) (reply : Reply) → WaitsAs more request ticks phase reply
      → Of request.terms → Within phase
  waits true request ticks phase reply waiting within = subst Within (sym waiting.0) within
  waits false request ticks phase reply refused within = ended phase refused.over

  attached : (answer : Result (Attached Held P) DeskError) (old new : S) (request : ConnectRequest) (ticks : ℕ) (phase : ConnPhase P) (reply : Reply)
      → AttachedAs call old request ticks answer phase reply new → Of request.terms → Within phase
  attached (Ok (New session earlier)) old new request ticks phase reply attaches within = accepted request false session phase reply attaches.1 within
  attached (Ok (Resumed session)) old new request ticks phase reply attaches within = resumed _ old new request session phase reply attaches within
  attached (Ok (Replace holder)) old new request ticks phase reply attaches within = waits _ request ticks phase reply attaches.0 within
  attached (Ok Busy) old new request ticks phase reply attaches within = ended phase attaches.0.over
  attached (Err errors.Full) old new request ticks phase reply attaches within = ended phase attaches.0.over
  attached (Err errors.NoPlace) old new request ticks phase reply attaches within = ended phase attaches.0.over
  attached (Err errors.NoName) old new request ticks phase reply attaches within = ended phase attaches.0.over
  attached (Err errors.Memory) old new request ticks phase reply attaches within = absurd attaches

  answered_first : (answer : FirstAnswer) (old new : S) (number now : ℕ) (opened : Opening) (packet : Packet) (phase : ConnPhase P) (reply : Reply) → first_answer opened.limits.users packet ≡ answer
      → AnswersFirst call slot_of answer old number opened.limits now packet phase reply new
      → ((connect : Connect) → packet ≡ packets.Connect connect → is_served opened.limits.users connect ≡ true → Of (terms_of opened.limits connect)) → Within phase
  answered_first first.Close old new number now opened packet phase reply is answers asks = ended phase answers.0.over
  answered_first (first.Refuse refusal) old new number now opened packet phase reply is answers asks = ended phase answers.0.over
  answered_first first.Attach old new number now opened packet phase reply is answers asks =
      let served = is_served_there opened.limits.users answers.0 (sym (ap (first_answer opened.limits.users) answers.1) ∙ is) in
      attached answers.2.answer answers.2.mid new (request_of opened.limits answers.0 now) 0 phase reply answers.2.answered (asks answers.0 answers.1 served)

  refused_if : (refusal : Option ConnectRefusal) (phase : ConnPhase P) (reply : Reply) → IsRefusedIf refusal phase reply → Within phase
  refused_if (Some refusal) phase reply refused = ended phase refused.over
  refused_if None phase reply closed = ended phase closed.over

  waits_for_connect : (late : Bool) (opened : Opening) (phase : ConnPhase P) (reply : Reply) → WaitsForConnect late opened phase reply → Open opened → Within phase
  waits_for_connect true opened phase reply closed within = ended phase closed.over
  waits_for_connect false opened phase reply waiting within = subst Within (sym waiting.0) within

  disconnects_if : (given : Bool) (connected connected' : ConnectedClient P) (seconds : ℕ) (reply : Reply) → DisconnectsIf given connected seconds connected' reply → Within (Connected connected) → Within (Connected connected')
  disconnects_if true connected connected' seconds reply does within = same connected connected' does.0 within
  disconnects_if false connected connected' seconds reply does within = subst (λ l. Within (Connected l)) (sym does.0) within

  disconnects : (expiry : Option ℕ) (connected connected' : ConnectedClient P) (reply : Reply) → Disconnects connected expiry connected' reply → Within (Connected connected) → Within (Connected connected')
  disconnects None connected connected' reply does within = same connected connected' does.0 within
  disconnects (Some seconds) connected connected' reply does within = disconnects_if _ connected connected' seconds reply does within

  answered : (packet : Packet) (old new : S) (number now : ℕ) (connected connected' : ConnectedClient P) (reply : Reply) → Answers call slot_of old number connected now packet connected' reply new
      → Within (Connected connected) → Within (Connected connected')
  answered (packets.Publish publish) old new number now connected connected' reply answers within = same connected connected' answers.1 within
  answered (packets.Puback puback) old new number now connected connected' reply answers within = subst (λ l. Within (Connected l)) (sym answers.2) within
  answered (packets.Subscribe subscribe) old new number now connected connected' reply answers within = subst (λ l. Within (Connected l)) (sym answers.3) within
  answered (packets.Unsubscribe unsubscribe) old new number now connected connected' reply answers within = subst (λ l. Within (Connected l)) (sym answers.2) within
  answered packets.Pingreq old new number now connected connected' reply answers within = same connected connected' answers.0 within
  answered (packets.Disconnect disconnect) old new number now connected connected' reply answers within = disconnects disconnect.properties.session_expiry_interval connected connected' reply answers.0 within
  answered (packets.Connect connect) old new number now connected connected' reply answers within = same connected connected' answers.0 within
  answered (packets.Connack connack) old new number now connected connected' reply answers within = same connected connected' answers.0 within
  answered (packets.Suback suback) old new number now connected connected' reply answers within = same connected connected' answers.0 within
  answered (packets.Unsuback unsuback) old new number now connected connected' reply answers within = same connected connected' answers.0 within
  answered packets.Pingresp old new number now connected connected' reply answers within = same connected connected' answers.0 within
  answered (packets.Foreign kind) old new number now connected connected' reply answers within = same connected connected' answers.0 within
  answered (packets.OtherVersion version) old new number now connected connected' reply answers within = same connected connected' answers.0 within
  answered packets.WithWill old new number now connected connected' reply answers within = same connected connected' answers.0 within

  concluded : (next : Then) (old new : S) (connected : ConnectedClient P) (now : ℕ) (phase : ConnPhase P) → Concludes call slot_of old connected now next phase new → Within (Connected connected) → Within phase
  concluded Go old new connected now phase concludes within = subst Within (sym concludes.0) within
  concluded Close old new connected now phase concludes within = ended phase concludes.1
  concluded Kicked old new connected now phase concludes within = ended phase concludes.1

  answered_packet : (old new : S) (number : ℕ) (connected : ConnectedClient P) (now : ℕ) (packet : Packet) (phase : ConnPhase P) (reply : Reply)
      → AnswersPacket call slot_of old number connected now packet phase reply new → Within (Connected connected) → Within phase
  answered_packet old new number connected now packet phase reply answers within =
      concluded reply.next answers.1 new answers.0 now phase answers.3 (answered packet old answers.1 number now (hearing connected now) answers.0 reply answers.2 within)

  heard : (silent : Bool) (old new : S) (connected : ConnectedClient P) (now : ℕ) (phase : ConnPhase P) (reply : Reply) → IsHeard call slot_of silent old connected now phase reply new
      → Within (Connected connected) → Within phase
  heard true old new connected now phase reply hears within = ended phase hears.1.1
  heard false old new connected now phase reply hears within = subst Within (sym hears.1) within

  unless_kicked : (kicked : Bool) (old new : S) (connected : ConnectedClient P) (now : ℕ) (Does : ConnPhase P → Reply → S → Type 0) (phase : ConnPhase P) (reply : Reply)
      → AnswersUnlessKicked call slot_of kicked old connected now Does phase reply new → (Does phase reply new → Within phase) → Within phase
  unless_kicked true old new connected now Does phase reply does within = ended phase does.1.1
  unless_kicked false old new connected now Does phase reply does within = within does

  -- a CONNECT that comes, of a client that is served, asks for such
  abbrev pub Asks : ConnPhase P → Input → Type 0
  Asks phase input =
      (opened : Opening) (connect : Connect) → Open opened → phase ≡ Unconnected opened → input ≡ inputs.Packet (packets.Connect connect) → is_served opened.limits.users connect ≡ true
      → Of (terms_of opened.limits connect)

  reacted : (phase : ConnPhase P) (input : Input) (old new : S) (number now : ℕ) (phase' : ConnPhase P) (reply : Reply)
      → Reacts call slot_of old number phase now input phase' reply new → Asks phase input → Within phase → Within phase'
  reacted (Unconnected opened) (inputs.Packet packet) old new number now phase' reply reacts asks within =
      answered_first _ old new number now opened packet phase' reply refl reacts (λ connect is. asks opened connect within refl (ap inputs.Packet is))
  reacted (Unconnected opened) (inputs.Fault fault) old new number now phase' reply reacts asks within = refused_if _ phase' reply reacts.0
  reacted (Unconnected opened) inputs.Tick old new number now phase' reply reacts asks within = waits_for_connect _ opened phase' reply reacts.1 within
  reacted (Unconnected opened) inputs.EndOfInput old new number now phase' reply reacts asks within = ended phase' reacts.0.over
  reacted (Unconnected opened) inputs.Closing old new number now phase' reply reacts asks within = ended phase' reacts.0.over
  reacted (Waiting request ticks) (inputs.Packet packet) old new number now phase' reply reacts asks within = absurd reacts
  reacted (Waiting request ticks) (inputs.Fault fault) old new number now phase' reply reacts asks within = absurd reacts
  reacted (Waiting request ticks) inputs.Tick old new number now phase' reply reacts asks within =
      let attaches = reacts.2.attaches in attached attaches.answer attaches.mid reacts.2.mid request _ phase' reply attaches.answered within
  reacted (Waiting request ticks) inputs.EndOfInput old new number now phase' reply reacts asks within = ended phase' reacts.1.over
  reacted (Waiting request ticks) inputs.Closing old new number now phase' reply reacts asks within = ended phase' reacts.1.over
  reacted (Connected connected) (inputs.Packet packet) old new number now phase' reply reacts asks within =
      unless_kicked reacts.0 reacts.1 new connected now _ phase' reply reacts.3 (λ does. answered_packet reacts.1 new number connected now packet phase' reply does within)
  reacted (Connected connected) (inputs.Fault fault) old new number now phase' reply reacts asks within = ended phase' reacts.1.1
  reacted (Connected connected) inputs.Tick old new number now phase' reply reacts asks within =
      unless_kicked reacts.0 reacts.1 new connected now _ phase' reply reacts.3 (λ does. heard _ does.0 new connected now phase' reply does.2 within)
  reacted (Connected connected) inputs.EndOfInput old new number now phase' reply reacts asks within = ended phase' reacts.1.1
  reacted (Connected connected) inputs.Closing old new number now phase' reply reacts asks within = ended phase' reacts.2
  reacted Ended input old new number now phase' reply reacts asks within = ended phase' reacts.0.over

  pub within : (number now : ℕ) (phase phase' : ConnPhase P) (input : Input) (sent : List Packet) (next : Then) (old new : S)
      → Steps call slot_of old number phase now input sent next phase' new → Asks phase input → Within phase → Within phase'
  within number now phase phase' input sent next old new steps asks kept =
      handed steps.between phase' now steps.mid new steps.sent steps.hands (reacted phase input old steps.mid number now steps.between steps.reply steps.reacts asks kept)
