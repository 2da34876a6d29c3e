-- No step sends more than the quota lets it.
use Rattle.std.proofs.Common.{◌≡◌, ℕ, ◌<◌, ◌≤◌, Bool, true, false, List, [], ◌∷◌, ◌++◌, length, length-append, Option, Some, None, Result, Ok, Err, refl, sym, subst, arith, IsSomeAnd}
use Rattle.mqtt_packet.specs.declared.packet.Packet.{Packet}
use Rattle.mqtt_packet.specs.declared.packet.Packet.TheVariants as packets
use Rattle.group_jobs.specs.Stamps.{Held, under}
use Rattle.member_window.specs.Contents.{Contents, HasQuota, after_put, after_resend}
use Rattle.member_window.specs.Calls.{Acks}
use Rattle.member_window.proofs.Lists.{length-entries_without}
use Rattle.session_desk.specs.declared.attached.Attached.{Attached}
use Rattle.session_desk.specs.declared.attached.Attached.TheVariants.{New, Resumed, Replace, Busy}
use Rattle.session_desk.specs.declared.error.DeskError.{DeskError}
use Rattle.session_desk.specs.declared.error.DeskError.TheVariants as errors
use Rattle.session_desk.specs.declared.session.Session.{Session}
use Rattle.session_desk.specs.declared.session.Membership.{Membership}
use Rattle.session_desk.specs.declared.session.Membership.TheVariants.{NotMember, Member, Leaving}
use Rattle.mqtt_packet.specs.declared.packet.ConnectRefusal.{ConnectRefusal}
use Rattle.conn_rules.specs.declared.client_limits.ClientLimits.{ClientLimits}
use Rattle.conn_rules.specs.declared.connecting.FirstAnswer.{FirstAnswer}
use Rattle.conn_rules.specs.declared.connecting.FirstAnswer.TheVariants as first
use Rattle.conn_supply.specs.declared.reply.Then.{Then}
use Rattle.conn_supply.specs.declared.reply.Then.TheVariants.{Go, Close, Kicked}
use Rattle.conn_supply.specs.declared.reply.Reply.{Reply}
use Rattle.conn_supply.specs.Acknowledging.{AcknowledgesFor}
use Rattle.conn_rules.specs.declared.hand_outs.HandOutTerms.{HandOutTerms}
use Rattle.conn_supply.specs.SupplyCalls.{SupplyCall}
use Rattle.conn_supply.specs.HandOuts.{SendsAgain, SendsFresh, HandsFresh}
use Rattle.conn_engine.specs.declared.input.Input.{Input}
use Rattle.conn_engine.specs.declared.input.Input.TheVariants as inputs
use Rattle.conn_engine.specs.declared.phase.ConnectRequest.{ConnectRequest}
use Rattle.conn_engine.specs.declared.phase.ConnectedClient.{ConnectedClient}
use Rattle.conn_engine.specs.declared.phase.Opening.{Opening}
use Rattle.conn_engine.specs.declared.phase.ConnPhase.{ConnPhase}
use Rattle.conn_engine.specs.declared.phase.ConnPhase.TheVariants.{Unconnected, Waiting, Connected, Ended}
use Rattle.conn_engine.specs.Answering.{Answers, Disconnects, DisconnectsIf}
use Rattle.conn_engine.specs.Connecting.{Accepts, AttachedAs, ResumesAs, WaitsAs}
use Rattle.conn_laws.specs.Quotas.{quota_of, KeepsQuota, IsWithinQuota}
use Rattle.conn_engine.specs.Step.{hand_out_terms, hearing, IsRefusedIf, WaitsForConnect, AnswersFirst, Concludes, AnswersPacket, IsHeard, AnswersUnlessKicked, Reacts, Hands, Steps}

-- one packet more, where the quota lets it
one_owed : (quota : ℕ) (window : Contents Held) (entry : ℕ × Held) → KeepsQuota quota window → HasQuota window → length (window.owed ++ entry ∷ []) ≤ quota
one_owed quota window entry keeps has =
    let room : length window.owed < quota = subst (λ q. IsSomeAnd q (λ n. length window.owed < n)) keeps.is has in
    omega (arith, length-append window.owed (entry ∷ []))

put : (quota : ℕ) (window : Contents Held) (identifier : ℕ) (item : Held) → KeepsQuota quota window → HasQuota window → KeepsQuota quota (after_put window identifier item)
put quota window identifier item keeps has = record { is = keeps.is; kept = one_owed quota window (identifier, item) keeps has }

resent : (quota : ℕ) (window : Contents Held) (entry : ℕ × Held) → KeepsQuota quota window → HasQuota window → KeepsQuota quota (after_resend window (Some entry))
resent quota window entry keeps has = record { is = keeps.is; kept = one_owed quota window entry keeps has }

acked : (quota : ℕ) (window window' : Contents Held) (identifier : ℕ) (found : Option Held) → Acks window identifier found window' → KeepsQuota quota window → KeepsQuota quota window'
acked quota window window' identifier (Some item) acks keeps =
    subst (KeepsQuota quota) (sym acks.1)
    (record { is = keeps.is; kept = (let fewer = length-entries_without identifier window.owed in let kept = keeps.kept in omega (arith, fewer, kept)) })
acked quota window window' identifier None acks keeps = subst (KeepsQuota quota) (sym acks.1) keeps

again : (now : ℕ) (sent : List Packet) (quota : ℕ) (old new : Contents Held) → SendsAgain now old sent new → KeepsQuota quota old → KeepsQuota quota new
again now [] quota old new sends keeps = subst (KeepsQuota quota) (sym sends.1) keeps
again now (packet ∷ packets) quota old new sends keeps = again now packets quota (after_resend old (Some sends.0)) new sends.3 (resent quota old sends.0 keeps sends.1.0)

-- the phase is another in nothing that counts here
ended : {P : Type 0} (phase : ConnPhase P) → phase ≡ Ended → IsWithinQuota phase
ended phase is = subst IsWithinQuota (sym is) tt

same : {P : Type 0} (connected connected' : ConnectedClient P) → connected' ≡ connected → IsWithinQuota (Connected connected) → IsWithinQuota (Connected connected')
same connected connected' is keeps = subst (λ l. IsWithinQuota (Connected l)) (sym is) keeps

module _ {S P : Type 0} (call : S → SupplyCall P → S → Type 0) (slot_of : P → ℕ) where
  fresh : (terms : HandOutTerms) (sent : List Packet) (quota : ℕ) (old new : S) (place place' : P) (window window' : Contents Held) → SendsFresh call terms old place window sent place' window' new
      → KeepsQuota quota window → KeepsQuota quota window'
  fresh terms [] quota old new place place' window window' sends keeps = subst (KeepsQuota quota) (sym sends.0) keeps
  fresh terms (packet ∷ packets) quota old new place place' window window' sends keeps =
      let one = sends.3 in
      fresh terms packets quota sends.2 new sends.0 place' sends.1 window' sends.4
      (subst (KeepsQuota quota) (sym one.put) (put quota window one.identifier (under terms.subscription one.envelope) keeps one.room.0))

  handed_fresh : (terms : HandOutTerms) (membership : Membership P) (quota : ℕ) (old new : S) (window window' : Contents Held) (sent : List Packet) (membership' : Membership P)
      → HandsFresh call terms old membership window sent membership' window' new → KeepsQuota quota window → KeepsQuota quota window'
  handed_fresh terms NotMember quota old new window window' sent membership' hands keeps = subst (KeepsQuota quota) (sym hands.2) keeps
  handed_fresh terms (Member place) quota old new window window' sent membership' hands keeps = fresh terms sent quota old new place hands.0 window window' hands.2 keeps
  handed_fresh terms (Leaving place) quota old new window window' sent membership' hands keeps = subst (KeepsQuota quota) (sym hands.1) keeps

  handed : (phase phase' : ConnPhase P) (now : ℕ) (old new : S) (sent : List Packet) → Hands call slot_of old phase now sent phase' new → IsWithinQuota phase → IsWithinQuota phase'
  handed (Unconnected opened) phase' now old new sent hands within = subst IsWithinQuota (sym hands.1) tt
  handed (Waiting request ticks) phase' now old new sent hands within = subst IsWithinQuota (sym hands.1) tt
  handed (Connected connected) phase' now old new sent hands within =
      let out = hands.2 in
      subst IsWithinQuota (sym hands.3)
      (handed_fresh (hand_out_terms connected now) connected.session.membership (quota_of connected.terms) old new out.between hands.1 out.fresh hands.0 out.sent_fresh
      (again now out.again (quota_of connected.terms) connected.session.window out.between out.sent_again within))
  handed Ended phase' now old new sent hands within = ended phase' hands.1

  -- a connection that begins has sent nothing yet
  accepted : (request : ConnectRequest) (present : Bool) (session : Session Held P) (phase : ConnPhase P) (reply : Reply) → Accepts request present session phase reply → IsWithinQuota phase
  accepted request present session phase reply accepts = subst IsWithinQuota (sym accepts.begun) (record { is = refl; kept = omega arith })

  resumed : (takes : Bool) (old new : S) (request : ConnectRequest) (session : Session Held P) (phase : ConnPhase P) (reply : Reply)
      → ResumesAs call takes old request session phase reply new → IsWithinQuota phase
  resumed true old new request session phase reply resumes = ended phase resumes.1.over
  resumed false old new request session phase reply resumes = accepted request true session phase reply resumes.1

  waits : (more : Bool) (request : ConnectRequest) (ticks : ℕ) (phase : ConnPhase P) (reply : Reply) → WaitsAs more request ticks phase reply → IsWithinQuota phase
  waits true request ticks phase reply waiting = subst IsWithinQuota (sym waiting.0) tt
  waits false request ticks phase reply refused = ended phase refused.over

  attached : (answer : Result (Attached Held P) DeskError) (old new : S) (request : ConnectRequest) (ticks : ℕ) (phase : ConnPhase P) (reply : Reply)
      → AttachedAs call old request ticks answer phase reply new → IsWithinQuota phase
  attached (Ok (New session earlier)) old new request ticks phase reply attaches = accepted request false session phase reply attaches.1
  attached (Ok (Resumed session)) old new request ticks phase reply attaches = resumed _ old new request session phase reply attaches
  attached (Ok (Replace holder)) old new request ticks phase reply attaches = waits _ request ticks phase reply attaches.0
  attached (Ok Busy) old new request ticks phase reply attaches = ended phase attaches.0.over
  attached (Err errors.Full) old new request ticks phase reply attaches = ended phase attaches.0.over
  attached (Err errors.NoPlace) old new request ticks phase reply attaches = ended phase attaches.0.over
  attached (Err errors.NoName) old new request ticks phase reply attaches = ended phase attaches.0.over
  attached (Err errors.Memory) old new request ticks phase reply attaches = absurd attaches

  answered_first : (answer : FirstAnswer) (old new : S) (number : ℕ) (limits : ClientLimits) (now : ℕ) (packet : Packet) (phase : ConnPhase P) (reply : Reply)
      → AnswersFirst call slot_of answer old number limits now packet phase reply new → IsWithinQuota phase
  answered_first first.Close old new number limits now packet phase reply answers = ended phase answers.0.over
  answered_first (first.Refuse refusal) old new number limits now packet phase reply answers = ended phase answers.0.over
  answered_first first.Attach old new number limits now packet phase reply answers =
      attached answers.2.answer answers.2.mid new _ 0 phase reply answers.2.answered

  refused_if : (refusal : Option ConnectRefusal) (phase : ConnPhase P) (reply : Reply) → IsRefusedIf refusal phase reply → IsWithinQuota phase
  refused_if (Some refusal) phase reply refused = ended phase refused.over
  refused_if None phase reply closed = ended phase closed.over

  waits_for_connect : (late : Bool) (opened : Opening) (phase : ConnPhase P) (reply : Reply) → WaitsForConnect late opened phase reply → IsWithinQuota phase
  waits_for_connect true opened phase reply closed = ended phase closed.over
  waits_for_connect false opened phase reply waiting = subst IsWithinQuota (sym waiting.0) tt

  acknowledged : (membership : Membership P) (quota : ℕ) (old new : S) (window window' : Contents Held) (identifier code : ℕ) (membership' : Membership P)
      → AcknowledgesFor call old membership window identifier code membership' window' new → KeepsQuota quota window → KeepsQuota quota window'
  acknowledged NotMember quota old new window window' identifier code membership' acks keeps = subst (KeepsQuota quota) (sym acks.1) keeps
  acknowledged (Member place) quota old new window window' identifier code membership' acks keeps = acked quota window window' identifier acks.1.found acks.1.acked keeps
  acknowledged (Leaving place) quota old new window window' identifier code membership' acks keeps = acked quota window window' identifier acks.1.found acks.1.acked keeps

  disconnects_if : (given : Bool) (connected connected' : ConnectedClient P) (seconds : ℕ) (reply : Reply) → DisconnectsIf given connected seconds connected' reply → IsWithinQuota (Connected connected) → IsWithinQuota (Connected connected')
  disconnects_if true connected connected' seconds reply does within = same connected connected' does.0 within
  disconnects_if false connected connected' seconds reply does within = subst (λ l. IsWithinQuota (Connected l)) (sym does.0) within

  disconnects : (expiry : Option ℕ) (connected connected' : ConnectedClient P) (reply : Reply) → Disconnects connected expiry connected' reply → IsWithinQuota (Connected connected) → IsWithinQuota (Connected connected')
  disconnects None connected connected' reply does within = same connected connected' does.0 within
  disconnects (Some seconds) connected connected' reply does within = disconnects_if _ connected connected' seconds reply does within

  answered : (packet : Packet) (old new : S) (number now : ℕ) (connected connected' : ConnectedClient P) (reply : Reply) → Answers call slot_of old number connected now packet connected' reply new
      → IsWithinQuota (Connected connected) → IsWithinQuota (Connected connected')
  answered (packets.Publish publish) old new number now connected connected' reply answers within = same connected connected' answers.1 within
  answered (packets.Puback puback) old new number now connected connected' reply answers within =
      subst (λ l. IsWithinQuota (Connected l)) (sym answers.2)
      (acknowledged connected.session.membership (quota_of connected.terms) old new connected.session.window answers.0.window puback.packet_identifier puback.reason_code answers.0.membership
      answers.1.settles within)
  answered (packets.Subscribe subscribe) old new number now connected connected' reply answers within = subst (λ l. IsWithinQuota (Connected l)) (sym answers.3) within
  answered (packets.Unsubscribe unsubscribe) old new number now connected connected' reply answers within = subst (λ l. IsWithinQuota (Connected l)) (sym answers.2) within
  answered packets.Pingreq old new number now connected connected' reply answers within = same connected connected' answers.0 within
  answered (packets.Disconnect disconnect) old new number now connected connected' reply answers within = disconnects disconnect.properties.session_expiry_interval connected connected' reply answers.0 within
  answered (packets.Connect connect) old new number now connected connected' reply answers within = same connected connected' answers.0 within
  answered (packets.Connack connack) old new number now connected connected' reply answers within = same connected connected' answers.0 within
  answered (packets.Suback suback) old new number now connected connected' reply answers within = same connected connected' answers.0 within
  answered (packets.Unsuback unsuback) old new number now connected connected' reply answers within = same connected connected' answers.0 within
  answered packets.Pingresp old new number now connected connected' reply answers within = same connected connected' answers.0 within
  answered (packets.Foreign kind) old new number now connected connected' reply answers within = same connected connected' answers.0 within
  answered (packets.OtherVersion version) old new number now connected connected' reply answers within = same connected connected' answers.0 within
  answered packets.WithWill old new number now connected connected' reply answers within = same connected connected' answers.0 within

  concluded : (next : Then) (old new : S) (connected : ConnectedClient P) (now : ℕ) (phase : ConnPhase P) → Concludes call slot_of old connected now next phase new → IsWithinQuota (Connected connected) → IsWithinQuota phase
  concluded Go old new connected now phase concludes within = subst IsWithinQuota (sym concludes.0) within
  concluded Close old new connected now phase concludes within = ended phase concludes.1
  concluded Kicked old new connected now phase concludes within = ended phase concludes.1

  answered_packet : (old new : S) (number : ℕ) (connected : ConnectedClient P) (now : ℕ) (packet : Packet) (phase : ConnPhase P) (reply : Reply)
      → AnswersPacket call slot_of old number connected now packet phase reply new → IsWithinQuota (Connected connected) → IsWithinQuota phase
  answered_packet old new number connected now packet phase reply answers within =
      concluded reply.next answers.1 new answers.0 now phase answers.3 (answered packet old answers.1 number now (hearing connected now) answers.0 reply answers.2 within)

  heard : (silent : Bool) (old new : S) (connected : ConnectedClient P) (now : ℕ) (phase : ConnPhase P) (reply : Reply) → IsHeard call slot_of silent old connected now phase reply new
      → IsWithinQuota (Connected connected) → IsWithinQuota phase
  heard true old new connected now phase reply hears within = ended phase hears.1.1
  heard false old new connected now phase reply hears within = subst IsWithinQuota (sym hears.1) within

  unless_kicked : (kicked : Bool) (old new : S) (connected : ConnectedClient P) (now : ℕ) (Does : ConnPhase P → Reply → S → Type 0) (phase : ConnPhase P) (reply : Reply)
      → AnswersUnlessKicked call slot_of kicked old connected now Does phase reply new → (Does phase reply new → IsWithinQuota phase) → IsWithinQuota phase
  unless_kicked true old new connected now Does phase reply does within = ended phase does.1.1
  unless_kicked false old new connected now Does phase reply does within = within does

  reacted : (phase : ConnPhase P) (input : Input) (old new : S) (number now : ℕ) (phase' : ConnPhase P) (reply : Reply)
      → Reacts call slot_of old number phase now input phase' reply new → IsWithinQuota phase → IsWithinQuota phase'
  reacted (Unconnected opened) (inputs.Packet packet) old new number now phase' reply reacts within = answered_first _ old new number opened.limits now packet phase' reply reacts
  reacted (Unconnected opened) (inputs.Fault fault) old new number now phase' reply reacts within = refused_if _ phase' reply reacts.0
  reacted (Unconnected opened) inputs.Tick old new number now phase' reply reacts within = waits_for_connect _ opened phase' reply reacts.1
  reacted (Unconnected opened) inputs.EndOfInput old new number now phase' reply reacts within = ended phase' reacts.0.over
  reacted (Unconnected opened) inputs.Closing old new number now phase' reply reacts within = ended phase' reacts.0.over
  reacted (Waiting request ticks) (inputs.Packet packet) old new number now phase' reply reacts within = absurd reacts
  reacted (Waiting request ticks) (inputs.Fault fault) old new number now phase' reply reacts within = absurd reacts
  reacted (Waiting request ticks) inputs.Tick old new number now phase' reply reacts within =
      let attaches = reacts.2.attaches in attached attaches.answer attaches.mid reacts.2.mid request _ phase' reply attaches.answered
  reacted (Waiting request ticks) inputs.EndOfInput old new number now phase' reply reacts within = ended phase' reacts.1.over
  reacted (Waiting request ticks) inputs.Closing old new number now phase' reply reacts within = ended phase' reacts.1.over
  reacted (Connected connected) (inputs.Packet packet) old new number now phase' reply reacts within =
      unless_kicked reacts.0 reacts.1 new connected now _ phase' reply reacts.3 (λ does. answered_packet reacts.1 new number connected now packet phase' reply does within)
  reacted (Connected connected) (inputs.Fault fault) old new number now phase' reply reacts within = ended phase' reacts.1.1
  reacted (Connected connected) inputs.Tick old new number now phase' reply reacts within =
      unless_kicked reacts.0 reacts.1 new connected now _ phase' reply reacts.3 (λ does. heard _ does.0 new connected now phase' reply does.2 within)
  reacted (Connected connected) inputs.EndOfInput old new number now phase' reply reacts within = ended phase' reacts.1.1
  reacted (Connected connected) inputs.Closing old new number now phase' reply reacts within = ended phase' reacts.2
  reacted Ended input old new number now phase' reply reacts within = ended phase' reacts.0.over

  pub within : (number now : ℕ) (phase phase' : ConnPhase P) (input : Input) (sent : List Packet) (next : Then) (old new : S)
      → Steps call slot_of old number phase now input sent next phase' new → IsWithinQuota phase → IsWithinQuota phase'
  within number now phase phase' input sent next old new steps kept =
      handed steps.between phase' now steps.mid new steps.sent steps.hands (reacted phase input old steps.mid number now steps.between steps.reply steps.reacts kept)
