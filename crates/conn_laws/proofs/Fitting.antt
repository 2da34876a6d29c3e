-- No step sends a packet that is longer than its client takes.
use Rattle.std.proofs.Common.{◌≡◌, ℕ, ◌==◌, ◌||◌, not, Bool, true, false, if◌then◌else◌, List, [], ◌∷◌, ◌++◌, drop, filter, Option, Some, None, Result, Ok, Err, refl, sym, ap, subst, ◌∙◌, arith, inl, inr, ltb-false}
use Rattle.std.specs.List.{AllByRecursion, list_any}
use Rattle.std.specs.Option.{option_to_list}
use Rattle.mqtt_packet.specs.declared.packet.Connect.{Connect}
use Rattle.mqtt_packet.specs.declared.packet.ConnectRefusal.{ConnectRefusal}
use Rattle.mqtt_packet.specs.declared.packet.Packet.{Packet}
use Rattle.mqtt_packet.specs.declared.packet.Packet.TheVariants as packets
use Rattle.group_jobs.specs.Stamps.{Held, under}
use Rattle.member_window.specs.Calls.{Acks}
use Rattle.member_window.specs.Contents.{Contents, held_of, HasRoom, after_put, after_resend}
use Rattle.member_window.proofs.Sound.{ack_held, first_waiting, put_held, resend_held}
use Rattle.session_desk.specs.declared.attached.Attached.{Attached}
use Rattle.session_desk.specs.declared.attached.Attached.TheVariants.{New, Resumed, Replace, Busy}
use Rattle.session_desk.specs.declared.error.DeskError.{DeskError}
use Rattle.session_desk.specs.declared.error.DeskError.TheVariants as errors
use Rattle.session_desk.specs.declared.session.Session.{Session}
use Rattle.session_desk.specs.declared.session.Membership.{Membership}
use Rattle.session_desk.specs.declared.session.Membership.TheVariants.{NotMember, Member, Leaving}
use Rattle.session_desk.specs.Attaching.{Request}
use Rattle.conn_rules.specs.declared.client_limits.ClientLimits.{ClientLimits}
use Rattle.users.specs.Table.{UserTable}
use Rattle.conn_rules.specs.Connecting.{is_under, connect_answer, first_answer}
use Rattle.conn_rules.specs.HandOuts.{is_discarded, is_message_too_long}
use Rattle.conn_rules.specs.Packets.{job, refusing}
use Rattle.conn_rules.specs.declared.terms.Terms.{Terms}
use Rattle.conn_rules.specs.declared.connecting.FirstAnswer.{FirstAnswer}
use Rattle.conn_rules.specs.declared.connecting.FirstAnswer.TheVariants as first
use Rattle.conn_rules.specs.declared.hand_outs.HandOutTerms.{HandOutTerms}
use Rattle.conn_supply.specs.declared.reply.Then.{Then}
use Rattle.conn_supply.specs.declared.reply.Then.TheVariants.{Go, Close, Kicked}
use Rattle.conn_supply.specs.declared.reply.Reply.{Reply}
use Rattle.conn_supply.specs.SupplyCalls.{SupplyCall}
use Rattle.conn_supply.specs.SupplyCalls.SupplyCall.{Attach}
use Rattle.conn_supply.specs.Acknowledging.{AcknowledgesFor}
use Rattle.conn_supply.specs.HandOuts.{SendsAgain, LooksFor, SendsFresh, HandsFresh}
use Rattle.conn_engine.specs.declared.input.Input.{Input}
use Rattle.conn_engine.specs.declared.input.Input.TheVariants as inputs
use Rattle.conn_engine.specs.declared.phase.ConnectRequest.{ConnectRequest}
use Rattle.conn_engine.specs.declared.phase.ConnectedClient.{ConnectedClient}
use Rattle.conn_engine.specs.declared.phase.Opening.{Opening}
use Rattle.conn_engine.specs.declared.phase.ConnPhase.{ConnPhase}
use Rattle.conn_engine.specs.declared.phase.ConnPhase.TheVariants.{Unconnected, Waiting, Connected, Ended}
use Rattle.conn_engine.specs.Answering.{Answers, Disconnects, DisconnectsIf}
use Rattle.conn_engine.specs.Connecting.{holds_message_too_long, Accepts, AttachedAs, ResumesAs, WaitsAs}
use Rattle.conn_engine.specs.Step.{request_of, hand_out_terms, hearing, IsRefusedIf, WaitsForConnect, AnswersFirst, Concludes, AnswersPacket, IsHeard, AnswersUnlessKicked, Reacts, Hands, Steps}
use Rattle.conn_laws.specs.Sizes.{IsAnswer, IsSmall}
use Rattle.conn_laws.specs.PacketSizes.{maximum_named, Takes, TakesAgain, TakesSmall, HasMaximum, HoldsWhatFits, TakesUnlessAssigns, AreNewEmpty, AreNamesAssigned}
use Rattle.conn_laws.proofs.Aside.{all_of_both}
use Rattle.conn_laws.proofs.Replies as replies
use Rattle.conn_laws.proofs.SameSize.{taken_alike, taken_within, small_taken}
use Rattle.conn_laws.proofs.FirstAnswers.{not_closed, neither_closed, nor_refused}
use Rattle.conn_laws.proofs.TermsAsked as terms_asked
use Rattle.conn_laws.proofs.Sending.{all_are, any_answers, small_answers}

-- ---- lists

-- what holds of all in two lists holds of those in the second
behind : {X : Type 0} (Q : X → Type 0) (these those : List X) → AllByRecursion Q (these ++ those) → AllByRecursion Q those
behind Q [] those all = all
behind Q (this ∷ these) those all = behind Q these those all.1

kept_if : {X : Type 0} (Q : X → Type 0) (test : Bool) (x : X) (rest : List X) → Q x → AllByRecursion Q rest → AllByRecursion Q (if test then x ∷ rest else rest)
kept_if Q true x rest is all = (is, all)
kept_if Q false x rest is all = all

without : {X : Type 0} (Q : X → Type 0) (test : X → Bool) (xs : List X) → AllByRecursion Q xs → AllByRecursion Q (filter test xs)
without Q test [] all = tt
without Q test (x ∷ xs) all = kept_if Q (test x) x (filter test xs) all.0 (without Q test xs all.1)

neither : (one other : Bool) → (one || other) ≡ false → (one ≡ false) × (other ≡ false)
neither true other is = absurd cc
neither false other is = (refl, is)

-- ---- what a window holds

abbrev AllTaken : Option ℕ → Contents Held → Type 0
AllTaken maximum window = AllByRecursion (TakesAgain maximum) (held_of window)

none_too_long : (maximum : Option ℕ) (entries : List (ℕ × Held)) → list_any (λ entry. is_message_too_long maximum entry.1.subscription entry.1.message) entries ≡ false → AllByRecursion (TakesAgain maximum) entries
none_too_long maximum [] is = tt
none_too_long maximum (entry ∷ entries) is =
    let parts = neither (is_message_too_long maximum entry.1.subscription entry.1.message) (list_any (λ (e : ℕ × Held). is_message_too_long maximum e.1.subscription e.1.message) entries) is in
    ((λ now. taken_alike maximum 0 now false true entry.1.message entry.1.subscription 1 entry.0 parts.0), none_too_long maximum entries parts.1)

again : (maximum : Option ℕ) (now : ℕ) (sent : List Packet) (old new : Contents Held) → SendsAgain now old sent new → AllTaken maximum old
    → AllByRecursion (Takes maximum) sent × AllTaken maximum new
again maximum now [] old new sends all = (tt, subst (AllTaken maximum) (sym sends.1) all)
again maximum now (packet ∷ packets) old new sends all =
    let entry = sends.0 in
    let next = sends.1.1 in
    let first : TakesAgain maximum entry = (subst (AllByRecursion (TakesAgain maximum)) next.1 (behind (TakesAgain maximum) old.owed old.waiting all)).0 in
    let still : AllTaken maximum (after_resend old (Some entry)) =
    subst (AllByRecursion (TakesAgain maximum)) (sym (resend_held old.owed old.waiting entry (drop 1 old.waiting) (first_waiting old entry next.0 next.1))) all in
    let rest = again maximum now packets (after_resend old (Some entry)) new sends.3 still in
    ((subst (Takes maximum) (sym sends.2) (first now), rest.0), rest.1)

put : (maximum : Option ℕ) (window : Contents Held) (identifier : ℕ) (item : Held) → HasRoom window → TakesAgain maximum (identifier, item) → AllTaken maximum window → AllTaken maximum (after_put window identifier item)
put maximum window identifier item room takes all =
    subst (AllByRecursion (TakesAgain maximum)) (sym (put_held window.owed window.waiting (identifier, item) room.1))
    (all_of_both (TakesAgain maximum) (held_of window) ((identifier, item) ∷ []) all (takes, tt))

acked : (maximum : Option ℕ) (window window' : Contents Held) (identifier : ℕ) (found : Option Held) → Acks window identifier found window' → AllTaken maximum window → AllTaken maximum window'
acked maximum window window' identifier (Some item) acks all =
    subst (AllTaken maximum) (sym acks.1)
    (subst (AllByRecursion (TakesAgain maximum)) (sym (ack_held identifier window.owed window.waiting)) (without (TakesAgain maximum) (λ entry. not (entry.0 == identifier)) (held_of window) all))
acked maximum window window' identifier None acks all = subst (AllTaken maximum) (sym acks.1) all

-- ---- the first packet

not_under : (maximum : Option ℕ) → is_under 64 maximum ≡ false → TakesSmall maximum
not_under None is = tt
not_under (Some maximum) is = ltb-false maximum 64 is

-- who asks for a session takes each packet of 64 bytes
asks_taking : (users : Option UserTable) (connect : Connect) → connect_answer users connect ≡ first.Attach → TakesSmall connect.properties.maximum_packet_size
asks_taking users connect is = not_under connect.properties.maximum_packet_size (nor_refused _ _ _ (neither_closed _ _ is))

-- a CONNACK that refuses has five bytes
five : (maximum : Option ℕ) (refusal : ConnectRefusal) → is_under 5 maximum ≡ false → Takes maximum (refusing refusal)
five None refusal is = refl
five (Some maximum) refusal is =
    taken_within 5 maximum (refusing refusal) (omega (arith, replies.refused refusal)) (omega (arith, replies.refused refusal)) (ltb-false maximum 5 is)

refusal_taken : (P : Type 0) (opened : Opening) (users : Option UserTable) (packet : Packet) (refusal : ConnectRefusal) → first_answer users packet ≡ first.Refuse refusal
    → Takes (maximum_named {P = P} (Unconnected opened) (inputs.Packet packet)) (refusing refusal)
refusal_taken P opened users (packets.Connect connect) refusal is = five connect.properties.maximum_packet_size refusal (not_closed _ _ _ is)
refusal_taken P opened users packet refusal is = refl

takes_answer : (maximum : Option ℕ) → TakesSmall maximum → (packet : Packet) → IsAnswer packet → TakesUnlessAssigns maximum packet
takes_answer maximum takes packet (inl small) = inl (small_taken maximum packet takes small)
takes_answer maximum takes packet (inr given) = inr given

-- ---- a step of a client that has named this Maximum Packet Size

module _ {S P : Type 0} (call : S → SupplyCall P → S → Type 0) (slot_of : P → ℕ) (new_empty : AreNewEmpty call) (maximum : Option ℕ) where
  -- a connection of that client, which holds what fits
  abbrev Holds : ConnPhase P → Type 0
  Holds (Unconnected opened) = Unit {0}
  Holds (Waiting request ticks) = (request.terms.maximum_packet_size ≡ maximum) × TakesSmall maximum
  Holds (Connected connected) = (connected.terms.maximum_packet_size ≡ maximum) × TakesSmall maximum × AllTaken maximum connected.session.window
  Holds Ended = Unit {0}

  ended : (phase : ConnPhase P) → phase ≡ Ended → Holds phase
  ended phase is = subst Holds (sym is) tt

  same : (connected connected' : ConnectedClient P) → connected' ≡ connected → Holds (Connected connected) → Holds (Connected connected')
  same connected connected' is holds = subst (λ l. Holds (Connected l)) (sym is) holds

  -- ---- what is handed out

  found_fits : (terms : HandOutTerms) (old new : S) (place place' : P) (envelope : Held) → LooksFor call terms old place (Some envelope) place' new → is_discarded terms envelope.message ≡ false
  found_fits terms old new place place' envelope looks = elim looks.ended as (λ (ended : _). is_discarded terms envelope.message ≡ false) [
    | inl finds ↦ finds.1.2
    | inr none ↦ absurd (let never = none.1 in cc)
  ]

  fresh : (terms : HandOutTerms) (sent : List Packet) (old new : S) (place place' : P) (window window' : Contents Held) → terms.maximum_packet_size ≡ maximum
      → SendsFresh call terms old place window sent place' window' new → AllTaken maximum window → AllByRecursion (Takes maximum) sent × AllTaken maximum window'
  fresh terms [] old new place place' window window' its sends all = (tt, subst (AllTaken maximum) (sym sends.0) all)
  fresh terms (packet ∷ packets) old new place place' window window' its sends all =
      let one = sends.3 in
      let message = one.envelope.message in
      let unfit = (neither _ (is_message_too_long terms.maximum_packet_size terms.subscription message) (found_fits terms old sends.2 place sends.0 one.envelope one.found)).1 in
      let taken : Takes maximum (job 0 false message terms.subscription 1) = subst (λ m. Takes m (job 0 false message terms.subscription 1)) its unfit in
      let more : AllTaken maximum (after_put window one.identifier (under terms.subscription one.envelope)) =
      put maximum window one.identifier (under terms.subscription one.envelope) one.room (λ now. taken_alike maximum 0 now false true message terms.subscription 1 one.identifier taken) all in
      let rest = fresh terms packets sends.2 new sends.0 place' sends.1 window' its sends.4 (subst (AllTaken maximum) (sym one.put) more) in
      ((subst (Takes maximum) (sym one.sent) (taken_alike maximum 0 terms.at false false message terms.subscription 1 one.identifier taken), rest.0), rest.1)

  handed_fresh : (terms : HandOutTerms) (membership : Membership P) (old new : S) (window window' : Contents Held) (sent : List Packet) (membership' : Membership P) → terms.maximum_packet_size ≡ maximum
      → HandsFresh call terms old membership window sent membership' window' new → AllTaken maximum window → AllByRecursion (Takes maximum) sent × AllTaken maximum window'
  handed_fresh terms NotMember old new window window' sent membership' its hands all =
      (subst (AllByRecursion (Takes maximum)) (sym hands.0) tt, subst (AllTaken maximum) (sym hands.2) all)
  handed_fresh terms (Member place) old new window window' sent membership' its hands all = fresh terms sent old new place hands.0 window window' its hands.2 all
  handed_fresh terms (Leaving place) old new window window' sent membership' its hands all =
      (subst (AllByRecursion (Takes maximum)) (sym hands.0) tt, subst (AllTaken maximum) (sym hands.1) all)

  handed : (phase phase' : ConnPhase P) (now : ℕ) (old new : S) (sent : List Packet) → Hands call slot_of old phase now sent phase' new → Holds phase → AllByRecursion (Takes maximum) sent × Holds phase'
  handed (Unconnected opened) phase' now old new sent hands holds = (subst (AllByRecursion (Takes maximum)) (sym hands.0) tt, subst Holds (sym hands.1) holds)
  handed (Waiting request ticks) phase' now old new sent hands holds = (subst (AllByRecursion (Takes maximum)) (sym hands.0) tt, subst Holds (sym hands.1) holds)
  handed (Connected connected) phase' now old new sent hands holds =
      let out = hands.2 in
      let first = again maximum now out.again connected.session.window out.between out.sent_again holds.2 in
      let after = handed_fresh (hand_out_terms connected now) connected.session.membership old new out.between hands.1 out.fresh hands.0 holds.0 out.sent_fresh first.1 in (
        subst (AllByRecursion (Takes maximum)) (sym out.both) (all_of_both (Takes maximum) out.again out.fresh first.0 after.0),
        subst Holds (sym hands.3) (holds.0, holds.1, after.1),
      )
  handed Ended phase' now old new sent hands holds = (subst (AllByRecursion (Takes maximum)) (sym hands.0) tt, ended phase' hands.1)

  -- ---- a connection that begins

  accepted : (request : ConnectRequest) (present : Bool) (session : Session Held P) (phase : ConnPhase P) (reply : Reply) → Accepts request present session phase reply
      → request.terms.maximum_packet_size ≡ maximum → TakesSmall maximum → AllTaken maximum session.window → Holds phase
  accepted request present session phase reply accepts its takes all = subst Holds (sym accepts.begun) (its, takes, all)

  resumed : (no : Bool) (old new : S) (request : ConnectRequest) (session : Session Held P) (phase : ConnPhase P) (reply : Reply) → holds_message_too_long request.terms.maximum_packet_size session.window ≡ no
      → ResumesAs call no old request session phase reply new → request.terms.maximum_packet_size ≡ maximum → TakesSmall maximum → Holds phase
  resumed true old new request session phase reply is resumes its takes = ended phase resumes.1.over
  resumed false old new request session phase reply is resumes its takes =
      accepted request true session phase reply resumes.1 its takes (subst (λ m. AllTaken m session.window) its (none_too_long request.terms.maximum_packet_size (held_of session.window) is))

  waits : (more : Bool) (request : ConnectRequest) (ticks : ℕ) (phase : ConnPhase P) (reply : Reply) → WaitsAs more request ticks phase reply
      → request.terms.maximum_packet_size ≡ maximum → TakesSmall maximum → Holds phase
  waits true request ticks phase reply waiting its takes = subst Holds (sym waiting.0) (its, takes)
  waits false request ticks phase reply refused its takes = ended phase refused.over

  attached : (answer : Result (Attached Held P) DeskError) (asks : Request) (before old new : S) (request : ConnectRequest) (ticks : ℕ) (phase : ConnPhase P) (reply : Reply) → call before (Attach asks answer) old
      → AttachedAs call old request ticks answer phase reply new → request.terms.maximum_packet_size ≡ maximum → TakesSmall maximum → Holds phase
  attached (Ok (New session earlier)) asks before old new request ticks phase reply asked_for attaches its takes =
      accepted request false session phase reply attaches.1 its takes (subst (AllByRecursion (TakesAgain maximum)) (sym (new_empty before old asks session earlier asked_for)) tt)
  attached (Ok (Resumed session)) asks before old new request ticks phase reply asked_for attaches its takes = resumed _ old new request session phase reply refl attaches its takes
  attached (Ok (Replace holder)) asks before old new request ticks phase reply asked_for attaches its takes = waits _ request ticks phase reply attaches.0 its takes
  attached (Ok Busy) asks before old new request ticks phase reply asked_for attaches its takes = ended phase attaches.0.over
  attached (Err errors.Full) asks before old new request ticks phase reply asked_for attaches its takes = ended phase attaches.0.over
  attached (Err errors.NoPlace) asks before old new request ticks phase reply asked_for attaches its takes = ended phase attaches.0.over
  attached (Err errors.NoName) asks before old new request ticks phase reply asked_for attaches its takes = ended phase attaches.0.over
  attached (Err errors.Memory) asks before old new request ticks phase reply asked_for attaches its takes = absurd attaches

  answered_first : (answer : FirstAnswer) (opened : Opening) (old new : S) (number : ℕ) (limits : ClientLimits) (now : ℕ) (packet : Packet) (phase : ConnPhase P) (reply : Reply) → first_answer limits.users packet ≡ answer
      → AnswersFirst call slot_of answer old number limits now packet phase reply new → maximum_named {P = P} (Unconnected opened) (inputs.Packet packet) ≡ maximum → Holds phase
  answered_first first.Close opened old new number limits now packet phase reply is answers its = ended phase answers.0.over
  answered_first (first.Refuse refusal) opened old new number limits now packet phase reply is answers its = ended phase answers.0.over
  answered_first first.Attach opened old new number limits now packet phase reply is answers its =
      let connect = answers.0 in
      let attaches = answers.2 in
      let named : connect.properties.maximum_packet_size ≡ maximum = sym (ap (λ p. maximum_named {P = P} (Unconnected opened) (inputs.Packet p)) answers.1) ∙ its in
      let takes = subst TakesSmall named (asks_taking limits.users connect (sym (ap (first_answer limits.users) answers.1) ∙ is)) in
      attached attaches.answer _ old attaches.mid new (request_of limits connect now) 0 phase reply attaches.asked_for attaches.answered named takes

  refused_if : (refusal : Option ConnectRefusal) (phase : ConnPhase P) (reply : Reply) → IsRefusedIf refusal phase reply → Holds phase
  refused_if (Some refusal) phase reply refused = ended phase refused.over
  refused_if None phase reply closed = ended phase closed.over

  waits_for_connect : (late : Bool) (opened : Opening) (phase : ConnPhase P) (reply : Reply) → WaitsForConnect late opened phase reply → Holds phase
  waits_for_connect true opened phase reply closed = ended phase closed.over
  waits_for_connect false opened phase reply waiting = subst Holds (sym waiting.0) tt

  -- ---- a connection with its session

  acknowledged : (membership : Membership P) (old new : S) (window window' : Contents Held) (identifier code : ℕ) (membership' : Membership P)
      → AcknowledgesFor call old membership window identifier code membership' window' new → AllTaken maximum window → AllTaken maximum window'
  acknowledged NotMember old new window window' identifier code membership' acks all = subst (AllTaken maximum) (sym acks.1) all
  acknowledged (Member place) old new window window' identifier code membership' acks all = acked maximum window window' identifier acks.1.found acks.1.acked all
  acknowledged (Leaving place) old new window window' identifier code membership' acks all = acked maximum window window' identifier acks.1.found acks.1.acked all

  disconnects_if : (given : Bool) (connected connected' : ConnectedClient P) (seconds : ℕ) (reply : Reply) → DisconnectsIf given connected seconds connected' reply → Holds (Connected connected) → Holds (Connected connected')
  disconnects_if true connected connected' seconds reply does holds = same connected connected' does.0 holds
  disconnects_if false connected connected' seconds reply does holds = subst (λ l. Holds (Connected l)) (sym does.0) holds

  disconnects : (expiry : Option ℕ) (connected connected' : ConnectedClient P) (reply : Reply) → Disconnects connected expiry connected' reply → Holds (Connected connected) → Holds (Connected connected')
  disconnects None connected connected' reply does holds = same connected connected' does.0 holds
  disconnects (Some seconds) connected connected' reply does holds = disconnects_if _ connected connected' seconds reply does holds

  answered : (packet : Packet) (old new : S) (number now : ℕ) (connected connected' : ConnectedClient P) (reply : Reply) → Answers call slot_of old number connected now packet connected' reply new
      → Holds (Connected connected) → Holds (Connected connected')
  answered (packets.Publish publish) old new number now connected connected' reply answers holds = same connected connected' answers.1 holds
  answered (packets.Puback puback) old new number now connected connected' reply answers holds =
      subst (λ l. Holds (Connected l)) (sym answers.2) (
        holds.0,
        holds.1,
        acknowledged connected.session.membership old new connected.session.window answers.0.window puback.packet_identifier puback.reason_code answers.0.membership answers.1.settles holds.2,
      )
  answered (packets.Subscribe subscribe) old new number now connected connected' reply answers holds = subst (λ l. Holds (Connected l)) (sym answers.3) holds
  answered (packets.Unsubscribe unsubscribe) old new number now connected connected' reply answers holds = subst (λ l. Holds (Connected l)) (sym answers.2) holds
  answered packets.Pingreq old new number now connected connected' reply answers holds = same connected connected' answers.0 holds
  answered (packets.Disconnect disconnect) old new number now connected connected' reply answers holds = disconnects disconnect.properties.session_expiry_interval connected connected' reply answers.0 holds
  answered (packets.Connect connect) old new number now connected connected' reply answers holds = same connected connected' answers.0 holds
  answered (packets.Connack connack) old new number now connected connected' reply answers holds = same connected connected' answers.0 holds
  answered (packets.Suback suback) old new number now connected connected' reply answers holds = same connected connected' answers.0 holds
  answered (packets.Unsuback unsuback) old new number now connected connected' reply answers holds = same connected connected' answers.0 holds
  answered packets.Pingresp old new number now connected connected' reply answers holds = same connected connected' answers.0 holds
  answered (packets.Foreign kind) old new number now connected connected' reply answers holds = same connected connected' answers.0 holds
  answered (packets.OtherVersion version) old new number now connected connected' reply answers holds = same connected connected' answers.0 holds
  answered packets.WithWill old new number now connected connected' reply answers holds = same connected connected' answers.0 holds

  concluded : (next : Then) (old new : S) (connected : ConnectedClient P) (now : ℕ) (phase : ConnPhase P) → Concludes call slot_of old connected now next phase new → Holds (Connected connected) → Holds phase
  concluded Go old new connected now phase concludes holds = subst Holds (sym concludes.0) holds
  concluded Close old new connected now phase concludes holds = ended phase concludes.1
  concluded Kicked old new connected now phase concludes holds = ended phase concludes.1

  answered_packet : (old new : S) (number : ℕ) (connected : ConnectedClient P) (now : ℕ) (packet : Packet) (phase : ConnPhase P) (reply : Reply)
      → AnswersPacket call slot_of old number connected now packet phase reply new → Holds (Connected connected) → Holds phase
  answered_packet old new number connected now packet phase reply answers holds =
      concluded reply.next answers.1 new answers.0 now phase answers.3 (answered packet old answers.1 number now (hearing connected now) answers.0 reply answers.2 holds)

  heard : (silent : Bool) (old new : S) (connected : ConnectedClient P) (now : ℕ) (phase : ConnPhase P) (reply : Reply) → IsHeard call slot_of silent old connected now phase reply new
      → Holds (Connected connected) → Holds phase
  heard true old new connected now phase reply hears holds = ended phase hears.1.1
  heard false old new connected now phase reply hears holds = subst Holds (sym hears.1) holds

  unless_kicked : (kicked : Bool) (old new : S) (connected : ConnectedClient P) (now : ℕ) (Does : ConnPhase P → Reply → S → Type 0) (phase : ConnPhase P) (reply : Reply)
      → AnswersUnlessKicked call slot_of kicked old connected now Does phase reply new → (Does phase reply new → Holds phase) → Holds phase
  unless_kicked true old new connected now Does phase reply does holds = ended phase does.1.1
  unless_kicked false old new connected now Does phase reply does holds = holds does

  reacted : (phase : ConnPhase P) (input : Input) (old new : S) (number now : ℕ) (phase' : ConnPhase P) (reply : Reply)
      → Reacts call slot_of old number phase now input phase' reply new → maximum_named phase input ≡ maximum → Holds phase → Holds phase'
  reacted (Unconnected opened) (inputs.Packet packet) old new number now phase' reply reacts its holds = answered_first _ opened old new number opened.limits now packet phase' reply refl reacts its
  reacted (Unconnected opened) (inputs.Fault fault) old new number now phase' reply reacts its holds = refused_if _ phase' reply reacts.0
  reacted (Unconnected opened) inputs.Tick old new number now phase' reply reacts its holds = waits_for_connect _ opened phase' reply reacts.1
  reacted (Unconnected opened) inputs.EndOfInput old new number now phase' reply reacts its holds = ended phase' reacts.0.over
  reacted (Unconnected opened) inputs.Closing old new number now phase' reply reacts its holds = ended phase' reacts.0.over
  reacted (Waiting request ticks) (inputs.Packet packet) old new number now phase' reply reacts its holds = absurd reacts
  reacted (Waiting request ticks) (inputs.Fault fault) old new number now phase' reply reacts its holds = absurd reacts
  reacted (Waiting request ticks) inputs.Tick old new number now phase' reply reacts its holds =
      let attaches = reacts.2.attaches in
      attached attaches.answer _ reacts.0 attaches.mid reacts.2.mid request _ phase' reply attaches.asked_for attaches.answered holds.0 holds.1
  reacted (Waiting request ticks) inputs.EndOfInput old new number now phase' reply reacts its holds = ended phase' reacts.1.over
  reacted (Waiting request ticks) inputs.Closing old new number now phase' reply reacts its holds = ended phase' reacts.1.over
  reacted (Connected connected) (inputs.Packet packet) old new number now phase' reply reacts its holds =
      unless_kicked reacts.0 reacts.1 new connected now _ phase' reply reacts.3 (λ does. answered_packet reacts.1 new number connected now packet phase' reply does holds)
  reacted (Connected connected) (inputs.Fault fault) old new number now phase' reply reacts its holds = ended phase' reacts.1.1
  reacted (Connected connected) inputs.Tick old new number now phase' reply reacts its holds =
      unless_kicked reacts.0 reacts.1 new connected now _ phase' reply reacts.3 (λ does. heard _ does.0 new connected now phase' reply does.2 holds)
  reacted (Connected connected) inputs.EndOfInput old new number now phase' reply reacts its holds = ended phase' reacts.1.1
  reacted (Connected connected) inputs.Closing old new number now phase' reply reacts its holds = ended phase' reacts.2
  reacted Ended input old new number now phase' reply reacts its holds = ended phase' reacts.0.over

  holds_fits : (phase : ConnPhase P) → Holds phase → HoldsWhatFits phase
  holds_fits (Unconnected opened) holds = tt
  holds_fits (Waiting request ticks) holds = subst TakesSmall (sym holds.0) holds.1
  holds_fits (Connected connected) holds =
      subst (λ m. TakesSmall m × AllTaken m connected.session.window) (sym holds.0) (holds.1, holds.2)
  holds_fits Ended holds = tt

  stepped : (number now : ℕ) (phase phase' : ConnPhase P) (input : Input) (sent : List Packet) (next : Then) (old new : S)
      → (steps : Steps call slot_of old number phase now input sent next phase' new) → maximum_named phase input ≡ maximum → Holds phase
      → AllByRecursion (Takes maximum) steps.sent × HoldsWhatFits phase'
  stepped number now phase phase' input sent next old new steps its holds =
      let out = handed steps.between phase' now steps.mid new steps.sent steps.hands (reacted phase input old steps.mid number now steps.between steps.reply steps.reacts its holds) in
      (out.0, holds_fits phase' out.1)

-- what answers an input, where that is of a kind that is taken, as it is to be, by who takes each packet of 64 bytes
module _ {S P : Type 0} (call : S → SupplyCall P → S → Type 0) (slot_of : P → ℕ) (Is : Packet → Type 0) (Are : Option ℕ → Packet → Type 0)
    (taken : (maximum : Option ℕ) (packet : Packet) → Takes maximum packet → Are maximum packet)
    (follows : (maximum : Option ℕ) → TakesSmall maximum → (packet : Packet) → Is packet → Are maximum packet) where
  -- the answer to the first packet
  first_replied : (answer : FirstAnswer) (opened : Opening) (old new : S) (number now : ℕ) (packet : Packet) (phase : ConnPhase P) (reply : Reply) → first_answer opened.limits.users packet ≡ answer
      → AnswersFirst call slot_of answer old number opened.limits now packet phase reply new → AllByRecursion Is (option_to_list reply.packet)
      → AllByRecursion (Are (maximum_named {P = P} (Unconnected opened) (inputs.Packet packet))) (option_to_list reply.packet)
  first_replied first.Close opened old new number now packet phase reply is answers replies =
      subst (λ (r : Reply). AllByRecursion (Are (maximum_named {P = P} (Unconnected opened) (inputs.Packet packet))) (option_to_list r.packet)) (sym answers.0.told) tt
  first_replied (first.Refuse refusal) opened old new number now packet phase reply is answers replies =
      subst (λ (r : Reply). AllByRecursion (Are (maximum_named {P = P} (Unconnected opened) (inputs.Packet packet))) (option_to_list r.packet)) (sym answers.0.told)
      (taken (maximum_named {P = P} (Unconnected opened) (inputs.Packet packet)) (refusing refusal) (refusal_taken P opened opened.limits.users packet refusal is), tt)
  first_replied first.Attach opened old new number now packet phase reply is answers replies =
      let connect = answers.0 in
      let named : maximum_named {P = P} (Unconnected opened) (inputs.Packet packet) ≡ connect.properties.maximum_packet_size = ap (λ p. maximum_named {P = P} (Unconnected opened) (inputs.Packet p)) answers.1 in
      let takes = subst TakesSmall (sym named) (asks_taking opened.limits.users connect (sym (ap (first_answer opened.limits.users) answers.1) ∙ is)) in
      all_are (follows (maximum_named {P = P} (Unconnected opened) (inputs.Packet packet)) takes) (option_to_list reply.packet) replies

  reply_fits : (phase : ConnPhase P) (input : Input) (old new : S) (number now : ℕ) (between : ConnPhase P) (reply : Reply)
      → Reacts call slot_of old number phase now input between reply new → HoldsWhatFits phase → AllByRecursion Is (option_to_list reply.packet)
      → AllByRecursion (Are (maximum_named phase input)) (option_to_list reply.packet)
  reply_fits (Unconnected opened) (inputs.Packet packet) old new number now between reply reacts holds replies =
      first_replied (first_answer opened.limits.users packet) opened old new number now packet between reply refl reacts replies
  reply_fits (Unconnected opened) (inputs.Fault fault) old new number now between reply reacts holds replies = all_are (follows None tt) (option_to_list reply.packet) replies
  reply_fits (Unconnected opened) inputs.Tick old new number now between reply reacts holds replies = all_are (follows None tt) (option_to_list reply.packet) replies
  reply_fits (Unconnected opened) inputs.EndOfInput old new number now between reply reacts holds replies = all_are (follows None tt) (option_to_list reply.packet) replies
  reply_fits (Unconnected opened) inputs.Closing old new number now between reply reacts holds replies = all_are (follows None tt) (option_to_list reply.packet) replies
  reply_fits (Waiting request ticks) input old new number now between reply reacts holds replies =
      all_are (follows request.terms.maximum_packet_size holds) (option_to_list reply.packet) replies
  reply_fits (Connected connected) input old new number now between reply reacts holds replies =
      all_are (follows connected.terms.maximum_packet_size holds.0) (option_to_list reply.packet) replies
  reply_fits Ended input old new number now between reply reacts holds replies = all_are (follows None tt) (option_to_list reply.packet) replies

module _ {S P : Type 0} (call : S → SupplyCall P → S → Type 0) (slot_of : P → ℕ) where
  -- ---- a step

  begins : (phase : ConnPhase P) (input : Input) (new_empty : AreNewEmpty call) → HoldsWhatFits phase → Holds call slot_of new_empty (maximum_named phase input) phase
  begins (Unconnected opened) input new_empty holds = tt
  begins (Waiting request ticks) input new_empty holds = (refl, holds)
  begins (Connected connected) input new_empty holds = (refl, holds.0, holds.1)
  begins Ended input new_empty holds = tt

  pub kept : (number now : ℕ) (phase phase' : ConnPhase P) (input : Input) (sent : List Packet) (next : Then) (old new : S) → AreNewEmpty call
      → Steps call slot_of old number phase now input sent next phase' new → HoldsWhatFits phase → HoldsWhatFits phase'
  kept number now phase phase' input sent next old new new_empty steps holds =
      (stepped call slot_of new_empty (maximum_named phase input) number now phase phase' input sent next old new steps refl (begins phase input new_empty holds)).1

  -- the packets of a step, where the reply is such
  all_fit : (Are : Option ℕ → Packet → Type 0) (number now : ℕ) (phase phase' : ConnPhase P) (input : Input) (sent : List Packet) (next : Then) (old new : S) → AreNewEmpty call
      → ((maximum : Option ℕ) (packet : Packet) → Takes maximum packet → Are maximum packet)
      → (steps : Steps call slot_of old number phase now input sent next phase' new) → HoldsWhatFits phase
      → AllByRecursion (Are (maximum_named phase input)) (option_to_list steps.reply.packet) → AllByRecursion (Are (maximum_named phase input)) sent
  all_fit Are number now phase phase' input sent next old new new_empty taken steps holds replies =
      let out = stepped call slot_of new_empty (maximum_named phase input) number now phase phase' input sent next old new steps refl (begins phase input new_empty holds) in
      subst (AllByRecursion (Are (maximum_named phase input))) (sym steps.written)
      (all_of_both (Are (maximum_named phase input)) (option_to_list steps.reply.packet) steps.sent replies (all_are (taken (maximum_named phase input)) steps.sent out.0))

  pub fits : (number now : ℕ) (phase phase' : ConnPhase P) (input : Input) (sent : List Packet) (next : Then) (old new : S) → AreNewEmpty call
      → Steps call slot_of old number phase now input sent next phase' new → HoldsWhatFits phase → AllByRecursion (TakesUnlessAssigns (maximum_named phase input)) sent
  fits number now phase phase' input sent next old new new_empty steps holds =
      all_fit TakesUnlessAssigns number now phase phase' input sent next old new new_empty (λ maximum packet takes. inl takes) steps holds
      (reply_fits call slot_of IsAnswer TakesUnlessAssigns (λ maximum packet takes. inl takes) takes_answer phase input old steps.mid number now steps.between steps.reply steps.reacts holds
      (any_answers call slot_of phase input old steps.mid number now steps.between steps.reply steps.reacts))

  -- .. and where each identifier is one that a desk assigns
  pub all_taken : (number now : ℕ) (phase phase' : ConnPhase P) (input : Input) (sent : List Packet) (next : Then) (old new : S) → AreNewEmpty call → AreNamesAssigned call
      → Steps call slot_of old number phase now input sent next phase' new → HoldsWhatFits phase → AllByRecursion (Takes (maximum_named phase input)) sent
  all_taken number now phase phase' input sent next old new new_empty assigns steps holds =
      all_fit Takes number now phase phase' input sent next old new new_empty (λ maximum packet takes. takes) steps holds
      (reply_fits call slot_of IsSmall Takes (λ maximum packet takes. takes) (λ maximum takes packet small. small_taken maximum packet takes small) phase input old steps.mid number now steps.between steps.reply
      steps.reacts holds (small_answers call slot_of assigns phase input old steps.mid number now steps.between steps.reply steps.reacts))

  -- ---- what is named

  abbrev Of : Option ℕ → Terms → Type 0
  Of maximum terms = terms.maximum_packet_size ≡ maximum

  abbrev Any : Opening → Type 0
  Any opened = Unit {0}

  named_before : (phase : ConnPhase P) (input : Input) → terms_asked.Within call slot_of Any (Of (maximum_named phase input)) phase
  named_before (Unconnected opened) input = tt
  named_before (Waiting request ticks) input = refl
  named_before (Connected connected) input = refl
  named_before Ended input = tt

  has_maximum : (maximum : Option ℕ) (phase : ConnPhase P) → terms_asked.Within call slot_of Any (Of maximum) phase → HasMaximum maximum phase
  has_maximum maximum (Unconnected opened) within = tt
  has_maximum maximum (Waiting request ticks) within = within
  has_maximum maximum (Connected connected) within = within
  has_maximum maximum Ended within = tt

  pub as_named : (number now : ℕ) (phase phase' : ConnPhase P) (input : Input) (sent : List Packet) (next : Then) (old new : S)
      → Steps call slot_of old number phase now input sent next phase' new → HasMaximum (maximum_named phase input) phase'
  as_named number now phase phase' input sent next old new steps =
      has_maximum (maximum_named phase input) phase'
      (terms_asked.within call slot_of Any (Of (maximum_named phase input)) number now phase phase' input sent next old new steps
      (λ opened connect may before came served. sym (λ i. maximum_named (before i) (came i))) (named_before phase input))
