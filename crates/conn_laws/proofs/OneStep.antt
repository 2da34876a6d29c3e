-- A step has one outcome, where each call has one answer.
use Rattle.std.proofs.Common.{◌≡◌, ℕ, ◌-◌, Bool, true, false, List, ◌++◌, Option, Some, None, sym, ap, ◌∙◌, subst}
use Rattle.std.specs.Option.{option_to_list}
use Rattle.mqtt_packet.specs.declared.packet.Connect.{Connect}
use Rattle.mqtt_packet.specs.declared.packet.ConnectRefusal.{ConnectRefusal}
use Rattle.mqtt_packet.specs.declared.packet.Packet.{Packet}
use Rattle.mqtt_packet.specs.declared.packet.Packet.TheVariants as packets
use Rattle.conn_rules.specs.declared.client_limits.ClientLimits.{ClientLimits}
use Rattle.conn_rules.specs.declared.connecting.FirstAnswer.{FirstAnswer}
use Rattle.conn_rules.specs.declared.connecting.FirstAnswer.TheVariants as first
use Rattle.conn_rules.specs.Connecting.{first_answer, is_given_expiry}
use Rattle.conn_rules.specs.Faults.{fault_refusal}
use Rattle.conn_rules.specs.KeepAlive.{is_overdue, is_late}
use Rattle.conn_supply.specs.declared.reply.Then.{Then}
use Rattle.conn_supply.specs.declared.reply.Then.TheVariants.{Go, Close, Kicked}
use Rattle.conn_supply.specs.declared.reply.Reply.{Reply}
use Rattle.conn_supply.specs.SupplyCalls.{SupplyCall}
use Rattle.conn_engine.specs.declared.input.Input.{Input}
use Rattle.conn_engine.specs.declared.input.Input.TheVariants as inputs
use Rattle.conn_engine.specs.declared.phase.ConnectedClient.{ConnectedClient}
use Rattle.conn_engine.specs.declared.phase.Opening.{Opening}
use Rattle.conn_engine.specs.declared.phase.ConnPhase.{ConnPhase}
use Rattle.conn_engine.specs.declared.phase.ConnPhase.TheVariants.{Unconnected, Waiting, Connected, Ended}
use Rattle.conn_laws.specs.Asking.{OneAnswer}
use Rattle.conn_engine.specs.Ending.{down}
use Rattle.conn_engine.specs.Connecting.{Attaches}
use Rattle.conn_engine.specs.Answering.{Answers, Disconnects, DisconnectsIf, with_session, joining, subscribing}
use Rattle.conn_engine.specs.Step.{hand_out_terms, request_of, hearing, after_hand_out, IsClosed, IsRefusedIf, WaitsForConnect, IsParted, AnswersFirst, Concludes, AnswersPacket, IsHeard, AnswersTick, IsKicked, AnswersUnlessKicked, Reacts, Hands, Steps}
use Rattle.conn_laws.proofs.OneCall as calls
use Rattle.conn_laws.proofs.OneEnding as endings
use Rattle.conn_laws.proofs.OneConnecting.{IsOne, refused}
use Rattle.conn_laws.proofs.OneConnecting as connecting
use Rattle.conn_laws.proofs.OneMessage as messages
use Rattle.conn_laws.proofs.OneShare as shares
use Rattle.conn_laws.proofs.OneHandOut as hand_outs

closed : {P : Type 0} (s t : ConnPhase P) (r u : Reply) → IsClosed s r → IsClosed t u → IsOne s t r u
closed s t r u h k = (h.over ∙ sym k.over, h.told ∙ sym k.told)

refused_if : {P : Type 0} (refusal : Option ConnectRefusal) (s t : ConnPhase P) (r u : Reply) → IsRefusedIf refusal s r → IsRefusedIf refusal t u → IsOne s t r u
refused_if (Some refusal) s t r u h k = refused refusal s t r u h k
refused_if None s t r u h k = closed s t r u h k

waited : {P : Type 0} (late : Bool) (opened : Opening) (s t : ConnPhase P) (r u : Reply) → WaitsForConnect late opened s r → WaitsForConnect late opened t u → IsOne s t r u
waited true opened s t r u h k = closed s t r u h k
waited false opened s t r u h k = (h.0 ∙ sym k.0, h.1 ∙ sym k.1)

connect_is : (x y : Connect) → packets.Connect x ≡ packets.Connect y → x ≡ y
connect_is x y e = cc

disconnected_if : {P : Type 0} (given : Bool) (connected m n : ConnectedClient P) (seconds : ℕ) (r u : Reply) → DisconnectsIf given connected seconds m r → DisconnectsIf given connected seconds n u → (m ≡ n) × (r ≡ u)
disconnected_if true connected m n seconds r u h k = (h.0 ∙ sym k.0, h.1 ∙ sym k.1)
disconnected_if false connected m n seconds r u h k = (h.0 ∙ sym k.0, h.1 ∙ sym k.1)

disconnected : {P : Type 0} (expiry : Option ℕ) (connected m n : ConnectedClient P) (r u : Reply) → Disconnects connected expiry m r → Disconnects connected expiry n u → (m ≡ n) × (r ≡ u)
disconnected None connected m n r u h k = (h.0 ∙ sym k.0, h.1 ∙ sym k.1)
disconnected (Some seconds) connected m n r u h k = disconnected_if (is_given_expiry seconds connected.terms) connected m n seconds r u h k

module _ {S P : Type 0} (call : S → SupplyCall P → S → Type 0) (AreAlike : S → S → Type 0) (answers : OneAnswer call AreAlike) (slot_of : P → ℕ) where
  abbrev Agree : ConnPhase P → ConnPhase P → Reply → Reply → S → S → Type 0
  Agree s t r u a b = IsOne s t r u × AreAlike a b

  -- what a packet is answered that a client has no business to send
  no_business : (a a' b b' : S) (connected m n : ConnectedClient P) (r u closing : Reply) → AreAlike a b → (m ≡ connected) × (r ≡ closing) × (a' ≡ a) → (n ≡ connected) × (u ≡ closing) × (b' ≡ b) → (m ≡ n) × (r ≡ u) × AreAlike a' b'
  no_business a a' b b' connected m n r u closing alike h k = (h.0 ∙ sym k.0, h.1 ∙ sym k.1, calls.still call AreAlike answers a a' b b' alike h.2 k.2)

  answered : (packet : Packet) (a a' b b' : S) (number now : ℕ) (connected m n : ConnectedClient P) (r u : Reply) → AreAlike a b
      → Answers call slot_of a number connected now packet m r a' → Answers call slot_of b number connected now packet n u b' → (m ≡ n) × (r ≡ u) × AreAlike a' b'
  answered (packets.Publish publish) a a' b b' number now connected m n r u alike h k =
      let one = messages.published call AreAlike answers connected.rights a a' b b' number now publish r u alike h.0 k.0 in (h.1 ∙ sym k.1, one.0, one.1)
  answered (packets.Puback puback) a a' b b' number now connected m n r u alike h k =
      let one = messages.acknowledged call AreAlike answers a a' b b' connected.session h.0 k.0 puback.packet_identifier puback.reason_code alike h.1 k.1 in
      (h.2 ∙ ap (with_session connected) one.0 ∙ sym k.2, h.3 ∙ sym k.3, one.1)
  answered (packets.Subscribe subscribe) a a' b b' number now connected m n r u alike h k =
      let one = shares.subscribed call AreAlike answers slot_of connected.rights a a' b b' connected.session.membership connected.session.subscription subscribe r u h.0 k.0 h.1 k.1 alike h.2 k.2 in
      (h.3 ∙ (λ i. subscribing connected (one.1 i) (one.2 i)) ∙ sym k.3, one.0, one.3)
  answered (packets.Unsubscribe unsubscribe) a a' b b' number now connected m n r u alike h k =
      let one = shares.unsubscribed call AreAlike answers slot_of a a' b b' connected.session.membership unsubscribe r u h.0 k.0 alike h.1 k.1 in
      (h.2 ∙ ap (joining connected) one.1 ∙ sym k.2, one.0, one.2)
  answered packets.Pingreq a a' b b' number now connected m n r u alike h k = no_business a a' b b' connected m n r u _ alike h k
  answered (packets.Disconnect disconnect) a a' b b' number now connected m n r u alike h k =
      let one = disconnected disconnect.properties.session_expiry_interval connected m n r u h.0 k.0 in (one.0, one.1, calls.still call AreAlike answers a a' b b' alike h.1 k.1)
  answered (packets.Connect connect) a a' b b' number now connected m n r u alike h k = no_business a a' b b' connected m n r u _ alike h k
  answered (packets.Connack connack) a a' b b' number now connected m n r u alike h k = no_business a a' b b' connected m n r u _ alike h k
  answered (packets.Suback suback) a a' b b' number now connected m n r u alike h k = no_business a a' b b' connected m n r u _ alike h k
  answered (packets.Unsuback unsuback) a a' b b' number now connected m n r u alike h k = no_business a a' b b' connected m n r u _ alike h k
  answered packets.Pingresp a a' b b' number now connected m n r u alike h k = no_business a a' b b' connected m n r u _ alike h k
  answered (packets.Foreign kind) a a' b b' number now connected m n r u alike h k = no_business a a' b b' connected m n r u _ alike h k
  answered (packets.OtherVersion version) a a' b b' number now connected m n r u alike h k = no_business a a' b b' connected m n r u _ alike h k
  answered packets.WithWill a a' b b' number now connected m n r u alike h k = no_business a a' b b' connected m n r u _ alike h k

  parted : (a a' b b' : S) (connected : ConnectedClient P) (now : ℕ) (s t : ConnPhase P) → AreAlike a b → IsParted call slot_of a connected now s a' → IsParted call slot_of b connected now t b' → (s ≡ t) × AreAlike a' b'
  parted a a' b b' connected now s t alike h k = (h.1 ∙ sym k.1, endings.parted call AreAlike answers a a' b b' connected.session now alike h.0 k.0)

  concluded : (next : Then) (a a' b b' : S) (connected : ConnectedClient P) (now : ℕ) (s t : ConnPhase P) → AreAlike a b
      → Concludes call slot_of a connected now next s a' → Concludes call slot_of b connected now next t b' → (s ≡ t) × AreAlike a' b'
  concluded Go a a' b b' connected now s t alike h k = (h.0 ∙ sym k.0, calls.still call AreAlike answers a a' b b' alike h.1 k.1)
  concluded Close a a' b b' connected now s t alike h k = parted a a' b b' connected now s t alike h k
  concluded Kicked a a' b b' connected now s t alike h k = parted a a' b b' connected now s t alike h k

  packet_answered : (a a' b b' : S) (number : ℕ) (connected : ConnectedClient P) (now : ℕ) (packet : Packet) (s t : ConnPhase P) (r u : Reply) → AreAlike a b
      → AnswersPacket call slot_of a number connected now packet s r a' → AnswersPacket call slot_of b number connected now packet t u b' → Agree s t r u a' b'
  packet_answered a a' b b' number connected now packet s t r u alike h k =
      let one = answered packet a h.1 b k.1 number now (hearing connected now) h.0 k.0 r u alike h.2 k.2 in
      let done = concluded r.next h.1 a' k.1 b' h.0 now s t one.2 h.3
      (subst (λ l. Concludes call slot_of k.1 l now r.next t b') (sym one.0) (subst (λ (w : Reply). Concludes call slot_of k.1 k.0 now w.next t b') (sym one.1) k.3)) in
      ((done.0, one.1), done.1)

  heard : (silent : Bool) (a a' b b' : S) (connected : ConnectedClient P) (now : ℕ) (s t : ConnPhase P) (r u : Reply) → AreAlike a b
      → IsHeard call slot_of silent a connected now s r a' → IsHeard call slot_of silent b connected now t u b' → Agree s t r u a' b'
  heard true a a' b b' connected now s t r u alike h k = let one = parted a a' b b' connected now s t alike h.1 k.1 in ((one.0, h.0 ∙ sym k.0), one.1)
  heard false a a' b b' connected now s t r u alike h k = ((h.1 ∙ sym k.1, h.0 ∙ sym k.0), calls.still call AreAlike answers a a' b b' alike h.2 k.2)

  ticked : (a a' b b' : S) (connected : ConnectedClient P) (now : ℕ) (s t : ConnPhase P) (r u : Reply) → AreAlike a b
      → AnswersTick call slot_of a connected now s r a' → AnswersTick call slot_of b connected now t u b' → Agree s t r u a' b'
  ticked a a' b b' connected now s t r u alike h k =
      heard (is_overdue connected.terms.keep_alive (now - connected.heard)) h.0 a' k.0 b' connected now s t r u (endings.swept call AreAlike answers 256 now a h.0 b k.0 alike h.1 k.1) h.2 k.2

  taken_over : (a a' b b' : S) (connected : ConnectedClient P) (now : ℕ) (s t : ConnPhase P) (r u : Reply) → AreAlike a b
      → IsKicked call slot_of a connected now s r a' → IsKicked call slot_of b connected now t u b' → Agree s t r u a' b'
  taken_over a a' b b' connected now s t r u alike h k = let one = parted a a' b b' connected now s t alike h.1 k.1 in ((one.0, h.0 ∙ sym k.0), one.1)

  unless_kicked : (kicked : Bool) (a a' b b' : S) (connected : ConnectedClient P) (now : ℕ) (Does Also : ConnPhase P → Reply → S → Type 0) (s t : ConnPhase P) (r u : Reply) → AreAlike a b
      → (Does s r a' → Also t u b' → Agree s t r u a' b')
      → AnswersUnlessKicked call slot_of kicked a connected now Does s r a' → AnswersUnlessKicked call slot_of kicked b connected now Also t u b' → Agree s t r u a' b'
  unless_kicked true a a' b b' connected now Does Also s t r u alike both h k = taken_over a a' b b' connected now s t r u alike h k
  unless_kicked false a a' b b' connected now Does Also s t r u alike both h k = both h k

  first_answered : (which : FirstAnswer) (a a' b b' : S) (number : ℕ) (limits : ClientLimits) (now : ℕ) (packet : Packet) (s t : ConnPhase P) (r u : Reply) → AreAlike a b
      → AnswersFirst call slot_of which a number limits now packet s r a' → AnswersFirst call slot_of which b number limits now packet t u b' → Agree s t r u a' b'
  first_answered first.Close a a' b b' number limits now packet s t r u alike h k = (closed s t r u h.0 k.0, calls.still call AreAlike answers a a' b b' alike h.1 k.1)
  first_answered (first.Refuse refusal) a a' b b' number limits now packet s t r u alike h k = (refused refusal s t r u h.0 k.0, calls.still call AreAlike answers a a' b b' alike h.1 k.1)
  first_answered first.Attach a a' b b' number limits now packet s t r u alike h k =
      let connect = connect_is k.0 h.0 (sym k.1 ∙ h.1) in
      connecting.attached call AreAlike answers a a' b b' number now (request_of limits h.0 now) 0 s t r u alike h.2 (subst (λ c. Attaches call b number now (request_of limits c now) 0 t u b') connect k.2)

  reacted : (phase : ConnPhase P) (input : Input) (a a' b b' : S) (number now : ℕ) (s t : ConnPhase P) (r u : Reply) → AreAlike a b
      → Reacts call slot_of a number phase now input s r a' → Reacts call slot_of b number phase now input t u b' → Agree s t r u a' b'
  reacted (Unconnected opened) (inputs.Packet packet) a a' b b' number now s t r u alike h k = first_answered (first_answer opened.limits.users packet) a a' b b' number opened.limits now packet s t r u alike h k
  reacted (Unconnected opened) (inputs.Fault fault) a a' b b' number now s t r u alike h k = (refused_if (fault_refusal fault) s t r u h.0 k.0, calls.still call AreAlike answers a a' b b' alike h.1 k.1)
  reacted (Unconnected opened) inputs.Tick a a' b b' number now s t r u alike h k =
      (waited (is_late (now - opened.at)) opened s t r u h.1 k.1, endings.swept call AreAlike answers 256 now a a' b b' alike h.0 k.0)
  reacted (Unconnected opened) inputs.EndOfInput a a' b b' number now s t r u alike h k = (closed s t r u h.0 k.0, calls.still call AreAlike answers a a' b b' alike h.1 k.1)
  reacted (Unconnected opened) inputs.Closing a a' b b' number now s t r u alike h k = (closed s t r u h.0 k.0, calls.still call AreAlike answers a a' b b' alike h.1 k.1)
  reacted (Waiting request ticks) (inputs.Packet packet) a a' b b' number now s t r u alike h k = absurd h
  reacted (Waiting request ticks) (inputs.Fault fault) a a' b b' number now s t r u alike h k = absurd h
  reacted (Waiting request ticks) inputs.Tick a a' b b' number now s t r u alike h k =
      connecting.tried_again call AreAlike answers h.0 a' k.0 b' number now request ticks s t r u (endings.swept call AreAlike answers 256 now a h.0 b k.0 alike h.1 k.1) h.2 k.2
  reacted (Waiting request ticks) inputs.EndOfInput a a' b b' number now s t r u alike h k = (closed s t r u h.1 k.1, calls.withdrawn call AreAlike answers a a' b b' number alike h.0 k.0)
  reacted (Waiting request ticks) inputs.Closing a a' b b' number now s t r u alike h k = (closed s t r u h.1 k.1, calls.withdrawn call AreAlike answers a a' b b' number alike h.0 k.0)
  reacted (Connected connected) (inputs.Packet packet) a a' b b' number now s t r u alike h k =
      let one = calls.kicked call AreAlike answers a h.1 b k.1 number h.0 k.0 alike h.2 k.2 in
      unless_kicked h.0 h.1 a' k.1 b' connected now (AnswersPacket call slot_of h.1 number connected now packet) (AnswersPacket call slot_of k.1 number connected now packet) s t r u one.1
      (λ does also. packet_answered h.1 a' k.1 b' number connected now packet s t r u one.1 does also) h.3
      (subst (λ x. AnswersUnlessKicked call slot_of x k.1 connected now (AnswersPacket call slot_of k.1 number connected now packet) t u b') (sym one.0) k.3)
  reacted (Connected connected) (inputs.Fault fault) a a' b b' number now s t r u alike h k = let one = parted a a' b b' connected now s t alike h.1 k.1 in ((one.0, h.0 ∙ sym k.0), one.1)
  reacted (Connected connected) inputs.Tick a a' b b' number now s t r u alike h k =
      let one = calls.kicked call AreAlike answers a h.1 b k.1 number h.0 k.0 alike h.2 k.2 in
      unless_kicked h.0 h.1 a' k.1 b' connected now (AnswersTick call slot_of h.1 connected now) (AnswersTick call slot_of k.1 connected now) s t r u one.1
      (λ does also. ticked h.1 a' k.1 b' connected now s t r u one.1 does also) h.3
      (subst (λ x. AnswersUnlessKicked call slot_of x k.1 connected now (AnswersTick call slot_of k.1 connected now) t u b') (sym one.0) k.3)
  reacted (Connected connected) inputs.EndOfInput a a' b b' number now s t r u alike h k = let one = parted a a' b b' connected now s t alike h.1 k.1 in ((one.0, h.0 ∙ sym k.0), one.1)
  reacted (Connected connected) inputs.Closing a a' b b' number now s t r u alike h k = ((h.2 ∙ sym k.2, h.0 ∙ sym k.0), calls.parked_as_is call AreAlike answers a a' b b' (down connected.session) alike h.1 k.1)
  reacted Ended input a a' b b' number now s t r u alike h k = (closed s t r u h.0 k.0, calls.still call AreAlike answers a a' b b' alike h.1 k.1)

  handed : (phase : ConnPhase P) (now : ℕ) (a a' b b' : S) (xs ys : List Packet) (s t : ConnPhase P) → AreAlike a b
      → Hands call slot_of a phase now xs s a' → Hands call slot_of b phase now ys t b' → (xs ≡ ys) × (s ≡ t) × AreAlike a' b'
  handed (Unconnected opened) now a a' b b' xs ys s t alike h k = (h.0 ∙ sym k.0, h.1 ∙ sym k.1, calls.still call AreAlike answers a a' b b' alike h.2 k.2)
  handed (Waiting request ticks) now a a' b b' xs ys s t alike h k = (h.0 ∙ sym k.0, h.1 ∙ sym k.1, calls.still call AreAlike answers a a' b b' alike h.2 k.2)
  handed (Connected connected) now a a' b b' xs ys s t alike h k =
      let one = hand_outs.handed_out call AreAlike answers (hand_out_terms connected now) connected.session.membership a a' b b' connected.session.window h.1 k.1 xs ys h.0 k.0 alike h.2 k.2 in
      (one.0, h.3 ∙ (λ i. Connected (after_hand_out connected (one.1 i) (one.2 i))) ∙ sym k.3, one.3)
  handed Ended now a a' b b' xs ys s t alike h k = (h.0 ∙ sym k.0, h.1 ∙ sym k.1, calls.still call AreAlike answers a a' b b' alike h.2 k.2)

  -- the packets, what becomes of the connection, its phase, and what it shares
  abbrev pub AreOneStep : List Packet → List Packet → Then → Then → ConnPhase P → ConnPhase P → S → S → Type 0
  AreOneStep xs ys next next' s t a b = (xs ≡ ys) × (next ≡ next') × (s ≡ t) × AreAlike a b

  pub stepped : (a a' b b' : S) (number : ℕ) (phase : ConnPhase P) (now : ℕ) (input : Input) (xs ys : List Packet) (next next' : Then) (s t : ConnPhase P) → AreAlike a b
      → Steps call slot_of a number phase now input xs next s a' → Steps call slot_of b number phase now input ys next' t b' → AreOneStep xs ys next next' s t a' b'
  stepped a a' b b' number phase now input xs ys next next' s t alike h k =
      let one = reacted phase input a h.mid b k.mid number now h.between k.between h.reply k.reply alike h.reacts k.reacts in
      let hands = handed h.between now h.mid a' k.mid b' h.sent k.sent s t one.1 h.hands (subst (λ x. Hands call slot_of k.mid x now k.sent t b') (sym one.0.0) k.hands) in (
        h.written ∙ (λ i. option_to_list (one.0.1 i).packet ++ hands.0 i) ∙ sym k.written,
        h.followed ∙ ap (λ (w : Reply). w.next) one.0.1 ∙ sym k.followed,
        hands.1,
        hands.2,
      )
