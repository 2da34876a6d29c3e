-- A session's Subscription Identifier is that of the last SUBSCRIBE that was granted.
use Rattle.std.proofs.Common.{◌≡◌, ◌⊎◌, ℕ, Bool, true, false, List, [], ◌++◌, Option, Some, None, sym, ap, subst, ◌∙◌, inl, inr, ⊎_elim, refl}
use Rattle.std.specs.Prelude.{option_to_list}
use Rattle.mqtt_packet.specs.declared.packet.Packet.{Packet}
use Rattle.mqtt_packet.specs.declared.packet.Packet.TheVariants as packets
use Rattle.mqtt_packet.specs.declared.packet.Subscribe.{Subscribe}
use Rattle.users.specs.Table.{Rights}
use Rattle.group_jobs.specs.Stamps.{Held}
use Rattle.session_desk.specs.declared.session.Session.{Session}
use Rattle.session_desk.specs.declared.session.Membership.{Membership}
use Rattle.conn_rules.specs.Subscribing.{subscribe_refusal}
use Rattle.conn_supply.specs.declared.reply.Then.{Then}
use Rattle.conn_supply.specs.declared.reply.Then.TheVariants.{Go, Close, Kicked}
use Rattle.conn_supply.specs.declared.reply.Reply.{Reply}
use Rattle.conn_supply.specs.SupplyCalls.{SupplyCall}
use Rattle.conn_supply.specs.Subscribing.{SubscribesAs}
use Rattle.conn_engine.specs.declared.input.Input.{Input}
use Rattle.conn_engine.specs.declared.input.Input.TheVariants as inputs
use Rattle.conn_engine.specs.declared.phase.ConnectedClient.{ConnectedClient}
use Rattle.conn_engine.specs.declared.phase.ConnPhase.{ConnPhase}
use Rattle.conn_engine.specs.declared.phase.ConnPhase.TheVariants.{Unconnected, Waiting, Connected, Ended}
use Rattle.conn_engine.specs.Answering.{Answers, Disconnects, DisconnectsIf, subscribing}
use Rattle.conn_engine.specs.Step.{hearing, Concludes, AnswersPacket, IsHeard, AnswersUnlessKicked, Reacts, Hands, Steps}
use Rattle.conn_laws.specs.Subscriptions.{subscribe_in, IdentifiesBy, Identifies, InSession}

-- what is sent behind the reply makes no difference
behind : (came : Option Subscribe) (reply sent all : List Packet) (before after : Option ℕ) → all ≡ reply ++ sent → IdentifiesBy came reply before after → IdentifiesBy came all before after
behind None reply sent all before after are is = is
behind (Some subscribe) reply sent all before after are is = (is.0, is.1 ++ sent, are ∙ ap (λ (packets : List Packet). packets ++ sent) is.2, is.3)

module _ {S P : Type 0} (call : S → SupplyCall P → S → Type 0) (slot_of : P → ℕ) where
  ended : (IsSo : Option ℕ → Type 0) (phase : ConnPhase P) → phase ≡ Ended → InSession IsSo phase
  ended IsSo phase is = subst (InSession IsSo) (sym is) tt

  -- another connection with the same session's identifier
  same : (connected connected' : ConnectedClient P) → connected' ≡ connected → connected'.session.subscription ≡ connected.session.subscription
  same connected connected' is = ap (λ (l : ConnectedClient P). l.session.subscription) is

  disconnects_if : (given : Bool) (connected connected' : ConnectedClient P) (seconds : ℕ) (reply : Reply) → DisconnectsIf given connected seconds connected' reply
      → connected'.session.subscription ≡ connected.session.subscription
  disconnects_if true connected connected' seconds reply does = same connected connected' does.0
  disconnects_if false connected connected' seconds reply does = ap (λ (l : ConnectedClient P). l.session.subscription) does.0

  disconnects : (expiry : Option ℕ) (connected connected' : ConnectedClient P) (reply : Reply) → Disconnects connected expiry connected' reply
      → connected'.session.subscription ≡ connected.session.subscription
  disconnects None connected connected' reply does = same connected connected' does.0
  disconnects (Some seconds) connected connected' reply does = disconnects_if _ connected connected' seconds reply does

  -- a SUBSCRIBE closes the connection, or its codes tell
  subscribed : (rights : Rights) (refused : Option ℕ) (old new : S) (connected connected' : ConnectedClient P) (membership : Membership P) (subscription : Option ℕ) (subscribe : Subscribe) (reply : Reply)
      → SubscribesAs call slot_of refused rights old connected.session.membership connected.session.subscription subscribe reply membership subscription new
      → connected' ≡ subscribing connected membership subscription
      → IdentifiesBy (Some subscribe) (option_to_list reply.packet) connected.session.subscription connected'.session.subscription ⊎ (reply.next ≡ Close)
  subscribed rights (Some code) old new connected connected' membership subscription subscribe reply does is = inr (ap (λ (r : Reply). r.next) does.0)
  subscribed rights None old new connected connected' membership subscription subscribe reply does is =
      inl (does.0, [], ap (λ (r : Reply). option_to_list r.packet) does.1, ap (λ (l : ConnectedClient P). l.session.subscription) is ∙ does.3)

  answered : (packet : Packet) (old new : S) (number now : ℕ) (connected connected' : ConnectedClient P) (reply : Reply) → Answers call slot_of old number connected now packet connected' reply new
      → Identifies (inputs.Packet packet) (option_to_list reply.packet) connected.session.subscription connected'.session.subscription ⊎ (reply.next ≡ Close)
  answered (packets.Publish publish) old new number now connected connected' reply answers = inl (same connected connected' answers.1)
  answered (packets.Puback puback) old new number now connected connected' reply answers =
      inl (ap (λ (l : ConnectedClient P). l.session.subscription) answers.2 ∙ ap (λ (s : Session Held P). s.subscription) answers.1.same)
  answered (packets.Subscribe subscribe) old new number now connected connected' reply answers =
      subscribed connected.rights (subscribe_refusal subscribe) old new connected connected' answers.0 answers.1 subscribe reply answers.2 answers.3
  answered (packets.Unsubscribe unsubscribe) old new number now connected connected' reply answers = inl (ap (λ (l : ConnectedClient P). l.session.subscription) answers.2)
  answered packets.Pingreq old new number now connected connected' reply answers = inl (same connected connected' answers.0)
  answered (packets.Disconnect disconnect) old new number now connected connected' reply answers = inl (disconnects disconnect.properties.session_expiry_interval connected connected' reply answers.0)
  answered (packets.Connect connect) old new number now connected connected' reply answers = inl (same connected connected' answers.0)
  answered (packets.Connack connack) old new number now connected connected' reply answers = inl (same connected connected' answers.0)
  answered (packets.Suback suback) old new number now connected connected' reply answers = inl (same connected connected' answers.0)
  answered (packets.Unsuback unsuback) old new number now connected connected' reply answers = inl (same connected connected' answers.0)
  answered packets.Pingresp old new number now connected connected' reply answers = inl (same connected connected' answers.0)
  answered (packets.Foreign kind) old new number now connected connected' reply answers = inl (same connected connected' answers.0)
  answered (packets.OtherVersion version) old new number now connected connected' reply answers = inl (same connected connected' answers.0)
  answered packets.WithWill old new number now connected connected' reply answers = inl (same connected connected' answers.0)

  -- the connection goes on, or is over
  concluded : (IsSo : Option ℕ → Type 0) (next : Then) (old new : S) (connected : ConnectedClient P) (now : ℕ) (phase : ConnPhase P) → Concludes call slot_of old connected now next phase new
      → IsSo connected.session.subscription → InSession IsSo phase
  concluded IsSo Go old new connected now phase concludes is = subst (InSession IsSo) (sym concludes.0) is
  concluded IsSo Close old new connected now phase concludes is = ended IsSo phase concludes.1
  concluded IsSo Kicked old new connected now phase concludes is = ended IsSo phase concludes.1

  answered_packet : (old new : S) (number : ℕ) (connected : ConnectedClient P) (now : ℕ) (packet : Packet) (phase : ConnPhase P) (reply : Reply)
      → AnswersPacket call slot_of old number connected now packet phase reply new
      → InSession (Identifies (inputs.Packet packet) (option_to_list reply.packet) connected.session.subscription) phase
  answered_packet old new number connected now packet phase reply does =
      let IsSo = Identifies (inputs.Packet packet) (option_to_list reply.packet) connected.session.subscription in
      ⊎_elim
      (λ (is : IsSo does.0.session.subscription). concluded IsSo reply.next does.1 new does.0 now phase does.3 is)
      (λ (closes : reply.next ≡ Close). ended IsSo phase (subst (λ (next : Then). Concludes call slot_of does.1 does.0 now next phase new) closes does.3).1)
      (answered packet old does.1 number now (hearing connected now) does.0 reply does.2)

  heard : (IsSo : Option ℕ → Type 0) (silent : Bool) (old new : S) (connected : ConnectedClient P) (now : ℕ) (phase : ConnPhase P) (reply : Reply)
      → IsHeard call slot_of silent old connected now phase reply new → IsSo connected.session.subscription → InSession IsSo phase
  heard IsSo true old new connected now phase reply hears is = ended IsSo phase hears.1.1
  heard IsSo false old new connected now phase reply hears is = subst (InSession IsSo) (sym hears.1) is

  unless_kicked : (IsSo : Option ℕ → Type 0) (kicked : Bool) (old new : S) (connected : ConnectedClient P) (now : ℕ) (Does : ConnPhase P → Reply → S → Type 0) (phase : ConnPhase P) (reply : Reply)
      → AnswersUnlessKicked call slot_of kicked old connected now Does phase reply new → (Does phase reply new → InSession IsSo phase) → InSession IsSo phase
  unless_kicked IsSo true old new connected now Does phase reply does is = ended IsSo phase does.1.1
  unless_kicked IsSo false old new connected now Does phase reply does is = is does

  reacted : (connected : ConnectedClient P) (input : Input) (old new : S) (number now : ℕ) (phase : ConnPhase P) (reply : Reply) → Reacts call slot_of old number (Connected connected) now input phase reply new
      → InSession (Identifies input (option_to_list reply.packet) connected.session.subscription) phase
  reacted connected (inputs.Packet packet) old new number now phase reply reacts =
      unless_kicked _ reacts.0 reacts.1 new connected now _ phase reply reacts.3 (λ does. answered_packet reacts.1 new number connected now packet phase reply does)
  reacted connected (inputs.Fault fault) old new number now phase reply reacts = ended _ phase reacts.1.1
  reacted connected inputs.Tick old new number now phase reply reacts =
      unless_kicked _ reacts.0 reacts.1 new connected now _ phase reply reacts.3
      (λ does. heard (λ (identifier : Option ℕ). identifier ≡ connected.session.subscription) _ does.0 new connected now phase reply does.2 refl)
  reacted connected inputs.EndOfInput old new number now phase reply reacts = ended _ phase reacts.1.1
  reacted connected inputs.Closing old new number now phase reply reacts = ended _ phase reacts.2

  -- nothing that is handed out changes it
  handed : (IsSo : Option ℕ → Type 0) (phase phase' : ConnPhase P) (now : ℕ) (old new : S) (sent : List Packet) → Hands call slot_of old phase now sent phase' new → InSession IsSo phase → InSession IsSo phase'
  handed IsSo (Unconnected opened) phase' now old new sent hands is = subst (InSession IsSo) (sym hands.1) tt
  handed IsSo (Waiting request ticks) phase' now old new sent hands is = subst (InSession IsSo) (sym hands.1) tt
  handed IsSo (Connected connected) phase' now old new sent hands is = subst (InSession IsSo) (sym hands.3) is
  handed IsSo Ended phase' now old new sent hands is = ended IsSo phase' hands.1

  -- what holds of each identifier holds where the session is
  where_it_is : (IsSo Also : Option ℕ → Type 0) (phase : ConnPhase P) → ((identifier : Option ℕ) → IsSo identifier → Also identifier) → InSession IsSo phase → InSession Also phase
  where_it_is IsSo Also (Unconnected opened) so is = tt
  where_it_is IsSo Also (Waiting request ticks) so is = tt
  where_it_is IsSo Also (Connected connected) so is = so connected.session.subscription is
  where_it_is IsSo Also Ended so is = tt

  pub identified : (number now : ℕ) (connected : ConnectedClient P) (phase' : ConnPhase P) (input : Input) (packets : List Packet) (next : Then) (old new : S)
      → Steps call slot_of old number (Connected connected) now input packets next phase' new → InSession (Identifies input packets connected.session.subscription) phase'
  identified number now connected phase' input packets next old new steps =
      let IsSo = Identifies input (option_to_list steps.reply.packet) connected.session.subscription in
      where_it_is IsSo (Identifies input packets connected.session.subscription) phase'
      (λ identifier is. behind (subscribe_in input) (option_to_list steps.reply.packet) steps.sent packets connected.session.subscription identifier steps.written is)
      (handed IsSo steps.between phase' now steps.mid new steps.sent steps.hands (reacted connected input old steps.mid number now steps.between steps.reply steps.reacts))
