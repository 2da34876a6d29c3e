-- A step of the one connection, at the moment 0, is a step of the model.
use Rattle.std.proofs.Common.{◌≡◌, ◌⊎◌, ℕ, Bool, List, ◌++◌, Option, Some, None, refl, sym, ap, ◌∙◌, subst, inl, inr}
use Rattle.std.specs.Option.{option_to_list}
use Rattle.std.proofs.lemmas.List.{append-nil}
use Rattle.mqtt_fields.specs.declared.fault.StreamFault.{StreamFault}
use Rattle.mqtt_packet.specs.declared.packet.ConnectRefusal.{ConnectRefusal}
use Rattle.mqtt_packet.specs.declared.packet.Packet.{Packet}
use Rattle.mqtt_topic.specs.Names.{Share}
use Rattle.conn_rules.specs.declared.connecting.FirstAnswer.{FirstAnswer}
use Rattle.conn_rules.specs.declared.connecting.FirstAnswer.TheVariants as first
use Rattle.conn_rules.specs.Connecting.{first_answer, inflight_alone}
use Rattle.conn_rules.specs.Faults.{fault_refusal}
use Rattle.conn_rules.specs.declared.client_limits.ClientLimits.{ClientLimits}
use Rattle.conn_supply.specs.declared.reply.Then.{Then}
use Rattle.conn_supply.specs.declared.reply.Then.TheVariants.{Go, Close}
use Rattle.conn_supply.specs.declared.reply.Reply.{Reply as ConnReply}
use Rattle.conn_engine.specs.declared.input.Input.{Input}
use Rattle.conn_engine.specs.declared.input.Input.TheVariants as inputs
use Rattle.conn_engine.specs.declared.phase.ConnectedClient.{ConnectedClient}
use Rattle.conn_engine.specs.declared.phase.Opening.{Opening}
use Rattle.conn_engine.specs.declared.phase.ConnPhase.{ConnPhase}
use Rattle.conn_engine.specs.declared.phase.ConnPhase.TheVariants as phases
use Rattle.conn_engine.specs.Connecting.{Attaches}
use Rattle.conn_engine.specs.Ending.{Parts}
use Rattle.conn_engine.specs.Step.{AnswersFirst, AnswersPacket, AnswersUnlessKicked, Concludes, IsRefusedIf, Reacts, Hands, Steps, hearing, after_hand_out, request_of}
use Rattle.local_group.specs.Groups.{Group}
use Rattle.local_broker.specs.Places.{GroupPlace}
use Rattle.local_broker.specs.Broker.{Broker, IsNewBroker}
use Rattle.local_broker.specs.Calls.{Calls}
use Rattle.solo_output.specs.Groups.{SoloState, Phase, opening, with_phase}
use Rattle.solo_output.specs.Groups.Phase.{Connected, Closed}
use Rattle.solo_output.specs.HandOuts.{SoloStep, deliver_in}
use Rattle.solo_output.specs.Publishing.{Reply}
use Rattle.solo_output.specs.Replies.{first_reply, first_reply_as, attach_reply, later_reply, reply_in, behind_reply, solo_step, refused_by, farewell_in, farewell}
use Rattle.solo_output.proofs.Brokers.{FitsBroker}
use Rattle.solo_output.proofs.Sessions.{slot_at, ShowsSession, ShowsClient}
use Rattle.solo_output.proofs.Desks.{not_kicked}
use Rattle.solo_output.proofs.Answers.{Answered, answers}
use Rattle.solo_output.proofs.Delivers.{delivers}
use Rattle.solo_output.proofs.Ends.{ReportsFates, ShowsEnd, parts, ends_idle}
use Rattle.solo_output.proofs.Connects.{attaches, opens}

-- a connection goes on, or has ended, as the model says
abbrev pub Goes : SoloState → ConnPhase GroupPlace → Then → Broker → Type 0
Goes solo phase next b = (connected : ConnectedClient GroupPlace) × (phase ≡ phases.Connected connected) × (next ≡ Go) × ShowsClient solo connected b

abbrev pub IsOver : SoloState → ConnPhase GroupPlace → Then → Broker → Type 0
IsOver solo phase next b = (phase ≡ phases.Ended) × (next ≡ Close) × (solo.phase ≡ Closed) × ShowsEnd solo b

-- a reply of the connection is one of the model
record Reacted (answer : Reply) (phase : ConnPhase GroupPlace) (told : ConnReply) (new : Broker) : Type 0 where
  packet : told.packet ≡ answer.packet
  stands : Goes answer.solo phase told.next new ⊎ IsOver answer.solo phase told.next new

-- a step of the server is one of the model
pub record Stepped (one : SoloStep) (sent : List Packet) (next : Then) (phase : ConnPhase GroupPlace) (new : Broker) : Type 0 where
  pub sent_are : sent ≡ one.sent
  pub stands : Goes one.solo phase next new ⊎ IsOver one.solo phase next new

-- the fault of a stream, or its end, is what comes last
abbrev pub IsLast : Option StreamFault → Input → Type 0
IsLast None (inputs.Packet packet) = ⊥
IsLast None (inputs.Fault fault) = ⊥
IsLast None inputs.Tick = ⊥
IsLast None inputs.EndOfInput = Unit {0}
IsLast None inputs.Closing = ⊥
IsLast (Some fault) input = input ≡ inputs.Fault fault

-- a last step tells what the model does, and the groups have the fates of the model then
pub record Parted (fault : Option StreamFault) (solo : SoloState) (sent : List Packet) (phase : ConnPhase GroupPlace) (new : Broker) : Type 0 where
  pub sent_are : sent ≡ option_to_list (farewell fault solo)
  pub over : phase ≡ phases.Ended
  pub shows : ShowsEnd solo new

-- what is handed out after a reply
module _ (answer : Reply) (between phase : ConnPhase GroupPlace) (told : ConnReply) (mid new : Broker) (sent all : List Packet) (next : Then) (packet : told.packet ≡ answer.packet)
    (hands : Hands Calls slot_at mid between 0 sent phase new) (written : all ≡ option_to_list told.packet ++ sent) (followed : next ≡ told.next) where
  goes_on : Goes answer.solo between told.next mid → Stepped (behind_reply answer) all next phase new
  goes_on (connected, is, go, shows) =
      let does = subst (λ (s : ConnPhase GroupPlace). Hands Calls slot_at mid s 0 sent phase new) is hands in
      let got = delivers answer.solo connected mid shows sent does.0 does.1 new does.2 in
      record {
        sent_are = written ∙ (λ i. option_to_list (packet i) ++ got.sent_are i);
        stands = inl (after_hand_out connected does.0 does.1, does.3, followed ∙ go, got.shows);
      }

  is_over : IsOver answer.solo between told.next mid → Stepped (behind_reply answer) all next phase new
  is_over (over, close, is_closed, shows) =
      let does = subst (λ (s : ConnPhase GroupPlace). Hands Calls slot_at mid s 0 sent phase new) over hands in
      subst (λ (p : Phase). Stepped (record { sent = option_to_list answer.packet ++ (deliver_in p answer.solo).sent; solo = (deliver_in p answer.solo).solo }) all next phase new) (sym is_closed)
      (record {
        sent_are = written ∙ (λ i. option_to_list (packet i) ++ does.0 i);
        stands = inr (does.1, followed ∙ close, is_closed, subst (ShowsEnd answer.solo) (sym does.2) shows);
      })

  stepped : Goes answer.solo between told.next mid ⊎ IsOver answer.solo between told.next mid → Stepped (behind_reply answer) all next phase new
  stepped (inl goes) = goes_on goes
  stepped (inr over) = is_over over

-- a last step sends its answer, if it has one, and nothing else
last_out : (answer : Option Packet) (between phase : ConnPhase GroupPlace) (told : ConnReply) (mid new : Broker) (sent all : List Packet) → between ≡ phases.Ended → told.packet ≡ answer → Hands Calls slot_at mid between 0 sent phase new
    → all ≡ option_to_list told.packet ++ sent → (all ≡ option_to_list answer) × (phase ≡ phases.Ended) × (new ≡ mid)
last_out answer between phase told mid new sent all over is hands written =
    let does = subst (λ (s : ConnPhase GroupPlace). Hands Calls slot_at mid s 0 sent phase new) over hands in
    (written ∙ (λ i. option_to_list (is i) ++ does.0 i) ∙ append-nil (option_to_list answer), does.1, does.2)

refused_if : (refusal : Option ConnectRefusal) (phase : ConnPhase GroupPlace) (told : ConnReply) → IsRefusedIf refusal phase told → (phase ≡ phases.Ended) × (told.packet ≡ refused_by refusal)
refused_if None phase told does = (does.over, ap (λ (t : ConnReply). t.packet) does.told)
refused_if (Some refusal) phase told does = (does.over, ap (λ (t : ConnReply). t.packet) does.told)

-- ---- before the CONNECT
module _ (capacity : ℕ) (opened : Opening) (shares : List Share) (old : Broker) (is_new : IsNewBroker capacity shares old) (fits : FitsBroker capacity shares)
    (alone : opened.limits ≡ inflight_alone opened.limits.max_inflight) where
  ended : ShowsEnd (opening capacity opened.limits.max_inflight shares) old
  ended = ends_idle (opening capacity opened.limits.max_inflight shares) old (opens capacity opened.limits.max_inflight shares old fits is_new)

  closed_first : (answer : Option Packet) (phase : ConnPhase GroupPlace) (told : ConnReply) (new : Broker) → phase ≡ phases.Ended → told ≡ record { packet = answer; next = Close } → new ≡ old
      → Reacted (record { packet = answer; solo = with_phase Closed (opening capacity opened.limits.max_inflight shares) }) phase told new
  closed_first answer phase told new over is same =
      record {
        packet = ap (λ (t : ConnReply). t.packet) is;
        stands = inr (over, ap (λ (t : ConnReply). t.next) is, refl, subst (ShowsEnd (with_phase Closed (opening capacity opened.limits.max_inflight shares))) (sym same) (record { routes = ended.routes; told = λ slot group there. told_in slot group (ended.told slot group there) }));
      }
    where
      told_in : (slot : ℕ) (group : Group) → ReportsFates slot (opening capacity opened.limits.max_inflight shares) group → ReportsFates slot (with_phase Closed (opening capacity opened.limits.max_inflight shares)) group
      told_in slot group is_told = record { entries = is_told.entries; returned = is_told.returned; ends = is_told.ends; fates = is_told.fates }

  first_packet : (answer : FirstAnswer) (packet : Packet) (phase : ConnPhase GroupPlace) (told : ConnReply) (new : Broker) → AnswersFirst Calls slot_at answer old 0 opened.limits 0 packet phase told new
      → Reacted (first_reply_as answer packet (opening capacity opened.limits.max_inflight shares)) phase told new
  first_packet first.Close packet phase told new does = closed_first None phase told new does.0.over does.0.told does.1
  first_packet (first.Refuse refusal) packet phase told new does = closed_first _ phase told new does.0.over does.0.told does.1
  first_packet first.Attach packet phase told new (connect, is, does) =
      let asks = subst (λ (limits : ClientLimits). Attaches Calls old 0 0 (request_of limits connect 0) 0 phase told new) alone does in
      let b = attaches connect capacity opened.limits.max_inflight shares 0 phase told old new is_new fits asks in
      subst (λ (p : Packet). Reacted (attach_reply p (opening capacity opened.limits.max_inflight shares)) phase told new) (sym is)
      (record { packet = ap (λ (t : ConnReply). t.packet) b.told; stands = inl (b.connected, b.stands, ap (λ (t : ConnReply). t.next) b.told, b.shows) })

  pub first_step : (packet : Packet) (all : List Packet) (next : Then) (phase : ConnPhase GroupPlace) (new : Broker)
      → Steps Calls slot_at old 0 (phases.Unconnected opened) 0 (inputs.Packet packet) all next phase new → Stepped (solo_step packet (opening capacity opened.limits.max_inflight shares)) all next phase new
  first_step packet all next phase new does =
      let reacts = subst (λ (limits : ClientLimits). AnswersFirst Calls slot_at (first_answer limits.users packet) old 0 opened.limits 0 packet does.between does.reply does.mid) alone does.reacts in
      let got = first_packet (first_answer None packet) packet does.between does.reply does.mid reacts in
      stepped (first_reply packet (opening capacity opened.limits.max_inflight shares)) does.between phase does.reply does.mid new does.sent all next got.packet does.hands does.written does.followed got.stands

  -- the last step of a client that never connected
  pub first_last : (fault : Option StreamFault) (input : Input) (all : List Packet) (next : Then) (phase : ConnPhase GroupPlace) (new : Broker) → IsLast fault input
      → Steps Calls slot_at old 0 (phases.Unconnected opened) 0 input all next phase new → Parted fault (opening capacity opened.limits.max_inflight shares) all phase new
  first_last None inputs.EndOfInput all next phase new is does =
      let out = last_out None does.between phase does.reply does.mid new does.sent all does.reacts.0.over (ap (λ (t : ConnReply). t.packet) does.reacts.0.told) does.hands does.written in
      record { sent_are = out.0; over = out.1; shows = subst (ShowsEnd (opening capacity opened.limits.max_inflight shares)) (sym (out.2 ∙ does.reacts.1)) ended }
  first_last None (inputs.Packet packet) all next phase new is does = absurd is
  first_last None (inputs.Fault fault) all next phase new is does = absurd is
  first_last None inputs.Tick all next phase new is does = absurd is
  first_last None inputs.Closing all next phase new is does = absurd is
  first_last (Some fault) input all next phase new is does =
      let its = subst (λ (i : Input). Steps Calls slot_at old 0 (phases.Unconnected opened) 0 i all next phase new) is does in
      let refused = refused_if (fault_refusal fault) its.between its.reply its.reacts.0 in
      let out = last_out (refused_by (fault_refusal fault)) its.between phase its.reply its.mid new its.sent all refused.0 refused.1 its.hands its.written in
      record { sent_are = out.0; over = out.1; shows = subst (ShowsEnd (opening capacity opened.limits.max_inflight shares)) (sym (out.2 ∙ its.reacts.1)) ended }

-- ---- a client that has its session
module _ (solo : SoloState) (connected : ConnectedClient GroupPlace) (old : Broker) (shows : ShowsClient solo connected old) where
  concludes : (answer : Reply) (after : ConnectedClient GroupPlace) (told : ConnReply) (phase : ConnPhase GroupPlace) (mid new : Broker) → Answered answer after told mid → Concludes Calls slot_at mid after 0 told.next phase new → Reacted answer phase told new
  concludes answer after told phase mid new answered does = record { packet = answered.told; stands = either answered.stands }
    where
      either : ((told.next ≡ Go) × ShowsClient answer.solo after mid) ⊎ ((told.next ≡ Close) × (answer.solo.phase ≡ Closed) × ShowsSession answer.solo after.session mid)
          → Goes answer.solo phase told.next new ⊎ IsOver answer.solo phase told.next new
      either (inl (go, shown)) =
          let its = subst (λ (t : Then). Concludes Calls slot_at mid after 0 t phase new) go does in
          inl (after, its.0, go, subst (ShowsClient answer.solo after) (sym its.1) shown)
      either (inr (close, is_closed, shown)) =
          let its = subst (λ (t : Then). Concludes Calls slot_at mid after 0 t phase new) close does in
          inr (its.1, close, is_closed, parts answer.solo after.session mid new 0 shown its.0)

  later_packet : (packet : Packet) (phase : ConnPhase GroupPlace) (told : ConnReply) (new : Broker) → Reacts Calls slot_at old 0 (phases.Connected connected) 0 (inputs.Packet packet) phase told new
      → Reacted (later_reply packet solo) phase told new
  later_packet packet phase told new (kicked, mid, asked, does) =
      let not = not_kicked kicked old mid shows.session.desk.not_kicked asked in
      let same : mid ≡ old = λ i. record { desk = not.1 i; routes = not.2 i; groups = not.3 i } in
      let its = subst (λ (b : Bool). AnswersUnlessKicked Calls slot_at b mid connected 0 (AnswersPacket Calls slot_at mid 0 connected 0 packet) phase told new) not.0 does in
      let heard = hearing connected 0 in
      let shown : ShowsClient solo heard mid = subst (ShowsClient solo heard) (sym same) (record { session = shows.session; terms = shows.terms; rights = shows.rights; phase = shows.phase }) in
      let answered = answers solo heard mid shown packet its.0 told its.1 its.2 in
      concludes (later_reply packet solo) its.0 told phase its.1 new answered its.3

  pub later_step : (packet : Packet) (all : List Packet) (next : Then) (phase : ConnPhase GroupPlace) (new : Broker)
      → Steps Calls slot_at old 0 (phases.Connected connected) 0 (inputs.Packet packet) all next phase new → Stepped (solo_step packet solo) all next phase new
  later_step packet all next phase new does =
      let got = later_packet packet does.between does.reply does.mid does.reacts in
      subst (λ (p : Phase). Stepped (behind_reply (reply_in p packet solo)) all next phase new) (sym shows.phase)
      (stepped (later_reply packet solo) does.between phase does.reply does.mid new does.sent all next got.packet does.hands does.written does.followed got.stands)

  -- the session parts with its connection
  parted : (fault : Option StreamFault) (answer : Option Packet) (between phase : ConnPhase GroupPlace) (told : ConnReply) (mid new : Broker) (sent all : List Packet) → farewell_in Connected fault ≡ answer → told ≡ record { packet = answer; next = Close }
      → Parts Calls old connected.session 0 mid × (between ≡ phases.Ended) → Hands Calls slot_at mid between 0 sent phase new → all ≡ option_to_list told.packet ++ sent → Parted fault solo all phase new
  parted fault answer between phase told mid new sent all is_answer is does hands written =
      let out = last_out answer between phase told mid new sent all does.1 (ap (λ (t : ConnReply). t.packet) is) hands written in
      record {
        sent_are = out.0 ∙ ap option_to_list (sym is_answer ∙ ap (λ (p : Phase). farewell_in p fault) (sym shows.phase));
        over = out.1;
        shows = subst (ShowsEnd solo) (sym out.2) (parts solo connected.session old mid 0 shows.session does.0);
      }

  pub later_last : (fault : Option StreamFault) (input : Input) (all : List Packet) (next : Then) (phase : ConnPhase GroupPlace) (new : Broker) → IsLast fault input
      → Steps Calls slot_at old 0 (phases.Connected connected) 0 input all next phase new → Parted fault solo all phase new
  later_last None inputs.EndOfInput all next phase new is does =
      parted None None does.between phase does.reply does.mid new does.sent all refl does.reacts.0 does.reacts.1 does.hands does.written
  later_last None (inputs.Packet packet) all next phase new is does = absurd is
  later_last None (inputs.Fault fault) all next phase new is does = absurd is
  later_last None inputs.Tick all next phase new is does = absurd is
  later_last None inputs.Closing all next phase new is does = absurd is
  later_last (Some fault) input all next phase new is does =
      let its = subst (λ (i : Input). Steps Calls slot_at old 0 (phases.Connected connected) 0 i all next phase new) is does in
      parted (Some fault) _ its.between phase its.reply its.mid new its.sent all refl its.reacts.0 its.reacts.1 its.hands its.written
