-- The run of a server on which the stream of one client comes in pieces is the model of what the stream reads as.
use Rattle.std.proofs.Common.{◌≡◌, ◌⊎◌, ℕ, zero, suc, ◌<◌, max, Bool, true, false, not, List, [], ◌∷◌, ◌++◌, replicate, get_or, slice_get, Option, Some, None, Ok, refl, sym, ap, ◌∙◌, subst, ⊎_elim, inl, inr, arith}
use Rattle.std.specs.List.{flat_map}
use Rattle.std.specs.Option.{option_to_list}
use Rattle.std.proofs.lemmas.Bool.{not_from_false}
use Rattle.std.proofs.lemmas.List.{append_assoc, append-nil}
use Rattle.std.proofs.lemmas.List.Concat.{flat_map-append}
use Rattle.std.proofs.lemmas.List.Sums.{list_all-from_AllPass}
use Rattle.std.proofs.lemmas.Option.{slice_get_within, slice_get-get_or, same_Some}
use Rattle.dispatch_core.proofs.Spots.{slice_get-set_same}
use Rattle.mqtt_fields.specs.declared.fault.StreamFault.{StreamFault}
use Rattle.mqtt_packet.specs.declared.packet.Packet.{Packet}
use Rattle.mqtt_wire.specs.Spelling.{Spells}
use Rattle.mqtt_fields.specs.Forms.{AreBytes}
use Rattle.mqtt_wire.specs.Stream.{Unread, Takes, IsOpen, FaultAt, Reads as ReadsAs, header_at}
use Rattle.mqtt_wire.proofs.NextLaws.{front_bytes, back_bytes}
use Rattle.mqtt_wire.proofs.StreamLaws.{exists_reading}
use Rattle.mqtt_wire.proofs.PieceLaws.{faulty_stays}
use Rattle.mqtt_topic.specs.Names.{Share}
use Rattle.group_jobs.specs.Stamps.{Held}
use Rattle.conn_rules.specs.Connecting.{inflight_alone}
use Rattle.conn_supply.specs.declared.reply.Then.{Then}
use Rattle.conn_supply.specs.declared.reply.Then.TheVariants.{Go, Close}
use Rattle.conn_engine.specs.declared.input.Input.{Input}
use Rattle.conn_engine.specs.declared.input.Input.TheVariants as inputs
use Rattle.conn_engine.specs.declared.phase.ConnectedClient.{ConnectedClient}
use Rattle.conn_engine.specs.declared.phase.Opening.{Opening}
use Rattle.conn_engine.specs.declared.phase.ConnPhase.{ConnPhase}
use Rattle.conn_engine.specs.declared.phase.ConnPhase.TheVariants as phases
use Rattle.conn_engine.specs.Phases.{IsWaiting}
use Rattle.conn_engine.specs.Step.{Steps}
use Rattle.client_table.specs.Clients.{ClientState, moment_of, StepOutput, ClientSteps, arrived}
use Rattle.client_table.specs.Cells.{kept, kept_as, InCell}
use Rattle.client_table.specs.Streams.{longer, fed, IsInFront, Closes, Reads}
use Rattle.local_group.specs.Groups.{Group}
use Rattle.local_broker.specs.Places.{GroupPlace}
use Rattle.local_broker.specs.Broker.{Broker, IsNewBroker, is_open}
use Rattle.local_broker.specs.Calls.{Calls}
use Rattle.local_server.specs.Servers.{ServerState, Clients}
use Rattle.local_server.specs.declared.event.ServerEvent.TheVariants.{Open, Bytes, End}
use Rattle.local_server.specs.Happening.{DoesIf, HappensAll}
use Rattle.drive.specs.Streams.{at_once}
use Rattle.solo_output.specs.Groups.{SoloState, Phase, opening}
use Rattle.solo_output.specs.Groups.Phase.{Closed}
use Rattle.solo_output.specs.HandOuts.{SoloStep, sends_nothing, sent_before, deliver_in}
use Rattle.solo_output.specs.Replies.{reply_in, behind_reply, solo_step, solo_steps, farewell, farewell_in}
use Rattle.solo_output.proofs.Brokers.{FitsBroker, ShowsBroker}
use Rattle.solo_output.proofs.Sessions.{slot_at, ShowsClient}
use Rattle.solo_output.proofs.Ends.{ShowsEnd}
use Rattle.solo_output.proofs.Connects.{opens}
use Rattle.solo_output.proofs.SoloSteps.{Goes, IsOver, IsLast, Stepped, Parted, first_step, first_last, later_step, later_last}
use Rattle.solo_output.proofs.Streams.{all_pieces, whole}

-- what was sent in a run
abbrev pub sent_in : List StepOutput → List Packet
sent_in outputs = flat_map (λ one. one.packets) outputs

-- ---- how the model begins and ends

-- the connection has not begun, or goes on with its session
abbrev pub Shown : ℕ → List Share → SoloState → ConnPhase GroupPlace → Broker → Type 0
Shown capacity shares solo phase b =
    ((opened : Opening) × (phase ≡ phases.Unconnected opened) × (solo ≡ opening capacity opened.limits.max_inflight shares) × IsNewBroker capacity shares b
    × (opened.limits ≡ inflight_alone opened.limits.max_inflight))
    ⊎ ((connected : ConnectedClient GroupPlace) × (phase ≡ phases.Connected connected) × ShowsClient solo connected b)

-- what is sent from a model on is that of the packets and the fault that a stream reads as, and the groups have the fates of the model then
pub record Concluded (solo : SoloState) (stream : List ℕ) (sent : List Packet) (last : Broker) : Type 0 where
  pub packets : List Packet
  pub rest : List ℕ
  pub fault : Option StreamFault
  pub reads : ReadsAs stream packets rest fault
  pub sent_are : sent ≡ (solo_steps packets solo).sent ++ option_to_list (farewell fault (solo_steps packets solo).solo)
  pub shows : ShowsEnd (solo_steps packets solo).solo last

-- after the end nothing is answered
step_closed : (packet : Packet) (solo : SoloState) → solo.phase ≡ Closed → solo_step packet solo ≡ sends_nothing solo
step_closed packet solo closed =
    ap (λ (p : Phase). behind_reply (reply_in p packet solo)) closed ∙ ap (λ (p : Phase). record { sent = [] ++ (deliver_in p solo).sent; solo = (deliver_in p solo).solo }) closed

steps_closed : (packets : List Packet) (solo : SoloState) → solo.phase ≡ Closed → solo_steps packets solo ≡ sends_nothing solo
steps_closed [] solo closed = refl
steps_closed (packet ∷ packets) solo closed =
    ap (λ (t : SoloStep). sent_before t.sent (solo_steps packets t.solo)) (step_closed packet solo closed) ∙ ap (sent_before []) (steps_closed packets solo closed)

farewell_closed : (fault : Option StreamFault) → farewell_in Closed fault ≡ None
farewell_closed None = refl
farewell_closed (Some fault) = refl

-- the connection was closed: whatever comes is not answered
over : (solo : SoloState) (stream : List ℕ) (last : Broker) → solo.phase ≡ Closed → AreBytes stream → ShowsEnd solo last → Concluded solo stream [] last
over solo stream last closed bytes shows =
    let read = exists_reading stream bytes in
    let nothing = steps_closed read.0 solo closed in
    record {
      packets = read.0;
      rest = read.1;
      fault = read.2;
      reads = read.3;
      sent_are = sym (ap (λ (t : SoloStep). t.sent ++ option_to_list (farewell read.2 t.solo)) nothing ∙ ap option_to_list (ap (λ (p : Phase). farewell_in p read.2) closed ∙ farewell_closed read.2));
      shows = subst (λ (t : SoloStep). ShowsEnd t.solo last) (sym nothing) shows;
    }

-- the last answer
last_one : (solo : SoloState) (stream : List ℕ) (fault : Option StreamFault) (sent : List Packet) (phase : ConnPhase GroupPlace) (last : Broker) → ReadsAs stream [] stream fault → Parted fault solo sent phase last → Concluded solo stream sent last
last_one solo stream fault sent phase last reads parted = record { packets = []; rest = stream; fault = fault; reads = reads; sent_are = parted.sent_are; shows = parted.shows }

-- a packet in front
one_more : (solo : SoloState) (packet : Packet) (front after stream : List ℕ) (first later : List Packet) (last : Broker) → Spells packet front → stream ≡ front ++ after → first ≡ (solo_step packet solo).sent
    → Concluded (solo_step packet solo).solo after later last → Concluded solo stream (first ++ later) last
one_more solo packet front after stream first later last spelled parts is rest =
    record {
      packets = packet ∷ rest.packets;
      rest = rest.rest;
      fault = rest.fault;
      reads = ((front, after, spelled, parts, rest.reads.0), rest.reads.1);
      sent_are =
          (λ i. is i ++ rest.sent_are i)
          ∙ sym (append_assoc (solo_step packet solo).sent (solo_steps rest.packets (solo_step packet solo).solo).sent (option_to_list (farewell rest.fault (solo_steps rest.packets (solo_step packet solo).solo).solo)));
      shows = rest.shows;
    }

-- all happens at the moment 0: so does each step
now_at_once : (client : ClientState GroupPlace) → client.conn.latest ≡ 0 → moment_of client 0 ≡ 0
now_at_once client latest = ap (λ (n : ℕ). max n 0) latest

step_at_once : (client client' : ClientState GroupPlace) (old new : Broker) (input : Input) (output : StepOutput) → client.conn.number ≡ 0 → client.conn.latest ≡ 0
    → ClientSteps Calls slot_at old client 0 input output client' new → Steps Calls slot_at old 0 client.conn.phase 0 input output.packets output.next client'.conn.phase new
step_at_once client client' old new input output number latest moved =
    subst (λ (m : ℕ). Steps Calls slot_at old 0 client.conn.phase m input output.packets output.next client'.conn.phase new) (now_at_once client latest)
    (subst (λ (n : ℕ). Steps Calls slot_at old n client.conn.phase (moment_of client 0) input output.packets output.next client'.conn.phase new) number moved.stepped)

-- and so does each event
clock_at_once : (old new : ServerState) → old.clock ≡ 0 → new.clock ≡ max old.clock 0 → new.clock ≡ 0
clock_at_once old new clock is = is ∙ ap (λ (n : ℕ). max n 0) clock

module _ (capacity : ℕ) (shares : List Share) (fits : FitsBroker capacity shares) where
  -- ---- a step
  stepped : (solo : SoloState) (phase : ConnPhase GroupPlace) (old : Broker) (packet : Packet) (all : List Packet) (next : Then) (phase' : ConnPhase GroupPlace) (new : Broker) → Shown capacity shares solo phase old
      → Steps Calls slot_at old 0 phase 0 (inputs.Packet packet) all next phase' new → Stepped (solo_step packet solo) all next phase' new
  stepped solo phase old packet all next phase' new (inl (opened, is, begins, is_new, alone)) does =
      subst (λ (s : SoloState). Stepped (solo_step packet s) all next phase' new) (sym begins)
      (first_step capacity opened shares old is_new fits alone packet all next phase' new (subst (λ (s : ConnPhase GroupPlace). Steps Calls slot_at old 0 s 0 (inputs.Packet packet) all next phase' new) is does))
  stepped solo phase old packet all next phase' new (inr (connected, is, shows)) does =
      later_step solo connected old shows packet all next phase' new (subst (λ (s : ConnPhase GroupPlace). Steps Calls slot_at old 0 s 0 (inputs.Packet packet) all next phase' new) is does)

  parted : (solo : SoloState) (phase : ConnPhase GroupPlace) (old : Broker) (fault : Option StreamFault) (input : Input) (all : List Packet) (next : Then) (phase' : ConnPhase GroupPlace) (new : Broker) → Shown capacity shares solo phase old
      → IsLast fault input → Steps Calls slot_at old 0 phase 0 input all next phase' new → Parted fault solo all phase' new
  parted solo phase old fault input all next phase' new (inl (opened, is, begins, is_new, alone)) ends does =
      subst (λ (s : SoloState). Parted fault s all phase' new) (sym begins)
      (first_last capacity opened shares old is_new fits alone fault input all next phase' new ends (subst (λ (s : ConnPhase GroupPlace). Steps Calls slot_at old 0 s 0 input all next phase' new) is does))
  parted solo phase old fault input all next phase' new (inr (connected, is, shows)) ends does =
      later_last solo connected old shows fault input all next phase' new ends (subst (λ (s : ConnPhase GroupPlace). Steps Calls slot_at old 0 s 0 input all next phase' new) is does)

  not_waiting : (solo : SoloState) (phase : ConnPhase GroupPlace) (b : Broker) → Shown capacity shares solo phase b → IsWaiting phase → ⊥
  not_waiting solo phase b (inl (opened, is, begins, is_new, alone)) waits = absurd (subst IsWaiting is waits)
  not_waiting solo phase b (inr (connected, is, shows)) waits = absurd (subst IsWaiting is waits)

  -- ---- all that is whole is read
  not_go : (next : Then) → next ≡ Go → next ≡ Close → ⊥
  not_go next go close = let e = sym go ∙ close in absurd (cc)

  in_front : (client client' : ClientState GroupPlace) (packet : Packet) (more : List ℕ) (taken : Takes client.unread packet client'.unread) → client.unread.bytes ++ more ≡ taken.front ++ (client'.unread.bytes ++ more)
  in_front client client' packet more taken = ap (λ (l : List ℕ). l ++ more) taken.parts ∙ append_assoc taken.front client'.unread.bytes more

  left_bytes : (client client' : ClientState GroupPlace) (packet : Packet) (more : List ℕ) → Takes client.unread packet client'.unread → AreBytes (client.unread.bytes ++ more) → AreBytes (client'.unread.bytes ++ more)
  left_bytes client client' packet more taken bytes = back_bytes taken.front (client'.unread.bytes ++ more) (subst AreBytes (in_front client client' packet more taken) bytes)

  -- nothing comes after the last step
  alone : (output : StepOutput) (rest : List StepOutput) (later : List Packet) → rest ≡ [] → later ≡ [] → sent_in (output ∷ rest) ++ later ≡ output.packets
  alone output rest later none nothing = (λ i. (output.packets ++ sent_in (none i)) ++ nothing i) ∙ append-nil (output.packets ++ []) ∙ append-nil output.packets

  closes_by : (input : Input) (solo : SoloState) (client client' : ClientState GroupPlace) (old new : Broker) (output : StepOutput) (more : List ℕ) (after : List Packet) (last : Broker)
      → client.conn.number ≡ 0 → client.conn.latest ≡ 0 → client.unread.fault ≡ None → AreBytes (client.unread.bytes ++ more) → Shown capacity shares solo client.conn.phase old
      → IsInFront client.unread input client'.unread → Closes input output.next → ClientSteps Calls slot_at old client 0 input output client' new → (client'.conn.phase ≡ phases.Ended → (after ≡ []) × (last ≡ new))
      → (after ≡ []) × Concluded solo (client.unread.bytes ++ more) output.packets last
  closes_by (inputs.Packet packet) solo client client' old new output more after last number latest sound bytes shown taken closes moved ended =
      let steps = step_at_once client client' old new (inputs.Packet packet) output number latest moved in
      let step = stepped solo client.conn.phase old packet output.packets output.next client'.conn.phase new shown steps in
      ⊎_elim
      (λ (goes : Goes (solo_step packet solo).solo client'.conn.phase output.next new). absurd (closes goes.2))
      (λ (is_over : IsOver (solo_step packet solo).solo client'.conn.phase output.next new).
      let out = ended is_over.0 in
      let rest = over (solo_step packet solo).solo (client'.unread.bytes ++ more) last is_over.2 (left_bytes client client' packet more taken bytes) (subst (ShowsEnd (solo_step packet solo).solo) (sym out.1) is_over.3) in (
        out.0,
        subst (λ (l : List Packet). Concluded solo (client.unread.bytes ++ more) l last) (append-nil output.packets)
            (one_more solo packet taken.front (client'.unread.bytes ++ more) (client.unread.bytes ++ more) output.packets [] last taken.spelled (in_front client client' packet more taken) step.sent_are rest),
      ))
      step.stands
  closes_by (inputs.Fault fault) solo client client' old new output more after last number latest sound bytes shown stops closes moved ended =
      let steps = step_at_once client client' old new (inputs.Fault fault) output number latest moved in
      let part = parted solo client.conn.phase old (Some fault) (inputs.Fault fault) output.packets output.next client'.conn.phase new shown refl steps in
      let out = ended part.over in
      let at : FaultAt fault client.unread.bytes =
      ⊎_elim
      (λ (before : client.unread.fault ≡ Some fault). let e = sym sound ∙ before in absurd (cc))
      (λ (here : (client.unread.fault ≡ None) × FaultAt fault client.unread.bytes). here.1)
      stops.1 in
      let reads = faulty_stays client.unread.bytes more [] client.unread.bytes fault (front_bytes client.unread.bytes more bytes) (refl, at) in
      (out.0, last_one solo (client.unread.bytes ++ more) (Some fault) output.packets client'.conn.phase last reads (subst (Parted (Some fault) solo output.packets client'.conn.phase) (sym out.1) part))
  closes_by inputs.Tick solo client client' old new output more after last number latest sound bytes shown front closes moved ended = absurd front
  closes_by inputs.EndOfInput solo client client' old new output more after last number latest sound bytes shown front closes moved ended = absurd front
  closes_by inputs.Closing solo client client' old new output more after last number latest sound bytes shown front closes moved ended = absurd front

  pub reads : (outputs : List StepOutput) (solo : SoloState) (client client' : ClientState GroupPlace) (old new : Broker) (more : List ℕ) (later : List Packet) (last : Broker)
      → client.conn.number ≡ 0 → client.conn.latest ≡ 0 → client.unread.fault ≡ None → AreBytes (client.unread.bytes ++ more) → Shown capacity shares solo client.conn.phase old
      → Reads Calls slot_at old client 0 outputs client' new
      → ((s : SoloState) → client'.conn.number ≡ 0 → client'.conn.latest ≡ 0 → client'.unread.fault ≡ None → IsOpen client'.unread.bytes → AreBytes (client'.unread.bytes ++ more) → Shown capacity shares s client'.conn.phase new
      → Concluded s (client'.unread.bytes ++ more) later last)
      → (client'.conn.phase ≡ phases.Ended → (later ≡ []) × (last ≡ new))
      → Concluded solo (client.unread.bytes ++ more) (sent_in outputs ++ later) last
  reads [] solo client client' old new more later last number latest sound bytes shown (inl waits, same, still) goes ended = absurd (not_waiting solo client.conn.phase old shown waits)
  reads [] solo client client' old new more later last number latest sound bytes shown (inr (none, open_), same, still) goes ended =
      subst (λ (c : ClientState GroupPlace). Concluded solo (c.unread.bytes ++ more) later last) same
      (goes solo (ap (λ (c : ClientState GroupPlace). c.conn.number) same ∙ number) (ap (λ (c : ClientState GroupPlace). c.conn.latest) same ∙ latest)
      (ap (λ (c : ClientState GroupPlace). c.unread.fault) same ∙ sound)
      (subst (λ (c : ClientState GroupPlace). IsOpen c.unread.bytes) (sym same) open_) (subst (λ (c : ClientState GroupPlace). AreBytes (c.unread.bytes ++ more)) (sym same) bytes)
      (subst (λ (c : ClientState GroupPlace). Shown capacity shares solo c.conn.phase new) (sym same) (subst (Shown capacity shares solo client.conn.phase) (sym still) shown)))
  reads (outputs ∷ rest) solo client client' old new more later last number latest sound bytes shown (inl (does, none)) goes ended =
      let got = closes_by does.input solo client client' old new outputs more later last number latest sound bytes shown does.front does.closes does.moved ended in
      subst (λ (l : List Packet). Concluded solo (client.unread.bytes ++ more) l last) (sym (alone outputs rest later none got.0)) got.1
  reads (outputs ∷ rest) solo client client' old new more later last number latest sound bytes shown (inr (between, mid, does, behind)) goes ended =
      let packet = does.packet in
      let steps = step_at_once client between old mid (inputs.Packet packet) outputs number latest does.moved in
      let step = stepped solo client.conn.phase old packet outputs.packets outputs.next between.conn.phase mid shown steps in
      let left = does.taken.front in
      ⊎_elim
      (λ (goes_on : Goes (solo_step packet solo).solo between.conn.phase outputs.next mid).
      let connected = goes_on.0 in
      let rest_of =
      reads rest (solo_step packet solo).solo between client' mid new more later last (does.moved.same ∙ number) (does.moved.latest ∙ now_at_once client latest) does.taken.goes_on (left_bytes client between packet more does.taken bytes)
      (inr (connected, goes_on.1, goes_on.3)) behind goes ended in
      subst (λ (l : List Packet). Concluded solo (client.unread.bytes ++ more) l last) (sym (append_assoc outputs.packets (sent_in rest) later))
      (one_more solo packet left (between.unread.bytes ++ more) (client.unread.bytes ++ more) outputs.packets (sent_in rest ++ later) last does.taken.spelled (in_front client between packet more does.taken) step.sent_are rest_of))
      (λ (is_over : IsOver (solo_step packet solo).solo between.conn.phase outputs.next mid). absurd (not_go outputs.next does.goes is_over.1))
      step.stands

-- ---- a server on which nothing happens any more

abbrev pub HasCell : Option (ClientState GroupPlace) → ServerState → Type 0
HasCell cell server = slice_get server.clients 0 ≡ Some cell

in_cell : (old new : Clients) (Becomes : Option (ClientState GroupPlace) → Option (ClientState GroupPlace) → Type 0) (cell : Option (ClientState GroupPlace)) → slice_get old 0 ≡ Some cell → InCell old 0 Becomes new
    → (after : Option (ClientState GroupPlace)) × Becomes cell after × (slice_get new 0 ≡ Some after)
in_cell old new Becomes cell there does =
    let same : does.before ≡ cell = same_Some does.before cell (sym does.has ∙ there) in (
      does.after,
      subst (λ (c : Option (ClientState GroupPlace)). Becomes c does.after) same does.becomes,
      ap (λ (l : Clients). slice_get l 0) does.is ∙ slice_get-set_same old 0 does.after (slice_get_within old 0 does.before does.has),
    )

-- what nothing makes of a server
abbrev Stays : ServerState → List StepOutput → ServerState → Type 0
Stays old outputs new = (outputs ≡ []) × HasCell None new × (new.broker ≡ old.broker)

idle_piece : (b : Bool) (piece : List ℕ) (old new : ServerState) (outputs : List StepOutput) → HasCell None old → DoesIf b (Bytes 0 piece) old.max_inflight old.broker old.clients new.clock outputs (Ok tt) new.clients new.broker → Stays old outputs new
idle_piece true piece old new outputs cell does =
    let got = in_cell old.clients new.clients _ None cell does in
    (got.1.0, got.2 ∙ ap (λ (c : Option (ClientState GroupPlace)). Some c) got.1.1, got.1.2)
idle_piece false piece old new outputs cell does = (does.0, ap (λ (l : Clients). slice_get l 0) does.2 ∙ cell, does.3)

idle_end : (b : Bool) (old new : ServerState) (outputs : List StepOutput) → HasCell None old → DoesIf b (End 0) old.max_inflight old.broker old.clients new.clock outputs (Ok tt) new.clients new.broker → Stays old outputs new
idle_end true old new outputs cell does =
    let got = in_cell old.clients new.clients _ None cell does in
    (got.1.0, got.2 ∙ ap (λ (c : Option (ClientState GroupPlace)). Some c) got.1.1, got.1.2)
idle_end false old new outputs cell does = (does.0, ap (λ (l : Clients). slice_get l 0) does.2 ∙ cell, does.3)

idle : (pieces : List (List ℕ)) (old last : ServerState) (outputs : List StepOutput) → HasCell None old → HappensAll old (all_pieces pieces) outputs last → (sent_in outputs ≡ []) × (last.broker ≡ old.broker)
idle [] old last outputs cell (mid, now, later, happens, (none, same), all) =
    let one = idle_end (is_open old.broker) old mid now cell happens.does in
    (ap sent_in (all ∙ (λ i. one.0 i ++ none i)), ap (λ (s : ServerState). s.broker) same ∙ one.2)
idle (piece ∷ pieces) old last outputs cell (mid, now, later, happens, others, all) =
    let one = idle_piece (is_open old.broker) piece old mid now cell happens.does in
    let rest = idle pieces mid last later one.1 others in
    (ap sent_in (all ∙ ap (λ (l : List StepOutput). l ++ later) one.0) ∙ rest.0, rest.1 ∙ one.2)

-- ---- the pieces of a stream

-- no group is closed
open_is : (solo : SoloState) (entries : List (ℕ × Held)) (b : Broker) → ShowsBroker solo entries b → is_open b ≡ true
open_is solo entries b shows =
    list_all-from_AllPass (λ (group : Group). not group.state.closed) b.groups
    (λ at d less.
    (let group = get_or b.groups at d in
    not_from_false group.state.closed (shows.groups at group (slice_get-get_or b.groups at d less)).goes_on))

module _ (capacity : ℕ) (shares : List Share) (fits : FitsBroker capacity shares) where
  shown_open : (solo : SoloState) (phase : ConnPhase GroupPlace) (b : Broker) → Shown capacity shares solo phase b → is_open b ≡ true
  shown_open solo phase b (inl (opened, is, begins, is_new, alone)) = open_is (opening capacity opened.limits.max_inflight shares) [] b (opens capacity opened.limits.max_inflight shares b fits is_new)
  shown_open solo phase b (inr (connected, is, shows)) = open_is solo connected.session.window.owed b shows.session.broker

  -- a client that goes on is kept
  kept_shown : (solo : SoloState) (client : ClientState GroupPlace) (b : Broker) → Shown capacity shares solo client.conn.phase b → kept client ≡ Some client
  kept_shown solo client b (inl (opened, is, begins, is_new, alone)) = ap (λ (s : ConnPhase GroupPlace). kept_as s client) is
  kept_shown solo client b (inr (connected, is, shows)) = ap (λ (s : ConnPhase GroupPlace). kept_as s client) is

  kept_ended : (client : ClientState GroupPlace) → client.conn.phase ≡ phases.Ended → kept client ≡ None
  kept_ended client is = ap (λ (s : ConnPhase GroupPlace). kept_as s client) is

  fed_is : (client : ClientState GroupPlace) (piece : List ℕ) → client.unread.fault ≡ None → (fed client piece).unread ≡ record { bytes = client.unread.bytes ++ piece; fault = None }
  fed_is client piece sound = ap (λ (f : Option StreamFault). longer f client.unread.bytes piece) sound

  walk : (pieces : List (List ℕ)) (solo : SoloState) (client : ClientState GroupPlace) (old last : ServerState) (outputs : List StepOutput) → HasCell (Some client) old → old.clock ≡ 0 → client.conn.number ≡ 0 → client.conn.latest ≡ 0
      → client.unread.fault ≡ None → IsOpen client.unread.bytes
      → AreBytes (client.unread.bytes ++ whole pieces) → Shown capacity shares solo client.conn.phase old.broker → HappensAll old (all_pieces pieces) outputs last
      → Concluded solo (client.unread.bytes ++ whole pieces) (sent_in outputs) last.broker
  walk [] solo client old last outputs cell clock number latest sound open_ bytes shown (mid, now, later, happens, (none, same), all) =
      let clock' = clock_at_once old mid clock happens.clock in
      let does =
      subst (λ (n : ℕ). DoesIf true (End 0) old.max_inflight old.broker old.clients n now (Ok tt) mid.clients mid.broker) clock'
      (subst (λ (b : Bool). DoesIf b (End 0) old.max_inflight old.broker old.clients mid.clock now (Ok tt) mid.clients mid.broker) (shown_open solo client.conn.phase old.broker shown) happens.does) in
      let got = (in_cell old.clients mid.clients _ (Some client) cell does).1 in
      let one = got.1.0 in
      let moved = got.1.2 in
      let steps = step_at_once client got.0 old.broker mid.broker inputs.EndOfInput one number latest moved in
      let part = parted capacity shares fits solo client.conn.phase old.broker None inputs.EndOfInput one.packets one.next got.0.conn.phase mid.broker shown tt steps in
      let sent : sent_in outputs ≡ one.packets = ap sent_in (all ∙ (λ i. got.1.1 i ++ none i)) ∙ append-nil one.packets in
      let ended = last_one solo client.unread.bytes None one.packets got.0.conn.phase mid.broker (refl, open_) part in
      subst (λ (l : List ℕ). Concluded solo l (sent_in outputs) last.broker) (sym (append-nil client.unread.bytes))
      (subst (λ (l : List Packet). Concluded solo client.unread.bytes l last.broker) (sym sent)
      (subst (λ (s : ServerState). Concluded solo client.unread.bytes one.packets s.broker) (sym same) ended))
  walk (piece ∷ pieces) solo client old last outputs cell clock number latest sound open_ bytes shown (mid, now, later, happens, others, all) =
      let clock' = clock_at_once old mid clock happens.clock in
      let does =
      subst (λ (n : ℕ). DoesIf true (Bytes 0 piece) old.max_inflight old.broker old.clients n now (Ok tt) mid.clients mid.broker) clock'
      (subst (λ (b : Bool). DoesIf b (Bytes 0 piece) old.max_inflight old.broker old.clients mid.clock now (Ok tt) mid.clients mid.broker) (shown_open solo client.conn.phase old.broker shown) happens.does) in
      let cell_of = in_cell old.clients mid.clients _ (Some client) cell does in
      let client' = cell_of.1.0 in
      let now_read = cell_of.1.1 in
      let there : slice_get mid.clients 0 ≡ Some (kept client') = cell_of.2 ∙ ap (λ (c : Option (ClientState GroupPlace)). Some c) cell_of.1.2 in
      let unread = fed_is client piece sound in
      let longer_bytes : (fed client piece).unread.bytes ++ whole pieces ≡ client.unread.bytes ++ whole (piece ∷ pieces) =
      ap (λ (u : Unread). u.bytes ++ whole pieces) unread ∙ append_assoc client.unread.bytes piece (whole pieces) in
      let got =
      reads capacity shares fits now solo (fed client piece) client' old.broker mid.broker (whole pieces) (sent_in later) last.broker number latest (ap (λ (u : Unread). u.fault) unread)
      (subst AreBytes (sym longer_bytes) bytes) shown now_read
      (λ s number' latest' sound' open' bytes' shown'.
      walk pieces s client' mid last later (there ∙ ap (λ (c : Option (ClientState GroupPlace)). Some c) (kept_shown s client' mid.broker shown')) clock' number' latest' sound' open' bytes' shown' others)
      (λ ended. idle pieces mid last later (there ∙ ap (λ (c : Option (ClientState GroupPlace)). Some c) (kept_ended client' ended)) others) in
      let sent : sent_in outputs ≡ sent_in now ++ sent_in later = ap sent_in all ∙ flat_map-append (λ (one : StepOutput). one.packets) now later in
      subst (λ (l : List ℕ). Concluded solo l (sent_in outputs) last.broker) longer_bytes
      (subst (λ (l : List Packet). Concluded solo ((fed client piece).unread.bytes ++ whole pieces) l last.broker) (sym sent) got)

  abbrev no_client : Option (ClientState GroupPlace)
  no_client = None

  first_none : (n : ℕ) → 0 < n → slice_get (replicate n no_client) 0 ≡ Some None
  first_none zero some = absurd (omega arith)
  first_none (suc n) some = refl

  no_byte : IsOpen []
  unfolding header_at
  no_byte = inl refl

  -- from the opening of the connection on
  pub run : (pieces : List (List ℕ)) (first last : ServerState) (outputs : List StepOutput) → IsNewBroker capacity shares first.broker → first.clients ≡ replicate 64 None → first.clock ≡ 0 → AreBytes (whole pieces)
      → HappensAll first (at_once (Open 0) ∷ all_pieces pieces) outputs last → Concluded (opening capacity first.max_inflight shares) (whole pieces) (sent_in outputs) last.broker
  run pieces first last outputs is_new none clock bytes (mid, now, later, happens, others, all) =
      let is_open_now = open_is (opening capacity first.max_inflight shares) [] first.broker (opens capacity first.max_inflight shares first.broker fits is_new) in
      let does = subst (λ (b : Bool). DoesIf b (Open 0) first.max_inflight first.broker first.clients mid.clock now (Ok tt) mid.clients mid.broker) is_open_now happens.does in
      let cell : slice_get first.clients 0 ≡ Some None = ap (λ (l : Clients). slice_get l 0) none ∙ first_none 64 (omega arith) in
      let got = in_cell first.clients mid.clients _ None cell does.0 in
      let clock' = clock_at_once first mid clock happens.clock in
      let opened : Opening = record { at = mid.clock; limits = inflight_alone first.max_inflight } in
      let client : ClientState GroupPlace = arrived (record { number = 0; latest = mid.clock; phase = phases.Unconnected opened }) in
      let there : slice_get mid.clients 0 ≡ Some (Some client) = got.2 ∙ ap (λ (c : Option (ClientState GroupPlace)). Some c) got.1 in
      let sent : sent_in outputs ≡ sent_in later = ap sent_in (all ∙ ap (λ (l : List StepOutput). l ++ later) does.2) in
      subst (λ (l : List Packet). Concluded (opening capacity first.max_inflight shares) (whole pieces) l last.broker) (sym sent)
      (walk pieces (opening capacity first.max_inflight shares) client mid last later there clock' refl clock' refl no_byte bytes (inl (opened, refl, refl, subst (IsNewBroker capacity shares) (sym does.1) is_new, refl)) others)
