-- A step of a connection, whole: what all sessions hold stays out at their places, and what is acknowledged is settled.
use Rattle.std.proofs.Common.{◌≡◌, ◌≢◌, ◌⊎◌, ℕ, ◌+◌, Bool, true, false, List, [], ◌++◌, Option, Some, None, Contains, refl, sym, ap, subst, ◌∙◌, inl, inr, ⊎_elim, append-nil}
use Rattle.std.proofs.lemmas.Bool.{cases_eq}
use Rattle.std.proofs.lemmas.Option.{same_Some}
use Rattle.mqtt_packet.specs.declared.packet.Packet.{Packet}
use Rattle.mqtt_packet.specs.declared.packet.ConnectRefusal.{ConnectRefusal}
use Rattle.group_jobs.specs.Stamps.{Held}
use Rattle.member_window.specs.Contents.{held_of}
use Rattle.session_desk.specs.Rows.{Rows}
use Rattle.conn_rules.specs.declared.connecting.FirstAnswer.{FirstAnswer}
use Rattle.conn_rules.specs.declared.connecting.FirstAnswer.TheVariants as first
use Rattle.conn_rules.specs.declared.client_limits.ClientLimits.{ClientLimits}
use Rattle.conn_rules.specs.Connecting.{first_answer}
use Rattle.conn_rules.specs.Faults.{fault_refusal}
use Rattle.conn_supply.specs.declared.reply.Then.{Then}
use Rattle.conn_supply.specs.declared.reply.Reply.{Reply}
use Rattle.conn_supply.specs.SupplyCalls.SupplyCall.{Withdraw, Kicked as WasKicked}
use Rattle.conn_engine.specs.declared.input.Input.{Input}
use Rattle.conn_engine.specs.declared.input.Input.TheVariants as inputs
use Rattle.conn_engine.specs.declared.phase.ConnectRequest.{ConnectRequest}
use Rattle.conn_engine.specs.declared.phase.ConnectedClient.{ConnectedClient}
use Rattle.conn_engine.specs.declared.phase.Opening.{Opening}
use Rattle.conn_engine.specs.declared.phase.ConnPhase.{ConnPhase}
use Rattle.conn_engine.specs.declared.phase.ConnPhase.TheVariants.{Unconnected, Waiting, Connected, Ended}
use Rattle.conn_engine.specs.Connecting.{TriesAgain, Withdraws}
use Rattle.conn_engine.specs.Ending.{down, Sweeps}
use Rattle.conn_engine.specs.Step.{hand_out_terms, IsRefusedIf, WaitsForConnect, AnswersFirst, AnswersPacket, AnswersTick, AnswersUnlessKicked, Reacts, Hands, Steps}
use Rattle.conn_laws.proofs.HandingOut.{all_discarded, discarded_in}
use Rattle.conn_laws.proofs.Transcripts.{discarded_by}
use Rattle.conn_laws.specs.Transcripts.{connected_of}
use Rattle.local_broker.specs.Places.{GroupPlace}
use Rattle.local_broker.specs.Broker.{Broker}
use Rattle.local_broker.specs.Calls.{Calls}
use Rattle.local_server.specs.Happening.{slot_of}
use Rattle.local_server.specs.Messages.{Accepted, IsBrought}
use Rattle.local_server.specs.Settling.{Settlement, AreOutFor}
use Rattle.local_server.proofs.Sessions.{with_connected, connected_here, connected_beside}
use Rattle.local_server.proofs.Settled.{AddsIn, adds_then}
use Rattle.local_server.proofs.Known.{Log, AllKnown}
use Rattle.local_server.proofs.Owning.{Ledger, with_hand, with_log, Kept, Keeper, AtDesk, InHand, IsClientOf, Has, Owns, Goes, still, one, same_rows, owns_calm, calm}
use Rattle.local_server.proofs.Retiring.{KeepsOut, went, swept}
use Rattle.local_server.proofs.Leaving.{parked_as_is}
use Rattle.local_server.proofs.Fresh.{hands_out}
use Rattle.local_server.proofs.Acting.{HoldsClient, HoldsAs, Tells, IfUp, Quiet, Done, none_brought, quietly, quiet_then, at_last, over, stays_over, attaches, parts, answered_packet, heard}

-- the session of a connection comes into the hands of its step, and goes back
module _ (ledger : Ledger) (number : ℕ) where
  others : (keeper : Keeper) (rows : Rows Held GroupPlace) (connected : ConnectedClient GroupPlace) (t : Kept) → Has (with_connected ledger.all_connected number None) rows keeper t
      → (InHand number ≢ keeper) × Has (with_connected ledger.all_connected number (Some connected)) rows keeper t
  others (AtDesk k) rows connected t has = ((λ e. cc), has)
  others (InHand connection) rows connected t has =
      ⊎_elim
      (λ (same : connection ≡ number).
      absurd (let none = sym (connected_here ledger.all_connected number None) ∙ ap (with_connected ledger.all_connected number None) (sym same) in let some = has.has in cc))
      (λ (other : connection ≢ number). (
        (λ e. other (connections number connection e)),
        record {
          connected = has.connected;
          has = connected_beside ledger.all_connected number connection (Some connected) other ∙ sym (connected_beside ledger.all_connected number connection None other) ∙ has.has;
          its = has.its;
        },
      ))
      (cases_eq connection number)
    where
      connections : (a b : ℕ) → InHand a ≡ InHand b → b ≡ a
      connections a b e = cc

  whose : (keeper : Keeper) (rows : Rows Held GroupPlace) (connected : ConnectedClient GroupPlace) (t : Kept) → Has (with_connected ledger.all_connected number (Some connected)) rows keeper t
      → ((keeper ≡ InHand number) × (connected.session ≡ t)) ⊎ Has (with_connected ledger.all_connected number None) rows keeper t
  whose (AtDesk k) rows connected t has = inr has
  whose (InHand connection) rows connected t has =
      ⊎_elim
      (λ (same : connection ≡ number).
      let is : connected ≡ has.connected = same_Some connected has.connected (sym (connected_here ledger.all_connected number (Some connected)) ∙ ap (with_connected ledger.all_connected number (Some connected)) (sym same) ∙ has.has) in
      inl (ap InHand same, ap (λ (l : ConnectedClient GroupPlace). l.session) is ∙ has.its))
      (λ (other : connection ≢ number).
      inr (record {
        connected = has.connected;
        has = connected_beside ledger.all_connected number connection None other ∙ sym (connected_beside ledger.all_connected number connection (Some connected) other) ∙ has.has;
        its = has.its;
      }))
      (cases_eq connection number)

  pub enter : (connected : ConnectedClient GroupPlace) (b : Broker) → Owns (with_hand ledger number (Some connected)) b → HoldsClient (with_hand ledger number None) b connected
  enter connected b was =
      let rows = b.desk.rows in
      let mine : IsClientOf (with_connected ledger.all_connected number (Some connected)) number connected.session = record { connected = connected; has = connected_here ledger.all_connected number (Some connected); its = refl } in
      record {
        others = record {
          running = was.running;
          know = was.know;
          known = λ keeper t has. was.known keeper t (others keeper rows connected t has).1;
          owned = λ keeper t has. was.owned keeper t (others keeper rows connected t has).1;
          once = λ one other s t i j e f has had c d same. was.once one other s t i j e f (others one rows connected s has).1 (others other rows connected t had).1 c d same;
        };
        mine = record {
          owned = was.owned (InHand number) connected.session mine;
          known = was.known (InHand number) connected.session mine;
          apart = λ keeper t has i j e f c d same.
              let there = others keeper rows connected t has in
              there.0 (was.once (InHand number) keeper connected.session t i j e f mine there.1 c d same).0;
          once = λ i j e f c d same. (was.once (InHand number) (InHand number) connected.session connected.session i j e f mine mine c d same).1;
        };
      }

  module _ (connected : ConnectedClient GroupPlace) (b : Broker) (was : HoldsClient (with_hand ledger number None) b connected) where
    owned_by : (keeper : Keeper) (t : Kept) → ((keeper ≡ InHand number) × (connected.session ≡ t)) ⊎ Has (with_connected ledger.all_connected number None) b.desk.rows keeper t
        → AreOutFor b t.membership (held_of t.window)
    owned_by keeper t (inl is) = subst (λ (s : Kept). AreOutFor b s.membership (held_of s.window)) is.1 was.mine.owned
    owned_by keeper t (inr has) = was.others.owned keeper t has

    known_by : (keeper : Keeper) (t : Kept) → ((keeper ≡ InHand number) × (connected.session ≡ t)) ⊎ Has (with_connected ledger.all_connected number None) b.desk.rows keeper t
        → AllKnown ledger.log (held_of t.window)
    known_by keeper t (inl is) = subst (λ (s : Kept). AllKnown ledger.log (held_of s.window)) is.1 was.mine.known
    known_by keeper t (inr has) = was.others.known keeper t has

    once_by : (one other : Keeper) (s t : Kept) (i j : ℕ) (e f : Held) → ((one ≡ InHand number) × (connected.session ≡ s)) ⊎ Has (with_connected ledger.all_connected number None) b.desk.rows one s
        → ((other ≡ InHand number) × (connected.session ≡ t)) ⊎ Has (with_connected ledger.all_connected number None) b.desk.rows other t
        → Contains (held_of s.window) (i, e) → Contains (held_of t.window) (j, f) → e.stamp ≡ f.stamp → (one ≡ other) × (i ≡ j)
    once_by one other s t i j e f (inl is) (inl are) c d same = (
      is.0 ∙ sym are.0,
      was.mine.once i j e f (subst (λ (x : Kept). Contains (held_of x.window) (i, e)) (sym is.1) c) (subst (λ (x : Kept). Contains (held_of x.window) (j, f)) (sym are.1) d) same,
    )
    once_by one other s t i j e f (inl is) (inr has) c d same =
        absurd (was.mine.apart other t has i j e f (subst (λ (x : Kept). Contains (held_of x.window) (i, e)) (sym is.1) c) d same)
    once_by one other s t i j e f (inr has) (inl are) c d same =
        absurd (was.mine.apart one s has j i f e (subst (λ (x : Kept). Contains (held_of x.window) (j, f)) (sym are.1) d) c (sym same))
    once_by one other s t i j e f (inr has) (inr had) c d same = was.others.once one other s t i j e f has had c d same

    pub leave : Owns (with_hand ledger number (Some connected)) b
    leave =
        record {
          running = was.others.running;
          know = was.others.know;
          known = λ keeper t has. known_by keeper t (whose keeper b.desk.rows connected t has);
          owned = λ keeper t has. owned_by keeper t (whose keeper b.desk.rows connected t has);
          once = λ one other s t i j e f has had c d same. once_by one other s t i j e f (whose one b.desk.rows connected s has) (whose other b.desk.rows connected t had) c d same;
        }

  pub enter_as : (before : Option (ConnectedClient GroupPlace)) (b : Broker) → Owns (with_hand ledger number before) b → HoldsAs (with_hand ledger number None) b before
  enter_as None b was = was
  enter_as (Some connected) b was = enter connected b was

  pub leave_as : (after : Option (ConnectedClient GroupPlace)) (b : Broker) → HoldsAs (with_hand ledger number None) b after → Owns (with_hand ledger number after) b
  leave_as None b was = was
  leave_as (Some connected) b was = leave connected b was

  -- what is due is swept, beside the session in hand
  pub swept_beside : (connected : ConnectedClient GroupPlace) (most : ℕ) (old new : Broker) (now : ℕ) → Sweeps Calls old now most new → HoldsClient (with_hand ledger number None) old connected
      → HoldsClient (with_hand ledger number None) new connected × AddsIn old.groups [] new.groups
  swept_beside connected most old new now sweeps was =
      let done = swept most (with_hand ledger number (Some connected)) old new now sweeps (leave connected old was) in
      (enter connected new done.owns, done.adds)

-- a connection that has no session
first_answered : (answer : FirstAnswer) (ledger : Ledger) (old new : Broker) (number : ℕ) (limits : ClientLimits) (now : ℕ) (packet : Packet) (phase : ConnPhase GroupPlace) (reply : Reply)
    → AnswersFirst Calls slot_of answer old number limits now packet phase reply new → Owns ledger old → Quiet ledger old (connected_of phase) new
first_answered first.Close ledger old new number limits now packet phase reply does was = stays_over ledger old new phase does.0.over does.1 was
first_answered (first.Refuse refusal) ledger old new number limits now packet phase reply does was = stays_over ledger old new phase does.0.over does.1 was
first_answered first.Attach ledger old new number limits now packet phase reply does was = attaches ledger old new number now _ 0 phase reply does.2 was

refused_if : (refusal : Option ConnectRefusal) (phase : ConnPhase GroupPlace) (reply : Reply) → IsRefusedIf refusal phase reply → phase ≡ Ended
refused_if None phase reply is = is.over
refused_if (Some refusal) phase reply is = is.over

waits_for : (late : Bool) (ledger : Ledger) (old new : Broker) (opened : Opening) (phase : ConnPhase GroupPlace) (reply : Reply) → WaitsForConnect late opened phase reply
    → KeepsOut ledger old new
    → Quiet ledger old (connected_of phase) new
waits_for true ledger old new opened phase reply waits went_on = over ledger old new phase waits.over went_on
waits_for false ledger old new opened phase reply waits went_on =
    at_last ledger old new phase (Unconnected opened) waits.0 (record { holds = went_on.owns; adds = went_on.adds })

withdrawn : (number : ℕ) (old new : Broker) → Calls old (Withdraw number) new → Goes [] old new
withdrawn number old new does = one (Withdraw number) old new (λ stamp spends. spends) refl tt does (same_rows old new (ap (λ b. b.rows) does.makes))

withdraws : (phase : ConnPhase GroupPlace) (ledger : Ledger) (old new : Broker) (number : ℕ) → Withdraws Calls old number phase new → Quiet ledger old (connected_of phase) old
    → Quiet ledger old (connected_of phase) new
withdraws (Unconnected opened) ledger old new number does quiet =
    let goes = withdrawn number old new does in record { holds = owns_calm ledger old new goes quiet.holds; adds = goes.adds }
withdraws (Waiting request ticks) ledger old new number does quiet =
    let goes = still old new does in record { holds = owns_calm ledger old new goes quiet.holds; adds = goes.adds }
withdraws (Connected connected) ledger old new number does quiet =
    let goes = withdrawn number old new does in
    record { holds = calm ledger old new connected.session.membership (held_of connected.session.window) goes quiet.holds; adds = goes.adds }
withdraws Ended ledger old new number does quiet =
    let goes = withdrawn number old new does in record { holds = owns_calm ledger old new goes quiet.holds; adds = goes.adds }

tries : (ledger : Ledger) (old new : Broker) (number now : ℕ) (request : ConnectRequest) (ticks : ℕ) (phase : ConnPhase GroupPlace) (reply : Reply)
    → TriesAgain Calls old number now request ticks phase reply new → Owns ledger old → Quiet ledger old (connected_of phase) new
tries ledger old new number now request ticks phase reply does was =
    let quiet = attaches ledger old does.mid number now request (ticks + 1) phase reply does.attaches was in
    quiet_then ledger old does.mid new (connected_of phase) quiet.adds
    (withdraws phase ledger does.mid new number does.withdraws (record { holds = quiet.holds; adds = (still does.mid does.mid refl).adds }))

-- one that has its own
kicked : (number : ℕ) (answer : Bool) (old new : Broker) → Calls old (WasKicked number answer) new → Goes [] old new
kicked number answer old new does = one (WasKicked number answer) old new (λ stamp spends. spends) refl tt does (same_rows old new (ap (λ b. b.rows) does.makes.1))

unless_kicked : (was_kicked : Bool) (ledger : Ledger) (old new : Broker) (number : ℕ) (connected : ConnectedClient GroupPlace) (now : ℕ) (input : Input) (Does : ConnPhase GroupPlace → Reply → Broker → Type 0)
    (phase : ConnPhase GroupPlace) (reply : Reply) → AnswersUnlessKicked Calls slot_of was_kicked old connected now Does phase reply new → HoldsClient ledger old connected
    → (Does phase reply new → Done ledger old number now (Some connected) input (connected_of phase) new) → Done ledger old number now (Some connected) input (connected_of phase) new
unless_kicked true ledger old new number connected now input Does phase reply does was then =
    let quiet = parts ledger old new connected now phase does.1 was in
    let ended : connected_of phase ≡ None = ap connected_of does.1.1 in
    record {
      accepted = [];
      brought = none_brought number now input;
      log' = ledger.log;
      grows = sym (append-nil ledger.log);
      holds = quiet.holds;
      settled = [];
      adds = quiet.adds;
      tells = subst (λ (o : Option (ConnectedClient GroupPlace)). IfUp o (Tells (Some connected) input [])) (sym ended) tt;
    }
unless_kicked false ledger old new number connected now input Does phase reply does was then = then does

done_then : (ledger : Ledger) (old mid new : Broker) (number now : ℕ) (connected : ConnectedClient GroupPlace) (input : Input) (after : Option (ConnectedClient GroupPlace)) → AddsIn old.groups [] mid.groups
    → Done ledger mid number now (Some connected) input after new → Done ledger old number now (Some connected) input after new
done_then ledger old mid new number now connected input after adds done =
    record {
      accepted = done.accepted;
      brought = done.brought;
      log' = done.log';
      grows = done.grows;
      holds = done.holds;
      settled = done.settled;
      adds = adds_then [] done.settled old.groups mid.groups new.groups adds done.adds;
      tells = done.tells;
    }

reacted : (phase : ConnPhase GroupPlace) (input : Input) (ledger : Ledger) (number : ℕ) (old new : Broker) (now : ℕ) (phase' : ConnPhase GroupPlace) (reply : Reply)
    → Reacts Calls slot_of old number phase now input phase' reply new → HoldsAs (with_hand ledger number None) old (connected_of phase)
    → Done (with_hand ledger number None) old number now (connected_of phase) input (connected_of phase') new
reacted (Unconnected opened) (inputs.Packet packet) ledger number old new now phase' reply does was =
    quietly _ old new number now None (connected_of phase') (inputs.Packet packet) tt (first_answered (first_answer opened.limits.users packet) _ old new number opened.limits now packet phase' reply does was)
reacted (Unconnected opened) (inputs.Fault fault) ledger number old new now phase' reply does was =
    quietly _ old new number now None (connected_of phase') (inputs.Fault fault) tt (stays_over _ old new phase' (refused_if (fault_refusal fault) phase' reply does.0) does.1 was)
reacted (Unconnected opened) inputs.Tick ledger number old new now phase' reply does was =
    quietly _ old new number now None (connected_of phase') inputs.Tick tt (waits_for _ _ old new opened phase' reply does.1 (swept 256 _ old new now does.0 was))
reacted (Unconnected opened) inputs.EndOfInput ledger number old new now phase' reply does was =
    quietly _ old new number now None (connected_of phase') inputs.EndOfInput tt (stays_over _ old new phase' does.0.over does.1 was)
reacted (Unconnected opened) inputs.Closing ledger number old new now phase' reply does was =
    quietly _ old new number now None (connected_of phase') inputs.Closing tt (stays_over _ old new phase' does.0.over does.1 was)
reacted (Waiting request ticks) (inputs.Packet packet) ledger number old new now phase' reply does was = absurd does
reacted (Waiting request ticks) (inputs.Fault fault) ledger number old new now phase' reply does was = absurd does
reacted (Waiting request ticks) inputs.Tick ledger number old new now phase' reply does was =
    let done = swept 256 (with_hand ledger number None) old does.0 now does.1 was in
    quietly _ old new number now None (connected_of phase') inputs.Tick tt
    (quiet_then (with_hand ledger number None) old does.0 new (connected_of phase') done.adds (tries _ does.0 new number now request ticks phase' reply does.2 done.owns))
reacted (Waiting request ticks) inputs.EndOfInput ledger number old new now phase' reply does was =
    quietly _ old new number now None (connected_of phase') inputs.EndOfInput tt (over _ old new phase' does.1.over (went _ old new (withdrawn number old new does.0) was))
reacted (Waiting request ticks) inputs.Closing ledger number old new now phase' reply does was =
    quietly _ old new number now None (connected_of phase') inputs.Closing tt (over _ old new phase' does.1.over (went _ old new (withdrawn number old new does.0) was))
reacted (Connected connected) (inputs.Packet packet) ledger number old new now phase' reply does was =
    let goes = kicked number does.0 old does.1 does.2 in
    let held = calm (with_hand ledger number None) old does.1 connected.session.membership (held_of connected.session.window) goes was in
    done_then _ old does.1 new number now connected (inputs.Packet packet) (connected_of phase') goes.adds
    (unless_kicked does.0 (with_hand ledger number None) does.1 new number connected now (inputs.Packet packet) _ phase' reply does.3 held
    (λ (answers : AnswersPacket Calls slot_of does.1 number connected now packet phase' reply new). answered_packet _ does.1 new number connected now packet phase' reply answers held))
reacted (Connected connected) (inputs.Fault fault) ledger number old new now phase' reply does was =
    quietly _ old new number now (Some connected) (connected_of phase') (inputs.Fault fault) tt (parts _ old new connected now phase' does.1 was)
reacted (Connected connected) inputs.Tick ledger number old new now phase' reply does was =
    let goes = kicked number does.0 old does.1 does.2 in
    let held = calm (with_hand ledger number None) old does.1 connected.session.membership (held_of connected.session.window) goes was in
    done_then _ old does.1 new number now connected inputs.Tick (connected_of phase') goes.adds
    (unless_kicked does.0 (with_hand ledger number None) does.1 new number connected now inputs.Tick _ phase' reply does.3 held
    (λ (answers : AnswersTick Calls slot_of does.1 connected now phase' reply new).
    let sweep = swept_beside ledger number connected 256 does.1 answers.0 now answers.1 held in
    quietly _ does.1 new number now (Some connected) (connected_of phase') inputs.Tick tt
    (quiet_then _ does.1 answers.0 new (connected_of phase') sweep.1 (heard _ _ answers.0 new connected now phase' reply answers.2 sweep.0))))
reacted (Connected connected) inputs.EndOfInput ledger number old new now phase' reply does was =
    quietly _ old new number now (Some connected) (connected_of phase') inputs.EndOfInput tt (parts _ old new connected now phase' does.1 was)
reacted (Connected connected) inputs.Closing ledger number old new now phase' reply does was =
    quietly _ old new number now (Some connected) (connected_of phase') inputs.Closing tt (over _ old new phase' does.2 (parked_as_is _ old new (down connected.session) does.1 was))
reacted Ended input ledger number old new now phase' reply does was =
    quietly _ old new number now None (connected_of phase') input tt (stays_over _ old new phase' does.0.over does.1 was)

-- what is handed out after the reply, and what is discarded of it
record HandedOut (discarded : List Held) (ledger : Ledger) (mid : Broker) (after : Option (ConnectedClient GroupPlace)) (Says : Type 0) (new : Broker) : Type 0 where
  holds : HoldsAs ledger new after
  adds : AddsIn mid.groups (all_discarded discarded) new.groups
  says : IfUp after Says

none_handed : (ledger : Ledger) (mid : Broker) (after : Option (ConnectedClient GroupPlace)) (Says : Type 0) (new : Broker) → Quiet ledger mid after new → IfUp after Says → HandedOut [] ledger mid after Says new
none_handed ledger mid after Says new quiet says = record { holds = quiet.holds; adds = quiet.adds; says = says }

handed : (between : ConnPhase GroupPlace) (ledger : Ledger) (now : ℕ) (mid new : Broker) (sent : List Packet) (phase' : ConnPhase GroupPlace) (Says : Type 0)
    (does : Hands Calls slot_of mid between now sent phase' new)
    → HoldsAs ledger mid (connected_of between) → IfUp (connected_of between) Says → HandedOut (discarded_by Calls slot_of between now mid new sent phase' does) ledger mid (connected_of phase') Says new
handed (Unconnected opened) ledger now mid new sent phase' Says does was says =
    let went_on = went ledger mid new (still mid new does.2) was in
    none_handed ledger mid (connected_of phase') Says new (at_last ledger mid new phase' (Unconnected opened) does.1 (record { holds = went_on.owns; adds = went_on.adds }))
    (subst (λ (s : ConnPhase GroupPlace). IfUp (connected_of s) Says) (sym does.1) tt)
handed (Waiting request ticks) ledger now mid new sent phase' Says does was says =
    let went_on = went ledger mid new (still mid new does.2) was in
    none_handed ledger mid (connected_of phase') Says new (at_last ledger mid new phase' (Waiting request ticks) does.1 (record { holds = went_on.owns; adds = went_on.adds }))
    (subst (λ (s : ConnPhase GroupPlace). IfUp (connected_of s) Says) (sym does.1) tt)
handed (Connected connected) ledger now mid new sent phase' Says does was says =
    let hands = does.2 in
    let discarded = discarded_in Calls (hand_out_terms connected now) connected.session.membership mid new hands.between hands.fresh does.0 does.1 hands.sent_fresh in
    let out = hands_out (hand_out_terms connected now) ledger mid new connected.session.membership connected.session.window sent does.0 does.1 hands was in
    subst (λ (s : ConnPhase GroupPlace). HandedOut discarded ledger mid (connected_of s) Says new) (sym does.3) (record { holds = out.0; adds = out.1.adds; says = says })
handed Ended ledger now mid new sent phase' Says does was says =
    none_handed ledger mid (connected_of phase') Says new (stays_over ledger mid new phase' does.1 does.2 was) (subst (λ (s : ConnPhase GroupPlace). IfUp (connected_of s) Says) (sym does.1) tt)

-- a step: what its answer settles, and what is discarded after it
pub record Acts (discarded : List Held) (ledger : Ledger) (old mid : Broker) (number now : ℕ) (before : Option (ConnectedClient GroupPlace)) (input : Input) (after : Option (ConnectedClient GroupPlace)) (new : Broker) : Type 0 where
  pub accepted : List Accepted
  pub brought : IsBrought number now input accepted
  pub owns : Owns (with_log (with_hand ledger number after) (ledger.log ++ accepted)) new
  pub settled : List Settlement
  pub adds : AddsIn old.groups settled mid.groups
  pub discards : AddsIn mid.groups (all_discarded discarded) new.groups
  pub tells : IfUp after (Tells before input settled)

pub acts : (ledger : Ledger) (old new : Broker) (number now : ℕ) (phase phase' : ConnPhase GroupPlace) (input : Input) (packets : List Packet) (next : Then)
    (steps : Steps Calls slot_of old number phase now input packets next phase' new) → Owns (with_hand ledger number (connected_of phase)) old
    → Acts (discarded_by Calls slot_of steps.between now steps.mid new steps.sent phase' steps.hands) ledger old steps.mid number now (connected_of phase) input (connected_of phase') new
acts ledger old new number now phase phase' input packets next steps was =
    let done = reacted phase input ledger number old steps.mid now steps.between steps.reply steps.reacts (enter_as ledger number (connected_of phase) old was) in
    let end = handed steps.between (with_log (with_hand ledger number None) done.log') now steps.mid new steps.sent phase'
    (Tells (connected_of phase) input done.settled) steps.hands done.holds done.tells in
    record {
      accepted = done.accepted;
      brought = done.brought;
      owns =
          subst (λ (log : Log). Owns (with_log (with_hand ledger number (connected_of phase')) log) new) done.grows
          (leave_as (with_log ledger done.log') number (connected_of phase') new end.holds);
      settled = done.settled;
      adds = done.adds;
      discards = end.adds;
      tells = end.says;
    }
