-- What every run of a model keeps.
use Rattle.std.proofs.Common.{◌≡◌, ◌≢◌, ◌⊎◌, ℕ, zero, suc, ◌<◌, ◌≤◌, Option, min, List, [], ◌∷◌, ◌++◌, length, slice_get, Some, None, refl, sym, ap, ◌∙◌, subst, inl, inr, arith}
use Rattle.std.specs.List.{AllByRecursion}
use Rattle.std.proofs.lemmas.Bool.{cond_both}
use Rattle.std.proofs.lemmas.List.{append-nil, append_assoc}
use Rattle.std.proofs.lemmas.Option.{same_Some}
use Rattle.std.proofs.lemmas.List.Elements.{filter-append}
use Rattle.mqtt_fields.specs.declared.fault.StreamFault.{StreamFault}
use Rattle.mqtt_packet.specs.declared.packet.Connect.{Connect}
use Rattle.mqtt_packet.specs.declared.packet.Packet.{Packet}
use Rattle.mqtt_packet.specs.declared.packet.Packet.TheVariants as kinds
use Rattle.mqtt_packet.specs.declared.packet.Puback.{Puback}
use Rattle.group_jobs.specs.declared.message.Message.{Message}
use Rattle.session_desk.specs.declared.session.Membership.{Membership}
use Rattle.session_desk.specs.declared.session.Membership.TheVariants.{NotMember, Member, Leaving}
use Rattle.conn_rules.specs.declared.connecting.FirstAnswer.{FirstAnswer}
use Rattle.conn_rules.specs.declared.connecting.FirstAnswer.TheVariants as first
use Rattle.conn_rules.specs.Connecting.{or_else, connect_answer}
use Rattle.conn_rules.specs.declared.setup.Setup.{Setup}
use Rattle.solo_output.specs.Groups.{SoloState, HandOut, Phase, opening, accepted_in, waiting_in, open_identifiers, unacknowledged, with_hand_out}
use Rattle.solo_output.specs.Groups.Outcome.{Unacknowledged, Acknowledged, Discarded}
use Rattle.solo_output.specs.Groups.Phase.{Unconnected, Connected, Closed}
use Rattle.solo_output.specs.HandOuts.{SoloStep, quota, has_room, next_hand_out, next_packets, sent_before, hand_out, sends_nothing, left_with, deliver_to, deliver_in, deliver}
use Rattle.solo_output.specs.Publishing.{Reply}
use Rattle.solo_output.specs.Replies.{first_reply_as, reply, reply_in, behind_reply, solo_step, solo_steps, farewell_in, farewell}
use Rattle.solo_output.specs.Runs.{run_of, taken_in_phase, taken, is_publish, published, jobs_of, IsInGroup, IsStill, IsSettledBy}
use Rattle.solo_output.proofs.Brokers.{accepted_first}
use Rattle.solo_output.proofs.Sessions.{hand_out_keeps}
use Rattle.solo_output.proofs.Moves.{Ways, ran}
use Rattle.solo_output.proofs.NextOuts.{less_of, most_of, waiting_behind}
use Rattle.solo_output.proofs.Kept.{Kept, IsOwn, kept_first, kept_replying, kept_handing, kept_turning, kept_ran}
use Rattle.solo_output.proofs.Told.{SentAsHandedOut, told_replying, told_delivering}
use Rattle.solo_output.proofs.Lasting.{settles_its, lasts_delivering}
use Rattle.solo_output.proofs.StepLaws.{ComesBy, step_accepts, step_codes, is_connected, step_published, closed_steps}

pub kept_of : (setup : Setup) (packets : List Packet) → Kept (run_of setup packets).solo
kept_of setup packets = kept_ran packets (opening setup.capacity setup.max_inflight setup.groups) (kept_first setup.capacity setup.max_inflight setup.groups)

-- the capacity stays
abbrev HoldsAsMuch : SoloState → SoloState → Type 0
HoldsAsMuch one two = two.capacity ≡ one.capacity

holds_as_much : Ways HoldsAsMuch
holds_as_much =
    record {
      stays = λ solo. refl;
      goes_on = λ one two three first' later. later ∙ first';
      connects = λ connect solo is. refl;
      closes = λ solo. refl;
      expires = λ expiry solo. refl;
      binds = λ share solo none few. refl;
      joins = λ slot solo may within. refl;
      leaves = λ slot solo is. refl;
      parts = λ slot solo is none. refl;
      subscribes = λ subscription solo. refl;
    }

pub fits_all : (setup : Setup) (packets : List Packet) (slot : ℕ) → length (waiting_in slot (run_of setup packets).solo) ≤ setup.capacity
fits_all setup packets slot =
    let same : (run_of setup packets).solo.capacity ≡ setup.capacity =
    ran HoldsAsMuch holds_as_much (λ at message solo within room. refl) (λ identifier code solo. refl) (λ at message rest solo connected member less waits. refl) packets (opening setup.capacity setup.max_inflight setup.groups) in
    omega (arith, same, (kept_of setup packets).fits slot)

-- ---- one run after another

pub sent_both : (packets more : List Packet) (solo : SoloState) → solo_steps (packets ++ more) solo ≡ record { sent = (solo_steps packets solo).sent ++ (solo_steps more (solo_steps packets solo).solo).sent; solo = (solo_steps more (solo_steps packets solo).solo).solo }
sent_both [] more solo = refl
sent_both (packet ∷ packets) more solo =
    let next = (solo_step packet solo).solo in
    let now = (solo_step packet solo).sent in
    ap (λ (t : SoloStep). record { sent = now ++ t.sent; solo = t.solo }) (sent_both packets more next)
    ∙ ap (λ (l : List Packet). record { sent = l; solo = (solo_steps more (solo_steps packets next).solo).solo }) (sym (append_assoc now (solo_steps packets next).sent (solo_steps more (solo_steps packets next).solo).sent))

-- ---- what is accepted

accepts_all : (packets : List Packet) (solo : SoloState) (slot : ℕ) → accepted_in slot (solo_steps packets solo).solo.groups ≡ accepted_in slot solo.groups ++ taken packets slot solo
accepts_all [] solo slot = sym (append-nil (accepted_in slot solo.groups))
accepts_all (packet ∷ packets) solo slot =
    let next = (solo_step packet solo).solo in
    accepts_all packets next slot
    ∙ ap (λ (l : List Message). l ++ taken packets slot next) (step_accepts packet solo slot)
    ∙ append_assoc (accepted_in slot solo.groups) (taken_in_phase solo.phase packet slot solo) (taken packets slot next)

pub accepted_all : (setup : Setup) (packets : List Packet) (slot : ℕ) → accepted_in slot (run_of setup packets).solo.groups ≡ taken packets slot (opening setup.capacity setup.max_inflight setup.groups)
accepted_all setup packets slot =
    accepts_all packets (opening setup.capacity setup.max_inflight setup.groups) slot
    ∙ ap (λ (l : List Message). l ++ taken packets slot (opening setup.capacity setup.max_inflight setup.groups)) (accepted_first slot setup.groups)

-- ---- what is sent

told_step : (packet : Packet) (solo : SoloState) (packets : List Packet) → Kept solo → SentAsHandedOut packets solo → SentAsHandedOut (packets ++ published (solo_step packet solo).sent) (solo_step packet solo).solo
told_step packet solo packets kept told =
    let r = (reply packet solo).solo in
    let replied = (told_replying packet solo kept).1 packets told in
    subst (λ (l : List Packet). SentAsHandedOut (packets ++ l) (solo_step packet solo).solo) (sym (step_published packet solo)) (told_delivering r packets replied)

told_ran : (packets : List Packet) (solo : SoloState) (before : List Packet) → Kept solo → SentAsHandedOut before solo → SentAsHandedOut (before ++ published (solo_steps packets solo).sent) (solo_steps packets solo).solo
told_ran [] solo before kept told = subst (λ (l : List Packet). SentAsHandedOut l solo) (sym (append-nil before)) told
told_ran (packet ∷ packets) solo before kept told =
    let next = (solo_step packet solo).solo in
    let now = (solo_step packet solo).sent in
    let later = (solo_steps packets next).sent in
    subst (λ (l : List Packet). SentAsHandedOut l (solo_steps packets next).solo)
    (append_assoc before (published now) (published later) ∙ ap (λ (l : List Packet). before ++ l) (sym (filter-append is_publish now later)))
    (told_ran packets next (before ++ published now) (kept_turning packet solo kept) (told_step packet solo before kept told))

jobs_nothing : (messages : List Message) → [] ≡ jobs_of messages []
jobs_nothing [] = refl
jobs_nothing (message ∷ messages) = refl

pub told_all : (setup : Setup) (packets : List Packet) → SentAsHandedOut (published (run_of setup packets).sent) (run_of setup packets).solo
told_all setup packets =
    let first' = opening setup.capacity setup.max_inflight setup.groups in
    told_ran packets first' [] (kept_first setup.capacity setup.max_inflight setup.groups) (record { many = refl; each = λ slot. jobs_nothing (accepted_in slot first'.groups) })

-- ---- what settles a hand-out

told_not : (code : ℕ) → Acknowledged code ≡ Discarded → ⊥
told_not code e = absurd cc

told_done : (code : ℕ) → Acknowledged code ≢ Unacknowledged
told_done code e = absurd cc

pub settles_one : (solo : SoloState) (puback : Puback) (place : ℕ) (one : HandOut) → solo.phase ≡ Connected → slice_get solo.handed_out place ≡ Some one → one.outcome ≡ Unacknowledged → puback.packet_identifier ≡ one.identifier
    → (settled : HandOut) × (slice_get (solo_step (kinds.Puback puback) solo).solo.handed_out place ≡ Some settled) × IsStill one settled × (settled.outcome ≡ Acknowledged puback.reason_code)
settles_one solo puback place one connected there none its =
    let r = (reply (kinds.Puback puback) solo).solo in
    let now = settles_its puback.packet_identifier puback.reason_code solo.handed_out place one there none its in
    let replied : slice_get r.handed_out place ≡ Some (record one { outcome = Acknowledged puback.reason_code }) =
    ap (λ (p : Phase). slice_get (reply_in p (kinds.Puback puback) solo).solo.handed_out place) connected ∙ now in
    let last = lasts_delivering r place (record one { outcome = Acknowledged puback.reason_code }) replied in (
      last.0,
      last.1,
      record {
        slot = last.2.slot;
        subscription = last.2.subscription;
        identifier = last.2.identifier;
        for_good = λ done. absurd (done none);
        at_once = λ is. absurd (told_not puback.reason_code (last.2.at_once is));
      },
      last.2.for_good (told_done puback.reason_code),
    )

-- each code of a hand-out came by a PUBACK of these packets
abbrev AreSettled : Setup → List Packet → SoloState → Type 0
AreSettled setup packets solo = (place code : ℕ) (one : HandOut) → slice_get solo.handed_out place ≡ Some one → one.outcome ≡ Acknowledged code → IsSettledBy setup packets place code

-- the packets that came before one, and that one
settled_step : (setup : Setup) (before : List Packet) (packet : Packet) → let solo = (run_of setup before).solo in AreSettled setup before solo → AreSettled setup (before ++ packet ∷ []) (solo_step packet solo).solo
settled_step setup before packet settled' place code one there coded =
    let solo = (run_of setup before).solo in
    let from = step_codes packet solo place code one there coded in
    by (from.1.0) from.0 from.1.1 from.1.2
  where
    by : (was : HandOut) → slice_get (reply packet (run_of setup before).solo).solo.handed_out place ≡ Some one → slice_get (run_of setup before).solo.handed_out place ≡ Some was → ComesBy packet was code
        → IsSettledBy setup (before ++ packet ∷ []) place code
    by was now earlier (inl same) =
        let its = settled' place code was earlier same in
        record {
          earlier = its.earlier;
          puback = its.puback;
          later = its.later ++ packet ∷ [];
          came = ap (λ (l : List Packet). l ++ packet ∷ []) its.came ∙ append_assoc its.earlier (kinds.Puback its.puback ∷ its.later) (packet ∷ []);
          connected = its.connected;
          hand_out = its.hand_out;
          there = its.there;
          unacknowledged = its.unacknowledged;
          its = its.its;
          as_told = its.as_told;
        }
    by was now earlier (inr (puback, is, none, its, told)) =
        record {
          earlier = before;
          puback = puback;
          later = [];
          came = ap (λ (p : Packet). before ++ p ∷ []) is;
          connected =
              is_connected puback (run_of setup before).solo place code was one earlier none
              (subst (λ (p : Packet). slice_get (reply p (run_of setup before).solo).solo.handed_out place ≡ Some one) is now) coded;
          hand_out = was;
          there = earlier;
          unacknowledged = none;
          its = its;
          as_told = told;
        }

settled_ran : (setup : Setup) (packets before : List Packet) → AreSettled setup before (run_of setup before).solo → AreSettled setup (before ++ packets) (run_of setup (before ++ packets)).solo
settled_ran setup [] before so = subst (λ (l : List Packet). AreSettled setup l (run_of setup l).solo) (sym (append-nil before)) so
settled_ran setup (packet ∷ packets) before so =
    let now = before ++ packet ∷ [] in
    let same : (run_of setup now).solo ≡ (solo_step packet (run_of setup before).solo).solo = ap (λ (t : SoloStep). t.solo) (sent_both before (packet ∷ []) (opening setup.capacity setup.max_inflight setup.groups)) in
    let here : AreSettled setup now (run_of setup now).solo = subst (AreSettled setup now) (sym same) (settled_step setup before packet so) in
    subst (λ (l : List Packet). AreSettled setup l (run_of setup l).solo) (append_assoc before (packet ∷ []) packets) (settled_ran setup packets now here)

none_first : (place : ℕ) (one : HandOut) → slice_get [] place ≡ Some one → ⊥
none_first place one e = absurd cc

pub settled_all : (setup : Setup) (packets : List Packet) → AreSettled setup packets (run_of setup packets).solo
settled_all setup packets = settled_ran setup packets [] (λ place code one there coded. absurd (none_first place one there))

-- ---- what waits

abbrev pub IsEager : ℕ → SoloState → Type 0
IsEager slot solo = (waiting_in slot solo ≡ []) ⊎ (length (unacknowledged solo) ≡ quota solo)

eager_out : (slot : ℕ) (messages : List Message) (solo : SoloState) → solo.phase ≡ Connected → solo.membership ≡ Member slot → Kept solo → waiting_in slot solo ≡ messages → IsEager slot (hand_out slot messages solo).solo
eager_out slot [] solo connected member kept waits = inl waits
eager_out slot (message ∷ messages) solo connected member kept waits =
    let one = next_hand_out slot message solo in
    let next = with_hand_out one solo in
    cond_both (has_room solo) (sent_before (next_packets message solo) (hand_out slot messages next)) (sends_nothing solo) (λ s. IsEager slot s.solo)
    (λ room. eager_out slot messages next connected member (kept_handing slot message messages solo connected member (less_of solo room) waits kept) (waiting_behind one solo message messages waits))
    (λ full. inr (omega (arith, most_of solo full, kept.room)))

same_slot : (own slot : ℕ) → ◌≡◌ {A = Membership ℕ} (Member own) (Member slot) → own ≡ slot
same_slot own slot e = cc

left_none : (own slot : ℕ) (identifiers : List ℕ) → left_with own identifiers ≡ Member slot → ⊥
left_none own slot [] e = absurd cc
left_none own slot (identifier ∷ identifiers) e = absurd cc

eager_to : (membership : Membership ℕ) (solo : SoloState) (slot : ℕ) → solo.phase ≡ Connected → solo.membership ≡ membership → Kept solo → (deliver_to membership solo).solo.membership ≡ Member slot → IsEager slot (deliver_to membership solo).solo
eager_to NotMember solo slot connected is kept member = let e : NotMember ≡ Member slot = sym is ∙ member in absurd cc
eager_to (Member own) solo slot connected is kept member =
    let same = same_slot own slot (sym is ∙ sym (hand_out_keeps own (waiting_in own solo) solo).membership ∙ member) in
    subst (λ (n : ℕ). IsEager n (deliver_to (Member own) solo).solo) same (eager_out own (waiting_in own solo) solo connected is kept refl)
eager_to (Leaving own) solo slot connected is kept member = absurd (left_none own slot (unacknowledged solo) member)

-- only what is connected can go on
eager_in : (phase : Phase) (solo : SoloState) (slot : ℕ) → solo.phase ≡ phase → Kept solo → (deliver_in phase solo).solo.phase ≡ Connected → (deliver_in phase solo).solo.membership ≡ Member slot → IsEager slot (deliver_in phase solo).solo
eager_in Unconnected solo slot is kept connected member = let e : Unconnected ≡ Connected = sym is ∙ connected in absurd cc
eager_in Connected solo slot is kept connected member = eager_to solo.membership solo slot is refl kept member
eager_in Closed solo slot is kept connected member = let e : Closed ≡ Connected = sym is ∙ connected in absurd cc

abbrev AlwaysEager : SoloState → Type 0
AlwaysEager solo = (slot : ℕ) → solo.phase ≡ Connected → solo.membership ≡ Member slot → IsEager slot solo

eager_ran : (packets : List Packet) (solo : SoloState) → Kept solo → AlwaysEager solo → AlwaysEager (solo_steps packets solo).solo
eager_ran [] solo kept eager = eager
eager_ran (packet ∷ packets) solo kept eager =
    let r = (reply packet solo).solo in
    eager_ran packets (solo_step packet solo).solo (kept_turning packet solo kept) (λ slot connected member. eager_in r.phase r slot refl (kept_replying packet solo kept) connected member)

pub eager_all : (setup : Setup) (packets : List Packet) (slot : ℕ) → (run_of setup packets).solo.phase ≡ Connected → (run_of setup packets).solo.membership ≡ Member slot → IsEager slot (run_of setup packets).solo
eager_all setup packets = eager_ran packets (opening setup.capacity setup.max_inflight setup.groups) (kept_first setup.capacity setup.max_inflight setup.groups) (λ slot connected member. absurd cc)

-- ---- the Receive Maximum and the Maximum Packet Size of the CONNECT

abbrev pub AsksTheSame : SoloState → SoloState → Type 0
AsksTheSame one two =
    one.phase ≢ Unconnected → (two.phase ≢ Unconnected) × (two.terms.receive_maximum ≡ one.terms.receive_maximum) × (two.terms.maximum_packet_size ≡ one.terms.maximum_packet_size)

asks_the_same : Ways AsksTheSame
asks_the_same =
    record {
      stays = λ solo begun. (begun, refl, refl);
      goes_on = λ one two three first' later begun. let behind = first' begun in let last = later behind.0 in (last.0, last.1 ∙ behind.1, last.2 ∙ behind.2);
      connects = λ connect solo is begun. absurd (begun is);
      closes = λ solo begun. (λ e. absurd cc, refl, refl);
      expires = λ expiry solo begun. (begun, refl, refl);
      binds = λ share solo none few begun. (begun, refl, refl);
      joins = λ slot solo may within begun. (begun, refl, refl);
      leaves = λ slot solo is begun. (begun, refl, refl);
      parts = λ slot solo is none begun. (begun, refl, refl);
      subscribes = λ subscription solo begun. (begun, refl, refl);
    }

pub asked_ran : (packets : List Packet) (solo : SoloState) → AsksTheSame solo (solo_steps packets solo).solo
asked_ran =
    ran AsksTheSame asks_the_same (λ slot message solo within room begun. (begun, refl, refl)) (λ identifier code solo begun. (begun, refl, refl)) (λ slot message rest solo connected member less waits begun. (begun, refl, refl))

-- a connection that is closed stays as it is
pub stays_closed : (packets : List Packet) (r : Reply) → r.solo.phase ≡ Closed → (solo_steps packets (behind_reply r).solo).solo ≡ r.solo
stays_closed packets r closed' =
    let stays : (deliver r.solo).solo ≡ r.solo = ap (λ (p : Phase). (deliver_in p r.solo).solo) closed' in
    ap (λ (s : SoloState). (solo_steps packets s).solo) stays ∙ ap (λ (t : SoloStep). t.solo) (closed_steps packets r.solo closed')

least_of : (n m : ℕ) → min n m ≤ n
least_of n m = omega arith

module _ (setup : Setup) (connect : Connect) (packets : List Packet) where
  abbrev start : SoloState
  start = opening setup.capacity setup.max_inflight setup.groups

  abbrev asked : ℕ
  asked = min setup.max_inflight (or_else 65535 connect.properties.receive_maximum)

  -- no more is unacknowledged than was asked for; and while the client is connected, its quota is that, and 256 at most
  abbrev Within : SoloState → Type 0
  Within solo = (length (unacknowledged solo) ≤ asked) × (solo.phase ≡ Connected → quota solo ≡ min asked 256)

  refused : (r : Reply) → r.solo.phase ≡ Closed → r.solo.handed_out ≡ [] → Within (solo_steps packets (behind_reply r).solo).solo
  refused r closed' none =
      let last = stays_closed packets r closed' in
      let few : length (unacknowledged (solo_steps packets (behind_reply r).solo).solo) ≡ 0 = ap (λ (s : SoloState). length (unacknowledged s)) last ∙ ap (λ (hs : List HandOut). length (open_identifiers hs)) none in
      (omega arith, λ connected. let e : Closed ≡ Connected = sym closed' ∙ sym (ap (λ (s : SoloState). s.phase) last) ∙ connected in absurd cc)

  by_answer : (answer : FirstAnswer) → Kept (solo_steps packets (behind_reply (first_reply_as answer (kinds.Connect connect) start)).solo).solo
      → Within (solo_steps packets (behind_reply (first_reply_as answer (kinds.Connect connect) start)).solo).solo
  by_answer first.Close kept = refused (first_reply_as first.Close (kinds.Connect connect) start) refl refl
  by_answer (first.Refuse refusal) kept = refused (first_reply_as (first.Refuse refusal) (kinds.Connect connect) start) refl refl
  by_answer first.Attach kept =
      let next = (behind_reply (first_reply_as first.Attach (kinds.Connect connect) start)).solo in
      let last = (solo_steps packets next).solo in
      let same : last.terms.receive_maximum ≡ asked = (asked_ran packets next (λ e. absurd cc)).1 in
      let few : min last.terms.receive_maximum 256 ≤ last.terms.receive_maximum = least_of last.terms.receive_maximum 256 in
      (omega (arith, same, few, kept.room), λ connected. ap (λ (n : ℕ). min n 256) same)

  pub within_maximum : Within (run_of setup (kinds.Connect connect ∷ packets)).solo
  within_maximum = by_answer (connect_answer None connect) (kept_of setup (kinds.Connect connect ∷ packets))

-- ---- after the close of the connection

pub silent : (solo : SoloState) (packets : List Packet) → solo.phase ≡ Closed → (solo_steps packets solo ≡ sends_nothing solo) × ((fault : Option StreamFault) → farewell fault solo ≡ None)
silent solo packets closed' = (closed_steps packets solo closed', λ fault. ap (λ (p : Phase). farewell_in p fault) closed' ∙ none_behind fault)
  where
    none_behind : (fault : Option StreamFault) → farewell_in Closed fault ≡ None
    none_behind None = refl
    none_behind (Some fault) = refl

-- ---- whose is what is unacknowledged

own_at : (membership : Membership ℕ) (hand_outs : List HandOut) (place : ℕ) (one : HandOut) → AllByRecursion (IsOwn membership) hand_outs → slice_get hand_outs place ≡ Some one → one.outcome ≡ Unacknowledged → IsInGroup membership one.slot
own_at membership [] place one all there none = absurd (none_first place one there)
own_at membership (other ∷ hand_outs) zero one all there none =
    let same : other ≡ one = same_Some other one there in
    subst (λ (h : HandOut). IsInGroup membership h.slot) same (all.0 (ap (λ (h : HandOut). h.outcome) same ∙ none))
own_at membership (other ∷ hand_outs) (suc place) one all there none = own_at membership hand_outs place one all.1 there none

pub own_all : (setup : Setup) (packets : List Packet) (place : ℕ) (one : HandOut) → let solo = (run_of setup packets).solo in slice_get solo.handed_out place ≡ Some one → one.outcome ≡ Unacknowledged → IsInGroup solo.membership one.slot
own_all setup packets place one there none = own_at (run_of setup packets).solo.membership (run_of setup packets).solo.handed_out place one (kept_of setup packets).own there none

pub bound_all : (setup : Setup) (packets : List Packet) (slot : ℕ) → let solo = (run_of setup packets).solo in IsInGroup solo.membership slot → slot < length solo.groups
bound_all setup packets slot in_ = (kept_of setup packets).bound slot in_
