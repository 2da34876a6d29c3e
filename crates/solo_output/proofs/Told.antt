-- The PUBLISH packets that are sent are those of the hand-outs, group by group.
use Rattle.std.proofs.Common.{◌≡◌, ◌≢◌, ℕ, ◌+◌, ◌<◌, ◌≤◌, ◌==◌, ◌&&◌, Bool, true, false, cond, List, [], ◌∷◌, ◌++◌, map, length, drop, Option, refl, sym, ap, ◌∙◌, subst, ⊎_elim, arith, eq-eqb, ne_eqb}
use Rattle.std.specs.List.{filter, zip}
use Rattle.std.proofs.lemmas.Bool.{cases_eq, cond_both}
use Rattle.std.proofs.lemmas.List.{append-nil, append_assoc, length-map, length_push, map-append}
use Rattle.std.proofs.lemmas.List.Elements.{filter-append}
use Rattle.mqtt_packet.specs.declared.packet.Packet.{Packet}
use Rattle.group_jobs.specs.declared.message.Message.{Message}
use Rattle.session_desk.specs.declared.session.Membership.{Membership}
use Rattle.session_desk.specs.declared.session.Membership.TheVariants.{NotMember, Member, Leaving}
use Rattle.conn_rules.specs.HandOuts.{is_discarded}
use Rattle.conn_rules.specs.Packets.{job}
use Rattle.solo_output.specs.Groups.{SoloState, HandOut, Outcome, Phase, accepted_in, handed_in, waiting_in, is_open, was_sent, settled, unacknowledged, with_message, with_puback, with_hand_out, with_membership}
use Rattle.solo_output.specs.Groups.Outcome.{Unacknowledged, Acknowledged, Discarded}
use Rattle.solo_output.specs.Groups.Phase.{Unconnected, Connected, Closed}
use Rattle.solo_output.specs.HandOuts.{least_free, has_room, terms_in, outcome_of, packets_unless, next_hand_out, next_packets, sent_before, sends_nothing, hand_out, deliver_to, deliver_in, deliver}
use Rattle.solo_output.specs.Publishing.{is_full}
use Rattle.solo_output.specs.Replies.{reply}
use Rattle.solo_output.specs.Runs.{sent_of, sent_in, jobs_of}
use Rattle.solo_output.proofs.NextOuts.{waiting_behind}
use Rattle.solo_output.proofs.Lists.{handed, handed_in_push_same, handed_in_push_other, handed_in_settled}
use Rattle.solo_output.proofs.Brokers.{accepted_same, accepted_other, accepted_bound}
use Rattle.solo_output.proofs.Moves.{Ways, replied}
use Rattle.solo_output.proofs.Kept.{Kept, keeps, kept_accepting, kept_settling}

-- ---- hand-outs beside packets

-- one more of both
zip_push : {A B : Type 0} (xs : List A) (ys : List B) (x : A) (y : B) → length xs ≡ length ys → zip (xs ++ x ∷ []) (ys ++ y ∷ []) ≡ zip xs ys ++ (x, y) ∷ []
zip_push [] [] x y same = refl
zip_push [] (other ∷ ys) x y same = absurd (omega (arith, same))
zip_push (other ∷ xs) [] x y same = absurd (omega (arith, same))
zip_push (one ∷ xs) (other ∷ ys) x y same = ap (λ l. (one, other) ∷ l) (zip_push xs ys x y (omega (arith, same)))

first_if : (b : Bool) (packet : Packet) (one : HandOut) → map (λ (pair : Packet × HandOut). pair.0) (cond b ((packet, one) ∷ []) []) ≡ cond b (packet ∷ []) []
first_if true packet one = refl
first_if false packet one = refl

-- pairs of which those of one slot count
abbrev its_packets : ℕ → List Packet → List HandOut → List Packet
its_packets slot packets hand_outs = map (λ (pair : Packet × HandOut). pair.0) (filter (λ (pair : Packet × HandOut). pair.1.slot == slot) (zip packets hand_outs))

its_push : (slot : ℕ) (packets : List Packet) (hand_outs : List HandOut) (packet : Packet) (one : HandOut) → length packets ≡ length hand_outs
    → its_packets slot (packets ++ packet ∷ []) (hand_outs ++ one ∷ []) ≡ its_packets slot packets hand_outs ++ cond (one.slot == slot) (packet ∷ []) []
its_push slot packets hand_outs packet one same =
    let its = λ (pair : Packet × HandOut). pair.1.slot == slot in
    let of = λ (pair : Packet × HandOut). pair.0 in
    ap (λ l. map of (filter its l)) (zip_push packets hand_outs packet one same)
    ∙ ap (map of) (filter-append its (zip packets hand_outs) ((packet, one) ∷ []))
    ∙ map-append of (filter its (zip packets hand_outs)) (cond (one.slot == slot) ((packet, one) ∷ []) [])
    ∙ ap (λ l. its_packets slot packets hand_outs ++ l) (first_if (one.slot == slot) packet one)

-- a further hand-out that is sent, and one that is not
sent_of_push : (hand_outs : List HandOut) (one : HandOut) → was_sent one ≡ true → sent_of (hand_outs ++ one ∷ []) ≡ sent_of hand_outs ++ one ∷ []
sent_of_push hand_outs one sent = filter-append was_sent hand_outs (one ∷ []) ∙ ap (λ b. sent_of hand_outs ++ cond b (one ∷ []) []) sent

sent_of_discarded : (hand_outs : List HandOut) (one : HandOut) → was_sent one ≡ false → sent_of (hand_outs ++ one ∷ []) ≡ sent_of hand_outs
sent_of_discarded hand_outs one not_sent = filter-append was_sent hand_outs (one ∷ []) ∙ ap (λ b. sent_of hand_outs ++ cond b (one ∷ []) []) not_sent ∙ append-nil (sent_of hand_outs)

jobs_none : (messages : List Message) → jobs_of messages [] ≡ []
jobs_none [] = refl
jobs_none (message ∷ messages) = refl

-- the job of one hand-out in front of others
abbrev job_if : Message → HandOut → List Packet → List Packet
job_if message one rest = cond (was_sent one) (job 0 false message one.subscription one.identifier ∷ rest) rest

job_first : (b : Bool) (message : Message) (one : HandOut) (pairs : List (Message × HandOut))
    → map (λ (pair : Message × HandOut). job 0 false pair.0 pair.1.subscription pair.1.identifier) (cond b ((message, one) ∷ pairs) pairs)
    ≡ cond b (job 0 false message one.subscription one.identifier ∷ map (λ (pair : Message × HandOut). job 0 false pair.0 pair.1.subscription pair.1.identifier) pairs)
    (map (λ (pair : Message × HandOut). job 0 false pair.0 pair.1.subscription pair.1.identifier) pairs)
job_first true message one pairs = refl
job_first false message one pairs = refl

jobs_cons : (message : Message) (messages : List Message) (one : HandOut) (hand_outs : List HandOut) → jobs_of (message ∷ messages) (one ∷ hand_outs) ≡ job_if message one (jobs_of messages hand_outs)
jobs_cons message messages one hand_outs = job_first (was_sent one) message one (filter (λ (pair : Message × HandOut). was_sent pair.1) (zip messages hand_outs))

-- the next message goes out, or not
both_if : (b : Bool) (packet : Packet) (front back : List Packet) → cond b (packet ∷ (front ++ back)) (front ++ back) ≡ cond b (packet ∷ front) front ++ back
both_if true packet front back = refl
both_if false packet front back = refl

jobs_push : (messages : List Message) (hand_outs : List HandOut) (message : Message) (rest : List Message) (one : HandOut) → drop (length hand_outs) messages ≡ message ∷ rest
    → jobs_of messages (hand_outs ++ one ∷ []) ≡ jobs_of messages hand_outs ++ job_if message one []
jobs_push [] [] message rest one left = absurd cc
jobs_push [] (other ∷ hand_outs) message rest one left = absurd cc
jobs_push (own ∷ messages) [] message rest one left =
    let same : own ≡ message = cc in
    jobs_cons own messages one [] ∙ (λ i. job_if (same i) one (jobs_none messages i))
jobs_push (own ∷ messages) (other ∷ hand_outs) message rest one left =
    jobs_cons own messages other (hand_outs ++ one ∷ [])
    ∙ ap (job_if own other) (jobs_push messages hand_outs message rest one left)
    ∙ both_if (was_sent other) (job 0 false own other.subscription other.identifier) (jobs_of messages hand_outs) (job_if message one [])
    ∙ ap (λ (l : List Packet). l ++ job_if message one []) (sym (jobs_cons own messages other hand_outs))

-- a further message is none that went out
jobs_accepting : (messages : List Message) (message : Message) (hand_outs : List HandOut) → length hand_outs ≤ length messages → jobs_of (messages ++ message ∷ []) hand_outs ≡ jobs_of messages hand_outs
jobs_accepting [] message [] few = refl
jobs_accepting [] message (one ∷ hand_outs) few = absurd (omega arith)
jobs_accepting (own ∷ messages) message [] few = refl
jobs_accepting (own ∷ messages) message (one ∷ hand_outs) few =
    jobs_cons own (messages ++ message ∷ []) one hand_outs ∙ ap (job_if own one) (jobs_accepting messages message hand_outs (omega arith)) ∙ sym (jobs_cons own messages one hand_outs)

-- a PUBACK changes no identifier and no slot, and whether a hand-out was sent
same_subscription : (b : Bool) (code : ℕ) (one : HandOut) → (cond b (record one { outcome = Acknowledged code }) one).subscription ≡ one.subscription
same_subscription true code one = refl
same_subscription false code one = refl

same_identifier : (b : Bool) (code : ℕ) (one : HandOut) → (cond b (record one { outcome = Acknowledged code }) one).identifier ≡ one.identifier
same_identifier true code one = refl
same_identifier false code one = refl

same_slot : (b : Bool) (code : ℕ) (one : HandOut) → (cond b (record one { outcome = Acknowledged code }) one).slot ≡ one.slot
same_slot true code one = refl
same_slot false code one = refl

settled_sent : (identifier code slot : ℕ) (subscription : Option ℕ) (own : ℕ) (outcome : Outcome) → was_sent (settled identifier code (handed slot subscription own outcome)) ≡ was_sent (handed slot subscription own outcome)
settled_sent identifier code slot subscription own Unacknowledged =
    let one = handed slot subscription own Unacknowledged in
    let now = handed slot subscription own (Acknowledged code) in
    cond_both (own == identifier) now one (λ h. was_sent h ≡ true) (λ its. refl) (λ other. refl)
settled_sent identifier code slot subscription own (Acknowledged is) = refl
settled_sent identifier code slot subscription own Discarded = refl

same_sent : (identifier code : ℕ) (one : HandOut) → was_sent (settled identifier code one) ≡ was_sent one
same_sent identifier code one = settled_sent identifier code one.slot one.subscription one.identifier one.outcome

jobs_settled : (identifier code : ℕ) (messages : List Message) (hand_outs : List HandOut) → jobs_of messages (map (settled identifier code) hand_outs) ≡ jobs_of messages hand_outs
jobs_settled identifier code [] hand_outs = refl
jobs_settled identifier code (message ∷ messages) [] = refl
jobs_settled identifier code (message ∷ messages) (one ∷ hand_outs) =
    let its = is_open one && (one.identifier == identifier) in
    let rest = jobs_settled identifier code messages hand_outs in
    jobs_cons message messages (settled identifier code one) (map (settled identifier code) hand_outs)
    ∙ (λ i. cond (same_sent identifier code one i) (job 0 false message (same_subscription its code one i) (same_identifier its code one i) ∷ rest i) (rest i))
    ∙ sym (jobs_cons message messages one hand_outs)

first_kept : (b : Bool) (packet : Packet) (one other : HandOut) (pairs : List (Packet × HandOut))
    → map (λ (pair : Packet × HandOut). pair.0) (cond b ((packet, one) ∷ pairs) pairs) ≡ cond b (packet ∷ map (λ (pair : Packet × HandOut). pair.0) pairs) (map (λ (pair : Packet × HandOut). pair.0) pairs)
first_kept true packet one other pairs = refl
first_kept false packet one other pairs = refl

its_cons : (slot : ℕ) (packet : Packet) (packets : List Packet) (one : HandOut) (hand_outs : List HandOut)
    → its_packets slot (packet ∷ packets) (one ∷ hand_outs) ≡ cond (one.slot == slot) (packet ∷ its_packets slot packets hand_outs) (its_packets slot packets hand_outs)
its_cons slot packet packets one hand_outs = first_kept (one.slot == slot) packet one one (filter (λ (pair : Packet × HandOut). pair.1.slot == slot) (zip packets hand_outs))

its_settled : (slot identifier code : ℕ) (packets : List Packet) (hand_outs : List HandOut) → its_packets slot packets (map (settled identifier code) hand_outs) ≡ its_packets slot packets hand_outs
its_settled slot identifier code [] hand_outs = refl
its_settled slot identifier code (packet ∷ packets) [] = refl
its_settled slot identifier code (packet ∷ packets) (one ∷ hand_outs) =
    let rest = its_settled slot identifier code packets hand_outs in
    let own = same_slot (is_open one && (one.identifier == identifier)) code one in
    its_cons slot packet packets (settled identifier code one) (map (settled identifier code) hand_outs)
    ∙ (λ i. cond (own i == slot) (packet ∷ rest i) (rest i))
    ∙ sym (its_cons slot packet packets one hand_outs)

settled_if : (b : Bool) (identifier code : ℕ) (one : HandOut) (hand_outs : List HandOut) → cond b (settled identifier code one ∷ map (settled identifier code) hand_outs) (map (settled identifier code) hand_outs) ≡ map (settled identifier code) (cond b (one ∷ hand_outs) hand_outs)
settled_if true identifier code one hand_outs = refl
settled_if false identifier code one hand_outs = refl

sent_of_settled : (identifier code : ℕ) (hand_outs : List HandOut) → sent_of (map (settled identifier code) hand_outs) ≡ map (settled identifier code) (sent_of hand_outs)
sent_of_settled identifier code [] = refl
sent_of_settled identifier code (one ∷ hand_outs) =
    let rest = sent_of_settled identifier code hand_outs in
    (λ i. cond (same_sent identifier code one i) (settled identifier code one ∷ rest i) (rest i)) ∙ settled_if (was_sent one) identifier code one (sent_of hand_outs)

sent_settled : (slot identifier code : ℕ) (packets : List Packet) (hand_outs : List HandOut) → sent_in slot packets (map (settled identifier code) hand_outs) ≡ sent_in slot packets hand_outs
sent_settled slot identifier code packets hand_outs = ap (its_packets slot packets) (sent_of_settled identifier code hand_outs) ∙ its_settled slot identifier code packets (sent_of hand_outs)

-- ---- what was sent so far is that of the hand-outs

pub record SentAsHandedOut (packets : List Packet) (solo : SoloState) : Type 0 where
  pub many : length packets ≡ length (sent_of solo.handed_out)
  pub each : (slot : ℕ) → sent_in slot packets solo.handed_out ≡ jobs_of (accepted_in slot solo.groups) (handed_in slot solo.handed_out)

-- replies change nothing of it
abbrev Tells : SoloState → SoloState → Type 0
Tells one two = Kept one → Kept two × ((packets : List Packet) → SentAsHandedOut packets one → SentAsHandedOut packets two)

tells : Ways Tells
tells =
    record {
      stays = λ solo k. (k, λ packets told. told);
      goes_on = λ one two three first later k.
          let behind = first k in
          let last = later behind.0 in
          (last.0, λ packets told. last.1 packets (behind.1 packets told));
      connects = λ connect solo is k. (keeps.connects connect solo is k, λ packets told. record { many = told.many; each = told.each });
      closes = λ solo k. (keeps.closes solo k, λ packets told. record { many = told.many; each = told.each });
      expires = λ expiry solo k. (keeps.expires expiry solo k, λ packets told. record { many = told.many; each = told.each });
      binds = λ share solo none few k. (
        keeps.binds share solo none few k,
        λ packets told.
            record { many = told.many; each = λ slot. told.each slot ∙ ap (λ (l : List Message). jobs_of l (handed_in slot solo.handed_out)) (sym (accepted_bound slot share solo.groups)) },
      );
      joins = λ slot solo may within k. (keeps.joins slot solo may within k, λ packets told. record { many = told.many; each = told.each });
      leaves = λ slot solo is k. (keeps.leaves slot solo is k, λ packets told. record { many = told.many; each = told.each });
      parts = λ slot solo is none k. (keeps.parts slot solo is none k, λ packets told. record { many = told.many; each = told.each });
      subscribes = λ subscription solo k. (keeps.subscribes subscription solo k, λ packets told. record { many = told.many; each = told.each });
    }

told_accepting : (slot : ℕ) (message : Message) (solo : SoloState) → slot < length solo.groups → is_full slot solo ≡ false → Tells solo (with_message slot message solo)
told_accepting slot message solo within room k = (
  kept_accepting slot message solo within room k,
  λ packets told.
      record {
        many = told.many;
        each = λ at. told.each at ∙ sym (same at);
      },
)
  where
    same : (at : ℕ) → jobs_of (accepted_in at (with_message slot message solo).groups) (handed_in at solo.handed_out) ≡ jobs_of (accepted_in at solo.groups) (handed_in at solo.handed_out)
    same at =
        ⊎_elim
        (λ (is : at ≡ slot).
        subst (λ (n : ℕ). jobs_of (accepted_in n (with_message slot message solo).groups) (handed_in n solo.handed_out) ≡ jobs_of (accepted_in n solo.groups) (handed_in n solo.handed_out)) (sym is)
        (ap (λ (l : List Message). jobs_of l (handed_in slot solo.handed_out)) (accepted_same slot message solo.groups within)
        ∙ jobs_accepting (accepted_in slot solo.groups) message (handed_in slot solo.handed_out) (k.order slot)))
        (λ (other : at ≢ slot). ap (λ (l : List Message). jobs_of l (handed_in at solo.handed_out)) (accepted_other slot at message solo.groups other))
        (cases_eq at slot)

told_settling : (identifier code : ℕ) (solo : SoloState) → Tells solo (with_puback identifier code solo)
told_settling identifier code solo k = (
  kept_settling identifier code solo k,
  λ packets told.
      record {
        many = told.many ∙ sym (length-map (sent_of solo.handed_out) (settled identifier code)) ∙ ap length (sym (sent_of_settled identifier code solo.handed_out));
        each = λ slot.
            sent_settled slot identifier code packets solo.handed_out ∙ told.each slot
            ∙ sym (jobs_settled identifier code (accepted_in slot solo.groups) (handed_in slot solo.handed_out))
            ∙ ap (jobs_of (accepted_in slot solo.groups)) (sym (handed_in_settled identifier code slot solo.handed_out));
      },
)

pub told_replying : (packet : Packet) (solo : SoloState) → Tells solo (reply packet solo).solo
told_replying = replied Tells tells told_accepting told_settling

-- ---- a hand-out is told by its packet, where it is sent

nothing_if : (b : Bool) → ◌≡◌ {A = List Packet} [] (cond b [] [])
nothing_if true = refl
nothing_if false = refl

-- the packets of one slot
sent_one : (discarded : Bool) (slot at : ℕ) (subscription : Option ℕ) (identifier : ℕ) (packet : Packet) (packets : List Packet) (hand_outs : List HandOut) → length packets ≡ length (sent_of hand_outs)
    → let one = handed slot subscription identifier (outcome_of discarded) in
    (length (packets ++ packets_unless discarded packet) ≡ length (sent_of (hand_outs ++ one ∷ [])))
    × (sent_in at (packets ++ packets_unless discarded packet) (hand_outs ++ one ∷ []) ≡ sent_in at packets hand_outs ++ cond (slot == at) (packets_unless discarded packet) [])
sent_one true slot at subscription identifier packet packets hand_outs same =
    let one = handed slot subscription identifier Discarded in
    let kept = sent_of_discarded hand_outs one refl in
    let none = append-nil packets in (
      ap length none ∙ same ∙ ap length (sym kept),
      (λ i. its_packets at (none i) (kept i)) ∙ sym (append-nil (sent_in at packets hand_outs)) ∙ ap (λ (l : List Packet). sent_in at packets hand_outs ++ l) (nothing_if (slot == at)),
    )
sent_one false slot at subscription identifier packet packets hand_outs same =
    let one = handed slot subscription identifier Unacknowledged in
    let more = sent_of_push hand_outs one refl in (
      length_push packets packet ∙ ap (λ n. n + 1) same ∙ sym (length_push (sent_of hand_outs) one) ∙ ap length (sym more),
      ap (its_packets at (packets ++ packet ∷ [])) more ∙ its_push at packets (sent_of hand_outs) packet one same,
    )

job_of_one : (discarded : Bool) (slot : ℕ) (subscription : Option ℕ) (identifier : ℕ) (message : Message)
    → job_if message (handed slot subscription identifier (outcome_of discarded)) [] ≡ packets_unless discarded (job 0 false message subscription identifier)
job_of_one true slot subscription identifier message = refl
job_of_one false slot subscription identifier message = refl

told_one : (slot : ℕ) (message : Message) (rest : List Message) (solo : SoloState) (packets : List Packet) → waiting_in slot solo ≡ message ∷ rest → SentAsHandedOut packets solo
    → SentAsHandedOut (packets ++ next_packets message solo) (with_hand_out (next_hand_out slot message solo) solo)
told_one slot message rest solo packets waits told =
    let next = least_free (unacknowledged solo) in
    let discarded = is_discarded (terms_in solo) message in
    let one = next_hand_out slot message solo in
    let packet = job 0 false message solo.subscription next in
    let sent = λ (at : ℕ). sent_one discarded slot at solo.subscription next packet packets solo.handed_out told.many in
    record {
      many = (sent slot).0;
      each = λ at.
          ⊎_elim
          (λ (is : at ≡ slot).
          subst (λ (n : ℕ). sent_in n (packets ++ next_packets message solo) (solo.handed_out ++ one ∷ []) ≡ jobs_of (accepted_in n solo.groups) (handed_in n (solo.handed_out ++ one ∷ []))) (sym is)
          ((sent slot).1
          ∙ ap (λ b. sent_in slot packets solo.handed_out ++ cond b (next_packets message solo) []) (eq-eqb slot slot refl)
          ∙ (λ i. told.each slot i ++ sym (job_of_one discarded slot solo.subscription next message) i)
          ∙ sym (jobs_push (accepted_in slot solo.groups) (handed_in slot solo.handed_out) message rest one waits)
          ∙ ap (jobs_of (accepted_in slot solo.groups)) (sym (handed_in_push_same solo.handed_out one))))
          (λ (other : at ≢ slot).
          (sent at).1
          ∙ ap (λ b. sent_in at packets solo.handed_out ++ cond b (next_packets message solo) []) (ne_eqb slot at (λ e. other (sym e)))
          ∙ append-nil (sent_in at packets solo.handed_out)
          ∙ told.each at
          ∙ ap (jobs_of (accepted_in at solo.groups)) (sym (handed_in_push_other solo.handed_out one at (λ e. other (sym e)))))
          (cases_eq at slot);
    }

pub told_handing : (slot : ℕ) (messages : List Message) (solo : SoloState) (packets : List Packet) → waiting_in slot solo ≡ messages → SentAsHandedOut packets solo → SentAsHandedOut (packets ++ (hand_out slot messages solo).sent) (hand_out slot messages solo).solo
told_handing slot [] solo packets waits told = subst (λ (l : List Packet). SentAsHandedOut l solo) (sym (append-nil packets)) told
told_handing slot (message ∷ messages) solo packets waits told =
    let one = next_hand_out slot message solo in
    let next = with_hand_out one solo in
    let later = hand_out slot messages next in
    let sent = next_packets message solo in
    cond_both (has_room solo) (sent_before sent later) (sends_nothing solo) (λ s. SentAsHandedOut (packets ++ s.sent) s.solo)
    (λ room.
    subst (λ (l : List Packet). SentAsHandedOut l later.solo) (append_assoc packets sent later.sent)
    (told_handing slot messages next (packets ++ sent) (waiting_behind one solo message messages waits) (told_one slot message messages solo packets waits told)))
    (λ full. subst (λ (l : List Packet). SentAsHandedOut l solo) (sym (append-nil packets)) told)

-- who leaves is handed nothing
told_left : (slot : ℕ) (solo : SoloState) (packets : List Packet) (membership : Membership ℕ) → SentAsHandedOut packets solo → SentAsHandedOut packets (with_membership membership solo)
told_left slot solo packets membership told = record { many = told.many; each = told.each }

delivers_to : (membership : Membership ℕ) (solo : SoloState) (packets : List Packet) → SentAsHandedOut packets solo → SentAsHandedOut (packets ++ (deliver_to membership solo).sent) (deliver_to membership solo).solo
delivers_to NotMember solo packets told = subst (λ (l : List Packet). SentAsHandedOut l solo) (sym (append-nil packets)) told
delivers_to (Member slot) solo packets told = told_handing slot (waiting_in slot solo) solo packets refl told
delivers_to (Leaving slot) solo packets told =
    subst (λ (l : List Packet). SentAsHandedOut l (deliver_to (Leaving slot) solo).solo) (sym (append-nil packets)) (told_left slot solo packets _ told)

delivers_in : (phase : Phase) (solo : SoloState) (packets : List Packet) → SentAsHandedOut packets solo → SentAsHandedOut (packets ++ (deliver_in phase solo).sent) (deliver_in phase solo).solo
delivers_in Unconnected solo packets told = subst (λ (l : List Packet). SentAsHandedOut l solo) (sym (append-nil packets)) told
delivers_in Connected solo packets told = delivers_to solo.membership solo packets told
delivers_in Closed solo packets told = subst (λ (l : List Packet). SentAsHandedOut l solo) (sym (append-nil packets)) told

pub told_delivering : (solo : SoloState) (packets : List Packet) → SentAsHandedOut packets solo → SentAsHandedOut (packets ++ (deliver solo).sent) (deliver solo).solo
told_delivering solo packets told = delivers_in solo.phase solo packets told
