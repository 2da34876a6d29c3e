-- What every run of a model keeps in its groups: their slots, and one fate for each message.
use Rattle.std.proofs.Common.{◌≡◌, ℕ, ◌+◌, ◌≤◌, ◌==◌, nat_lt, not, Bool, true, false, cond, List, [], ◌∷◌, ◌++◌, length, Option, refl, sym, ap, ◌∙◌, subst, arith}
use Rattle.std.specs.List.{count_by}
use Rattle.std.proofs.lemmas.List.{append-nil, append_assoc, length-map, length_push, map-append}
use Rattle.std.proofs.lemmas.List.Sums.{sum_by-cons}
use Rattle.mqtt_packet.specs.declared.packet.Packet.{Packet}
use Rattle.mqtt_topic.specs.Names.{Share}
use Rattle.mqtt_topic.specs.Routes.{AreDistinct}
use Rattle.mqtt_topic.proofs.RouteLaws.{none_has, distinct_more}
use Rattle.conn_rules.specs.declared.setup.Setup.{Setup}
use Rattle.solo_output.specs.Groups.{SoloState, HandOut, Outcome, Bound, bound, opening, shares_of, accepted_in, handed_in, open_identifiers, acknowledges, refuses, discards, with_message, with_share}
use Rattle.solo_output.specs.Groups.Outcome.{Unacknowledged, Acknowledged, Discarded}
use Rattle.solo_output.specs.Replies.{solo_steps}
use Rattle.solo_output.specs.Report.{counts_of}
use Rattle.solo_output.specs.Runs.{run_of}
use Rattle.solo_output.proofs.Brokers.{shares_kept, length-accepting, length-shares, shares_first}
use Rattle.solo_output.proofs.Lists.{handed}
use Rattle.solo_output.proofs.Moves.{Ways, ran}
use Rattle.solo_output.proofs.Lawful.{kept_of}

-- ---- the groups

-- no more than eight where there were no more, of texts that differ where they did, and each share where it was
record Grows (one two : List Bound) : Type 0 where
  few : length one ≤ 8 → length two ≤ 8
  distinct : AreDistinct (shares_of one) → AreDistinct (shares_of two)
  later : List Share
  behind : shares_of two ≡ shares_of one ++ later

grows_none : (one two : List Bound) → length two ≡ length one → shares_of two ≡ shares_of one → Grows one two
grows_none one two many same =
    record { few = λ few. omega (arith, many, few); distinct = subst AreDistinct (sym same); later = []; behind = same ∙ sym (append-nil (shares_of one)) }

stay : (groups : List Bound) → Grows groups groups
stay groups = grows_none groups groups refl refl

abbrev GroupsGrow : SoloState → SoloState → Type 0
GroupsGrow one two = Grows one.groups two.groups

groups_grow : Ways GroupsGrow
groups_grow =
    record {
      stays = λ solo. stay solo.groups;
      goes_on = λ one two three first' later.
          record {
            few = λ few. later.few (first'.few few);
            distinct = λ distinct. later.distinct (first'.distinct distinct);
            later = first'.later ++ later.later;
            behind = later.behind ∙ ap (λ (l : List Share). l ++ later.later) first'.behind ∙ append_assoc (shares_of one.groups) first'.later later.later;
          };
      connects = λ connect solo is. stay solo.groups;
      closes = λ solo. stay solo.groups;
      expires = λ expiry solo. stay solo.groups;
      binds = λ share solo none few.
          let more : shares_of (with_share share solo).groups ≡ shares_of solo.groups ++ share ∷ [] = map-append (λ (g : Bound). g.share) solo.groups (bound share ∷ []) in
          record {
            few = λ fewer. omega (arith, length_push solo.groups (bound share), few);
            distinct = λ distinct. subst AreDistinct (sym more) (distinct_more (shares_of solo.groups) share distinct (none_has share.text (shares_of solo.groups) none));
            later = share ∷ [];
            behind = more;
          };
      joins = λ slot solo may within. stay solo.groups;
      leaves = λ slot solo is. stay solo.groups;
      parts = λ slot solo is none. stay solo.groups;
      subscribes = λ subscription solo. stay solo.groups;
    }

groups_ran : (packets : List Packet) (solo : SoloState) → GroupsGrow solo (solo_steps packets solo).solo
groups_ran =
    ran GroupsGrow groups_grow
    (λ slot message solo within room. grows_none solo.groups (with_message slot message solo).groups (length-accepting slot message solo.groups) (shares_kept slot message solo.groups))
    (λ identifier code solo. stay solo.groups)
    (λ slot message rest solo connected member less waits. stay solo.groups)

pub slots_all : (setup : Setup) (packets more : List Packet) → let solo = (run_of setup packets).solo in (later : List Share) × (shares_of (solo_steps more solo).solo.groups ≡ shares_of solo.groups ++ later)
slots_all setup packets more =
    let grows = groups_ran more (run_of setup packets).solo in
    (grows.later, grows.behind)

pub groups_all : (setup : Setup) (packets : List Packet) → length setup.groups ≤ 8 → AreDistinct setup.groups → let shares = shares_of (run_of setup packets).solo.groups in (length shares ≤ 8) × AreDistinct shares
groups_all setup packets few distinct =
    let solo = (run_of setup packets).solo in
    let grows = groups_ran packets (opening setup.capacity setup.max_inflight setup.groups) in
    let small : length solo.groups ≤ 8 = grows.few (omega (arith, length-map setup.groups bound, few)) in
    (omega (arith, length-shares solo.groups, small), grows.distinct (subst AreDistinct (sym (shares_first setup.groups)) distinct))

-- ---- fates

abbrev good : List HandOut → ℕ
good hand_outs = count_by (λ hand_out. acknowledges hand_out.outcome) hand_outs

abbrev bad : List HandOut → ℕ
bad hand_outs = count_by (λ hand_out. refuses hand_out.outcome) hand_outs

either_code : (b : Bool) → cond b 1 0 + cond (not b) 1 0 ≡ 1
either_code true = refl
either_code false = refl

abbrev off : List HandOut → ℕ
off hand_outs = count_by (λ hand_out. discards hand_out.outcome) hand_outs

-- each hand-out counts once
abbrev AllCount : List HandOut → Type 0
AllCount hand_outs = good hand_outs + bad hand_outs + off hand_outs + length (open_identifiers hand_outs) ≡ length hand_outs

fate_first : (slot : ℕ) (subscription : Option ℕ) (identifier : ℕ) (outcome : Outcome) (others : List HandOut) → AllCount others → AllCount (handed slot subscription identifier outcome ∷ others)
fate_first slot subscription identifier Unacknowledged others rest =
    let one = handed slot subscription identifier Unacknowledged in
    omega (arith, rest, sum_by-cons (λ (h : HandOut). cond (acknowledges h.outcome) 1 0) one others, sum_by-cons (λ (h : HandOut). cond (refuses h.outcome) 1 0) one others, sum_by-cons (λ (h : HandOut). cond (discards h.outcome) 1 0) one others)
fate_first slot subscription identifier (Acknowledged code) others rest =
    let one = handed slot subscription identifier (Acknowledged code) in
    let told : good (one ∷ others) ≡ cond (nat_lt code 128) 1 0 + good others = sum_by-cons (λ (h : HandOut). cond (acknowledges h.outcome) 1 0) one others in
    let not_told : bad (one ∷ others) ≡ cond (not (nat_lt code 128)) 1 0 + bad others = sum_by-cons (λ (h : HandOut). cond (refuses h.outcome) 1 0) one others in
    let sent : off (one ∷ others) ≡ 0 + off others = sum_by-cons (λ (h : HandOut). cond (discards h.outcome) 1 0) one others in
    omega (arith, rest, told, not_told, sent, either_code (nat_lt code 128))
fate_first slot subscription identifier Discarded others rest =
    let one = handed slot subscription identifier Discarded in
    omega (arith, rest, sum_by-cons (λ (h : HandOut). cond (acknowledges h.outcome) 1 0) one others, sum_by-cons (λ (h : HandOut). cond (refuses h.outcome) 1 0) one others, sum_by-cons (λ (h : HandOut). cond (discards h.outcome) 1 0) one others)

fates : (hand_outs : List HandOut) → AllCount hand_outs
fates [] = refl
fates (one ∷ others) = fate_first one.slot one.subscription one.identifier one.outcome others (fates others)

held_or_back : (b : Bool) (n : ℕ) → cond b 0 n + cond b n 0 ≡ n
held_or_back true n = omega arith
held_or_back false n = omega arith

pub fates_all : (setup : Setup) (packets : List Packet) (slot : ℕ) → let solo = (run_of setup packets).solo in let accepted = length (accepted_in slot solo.groups) in
    let fates = counts_of solo.terms.session_expiry_interval accepted (handed_in slot solo.handed_out) in fates.acknowledged + fates.refused + fates.held + fates.queued + fates.returned + fates.discarded ≡ accepted
fates_all setup packets slot =
    let solo = (run_of setup packets).solo in
    let own = handed_in slot solo.handed_out in
    omega (arith, (kept_of setup packets).order slot, fates own, held_or_back (solo.terms.session_expiry_interval == 0) (length (open_identifiers own)))
