-- What is discarded is what the client is not to be sent, and nothing else.
use Rattle.std.proofs.Common.{◌≡◌, ◌≢◌, ◌↔◌, ℕ, zero, suc, ◌<◌, ◌≤◌, ◌==◌, Bool, true, false, List, [], ◌∷◌, ◌++◌, map, length, drop, slice_get, Option, Some, None, refl, sym, ap, ◌∙◌, subst, ⊎_elim, arith}
use Rattle.std.proofs.lemmas.Bool.{cases_eq, cond_both}
use Rattle.std.proofs.lemmas.Option.{none-some, same_Some}
use Rattle.mqtt_packet.specs.declared.packet.Connect.{Connect}
use Rattle.mqtt_packet.specs.declared.packet.Packet.{Packet}
use Rattle.mqtt_packet.specs.declared.packet.Packet.TheVariants as kinds
use Rattle.group_jobs.specs.declared.message.Message.{Message}
use Rattle.session_desk.specs.declared.session.Membership.TheVariants.{Member}
use Rattle.conn_rules.specs.declared.connecting.FirstAnswer.{FirstAnswer}
use Rattle.conn_rules.specs.declared.connecting.FirstAnswer.TheVariants as first
use Rattle.conn_rules.specs.declared.setup.Setup.{Setup}
use Rattle.conn_rules.specs.Connecting.{connect_answer}
use Rattle.conn_rules.specs.declared.hand_outs.HandOutTerms.{HandOutTerms}
use Rattle.conn_rules.specs.HandOuts.{is_discarded}
use Rattle.solo_output.specs.Groups.{SoloState, HandOut, Outcome, opening, accepted_in, handed_in, waiting_in, unacknowledged, discards, settled, with_message, with_puback, with_hand_out}
use Rattle.solo_output.specs.Groups.Outcome.{Unacknowledged, Acknowledged, Discarded}
use Rattle.solo_output.specs.Groups.Phase.{Connected, Closed}
use Rattle.solo_output.specs.HandOuts.{quota, terms_in, outcome_of, next_hand_out}
use Rattle.solo_output.specs.Publishing.{Reply, is_full}
use Rattle.solo_output.specs.Replies.{first_reply_as, behind_reply, solo_steps}
use Rattle.solo_output.specs.Runs.{run_of}
use Rattle.solo_output.proofs.Brokers.{accepted_same, accepted_other, accepted_bound}
use Rattle.solo_output.proofs.Lists.{handed, handed_in_push_same, handed_in_push_other, handed_in_settled}
use Rattle.solo_output.proofs.Moves.{Ways, ran}
use Rattle.solo_output.proofs.Kept.{Kept, keeps, kept_first, kept_accepting, kept_settling, kept_handing}
use Rattle.solo_output.proofs.Lawful.{asked_ran, stays_closed}

-- ---- messages beside their hand-outs

-- each hand-out was discarded exactly where its message was too long for a client of this Maximum Packet Size
-- what a hand-out is made under: this Maximum Packet Size, and this Subscription Identifier
abbrev terms_under : Option ℕ → Option ℕ → HandOutTerms
terms_under maximum subscription = record { at = 0; subscription = subscription; maximum_packet_size = maximum }

abbrev AllFit : Option ℕ → List Message → List HandOut → Type 0
AllFit maximum [] hand_outs = Unit {0}
AllFit maximum (message ∷ messages) [] = Unit {0}
AllFit maximum (message ∷ messages) (one ∷ hand_outs) = (discards one.outcome ≡ is_discarded (terms_under maximum one.subscription) message) × AllFit maximum messages hand_outs

fit_none : (maximum : Option ℕ) (messages : List Message) → AllFit maximum messages []
fit_none maximum [] = tt
fit_none maximum (message ∷ messages) = tt

-- a further message has not been handed out
fit_accepting : (maximum : Option ℕ) (messages : List Message) (message : Message) (hand_outs : List HandOut) → length hand_outs ≤ length messages → AllFit maximum messages hand_outs → AllFit maximum (messages ++ message ∷ []) hand_outs
fit_accepting maximum [] message [] few all = tt
fit_accepting maximum [] message (one ∷ hand_outs) few all = absurd (omega arith)
fit_accepting maximum (own ∷ messages) message [] few all = tt
fit_accepting maximum (own ∷ messages) message (one ∷ hand_outs) few all = (all.0, fit_accepting maximum messages message hand_outs (omega arith) all.1)

-- a PUBACK discards nothing
settled_discards : (identifier code slot : ℕ) (subscription : Option ℕ) (own : ℕ) (outcome : Outcome) → discards (settled identifier code (handed slot subscription own outcome)).outcome ≡ discards outcome
settled_discards identifier code slot subscription own Unacknowledged =
    cond_both (own == identifier) (handed slot subscription own (Acknowledged code)) (handed slot subscription own Unacknowledged) (λ h. discards h.outcome ≡ false) (λ its. refl) (λ other. refl)
settled_discards identifier code slot subscription own (Acknowledged is) = refl
settled_discards identifier code slot subscription own Discarded = refl

settled_subscription : (identifier code slot : ℕ) (subscription : Option ℕ) (own : ℕ) (outcome : Outcome) → (settled identifier code (handed slot subscription own outcome)).subscription ≡ subscription
settled_subscription identifier code slot subscription own Unacknowledged =
    cond_both (own == identifier) (handed slot subscription own (Acknowledged code)) (handed slot subscription own Unacknowledged) (λ h. h.subscription ≡ subscription) (λ its. refl) (λ other. refl)
settled_subscription identifier code slot subscription own (Acknowledged is) = refl
settled_subscription identifier code slot subscription own Discarded = refl

fit_settling : (maximum : Option ℕ) (identifier code : ℕ) (messages : List Message) (hand_outs : List HandOut) → AllFit maximum messages hand_outs → AllFit maximum messages (map (settled identifier code) hand_outs)
fit_settling maximum identifier code [] hand_outs all = tt
fit_settling maximum identifier code (message ∷ messages) [] all = tt
fit_settling maximum identifier code (message ∷ messages) (one ∷ hand_outs) all = (
  settled_discards identifier code one.slot one.subscription one.identifier one.outcome ∙ all.0
      ∙ ap (λ (s : Option ℕ). is_discarded (terms_under maximum s) message) (sym (settled_subscription identifier code one.slot one.subscription one.identifier one.outcome)),
  fit_settling maximum identifier code messages hand_outs all.1,
)

-- the next is handed out
fit_handing : (maximum : Option ℕ) (messages : List Message) (hand_outs : List HandOut) (message : Message) (rest : List Message) (one : HandOut) → drop (length hand_outs) messages ≡ message ∷ rest → discards one.outcome ≡ is_discarded (terms_under maximum one.subscription) message
    → AllFit maximum messages hand_outs → AllFit maximum messages (hand_outs ++ one ∷ [])
fit_handing maximum [] hand_outs message rest one left its all = tt
fit_handing maximum (own ∷ messages) [] message rest one left its all =
    let same : own ≡ message = cc in
    (its ∙ ap (is_discarded (terms_under maximum one.subscription)) (sym same), fit_none maximum messages)
fit_handing maximum (own ∷ messages) (other ∷ hand_outs) message rest one left its all = (all.0, fit_handing maximum messages hand_outs message rest one left its all.1)

fit_at : (maximum : Option ℕ) (messages : List Message) (hand_outs : List HandOut) (place : ℕ) (message : Message) (one : HandOut) → AllFit maximum messages hand_outs → slice_get messages place ≡ Some message → slice_get hand_outs place ≡ Some one
    → discards one.outcome ≡ is_discarded (terms_under maximum one.subscription) message
fit_at maximum [] hand_outs place message one all there its = absurd (none-some message there)
fit_at maximum (own ∷ messages) [] place message one all there its = absurd (none-some one its)
fit_at maximum (own ∷ messages) (other ∷ hand_outs) zero message one all there its =
    let same = same_Some own message there in
    let same_one = same_Some other one its in
    subst (λ (h : HandOut). discards h.outcome ≡ is_discarded (terms_under maximum h.subscription) message) same_one (all.0 ∙ ap (is_discarded (terms_under maximum other.subscription)) same)
fit_at maximum (own ∷ messages) (other ∷ hand_outs) (suc place) message one all there its = fit_at maximum messages hand_outs place message one all.1 there its

-- ---- every move

abbrev AreFit : SoloState → Type 0
AreFit solo = (slot : ℕ) → AllFit solo.terms.maximum_packet_size (accepted_in slot solo.groups) (handed_in slot solo.handed_out)

abbrev Suits : SoloState → SoloState → Type 0
Suits one two = Kept one → Kept two × (AreFit one → AreFit two)

suits : Ways Suits
suits =
    record {
      stays = λ solo k. (k, λ fit. fit);
      goes_on = λ one two three first' later k. let behind = first' k in let last = later behind.0 in (last.0, λ fit. last.1 (behind.1 fit));
      connects = λ connect solo is k. (
        keeps.connects connect solo is k,
        λ fit slot. subst (λ (hs : List HandOut). AllFit connect.properties.maximum_packet_size (accepted_in slot solo.groups) (handed_in slot hs)) (sym (k.fresh is)) (fit_none connect.properties.maximum_packet_size (accepted_in slot solo.groups)),
      );
      closes = λ solo k. (keeps.closes solo k, λ fit. fit);
      expires = λ expiry solo k. (keeps.expires expiry solo k, λ fit. fit);
      binds = λ share solo none few k. (
        keeps.binds share solo none few k,
        λ fit slot. subst (λ (l : List Message). AllFit solo.terms.maximum_packet_size l (handed_in slot solo.handed_out)) (sym (accepted_bound slot share solo.groups)) (fit slot),
      );
      joins = λ slot solo may within k. (keeps.joins slot solo may within k, λ fit. fit);
      leaves = λ slot solo is k. (keeps.leaves slot solo is k, λ fit. fit);
      parts = λ slot solo is none k. (keeps.parts slot solo is none k, λ fit. fit);
      subscribes = λ subscription solo k. (keeps.subscribes subscription solo k, λ fit. fit);
    }

suits_accepting : (slot : ℕ) (message : Message) (solo : SoloState) → slot < length solo.groups → is_full slot solo ≡ false → Suits solo (with_message slot message solo)
suits_accepting slot message solo within room k = (
  kept_accepting slot message solo within room k,
  λ fit at.
      ⊎_elim
      (λ (is : at ≡ slot).
      subst (λ (n : ℕ). AllFit solo.terms.maximum_packet_size (accepted_in n (with_message slot message solo).groups) (handed_in n solo.handed_out)) (sym is)
      (subst (λ (l : List Message). AllFit solo.terms.maximum_packet_size l (handed_in slot solo.handed_out)) (sym (accepted_same slot message solo.groups within))
      (fit_accepting solo.terms.maximum_packet_size (accepted_in slot solo.groups) message (handed_in slot solo.handed_out) (k.order slot) (fit slot))))
      (λ (other : at ≢ slot). subst (λ (l : List Message). AllFit solo.terms.maximum_packet_size l (handed_in at solo.handed_out)) (sym (accepted_other slot at message solo.groups other)) (fit at))
      (cases_eq at slot),
)

suits_settling : (identifier code : ℕ) (solo : SoloState) → Suits solo (with_puback identifier code solo)
suits_settling identifier code solo k = (
  kept_settling identifier code solo k,
  λ fit slot.
      subst (AllFit solo.terms.maximum_packet_size (accepted_in slot solo.groups)) (sym (handed_in_settled identifier code slot solo.handed_out))
      (fit_settling solo.terms.maximum_packet_size identifier code (accepted_in slot solo.groups) (handed_in slot solo.handed_out) (fit slot)),
)

discards_as : (discarded : Bool) → discards (outcome_of discarded) ≡ discarded
discards_as true = refl
discards_as false = refl

suits_handing : (slot : ℕ) (message : Message) (rest : List Message) (solo : SoloState) → solo.phase ≡ Connected → solo.membership ≡ Member slot → length (unacknowledged solo) < quota solo → waiting_in slot solo ≡ message ∷ rest
    → Suits solo (with_hand_out (next_hand_out slot message solo) solo)
suits_handing slot message rest solo connected member less waits k = (
  kept_handing slot message rest solo connected member less waits k,
  λ fit at.
      (let one = next_hand_out slot message solo in
      let maximum = solo.terms.maximum_packet_size in
      ⊎_elim
      (λ (is : at ≡ slot).
      subst (λ (n : ℕ). AllFit maximum (accepted_in n solo.groups) (handed_in n (solo.handed_out ++ one ∷ []))) (sym is)
      (subst (AllFit maximum (accepted_in slot solo.groups)) (sym (handed_in_push_same solo.handed_out one))
      (fit_handing maximum (accepted_in slot solo.groups) (handed_in slot solo.handed_out) message rest one waits (discards_as (is_discarded (terms_in solo) message)) (fit slot))))
      (λ (other : at ≢ slot). subst (AllFit maximum (accepted_in at solo.groups)) (sym (handed_in_push_other solo.handed_out one at (λ e. other (sym e)))) (fit at))
      (cases_eq at slot)),
)

fit_all : (setup : Setup) (packets : List Packet) → AreFit (run_of setup packets).solo
fit_all setup packets =
    let start = opening setup.capacity setup.max_inflight setup.groups in
    (ran Suits suits suits_accepting suits_settling suits_handing packets start (kept_first setup.capacity setup.max_inflight setup.groups)).1
    (λ slot. fit_none start.terms.maximum_packet_size (accepted_in slot start.groups))

-- ---- the Maximum Packet Size of the CONNECT

is_discarded_out : (outcome : Outcome) → discards outcome ≡ true → outcome ≡ Discarded
is_discarded_out Unacknowledged e = absurd cc
is_discarded_out (Acknowledged code) e = absurd cc
is_discarded_out Discarded e = refl

none_handed : (slot place : ℕ) (one : HandOut) (hand_outs : List HandOut) → hand_outs ≡ [] → slice_get (handed_in slot hand_outs) place ≡ Some one → ⊥
none_handed slot place one hand_outs none there = none-some one (ap (λ (hs : List HandOut). slice_get (handed_in slot hs) place) (sym none) ∙ there)

module _ (setup : Setup) (connect : Connect) (packets : List Packet) (slot place : ℕ) (message : Message) (one : HandOut) where
  abbrev start : SoloState
  start = opening setup.capacity setup.max_inflight setup.groups

  -- of a model whose terms are those of the CONNECT, or that handed nothing out
  abbrev Discarding : SoloState → Type 0
  Discarding solo =
      slice_get (accepted_in slot solo.groups) place ≡ Some message → slice_get (handed_in slot solo.handed_out) place ≡ Some one
      → discards one.outcome ≡ is_discarded (terms_under connect.properties.maximum_packet_size one.subscription) message

  closed : (r : Reply) → r.solo.phase ≡ Closed → r.solo.handed_out ≡ [] → Discarding (solo_steps packets (behind_reply r).solo).solo
  closed r is none there its = absurd (none_handed slot place one (solo_steps packets (behind_reply r).solo).solo.handed_out (ap (λ (s : SoloState). s.handed_out) (stays_closed packets r is) ∙ none) its)

  by_answer : (answer : FirstAnswer) → AreFit (solo_steps packets (behind_reply (first_reply_as answer (kinds.Connect connect) start)).solo).solo
      → Discarding (solo_steps packets (behind_reply (first_reply_as answer (kinds.Connect connect) start)).solo).solo
  by_answer first.Close fit = closed (first_reply_as first.Close (kinds.Connect connect) start) refl refl
  by_answer (first.Refuse refusal) fit = closed (first_reply_as (first.Refuse refusal) (kinds.Connect connect) start) refl refl
  by_answer first.Attach fit = λ there its.
      let next = (behind_reply (first_reply_as first.Attach (kinds.Connect connect) start)).solo in
      let same = (asked_ran packets next (λ e. absurd cc)).2 in
      let last = (solo_steps packets next).solo in
      fit_at last.terms.maximum_packet_size (accepted_in slot last.groups) (handed_in slot last.handed_out) place message one (fit slot) there its
      ∙ ap (λ (m : Option ℕ). is_discarded (terms_under m one.subscription) message) same

  pub discarded_all : let solo = (run_of setup (kinds.Connect connect ∷ packets)).solo in
      slice_get (accepted_in slot solo.groups) place ≡ Some message → slice_get (handed_in slot solo.handed_out) place ≡ Some one
      → (one.outcome ≡ Discarded) ↔ (is_discarded (terms_under connect.properties.maximum_packet_size one.subscription) message ≡ true)
  discarded_all there its =
      let same = by_answer (connect_answer None connect) (fit_all setup (kinds.Connect connect ∷ packets)) there its in
      (λ is. sym same ∙ ap discards is, λ due. is_discarded_out one.outcome (same ∙ due))
