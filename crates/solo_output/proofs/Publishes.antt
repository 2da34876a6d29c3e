-- A PUBLISH on one thread is one in the model.
use Rattle.std.proofs.Common.{◌≡◌, ◌⊎◌, ℕ, suc, ◌+◌, ◌<◌, Bool, true, false, cond, List, [], ◌∷◌, length, Result, sym, ap, ◌∙◌, subst, ⊎_elim, inl, inr, arith}
use Rattle.std.specs.List.{AllByRecursion}
use Rattle.std.proofs.lemmas.Bool.{cases_Bool}
use Rattle.std.proofs.lemmas.List.{length-map}
use Rattle.mqtt_topic.specs.Routes.{routed, places_of}
use Rattle.group_jobs.specs.declared.message.Message.{Message}
use Rattle.group_jobs.specs.declared.stamp.Stamp.{Stamp}
use Rattle.group_jobs.specs.Stamps.{Held}
use Rattle.conn_supply.specs.declared.supply.OfferRefusal.{OfferRefusal}
use Rattle.conn_supply.specs.SupplyCalls.SupplyCall.{Offer}
use Rattle.conn_supply.specs.Publishing.{Took, Offers}
use Rattle.local_broker.specs.Groups.{InGroup, IsOffered}
use Rattle.local_broker.specs.Broker.{Broker}
use Rattle.local_broker.specs.Calls.{Calls, OffersFrom}
use Rattle.solo_output.specs.Groups.{SoloState, accepted_in, handed_in, shares_of, with_message}
use Rattle.solo_output.specs.Publishing.{Offered, is_full, matching, offer_to, taken_too}
use Rattle.solo_output.proofs.Groups.{ShowsGroup, OfferedAs, offered}
use Rattle.solo_output.proofs.Brokers.{ShowsBroker, entries_at, in_group, as_many, accepted_same, accepted_other, shares_kept, length-accepting, length-shares}

-- the slots that match are there
places_below : (from : ℕ) (bits : List Bool) → AllByRecursion (λ slot. slot < from + length bits) (places_of from bits)
places_below from [] = tt
places_below from (true ∷ bits) =
    let same : from + 1 + length bits ≡ from + suc (length bits) = omega arith in
    (omega arith, subst (λ (n : ℕ). AllByRecursion (λ slot. slot < n) (places_of (from + 1) bits)) same (places_below (from + 1) bits))
places_below from (false ∷ bits) =
    let same : from + 1 + length bits ≡ from + suc (length bits) = omega arith in
    subst (λ (n : ℕ). AllByRecursion (λ slot. slot < n) (places_of (from + 1) bits)) same (places_below (from + 1) bits)

pub matching_below : (topic : List ℕ) (solo : SoloState) → AllByRecursion (λ slot. slot < length solo.groups) (matching topic solo)
matching_below topic solo =
    let many : length (routed topic (shares_of solo.groups)) ≡ length solo.groups = length-map (shares_of solo.groups) _ ∙ length-shares solo.groups in
    let same : 0 + length (routed topic (shares_of solo.groups)) ≡ length solo.groups = omega arith in
    subst (λ (n : ℕ). AllByRecursion (λ slot. slot < n) (matching topic solo)) same (places_below 0 (routed topic (shares_of solo.groups)))

-- one group is offered a message
abbrev OneOffer : Bool → ℕ → Message → SoloState → List (ℕ × Held) → Broker → Broker → ℕ → Type 0
OneOffer true slot message solo entries old new taken = (taken ≡ 0) × ShowsBroker solo entries new × (new.desk ≡ old.desk)
OneOffer false slot message solo entries old new taken = (taken ≡ 1) × ShowsBroker (with_message slot message solo) entries new × (new.desk ≡ old.desk)

module _ (solo : SoloState) (entries : List (ℕ × Held)) (old new : Broker) (shows : ShowsBroker solo entries old) (slot : ℕ) (message : Message) (answer : Result Stamp OfferRefusal) (taken : ℕ) where
  in_its : slot < length solo.groups → OffersFrom old.groups slot 0 message answer new.groups → InGroup old.groups slot (λ before after. IsOffered before 0 message answer after) new.groups
  in_its within (inl none) = absurd (omega (arith, none.0))
  in_its within (inr (inl none)) = absurd (omega (arith, none.1, within, shows.few))
  in_its within (inr (inr does)) = does.2

  one_offer : slot < length solo.groups → Calls old (Offer slot 0 message answer) new → Took answer taken → (full : Bool) → is_full slot solo ≡ full → OneOffer full slot message solo entries old new taken
  one_offer within does took full is =
      let call = in_its within does.0 in
      let accepted = accepted_in slot solo.groups in
      let hand_outs = handed_in slot solo.handed_out in
      let own = entries_at solo.membership slot entries in
      let got = offered solo.capacity slot accepted hand_outs own call.before (shows.groups slot call.before call.there) message call.after taken answer call.does took in
      made full (subst (λ (b : Bool). OfferedAs b solo.capacity slot accepted message hand_outs own taken call.after) is got)
    where
      many : length new.groups ≡ 8
      many = as_many old.groups new.groups slot _ (in_its within does.0) ∙ shows.eight

      made : (full : Bool) → OfferedAs full solo.capacity slot (accepted_in slot solo.groups) message (handed_in slot solo.handed_out) (entries_at solo.membership slot entries) taken (in_its within does.0).after
          → OneOffer full slot message solo entries old new taken
      made true got = (
        got.0,
        record {
          routes = does.1.routes ∙ shows.routes;
          few = shows.few;
          eight = many;
          groups = in_group old.groups new.groups slot _ _ (in_its within does.0) (λ other group differs there. shows.groups other group there) got.1;
        },
        does.1.desk,
      )
      made false got = (
        got.0,
        record {
          routes = does.1.routes ∙ shows.routes ∙ sym (shares_kept slot message solo.groups);
          few = omega (arith, length-accepting slot message solo.groups, shows.few);
          eight = many;
          groups = in_group old.groups new.groups slot _
              (λ other group. ShowsGroup solo.capacity other (accepted_in other (with_message slot message solo).groups) (handed_in other solo.handed_out) (entries_at solo.membership other entries) group)
              (in_its within does.0)
              (λ other group differs there.
              subst (λ (l : List Message). ShowsGroup solo.capacity other l (handed_in other solo.handed_out) (entries_at solo.membership other entries) group)
              (sym (accepted_other slot other message solo.groups differs)) (shows.groups other group there))
              (subst (λ (l : List Message). ShowsGroup solo.capacity slot l (handed_in slot solo.handed_out) (entries_at solo.membership slot entries) (in_its within does.0).after)
              (sym (accepted_same slot message solo.groups within)) got.1);
        },
        does.1.desk,
      )

-- each of these groups is
pub below_still : (slot : ℕ) (message : Message) (solo : SoloState) (slots : List ℕ) → AllByRecursion (λ s. s < length solo.groups) slots → AllByRecursion (λ s. s < length (with_message slot message solo).groups) slots
below_still slot message solo slots below = subst (λ (n : ℕ). AllByRecursion (λ s. s < n) slots) (sym (length-accepting slot message solo.groups)) below

pub record OfferedAll (solo : SoloState) (entries : List (ℕ × Held)) (offered : Offered) (old new : Broker) (taken : ℕ) : Type 0 where
  pub taken_is : taken ≡ offered.taken
  pub shows : ShowsBroker offered.solo entries new
  pub desk : new.desk ≡ old.desk

pub offers : (slots : List ℕ) (message : Message) (solo : SoloState) (entries : List (ℕ × Held)) (old new : Broker) (taken : ℕ) → ShowsBroker solo entries old → AllByRecursion (λ s. s < length solo.groups) slots
    → Offers Calls old 0 message slots taken new → OfferedAll solo entries (offer_to slots message solo) old new taken
offers [] message solo entries old new taken shows below does =
    record { taken_is = does.0; shows = subst (ShowsBroker solo entries) (sym does.1) shows; desk = ap (λ (b : Broker). b.desk) does.1 }
offers (slot ∷ slots) message solo entries old new taken shows below does =
    ⊎_elim
    (λ (full : is_full slot solo ≡ true).
    let one = one_offer solo entries old does.1 shows slot message does.0 does.2 below.0 does.4 does.5 true full in
    let rest = offers slots message solo entries does.1 new does.3 one.1 below.1 does.6 in
    subst (λ (b : Bool). OfferedAll solo entries (cond b (offer_to slots message solo) (taken_too (offer_to slots message (with_message slot message solo)))) old new taken) (sym full)
    (record { taken_is = does.7 ∙ (λ i. one.0 i + rest.taken_is i) ∙ Rattle.std.proofs.Common.zero-add (offer_to slots message solo).taken; shows = rest.shows; desk = rest.desk ∙ one.2 }))
    (λ (room : is_full slot solo ≡ false).
    let one = one_offer solo entries old does.1 shows slot message does.0 does.2 below.0 does.4 does.5 false room in
    let rest = offers slots message (with_message slot message solo) entries does.1 new does.3 one.1 (below_still slot message solo slots below.1) does.6 in
    subst (λ (b : Bool). OfferedAll solo entries (cond b (offer_to slots message solo) (taken_too (offer_to slots message (with_message slot message solo)))) old new taken) (sym room)
    (record { taken_is = does.7 ∙ (λ i. one.0 i + rest.taken_is i); shows = rest.shows; desk = rest.desk ∙ one.2 }))
    (cases_Bool (is_full slot solo))
