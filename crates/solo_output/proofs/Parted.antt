-- What goes out after a reply leaves a member one, and parts who is leaving from its group.
use Rattle.std.proofs.Common.{◌≡◌, ◌≢◌, ◌⊎◌, ℕ, List, [], ◌∷◌, refl, sym, ◌∙◌, inl, inr, ⊎_elim}
use Rattle.session_desk.specs.declared.session.Membership.{Membership}
use Rattle.session_desk.specs.declared.session.Membership.TheVariants.{NotMember, Member, Leaving}
use Rattle.solo_output.specs.Groups.{SoloState, Phase, unacknowledged, with_membership, waiting_in}
use Rattle.solo_output.specs.Groups.Phase.{Unconnected, Connected, Closed}
use Rattle.solo_output.specs.HandOuts.{hand_out, left_with, deliver_to, deliver_in, deliver}
use Rattle.solo_output.proofs.Sessions.{hand_out_keeps}

pub record Delivers (one two : SoloState) : Type 0 where
  pub stays : (slot : ℕ) → one.membership ≡ Member slot → two.membership ≡ Member slot
  pub was : (slot : ℕ) → two.membership ≡ Member slot → one.membership ≡ Member slot
  pub leaving : (slot : ℕ) → two.membership ≡ Leaving slot → one.membership ≡ Leaving slot
  pub parts : (slot : ℕ) → one.membership ≡ Leaving slot → (two.membership ≡ Leaving slot) ⊎ ((two.membership ≡ NotMember) × (unacknowledged two ≡ []))
  pub owes : (one.phase ≡ Connected) ⊎ ((slot : ℕ) → one.membership ≡ Leaving slot → unacknowledged one ≢ []) → (slot : ℕ) → two.membership ≡ Leaving slot → unacknowledged two ≢ []

-- nobody leaves
delivers_same : (one two : SoloState) → two.membership ≡ one.membership → ((slot : ℕ) → one.membership ≢ Leaving slot) → Delivers one two
delivers_same one two same none =
    record {
      stays = λ slot was. same ∙ was;
      was = λ slot now. sym same ∙ now;
      leaving = λ slot now. sym same ∙ now;
      parts = λ slot was. absurd (none slot was);
      owes = λ some slot now. absurd (none slot (sym same ∙ now));
    }

-- the connection does not go on
delivers_nothing : (solo : SoloState) → solo.phase ≢ Connected → Delivers solo solo
delivers_nothing solo ended =
    record {
      stays = λ slot was. was;
      was = λ slot now. now;
      leaving = λ slot now. now;
      parts = λ slot was. inl was;
      owes = λ some.
          ⊎_elim
          (λ (connected : solo.phase ≡ Connected). absurd (ended connected))
          (λ (before : (slot : ℕ) → solo.membership ≡ Leaving slot → unacknowledged solo ≢ []). before)
          some;
    }

delivers_left : (own : ℕ) (solo : SoloState) (identifiers : List ℕ) → solo.membership ≡ Leaving own → unacknowledged solo ≡ identifiers → Delivers solo (with_membership (left_with own identifiers) solo)
delivers_left own solo [] is none =
    record {
      stays = λ slot was. let e : Leaving own ≡ Member slot = sym is ∙ was in absurd cc;
      was = λ slot now. absurd cc;
      leaving = λ slot now. absurd cc;
      parts = λ slot was. inr (refl, none);
      owes = λ some' slot now. absurd cc;
    }
delivers_left own solo (identifier ∷ identifiers) is some =
    record {
      stays = λ slot was. let e : Leaving own ≡ Member slot = sym is ∙ was in absurd cc;
      was = λ slot now. absurd cc;
      leaving = λ slot now. is ∙ now;
      parts = λ slot was. inl (sym is ∙ was);
      owes = λ some' slot now none. let e : identifier ∷ identifiers ≡ [] = sym some ∙ none in absurd cc;
    }

delivers_to : (membership : Membership ℕ) (solo : SoloState) → solo.membership ≡ membership → Delivers solo (deliver_to membership solo).solo
delivers_to NotMember solo is = delivers_same solo solo refl (λ slot e. let no' : NotMember ≡ Leaving slot = sym is ∙ e in absurd cc)
delivers_to (Member own) solo is =
    delivers_same solo (hand_out own (waiting_in own solo) solo).solo (hand_out_keeps own (waiting_in own solo) solo).membership (λ slot e. let no' : Member own ≡ Leaving slot = sym is ∙ e in absurd cc)
delivers_to (Leaving own) solo is = delivers_left own solo (unacknowledged solo) is refl

delivers_in : (phase : Phase) (solo : SoloState) → solo.phase ≡ phase → Delivers solo (deliver_in phase solo).solo
delivers_in Unconnected solo is = delivers_nothing solo (λ e. let no' : Unconnected ≡ Connected = sym is ∙ e in absurd cc)
delivers_in Connected solo is = delivers_to solo.membership solo refl
delivers_in Closed solo is = delivers_nothing solo (λ e. let no' : Closed ≡ Connected = sym is ∙ e in absurd cc)

pub delivers : (solo : SoloState) → Delivers solo (deliver solo).solo
delivers solo = delivers_in solo.phase solo refl

-- hand-outs change no Subscription Identifier
under_to : (membership : Membership ℕ) (solo : SoloState) → (deliver_to membership solo).solo.subscription ≡ solo.subscription
under_to NotMember solo = refl
under_to (Member own) solo = (hand_out_keeps own (waiting_in own solo) solo).subscription
under_to (Leaving own) solo = refl

under_in : (phase : Phase) (solo : SoloState) → (deliver_in phase solo).solo.subscription ≡ solo.subscription
under_in Unconnected solo = refl
under_in Connected solo = under_to solo.membership solo
under_in Closed solo = refl

pub delivers_under : (solo : SoloState) → (deliver solo).solo.subscription ≡ solo.subscription
delivers_under solo = under_in solo.phase solo
