-- A step that changes one view and nothing of its numbers keeps the gate's law: what the word becomes, and what the seat knows, go together.
use Rattle.std.proofs.Common.{◌≡◌, ℕ, ◌+◌, ◌-◌, ◌*◌, ◌/◌, ◌%◌, ◌<◌, ◌≤◌, Bool, true, false, ◌||◌, ◌⊎◌, ⊎_elim, inl, inr, true≢false, List, ◌∷◌, set, sym, refl, ap, ◌∙◌, arith}
use Rattle.std.specs.Prelude.{sum_by, ◌==◌}
use Rattle.std.proofs.lemmas.Bool.{eqb-true}
use Rattle.std.proofs.Math.Nat.{add-mod_right, div-add-mod, mul-add-mod_self_left}
use Rattle.std.proofs.Math.Bool.{or-true}
use Rattle.std.proofs.lemmas.List.Quantifiers.{any-set}
use Rattle.std.proofs.lemmas.List.Elements.{All-set}
use mathlib.Core.Option.{some}
use lib.ListN.{get_elem?}
use Rattle.gate_word.specs.declared.step.GateView.{GateView}
use Rattle.gate_word.specs.declared.step.GateStep.{GateStep}
use Rattle.gate_word.specs.declared.step.GateStep.TheVariants.{Entered, Bounced, TakenOff, Left, Shut, Looked}
use Rattle.gate_word.specs.Steps.{shut_bit, is_shut, seat_state, is_shutting, has_shut, found_shut, knows_shut, saw_drained}
use Rattle.gate_word.specs.Steps.SeatState.{Outside, Inside, Bouncing}
use Rattle.gate_word.specs.Seats.{stepped, adds, away, has_number}
use Rattle.gate_word.specs.GateLaw.{GateLaw, IsNotInside, NobodyIsInside, KnowsShut, HasShut, IsSeatIfAway, KnowsDrained}
use Rattle.gate_word.proofs.AllOut.{all_outside}
use Rattle.gate_word.proofs.Places.{within, all_at, any_at, sum_at, at_most}

-- the shut bit of a number that changes by 2, and of one that is set
pub bit-add : (word : ℕ) → shut_bit (word + 2) ≡ shut_bit word
bit-add word = add-mod_right word 2

pub bit-sub : (word : ℕ) → 2 ≤ word → shut_bit (word - 2) ≡ shut_bit word
bit-sub word two = let e : word - 2 + 2 ≡ word = omega arith in sym (add-mod_right (word - 2) 2) ∙ ap shut_bit e

pub bit-shut : (word : ℕ) → shut_bit (word + (1 - shut_bit word)) ≡ 1
bit-shut word =
    let parts : 2 * (word / 2) + word % 2 ≡ word = div-add-mod word 2 in
    let low : word % 2 < 2 = omega arith in
    let odd : word + (1 - shut_bit word) ≡ 2 * (word / 2) + 1 = omega arith in
    ap shut_bit odd ∙ mul-add-mod_self_left 2 (word / 2) 1

pub shut_again : (word next : ℕ) → shut_bit next ≡ shut_bit word → is_shut word ≡ true → is_shut next ≡ true
shut_again word next same shut = ap (λ (bit : ℕ). bit == 1) same ∙ shut

-- of a step that only found the word: if it makes its seat know that the gate is shut, the gate is shut
knows_more : (mine found before : Bool) → (mine || (found || before)) ≡ true → ((mine || before) ≡ true → found ≡ true) → found ≡ true
knows_more true found before mark known = known refl
knows_more false true before mark known = refl
knows_more false false before mark known = known mark

module _ (seats word : ℕ) (views : List GateView) (place : ℕ) (v : GateView) (law : GateLaw seats word views) (at : get_elem? views place ≡ some v) where
  keeps_set : (next : ℕ) (step : GateStep)
      → next + 2 * away v + shut_bit word ≡ word + 2 * away (stepped step v) + shut_bit next
      → (away (stepped step v) ≡ 1 → v.count ≡ 1)
      → (is_shut word ≡ true → is_shut next ≡ true)
      → (knows_shut (step ∷ v.steps) ≡ true → is_shut next ≡ true)
      → (is_shut next ≡ true → (is_shut word ≡ true) ⊎ HasShut (stepped step v))
      → (saw_drained (step ∷ v.steps) ≡ true → (is_shut word ≡ true) × NobodyIsInside views)
      → (is_shut word ≡ true → IsNotInside v → IsNotInside (stepped step v))
      → GateLaw seats next (set views place (stepped step v))
  keeps_set next step counts seat stays knows set_by saw not_inside =
      let w = stepped step v in
      let nobody : is_shut word ≡ true → NobodyIsInside views → NobodyIsInside (set views place w) =
      λ shut nobody. All-set IsNotInside views place w (not_inside shut (all_at IsNotInside views place v at nobody)) nobody in
      record {
        few = law.few;
        counted = (let sum = sum_at away views place v w at in let was = law.counted in omega arith);
        numbers = (λ number. let sum = sum_at (has_number number) views place v w at in let was = law.numbers number in omega arith);
        seated = All-set IsSeatIfAway views place w seat law.seated;
        total = All-set (λ u. u.seats ≡ seats) views place w (all_at (λ u. u.seats ≡ seats) views place v at law.total) law.total;
        shut = All-set (KnowsShut next) views place w knows (λ k d lt mark. stays (law.shut k d lt mark));
        shut_by = (λ shut. ⊎_elim
            (λ (was : is_shut word ≡ true). any_at HasShut views place v w at
            (λ marked. (marked.0, ap (λ (b : Bool). is_shutting step || b) marked.1 ∙ or-true (is_shutting step))) (law.shut_by was))
            (λ (marked : HasShut w). any-set HasShut views place w (within views place v at) marked)
            (set_by shut));
        drained = All-set (KnowsDrained next (set views place w)) views place w
            (λ mark. let known = saw mark in (stays known.0, nobody known.0 known.1))
            (λ k d lt mark. let known = law.drained k d lt mark in (stays known.0, nobody known.0 known.1));
      }

  -- what the law says of this view
  knows_at : (has_shut v.steps || (is_shut word || found_shut v.steps)) ≡ true → is_shut word ≡ true
  knows_at mark = knows_more (has_shut v.steps) (is_shut word) (found_shut v.steps) mark (all_at (KnowsShut word) views place v at law.shut)

  saw_at : saw_drained v.steps ≡ true → (is_shut word ≡ true) × NobodyIsInside views
  saw_at = all_at (KnowsDrained word views) views place v at law.drained

  seat_at : away v ≡ 1 → v.count ≡ 1
  seat_at = all_at IsSeatIfAway views place v at law.seated

  -- 2 more, by a seat that was outside
  adds_two : (step : GateStep) → v.count ≡ 1 → away v ≡ 0 → away (stepped step v) ≡ 1
      → (knows_shut (step ∷ v.steps) ≡ true → is_shut word ≡ true)
      → (saw_drained (step ∷ v.steps) ≡ true → saw_drained v.steps ≡ true)
      → (is_shut word ≡ true → IsNotInside (stepped step v))
      → GateLaw seats (word + 2) (set views place (stepped step v))
  adds_two step one outside away_now knows saw not_inside =
      let bit = bit-add word in
      let stays = shut_again word (word + 2) bit in
      keeps_set (word + 2) step (omega arith) (λ _. one) stays (λ mark. stays (knows mark)) (λ shut. inl (shut_again _ word (sym bit) shut)) (λ mark. saw_at (saw mark)) (λ shut _. not_inside shut)

  pub keeps_enter : v.count ≡ 1 → seat_state v.steps ≡ Outside → is_shut word ≡ false → GateLaw seats (word + 2) (set views place (stepped (Entered word) v))
  keeps_enter one outside is_open = adds_two (Entered word) one (ap adds outside) refl knows_at (λ mark. mark) (λ shut. absurd (true≢false (sym shut ∙ is_open)))

  pub keeps_bounce : v.count ≡ 1 → seat_state v.steps ≡ Outside → GateLaw seats (word + 2) (set views place (stepped (Bounced word) v))
  keeps_bounce one outside = adds_two (Bounced word) one (ap adds outside) refl knows_at (λ mark. mark) (λ _ inside. absurd (cc))

  -- who is not outside has added 2, which the word has
  pub has_two : away v ≡ 1 → 2 ≤ word
  has_two one =
      let most : away v ≤ sum_by away views = at_most away views place v at in
      let is = law.counted in
      omega arith

  -- 2 less, by a seat that was not outside
  takes_two : (step : GateStep) → away v ≡ 1 → seat_state (step ∷ v.steps) ≡ Outside
      → (knows_shut (step ∷ v.steps) ≡ true → is_shut word ≡ true)
      → (saw_drained (step ∷ v.steps) ≡ true → saw_drained v.steps ≡ true)
      → GateLaw seats (word - 2) (set views place (stepped step v))
  takes_two step one outside knows saw =
      let two = has_two one in
      let none : away (stepped step v) ≡ 0 = ap adds outside in
      let bit = bit-sub word two in
      let stays = shut_again word (word - 2) bit in
      keeps_set (word - 2) step (omega arith) (λ in_it. absurd (omega arith)) stays (λ mark. stays (knows mark)) (λ shut. inl (shut_again _ word (sym bit) shut)) (λ mark. saw_at (saw mark))
      (λ _ _ inside. let never : Outside ≡ Inside = sym outside ∙ inside in absurd (cc))

  pub keeps_take_off : seat_state v.steps ≡ Bouncing → GateLaw seats (word - 2) (set views place (stepped (TakenOff word) v))
  keeps_take_off bouncing = takes_two (TakenOff word) (ap adds bouncing) refl knows_at (λ mark. mark)

  pub keeps_leave : seat_state v.steps ≡ Inside → GateLaw seats (word - 2) (set views place (stepped (Left word) v))
  keeps_leave inside = takes_two (Left word) (ap adds inside) refl knows_at (λ mark. mark)

  pub keeps_shut : v.count ≡ 1 → GateLaw seats (word + (1 - shut_bit word)) (set views place (stepped (Shut word) v))
  keeps_shut one =
      let bit = bit-shut word in
      let low : shut_bit word < 2 = omega arith in
      let closed : is_shut (word + (1 - shut_bit word)) ≡ true = ap (λ (bit : ℕ). bit == 1) bit in
      keeps_set (word + (1 - shut_bit word)) (Shut word) (omega arith) seat_at (λ _. closed) (λ _. closed) (λ _. inr (one, refl)) saw_at (λ _ not_inside. not_inside)

  pub keeps_look : GateLaw seats word (set views place (stepped (Looked word) v))
  keeps_look = keeps_set word (Looked word) refl seat_at (λ shut. shut) knows_at (λ shut. inl shut) (saw_now (word == 1) refl) (λ _ not_inside. not_inside)
    where
      saw_now : (b : Bool) → (word == 1) ≡ b → (b || saw_drained v.steps) ≡ true → (is_shut word ≡ true) × NobodyIsInside views
      saw_now true one mark =
          let out = all_outside seats word views law (eqb-true word 1 one) in
          (out.0, λ k d lt inside. let outside = out.1 k d lt in let never : Outside ≡ Inside = sym outside ∙ inside in absurd (cc))
      saw_now false other mark = saw_at mark
