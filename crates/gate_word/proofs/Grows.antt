-- Each kind of step that brings a new view keeps the gate's law: a seat is cut off, and a token is made.
use Rattle.std.proofs.Common.{◌≡◌, ℕ, ◌+◌, ◌-◌, ◌≤◌, true, ◌&&◌, true≢false, List, [], ◌∷◌, ◌++◌, set, sym, refl, ap, ◌∙◌, arith}
use Rattle.std.specs.Prelude.{All, nat_le, nat_lt, if◌then◌else◌}
use Rattle.std.proofs.lemmas.Bool.Decides.{nat_tests}
use Rattle.std.proofs.lemmas.List.Elements.{All-set, All-append, All-nil, All-cons}
use Rattle.std.proofs.lemmas.List.Sums.{sum_by_push}
use mathlib.Core.Option.{some}
use lib.ListN.{get_elem?}
use Rattle.gate_word.specs.declared.step.GateView.{GateView}
use Rattle.gate_word.specs.Steps.{seat_state, saw_drained}
use Rattle.gate_word.specs.Steps.SeatState.{Outside, Inside}
use Rattle.gate_word.specs.Seats.{adds, away, has_number, all_seats, cut_seat, rest_after_cut, token}
use Rattle.gate_word.specs.GateLaw.{GateLaw, IsNotInside, NobodyIsInside, KnowsShut, HasShut, IsSeatIfAway, KnowsDrained}
use Rattle.gate_word.proofs.Places.{all_at, any_at, any_front, sum_at}

all_push : (P : GateView → Type 0) (views : List GateView) (u : GateView) → All P views → P u → All P (views ++ u ∷ [])
all_push P views u all this = All-append P views (u ∷ []) all (All-cons P u [] this (All-nil P))

-- a view comes that is no seat's, and knows no more than the law says
keeps_push : (seats word : ℕ) (views : List GateView) (u : GateView) → GateLaw seats word views
    → u.seats ≡ seats → away u ≡ 0 → ((number : ℕ) → has_number number u ≡ 0) → KnowsShut word u → KnowsDrained word views u → IsNotInside u
    → GateLaw seats word (views ++ u ∷ [])
keeps_push seats word views u law same outside no_number shut drained not_inside =
    let nobody : NobodyIsInside views → NobodyIsInside (views ++ u ∷ []) = λ nobody. all_push IsNotInside views u nobody not_inside in
    record {
      few = law.few;
      counted = omega (arith, sum_by_push away views u, law.counted);
      numbers = (λ number. let was = law.numbers number in omega (arith, sum_by_push (has_number number) views u, no_number number));
      seated = all_push IsSeatIfAway views u law.seated (λ in_it. absurd (omega arith));
      total = all_push (λ v. v.seats ≡ seats) views u law.total same;
      shut = all_push (KnowsShut word) views u law.shut shut;
      shut_by = (λ shut. any_front HasShut views u (law.shut_by shut));
      drained = all_push (KnowsDrained word (views ++ u ∷ [])) views u
          (λ k d lt mark. let known = law.drained k d lt mark in (known.0, nobody known.1))
          (λ mark. let known = drained mark in (known.0, nobody known.1));
    }

no_number : (number seats : ℕ) → has_number number (token seats) ≡ 0
no_number number seats = grind (arith, nat_tests)

pub keeps_token : (seats word : ℕ) (views : List GateView) (place : ℕ) (v : GateView) → GateLaw seats word views → get_elem? views place ≡ some v
    → saw_drained v.steps ≡ true → GateLaw seats word (views ++ token v.seats ∷ [])
keeps_token seats word views place v law at saw =
    let known = all_at (KnowsDrained word views) views place v at law.drained saw in
    let same = all_at (λ u. u.seats ≡ seats) views place v at law.total in
    keeps_push seats word views (token v.seats) law same refl (λ number. no_number number v.seats) (λ _. known.0) (λ _. known) (λ inside. absurd (cc))

-- the numbers of a seat that is cut off and of what is left are those that there were
cut_numbers : (number : ℕ) (v : GateView) → 2 ≤ v.count → has_number number (rest_after_cut v) + has_number number (cut_seat v) ≡ has_number number v
cut_numbers number v two = numbers number v.first v.count two
  where
    numbers : (k first count : ℕ) → 2 ≤ count
        → (if nat_le (first + 1) k && nat_lt k (first + 1 + (count - 1)) then 1 else 0) + (if nat_le first k && nat_lt k (first + 1) then 1 else 0)
        ≡ (if nat_le first k && nat_lt k (first + count) then 1 else 0)
    numbers k first count two = grind (arith, nat_tests)

pub keeps_cut : (seats word : ℕ) (views : List GateView) (place : ℕ) (v : GateView) → GateLaw seats word views → get_elem? views place ≡ some v
    → 2 ≤ v.count → seat_state v.steps ≡ Outside → GateLaw seats word (set views place (rest_after_cut v) ++ cut_seat v ∷ [])
keeps_cut seats word views place v law at two outside =
    let w = rest_after_cut v in
    let u = cut_seat v in
    let left = set views place w in
    let none : away v ≡ 0 = ap adds outside in
    let not_inside : IsNotInside v = λ inside. let never : Outside ≡ Inside = sym outside ∙ inside in absurd (cc) in
    let nobody : NobodyIsInside views → NobodyIsInside (left ++ u ∷ []) =
    λ nobody. all_push IsNotInside left u (All-set IsNotInside views place w not_inside nobody) (λ inside. absurd (cc)) in
    let same = all_at (λ t. t.seats ≡ seats) views place v at law.total in
    record {
      few = law.few;
      counted = (let sum = sum_at away views place v w at in let was = law.counted in omega (arith, sum_by_push away left u));
      numbers = (λ number.
          let sum = sum_at (has_number number) views place v w at in
          let was = law.numbers number in
          let same = cut_numbers number v two in
          omega (arith, sum_by_push (has_number number) left u));
      seated = all_push IsSeatIfAway left u (All-set IsSeatIfAway views place w (λ in_it. absurd (omega arith)) law.seated) (λ in_it. refl);
      total = all_push (λ t. t.seats ≡ seats) left u (All-set (λ t. t.seats ≡ seats) views place w same law.total) same;
      shut = all_push (KnowsShut word) left u
          (All-set (KnowsShut word) views place w (all_at (KnowsShut word) views place v at law.shut) law.shut)
          (λ mark. absurd (true≢false (sym mark)));
      shut_by = (λ shut. any_front HasShut left u (any_at HasShut views place v w at (λ marked. absurd (omega (arith, marked.0))) (law.shut_by shut)));
      drained = all_push (KnowsDrained word (left ++ u ∷ [])) left u
          (All-set (KnowsDrained word (left ++ u ∷ [])) views place w
          (λ mark. let known = all_at (KnowsDrained word views) views place v at law.drained mark in (known.0, nobody known.1))
          (λ k d lt mark. let known = law.drained k d lt mark in (known.0, nobody known.1)))
          (λ mark. absurd (true≢false (sym mark)));
    }

-- the gate as it is opened
pub opens : (count : ℕ) → count ≤ 80 → GateLaw count 0 (all_seats count ∷ [])
opens count most =
    let v = all_seats count in
    let none : (P : GateView → Type 0) → P v → All P (v ∷ []) = λ P this. All-cons P v [] this (All-nil P) in
    record {
      few = most;
      counted = refl;
      numbers = (λ number. numbers number count);
      seated = none IsSeatIfAway (λ in_it. absurd (omega arith));
      total = none (λ u. u.seats ≡ count) refl;
      shut = none (KnowsShut 0) (λ mark. absurd (true≢false (sym mark)));
      shut_by = (λ shut. absurd (true≢false (sym shut)));
      drained = none (KnowsDrained 0 (v ∷ [])) (λ mark. absurd (true≢false (sym mark)));
    }
  where
    numbers : (k count : ℕ) → 0 + (if nat_le 0 k && nat_lt k (0 + count) then 1 else 0) ≡ (if nat_lt k count then 1 else 0)
    numbers k count = grind (arith, nat_tests)
