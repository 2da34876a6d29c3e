-- The word is 1 where the gate is shut and everybody is outside, and nowhere else.
use Rattle.std.proofs.Common.{◌≡◌, ℕ, ◌≤◌, true, List, [], ◌∷◌, get_or, refl, ap, arith}
use Rattle.std.specs.Prelude.{All, sum_by, ◌==◌}
use Rattle.std.proofs.lemmas.Bool.{eqb-true}
use Rattle.std.proofs.lemmas.List.Elements.{All-head, All-tail}
use Rattle.std.proofs.lemmas.List.Sums.{sum_by-cons, get_or-le-sum_by}
use Rattle.gate_word.specs.declared.step.GateView.{GateView}
use Rattle.gate_word.specs.Steps.{shut_bit, is_shut, SeatState, seat_state}
use Rattle.gate_word.specs.Steps.SeatState.{Outside, Inside, Bouncing}
use Rattle.gate_word.specs.Seats.{adds, away}
use Rattle.gate_word.specs.GateLaw.{GateLaw, IsOutside}

adds_none : (state : SeatState) → adds state ≡ 0 → state ≡ Outside
adds_none Outside none = refl
adds_none Inside none = absurd (omega arith)
adds_none Bouncing none = absurd (omega arith)

pub all_outside : (seats word : ℕ) (views : List GateView) → GateLaw seats word views → word ≡ 1 → (is_shut word ≡ true) × All IsOutside views
all_outside seats word views law one = (
  ap (λ (n : ℕ). shut_bit n == 1) one,
  λ k d lt.
      let part : away (get_or views k d) ≤ sum_by away views = get_or-le-sum_by away views k d lt in
      let is = law.counted in
      adds_none (seat_state (get_or views k d).steps) (omega arith),
)

none_away : (views : List GateView) → All IsOutside views → sum_by away views ≡ 0
none_away [] outside = refl
none_away (v ∷ vs) outside =
    let here : away v ≡ 0 = ap adds (All-head IsOutside v vs outside) in
    let others = none_away vs (All-tail IsOutside v vs outside) in
    omega (arith, sum_by-cons away v vs)

pub is_one : (seats word : ℕ) (views : List GateView) → GateLaw seats word views → (is_shut word ≡ true) × All IsOutside views → word ≡ 1
is_one seats word views law shut =
    let bit : shut_bit word ≡ 1 = eqb-true (shut_bit word) 1 shut.0 in
    let none = none_away views shut.1 in
    let is = law.counted in
    omega arith
