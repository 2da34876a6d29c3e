-- The gate's law: what the word says of the seats. It holds at every moment of every schedule.
use Rattle.std.specs.Prelude.{◌≡◌, ℕ, ◌+◌, ◌*◌, ◌≤◌, nat_lt, if◌then◌else◌, true, List, All, Any, sum_by}
use Rattle.gate_word.specs.declared.step.GateView.{GateView}
use Rattle.gate_word.specs.Steps.{shut_bit, is_shut, seat_state, has_shut, knows_shut, saw_drained}
use Rattle.gate_word.specs.Steps.SeatState.{Outside, Inside}
use Rattle.gate_word.specs.Seats.{away, has_number}

abbrev pub IsOutside : GateView → Type 0
IsOutside v = seat_state v.steps ≡ Outside

abbrev pub IsNotInside : GateView → Type 0
IsNotInside v = ¬ (seat_state v.steps ≡ Inside)

abbrev pub NobodyIsInside : List GateView → Type 0
NobodyIsInside views = All IsNotInside views

-- who shut the gate, or found it shut once, knows that the bit is set
abbrev pub KnowsShut : ℕ → GateView → Type 0
KnowsShut word v = knows_shut v.steps ≡ true → is_shut word ≡ true

-- one seat, which shut the gate
abbrev pub HasShut : GateView → Type 0
HasShut v = (v.count ≡ 1) × (has_shut v.steps ≡ true)

-- what is not outside is one seat
abbrev pub IsSeatIfAway : GateView → Type 0
IsSeatIfAway v = away v ≡ 1 → v.count ≡ 1

-- who saw the gate drained knows that the bit is set and that nobody is inside
abbrev pub KnowsDrained : ℕ → List GateView → GateView → Type 0
KnowsDrained word views v = saw_drained v.steps ≡ true → (is_shut word ≡ true) × NobodyIsInside views

pub record GateLaw (seats word : ℕ) (views : List GateView) : Type 0 where
  pub few : seats ≤ 80
  -- the word is twice the number of seats that are not outside, plus the shut bit
  pub counted : word ≡ 2 * sum_by away views + shut_bit word
  -- each number below that of the seats is one view's, and no view has another: no seat is hidden, and none is there twice
  pub numbers : (number : ℕ) → sum_by (has_number number) views ≡ (if nat_lt number seats then 1 else 0)
  pub seated : All IsSeatIfAway views
  -- each view says how many seats there are
  pub total : All (λ v. v.seats ≡ seats) views
  -- the gate is shut where somebody shut it, and nowhere else
  pub shut : All (KnowsShut word) views
  pub shut_by : is_shut word ≡ true → Any HasShut views
  pub drained : All (KnowsDrained word views) views
