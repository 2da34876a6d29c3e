-- Seats as contracts see them, and the views of which the gate's law speaks.
use Rattle.std.specs.Prelude.{◌≡◌, ℕ, ◌+◌, ◌-◌, ◌<◌, ◌&&◌, nat_le, nat_lt, if◌then◌else◌, List, [], ◌∷◌, length, slice_get, Some, All}
use Rattle.atomic_table.specs.Seated.{TableId}
use Rattle.gate_word.specs.declared.step.GateStep.{GateStep}
use Rattle.gate_word.specs.declared.step.GateStep.TheVariants.{Looked}
use Rattle.gate_word.specs.declared.step.GateView.{GateView}
use Rattle.gate_word.specs.Steps.{SeatState, seat_state}
use Rattle.gate_word.specs.Steps.SeatState.{Outside, Inside, Bouncing}

-- which gate it is: its word, which no other gate shares with it, and how many seats it was opened with
pub record GateId : Type 0 where
  pub word : TableId
  pub seats : ℕ

-- a seat, as a value of its own or inside a turn: its gate, its number, and the steps that it has made, the newest first
pub record Seat : Type 0 where
  pub gate : GateId
  pub number : ℕ
  pub steps : List GateStep

-- a seat that has made no step
abbrev pub new_seat : GateId → ℕ → Seat
new_seat gate number = record { gate = gate; number = number; steps = [] }

-- these are the seats numbered from 0 on, in that order, and none has made a step
pub record AreNewSeats (gate : GateId) (count : ℕ) (seats : List Seat) : Type 0 where
  pub all : length seats ≡ count
  pub each : (number : ℕ) → number < count → slice_get seats number ≡ Some (new_seat gate number)

-- they are seats of this gate
abbrev pub AreSeatsOf : GateId → List Seat → Type 0
AreSeatsOf gate seats = All (λ seat. seat.gate ≡ gate) seats

-- the view of a seat, the seat that such a view is of, and the gate of a view
abbrev pub view_of : Seat → GateView
view_of seat = record { seats = seat.gate.seats; first = seat.number; count = 1; steps = seat.steps }

abbrev pub gate_of : TableId → GateView → GateId
gate_of word v = record { word = word; seats = v.seats }

abbrev pub seat_of : TableId → GateView → Seat
seat_of word v = record { gate = gate_of word v; number = v.first; steps = v.steps }

-- the view of who has all seats
abbrev pub all_seats : ℕ → GateView
all_seats seats = record { seats = seats; first = 0; count = seats; steps = [] }

-- the view of the first of some seats, cut off from the others, and that of the others
abbrev pub cut_seat : GateView → GateView
cut_seat v = record { seats = v.seats; first = v.first; count = 1; steps = [] }

abbrev pub rest_after_cut : GateView → GateView
rest_after_cut v = record { seats = v.seats; first = v.first + 1; count = v.count - 1; steps = v.steps }

-- the view in a token of a gate with so many seats: no seat, and a look that found 1
abbrev pub token : ℕ → GateView
token seats = record { seats = seats; first = 0; count = 0; steps = Looked 1 ∷ [] }

-- the view after one step more
abbrev pub stepped : GateStep → GateView → GateView
stepped step v = record { seats = v.seats; first = v.first; count = v.count; steps = step ∷ v.steps }

-- 1 for a seat that has added 2 to the word and not taken it off
abbrev pub adds : SeatState → ℕ
adds Outside = 0
adds Inside = 1
adds Bouncing = 1

abbrev pub away : GateView → ℕ
away v = adds (seat_state v.steps)

-- 1 where the view has this seat number
abbrev pub has_number : ℕ → GateView → ℕ
has_number number v = if nat_le v.first number && nat_lt number (v.first + v.count) then 1 else 0
