-- The calls of a gate, as the steps that they make.
use Rattle.std.specs.Prelude.{◌≡◌, ℕ, Option, Some, None}
use Rattle.gate_word.specs.Seats.{GateId, Seat, seat_of, view_of}
use Rattle.gate_word.specs.Kinds.{Kind, May, view_after}
use Rattle.gate_word.specs.Kinds.Kind.{Enter, Bounce, TakeOff, Leave, SetBit, LookDrained, Look}
use Rattle.gate_word.specs.Schedules.{Moment}

-- the seat made one step of this kind, at a moment at which it might, and no other
abbrev pub Makes : Kind → Seat → Seat → Type 0
Makes kind old new =
    (found : ℕ) × Moment found (view_of old) × May kind found (view_of old) × (new ≡ seat_of old.gate.word (view_after kind found (view_of old)))

-- the gate was open, and the seat is inside
abbrev pub Enters : Seat → Seat → Type 0
Enters seat turn = Makes Enter seat turn

-- the gate was shut, and the seat took off again what it had added
abbrev pub IsRefused : Seat → Seat → Type 0
IsRefused seat back = (bouncing : Seat) × Makes Bounce seat bouncing × Makes TakeOff bouncing back

abbrev pub Leaves : Seat → Seat → Type 0
Leaves turn seat = Makes Leave turn seat

abbrev pub Shuts : Seat → Seat → Type 0
Shuts old new = Makes SetBit old new

-- the seat has a token of its gate where it found 1, and none where it found another number
abbrev pub Looks : Seat → Option GateId → Seat → Type 0
Looks old (Some gate) new = (gate ≡ old.gate) × Makes LookDrained old new
Looks old None new = Makes Look old new
