-- A visitor of a gate: where it stands, and what its calls make of it.
use Rattle.std.specs.Prelude.{◌≡◌}
use Rattle.gate_word.specs.declared.visitor.Visitor.{Visitor}
use Rattle.gate_word.specs.declared.visitor.Visitor.TheVariants.{Outside, Inside}
use Rattle.gate_word.specs.Seats.{Seat}
use Rattle.gate_word.specs.Calls.{Enters, IsRefused, Leaves}

-- its seat, wherever it stands. The seat's gate is the visitor's
abbrev pub seat_in : Visitor → Seat
seat_in (Outside seat) = seat
seat_in (Inside turn) = turn

-- who is outside enters, or is refused; who is inside already stays
abbrev pub Tries : Visitor → Visitor → Type 0
Tries (Outside seat) (Inside turn) = Enters seat turn
Tries (Outside seat) (Outside back) = IsRefused seat back
Tries (Inside turn) after = after ≡ Inside turn

-- who is inside leaves; who is outside already has its seat
abbrev pub Ends : Visitor → Seat → Type 0
Ends (Outside before) seat = seat ≡ before
Ends (Inside turn) seat = Leaves turn seat
