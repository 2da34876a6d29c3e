-- The steps that a seat has made on the gate's word, the newest first, each with the number that it found there; and what they say.
use Rattle.std.specs.Prelude.{ℕ, ◌%◌, ◌==◌, ◌||◌, Bool, true, false, List, [], ◌∷◌}
use Rattle.std.specs.List.{list_any}
use Rattle.gate_word.specs.declared.step.GateStep.{GateStep}
use Rattle.gate_word.specs.declared.step.GateStep.TheVariants.{Entered, Bounced, TakenOff, Left, Shut, Looked}

-- bit 0 of the word
abbrev pub shut_bit : ℕ → ℕ
shut_bit word = word % 2

-- the gate is shut
abbrev pub is_shut : ℕ → Bool
is_shut word = shut_bit word == 1

-- where a seat stands: it has added nothing to the word; it was let in; or it was refused, and has still to take off what it added
pub data SeatState : Type 0 where
  Outside : SeatState
  Inside : SeatState
  Bouncing : SeatState

abbrev pub seat_state : List GateStep → SeatState
seat_state [] = Outside
seat_state (Entered found ∷ before) = Inside
seat_state (Bounced found ∷ before) = Bouncing
seat_state (TakenOff found ∷ before) = Outside
seat_state (Left found ∷ before) = Outside
seat_state (Shut found ∷ before) = seat_state before
seat_state (Looked found ∷ before) = seat_state before

abbrev pub found_by : GateStep → ℕ
found_by (Entered found) = found
found_by (Bounced found) = found
found_by (TakenOff found) = found
found_by (Left found) = found
found_by (Shut found) = found
found_by (Looked found) = found

abbrev pub is_shutting : GateStep → Bool
is_shutting (Shut found) = true
is_shutting _ = false

abbrev pub finds_drained : GateStep → Bool
finds_drained (Looked found) = found == 1
finds_drained _ = false

-- the mark "I shut it"
abbrev pub has_shut : List GateStep → Bool
has_shut steps = list_any is_shutting steps

-- the mark "I found it shut"
abbrev pub found_shut : List GateStep → Bool
found_shut steps = list_any (λ step. is_shut (found_by step)) steps

-- the mark "shut" is either of these
abbrev pub knows_shut : List GateStep → Bool
knows_shut steps = has_shut steps || found_shut steps

-- the mark "saw drained": a look found 1
abbrev pub saw_drained : List GateStep → Bool
saw_drained steps = list_any finds_drained steps
