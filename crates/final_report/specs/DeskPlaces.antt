-- The places that the calls of a desk hand in and out; and what the calls of a history count for, by their numbers.
use Rattle.std.specs.Prelude.{ℕ, List, [], ◌∷◌, Option, Some, None}
use Rattle.session_desk.specs.Calls.{Call, Attach, Withdraw, Kicked, Park, ParkAsIs, Keep, Bury, Sweep, LendPlace, TakePlace}
use Rattle.session_desk.specs.Everything.{place_in, place_of, free_in, places_given}

-- the places that the answer of a call hands out
abbrev pub places_out : {E P : Type 0} → Call E P → List P
places_out (Attach newcomers request answer) = places_given answer
places_out (Withdraw connection) = []
places_out (Kicked connection answer) = []
places_out (Park session now answer) = place_of answer
places_out (ParkAsIs session answer) = place_of answer
places_out (Keep session answer) = place_of answer
places_out (Bury session answer) = place_of answer
places_out (Sweep now answer) = place_of answer
places_out (LendPlace slot answer) = free_in answer
places_out (TakePlace place answer) = free_in answer

-- the places that a call hands in
abbrev pub places_in : {E P : Type 0} → Call E P → List P
places_in (Attach newcomers request answer) = []
places_in (Withdraw connection) = []
places_in (Kicked connection answer) = []
places_in (Park session now answer) = place_in session.membership
places_in (ParkAsIs session answer) = place_in session.membership
places_in (Keep session answer) = place_in session.membership
places_in (Bury session answer) = place_in session.membership
places_in (Sweep now answer) = []
places_in (LendPlace slot answer) = []
places_in (TakePlace place answer) = place ∷ []

-- what a call counts for, where there is one
abbrev pub worth_if : {E : Type 0} → (E → ℕ) → Option E → ℕ
worth_if f (Some call) = f call
worth_if f None = 0
