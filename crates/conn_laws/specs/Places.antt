-- The places that a connection has: what its calls bring it, and what they take from it.
use Rattle.std.specs.Prelude.{◌≡◌, ℕ, ◌+◌, Bool, true, false, List, [], ◌∷◌, ◌++◌, sum_by}
use Rattle.session_desk.specs.Everything.{free_in, place_in, place_of, places_given}
use Rattle.session_desk.specs.declared.session.Membership.{Membership}
use Rattle.session_desk.specs.declared.session.Membership.TheVariants.{NotMember, Member, Leaving}
use Rattle.conn_supply.specs.SupplyCalls.{SupplyCall}
use Rattle.conn_supply.specs.SupplyCalls.SupplyCall.{Attach, Park, ParkAsIs, Keep, Bury, Sweep, LendPlace, TakePlace, Take, TakeBack, Settle, GiveBack}
use Rattle.conn_engine.specs.declared.phase.ConnPhase.{ConnPhase}
use Rattle.conn_engine.specs.declared.phase.ConnPhase.TheVariants.{Unconnected, Waiting, Connected, Ended}

-- a session has a place in a group
abbrev pub has_place : {P : Type 0} → Membership P → Bool
has_place NotMember = false
has_place (Member place) = true
has_place (Leaving place) = true

module _ {P : Type 0} where
  -- the place of the session that a connection has, where that is a member's, or that of one who leaves
  abbrev pub own_places : ConnPhase P → List P
  own_places (Unconnected opened) = []
  own_places (Waiting request ticks) = []
  own_places (Connected connected) = place_in connected.session.membership
  own_places Ended = []

  -- the places that a call brings: those that it is answered with, and one that it changes as it is after it
  abbrev pub places_brought : SupplyCall P → List P
  places_brought (Attach request answer) = places_given answer
  places_brought (Park session now answer) = place_of answer
  places_brought (Sweep now answer) = place_of answer
  places_brought (LendPlace slot answer) = free_in answer
  places_brought (Take old new answer) = new ∷ []
  places_brought (TakeBack old new answer) = new ∷ []
  places_brought (Settle old new envelope fate) = new ∷ []
  places_brought (GiveBack old new envelope answer) = new ∷ []
  places_brought other = []

  -- the places that it takes: those that are handed in, and one that it changes as it was before it
  abbrev pub places_taken : SupplyCall P → List P
  places_taken (Park session now answer) = place_in session.membership
  places_taken (ParkAsIs session) = place_in session.membership
  places_taken (Keep session) = place_in session.membership
  places_taken (Bury session) = place_in session.membership
  places_taken (TakePlace place) = place ∷ []
  places_taken (Take old new answer) = old ∷ []
  places_taken (TakeBack old new answer) = old ∷ []
  places_taken (Settle old new envelope fate) = old ∷ []
  places_taken (GiveBack old new envelope answer) = old ∷ []
  places_taken other = []

  -- by any measure, the places that there were and those that these calls bring are as much as those that there are and those that they take: so no place is lost,
  -- none is made, and none changes but by a call
  abbrev pub KeepsPlaces : List P → List (SupplyCall P) → List P → Type 0
  KeepsPlaces before supply_calls after =
      (measure : P → ℕ) → sum_by measure before + sum_by (λ supply_call. sum_by measure (places_brought supply_call)) supply_calls
      ≡ sum_by measure after + sum_by (λ supply_call. sum_by measure (places_taken supply_call)) supply_calls

  -- the session of a connection is that of a member, with this place
  abbrev pub IsMemberWith : ConnPhase P → P → Type 0
  IsMemberWith (Unconnected opened) place = ⊥
  IsMemberWith (Waiting request ticks) place = ⊥
  IsMemberWith (Connected connected) place = connected.session.membership ≡ Member place
  IsMemberWith Ended place = ⊥

  -- in turn: each of these calls takes what it takes from the front of the places that there are then, and puts there what it brings; so where there is one place, each call
  -- that changes it has it as the one before left it
  abbrev pub KeepsInTurn : List P → List (SupplyCall P) → List P → Type 0
  KeepsInTurn before [] after = after ≡ before
  KeepsInTurn before (supply_call ∷ supply_calls) after =
      (others : List P) × (before ≡ places_taken supply_call ++ others) × KeepsInTurn (places_brought supply_call ++ others) supply_calls after
