-- What a call of a desk asks, whatever it is answered.
use Rattle.std.specs.Prelude.{◌≡◌, ◌≢◌, Bool, Option, Result, Err, ⊤}
use Rattle.session_desk.specs.declared.attached.Attached.{Attached}
use Rattle.session_desk.specs.declared.error.DeskError.{DeskError}
use Rattle.session_desk.specs.declared.error.DeskError.TheVariants.{Memory}
use Rattle.session_desk.specs.declared.session.Session.{Session}
use Rattle.session_desk.specs.Calls.{Call, Attach, Withdraw, Kicked, Park, ParkAsIs, Keep, Bury, Sweep, LendPlace, TakePlace}

-- another call asks the same: it has the same arguments, and its own answer
abbrev pub IsSameQuestion : {E P : Type 0} → Call E P → Call E P → Type 0
IsSameQuestion {E} {P} (Attach newcomers request answer) other = (its : Result (Attached E P) DeskError) × (other ≡ Attach newcomers request its)
IsSameQuestion (Withdraw connection) other = other ≡ Withdraw connection
IsSameQuestion (Kicked connection answer) other = (its : Bool) × (other ≡ Kicked connection its)
IsSameQuestion {E} {P} (Park session now answer) other = (its : Option (Session E P)) × (other ≡ Park session now its)
IsSameQuestion {E} {P} (ParkAsIs session answer) other = (its : Option (Session E P)) × (other ≡ ParkAsIs session its)
IsSameQuestion {E} {P} (Keep session answer) other = (its : Option (Session E P)) × (other ≡ Keep session its)
IsSameQuestion {E} {P} (Bury session answer) other = (its : Option (Session E P)) × (other ≡ Bury session its)
IsSameQuestion {E} {P} (Sweep now answer) other = (its : Option (Session E P)) × (other ≡ Sweep now its)
IsSameQuestion {E} {P} (LendPlace slot answer) other = (its : Option P) × (other ≡ LendPlace slot its)
IsSameQuestion {E} {P} (TakePlace place answer) other = (its : Option P) × (other ≡ TakePlace place its)

-- it did not want memory
abbrev pub HadMemory : {E P : Type 0} → Call E P → Type 0
HadMemory (Attach newcomers request answer) = answer ≢ Err Memory
HadMemory _ = ⊤
