-- What a call of a supply asks, whatever it is answered; and supplies whose calls have one answer.
use Rattle.std.specs.Prelude.{◌≡◌, ◌≢◌, ℕ, Bool, List, Option, Result, Ok, Err, ⊤}
use Rattle.group_jobs.specs.Stamps.{Held}
use Rattle.group_jobs.specs.declared.stamp.Stamp.{Stamp}
use Rattle.session_desk.specs.declared.attached.Attached.{Attached}
use Rattle.session_desk.specs.declared.error.DeskError.{DeskError}
use Rattle.session_desk.specs.declared.error.DeskError.TheVariants as desk
use Rattle.session_desk.specs.declared.session.Session.{Session}
use Rattle.conn_supply.specs.declared.supply.BindRefusal.{BindRefusal}
use Rattle.conn_supply.specs.declared.supply.BindRefusal.TheVariants as bind
use Rattle.conn_supply.specs.declared.supply.OfferRefusal.{OfferRefusal}
use Rattle.conn_supply.specs.declared.supply.OfferRefusal.TheVariants as offer
use Rattle.conn_supply.specs.declared.supply.NoMemory.{NoMemory}
use Rattle.conn_supply.specs.SupplyCalls.{SupplyCall}
use Rattle.conn_supply.specs.SupplyCalls.SupplyCall.{Attach, Withdraw, Kicked, Park, ParkAsIs, Keep, Bury, Sweep, LendPlace, TakePlace, Bind, Find, Match, Offer, MayTake, Take, TakeBack, Settle, GiveBack}

-- another call asks the same: it has the same arguments, and its own answer
abbrev pub IsSameQuestion : {P : Type 0} → SupplyCall P → SupplyCall P → Type 0
IsSameQuestion {P} (Attach request answer) other = (its : Result (Attached Held P) DeskError) × (other ≡ Attach request its)
IsSameQuestion (Withdraw connection) other = other ≡ Withdraw connection
IsSameQuestion (Kicked connection answer) other = (its : Bool) × (other ≡ Kicked connection its)
IsSameQuestion {P} (Park session now answer) other = (its : Option (Session Held P)) × (other ≡ Park session now its)
IsSameQuestion (ParkAsIs session) other = other ≡ ParkAsIs session
IsSameQuestion (Keep session) other = other ≡ Keep session
IsSameQuestion (Bury session) other = other ≡ Bury session
IsSameQuestion {P} (Sweep now answer) other = (its : Option (Session Held P)) × (other ≡ Sweep now its)
IsSameQuestion {P} (LendPlace slot answer) other = (its : Option P) × (other ≡ LendPlace slot its)
IsSameQuestion (TakePlace place) other = other ≡ TakePlace place
IsSameQuestion (Bind share answer) other = (its : Result ℕ BindRefusal) × (other ≡ Bind share its)
IsSameQuestion (Find share answer) other = (its : Option ℕ) × (other ≡ Find share its)
IsSameQuestion (Match topic slots) other = (its : List ℕ) × (other ≡ Match topic its)
IsSameQuestion (Offer slot connection message answer) other = (its : Result Stamp OfferRefusal) × (other ≡ Offer slot connection message its)
IsSameQuestion (MayTake place answer) other = (its : Bool) × (other ≡ MayTake place its)
IsSameQuestion {P} (Take place place' answer) other = (after : P) × (its : Result (Option Held) NoMemory) × (other ≡ Take place after its)
IsSameQuestion {P} (TakeBack place place' answer) other = (after : P) × (its : Result (Option Held) NoMemory) × (other ≡ TakeBack place after its)
IsSameQuestion {P} (Settle place place' envelope fate) other = (after : P) × (other ≡ Settle place after envelope fate)
IsSameQuestion {P} (GiveBack place place' envelope answer) other = (after : P) × (its : Result (Unit {0}) Held) × (other ≡ GiveBack place after envelope its)

-- something was handed out, or nothing was there to be
abbrev pub IsOkResult : Result (Option Held) NoMemory → Type 0
IsOkResult (Ok found) = ⊤
IsOkResult (Err refusal) = ⊥

-- it did not want memory
abbrev pub HadMemory : {P : Type 0} → SupplyCall P → Type 0
HadMemory (Attach request answer) = answer ≢ Err desk.Memory
HadMemory (Bind share answer) = answer ≢ Err bind.Memory
HadMemory (Offer slot connection message answer) = answer ≢ Err offer.Memory
HadMemory (Take place place' answer) = IsOkResult answer
HadMemory (TakeBack place place' answer) = IsOkResult answer
HadMemory _ = ⊤

-- of two supplies that are alike, each answers a question as the other does, memory aside, and they are alike after it
abbrev pub OneAnswer : {S P : Type 0} → (S → SupplyCall P → S → Type 0) → (S → S → Type 0) → Type 0
OneAnswer {S} {P} call AreAlike = (one other one' other' : S) (supply_call its : SupplyCall P) → AreAlike one other → IsSameQuestion supply_call its → HadMemory supply_call → HadMemory its
    → call one supply_call one' → call other its other' → (supply_call ≡ its) × AreAlike one' other'
