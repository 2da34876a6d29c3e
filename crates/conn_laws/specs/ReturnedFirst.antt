-- Calls by which what was given back is handed out first: whoever hands a place a message of the queue has just asked whether one was given back; and by which a message is
-- discarded only as soon as it was handed out.
use Rattle.std.specs.Prelude.{◌≡◌, ◌⊎◌, List, [], ◌∷◌, Option, Some, None, Ok, ⊤}
use Rattle.group_jobs.specs.declared.fate.Fate.TheVariants.{Discarded}
use Rattle.group_jobs.specs.Stamps.{Held}
use Rattle.conn_supply.specs.SupplyCalls.{SupplyCall}
use Rattle.conn_supply.specs.SupplyCalls.SupplyCall.{Take, TakeBack, Settle}
use Rattle.conn_laws.specs.Calls.{MakesAll}

-- the call before asked, for this place, whether a message was given back, and there was none
abbrev pub FoundNone : {P : Type 0} → Option (SupplyCall P) → P → Type 0
FoundNone {P} last place = (before : P) × (last ≡ Some (TakeBack before place (Ok None)))

-- the call before handed this message to this place
abbrev pub HandedOut : {P : Type 0} → Option (SupplyCall P) → P → Held → Type 0
HandedOut {P} last place envelope = (before : P) × ((last ≡ Some (TakeBack before place (Ok (Some envelope)))) ⊎ (last ≡ Some (Take before place (Ok (Some envelope)))))

-- a call may follow the one before, if there is one: where it hands out a message of the queue, that one found none that was given back; and where it discards a
-- message, that one handed it out
abbrev pub MayFollow : {P : Type 0} → Option (SupplyCall P) → SupplyCall P → Type 0
MayFollow last (Take place place' (Ok (Some envelope))) = FoundNone last place
MayFollow last (Settle place place' envelope Discarded) = HandedOut last place envelope
MayFollow last other = ⊤

-- each of these calls may follow the one before it; before the first of them was this one, if any was
abbrev pub FollowInOrder : {P : Type 0} → Option (SupplyCall P) → List (SupplyCall P) → Type 0
FollowInOrder last [] = ⊤
FollowInOrder last (supply_call ∷ supply_calls) = MayFollow last supply_call × FollowInOrder (Some supply_call) supply_calls

-- some calls lead from the one to the other, and among them what was given back is handed out first
pub record CallsReturnedFirst {S P : Type 0} (call : S → SupplyCall P → S → Type 0) (old new : S) : Type 0 where
  pub supply_calls : List (SupplyCall P)
  pub made : MakesAll call old supply_calls new
  pub order : FollowInOrder None supply_calls
