-- What a connection asks of its supply, and what it is answered.
use Rattle.std.specs.Prelude.{ℕ, Bool, List, Option, Result}
use Rattle.mqtt_topic.specs.Names.{Share}
use Rattle.group_jobs.specs.declared.fate.Fate.{Fate}
use Rattle.group_jobs.specs.declared.message.Message.{Message}
use Rattle.group_jobs.specs.Stamps.{Held}
use Rattle.group_jobs.specs.declared.stamp.Stamp.{Stamp}
use Rattle.session_desk.specs.Attaching.{Request}
use Rattle.session_desk.specs.declared.attached.Attached.{Attached}
use Rattle.session_desk.specs.declared.error.DeskError.{DeskError}
use Rattle.session_desk.specs.declared.session.Session.{Session}
use Rattle.conn_supply.specs.declared.supply.BindRefusal.{BindRefusal}
use Rattle.conn_supply.specs.declared.supply.OfferRefusal.{OfferRefusal}
use Rattle.conn_supply.specs.declared.supply.NoMemory.{NoMemory}

-- one call of a supply, with its arguments and its answer; `P` is a place in a group
pub data SupplyCall (P : Type 0) : Type 0 where
  -- who has which session
  Attach : (request : Request) → (answer : Result (Attached Held P) DeskError) → SupplyCall P
  Withdraw : (connection : ℕ) → SupplyCall P
  Kicked : (connection : ℕ) → (answer : Bool) → SupplyCall P
  Park : (session : Session Held P) → (now : ℕ) → (answer : Option (Session Held P)) → SupplyCall P
  ParkAsIs : (session : Session Held P) → SupplyCall P
  Keep : (session : Session Held P) → SupplyCall P
  Bury : (session : Session Held P) → SupplyCall P
  Sweep : (now : ℕ) → (answer : Option (Session Held P)) → SupplyCall P
  LendPlace : (slot : ℕ) → (answer : Option P) → SupplyCall P
  TakePlace : (place : P) → SupplyCall P
  -- which share is bound to which slot
  Bind : (share : Share) → (answer : Result ℕ BindRefusal) → SupplyCall P
  Find : (share : Share) → (answer : Option ℕ) → SupplyCall P
  Match : (topic : List ℕ) → (slots : List ℕ) → SupplyCall P
  -- who has which message; a place is as it was, and as it is then
  Offer : (slot connection : ℕ) → (message : Message) → (answer : Result Stamp OfferRefusal) → SupplyCall P
  -- whether a place is to be handed one more message
  MayTake : (place : P) → (answer : Bool) → SupplyCall P
  Take : (old new : P) → (answer : Result (Option Held) NoMemory) → SupplyCall P
  TakeBack : (old new : P) → (answer : Result (Option Held) NoMemory) → SupplyCall P
  Settle : (old new : P) → (envelope : Held) → (fate : Fate) → SupplyCall P
  GiveBack : (old new : P) → (envelope : Held) → (answer : Result (Unit {0}) Held) → SupplyCall P
