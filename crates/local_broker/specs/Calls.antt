-- What each call of a connection makes of a broker on one thread, and what it answers.
use Rattle.std.specs.Prelude.{◌≡◌, ◌⊎◌, ℕ, ◌<◌, ◌≤◌, true, List, Option, Result, Ok, Err}
use Rattle.mqtt_topic.specs.Names.{Share}
use Rattle.mqtt_topic.specs.Routes.{BindAnswers, slot_of, routed, places_of}
use Rattle.mqtt_topic.specs.declared.error.TopicError.TheVariants as topic
use Rattle.group_jobs.specs.Stamps.{Held}
use Rattle.group_jobs.specs.declared.message.Message.{Message}
use Rattle.group_jobs.specs.declared.stamp.Stamp.{Stamp}
use Rattle.limits.specs.Limits.{default_sessions, most_groups, most_ports}
use Rattle.session_desk.specs.declared.newcomers.Newcomers.TheVariants.{IfRoom}
use Rattle.session_desk.specs.declared.session.Session.{Session}
use Rattle.session_desk.specs.Calls.{Call, IsAllowed, Makes}
use Rattle.session_desk.specs.Calls as desk
use Rattle.conn_supply.specs.declared.supply.BindRefusal.{BindRefusal}
use Rattle.conn_supply.specs.declared.supply.BindRefusal.TheVariants as bind
use Rattle.conn_supply.specs.declared.supply.OfferRefusal.{OfferRefusal}
use Rattle.conn_supply.specs.declared.supply.OfferRefusal.TheVariants as refusal
use Rattle.conn_supply.specs.SupplyCalls.{SupplyCall}
use Rattle.conn_supply.specs.SupplyCalls.SupplyCall.{Attach, Withdraw, Kicked, Park, ParkAsIs, Keep, Bury, Sweep, LendPlace, TakePlace, Bind, Find, Match, Offer, MayTake, Take, TakeBack, Settle, GiveBack}
use Rattle.local_group.specs.Groups.{Group}
use Rattle.local_broker.specs.Places.{GroupPlace, cell_of}
use Rattle.local_broker.specs.Groups.{IsOffered, HandsOut, HandsOutAgain, IsSettled, IsGivenBack, InGroup, ClosesEach}
use Rattle.local_broker.specs.Broker.{Broker}

-- a call of the desk, which may be made, and nothing else
pub record AsksDesk (old : Broker) (call : Call Held GroupPlace) (new : Broker) : Type 0 where
  pub allowed : IsAllowed call
  pub makes : Makes cell_of old.desk call new.desk
  pub routes : new.routes ≡ old.routes
  pub groups : new.groups ≡ old.groups

-- a session goes back to the desk; where it is none of the desk's, it is let go
abbrev pub HandsIn : Broker → (Option (Session Held GroupPlace) → Call Held GroupPlace) → Broker → Type 0
HandsIn old call new = (back : Option (Session Held GroupPlace)) × AsksDesk old (call back) new

-- a place goes back to the desk; where that has it already, this one is let go
abbrev pub HandsInPlace : Broker → GroupPlace → Broker → Type 0
HandsInPlace old place new = (back : Option GroupPlace) × AsksDesk old (desk.TakePlace place back) new

-- a call of the routes, and nothing else
pub record AsksRoutes (old new : Broker) : Type 0 where
  pub desk : new.desk ≡ old.desk
  pub groups : new.groups ≡ old.groups

-- a call of a group, and nothing else
pub record AsksGroup (old new : Broker) : Type 0 where
  pub desk : new.desk ≡ old.desk
  pub routes : new.routes ≡ old.routes

-- a share is bound: 205 and 206 as the routes have them; none has to be declared
abbrev pub Binds : List Share → Share → Result ℕ BindRefusal → List Share → Type 0
Binds old share (Ok slot) new = BindAnswers old share (Ok slot) new
Binds old share (Err bind.NoSlot) new = BindAnswers old share (Err topic.NoSlot) new
Binds old share (Err bind.Memory) new = BindAnswers old share (Err topic.Memory) new
Binds old share (Err bind.NotDeclared) new = ⊥

-- a connection's port has its number: one from 64 on has none, as if its life were spent. There is no group from slot 8 on, as if it
-- were closed
abbrev pub OffersFrom : List Group → ℕ → ℕ → Message → Result Stamp OfferRefusal → List Group → Type 0
OffersFrom old slot connection message answer new =
    ((most_ports ≤ connection) × (answer ≡ Err refusal.LifeSpent) × (new ≡ old))
    ⊎ (((connection < most_ports) × (most_groups ≤ slot) × (answer ≡ Err refusal.Shut) × (new ≡ old))
    ⊎ ((connection < most_ports) × (slot < most_groups) × InGroup old slot (λ before after. IsOffered before connection message answer after) new))

-- what each call makes, with its answer
abbrev pub Calls : Broker → SupplyCall GroupPlace → Broker → Type 0
Calls old (Attach request answer) new = AsksDesk old (desk.Attach (IfRoom default_sessions) request answer) new
Calls old (Withdraw connection) new = AsksDesk old (desk.Withdraw connection) new
Calls old (Kicked connection answer) new = AsksDesk old (desk.Kicked connection answer) new
Calls old (Park session now answer) new = AsksDesk old (desk.Park session now answer) new
Calls old (ParkAsIs session) new = HandsIn old (λ back. desk.ParkAsIs session back) new
Calls old (Keep session) new = HandsIn old (λ back. desk.Keep session back) new
Calls old (Bury session) new = HandsIn old (λ back. desk.Bury session back) new
Calls old (Sweep now answer) new = AsksDesk old (desk.Sweep now answer) new
Calls old (LendPlace slot answer) new = AsksDesk old (desk.LendPlace slot answer) new
Calls old (TakePlace place) new = HandsInPlace old place new
Calls old (Bind share answer) new = Binds old.routes share answer new.routes × AsksRoutes old new
Calls old (Find share answer) new = (answer ≡ slot_of share.text old.routes) × (new ≡ old)
Calls old (Match topic slots) new = (slots ≡ places_of 0 (routed topic old.routes)) × (new ≡ old)
Calls old (Offer slot connection message answer) new = OffersFrom old.groups slot connection message answer new.groups × AsksGroup old new
Calls old (MayTake place answer) new = (answer ≡ true) × (new ≡ old)
Calls old (Take place place' answer) new =
    InGroup old.groups place.slot (λ before after. HandsOut before place.number answer after) new.groups × (place' ≡ place) × AsksGroup old new
Calls old (TakeBack place place' answer) new =
    InGroup old.groups place.slot (λ before after. HandsOutAgain before place.number answer after) new.groups × (place' ≡ place) × AsksGroup old new
Calls old (Settle place place' envelope fate) new =
    InGroup old.groups place.slot (λ before after. IsSettled before place.number envelope fate after) new.groups × (place' ≡ place) × AsksGroup old new
Calls old (GiveBack place place' envelope (Ok done)) new =
    InGroup old.groups place.slot (λ before after. IsGivenBack before place.number envelope after) new.groups × (place' ≡ place) × AsksGroup old new
Calls old (GiveBack place place' envelope (Err back)) new = ⊥

-- the close: each group is closed, and the rest stays
pub record Closes (old new : Broker) : Type 0 where
  pub groups : ClosesEach old.groups new.groups
  pub desk : new.desk ≡ old.desk
  pub routes : new.routes ≡ old.routes
