-- What happens to a broker on one thread, call by call, and what holds of it then.
use Rattle.std.specs.Prelude.{◌≡◌, ℕ, List, [], ◌∷◌, ◌++◌, Some, slice_get}
use Rattle.std.specs.List.{AllByRecursion}
use Rattle.dispatch_core.specs.declared.event.Event.{Event}
use Rattle.dispatch_core.specs.declared.event.Event.TheVariants as event
use Rattle.dispatch_core.specs.History.{IsRun}
use Rattle.group_jobs.specs.declared.stamp.Stamp.{Stamp}
use Rattle.group_jobs.specs.Stamps.{Held}
use Rattle.local_group.specs.Groups.{Group}
use Rattle.conn_supply.specs.SupplyCalls.{SupplyCall}
use Rattle.conn_supply.specs.SupplyCalls.SupplyCall.{Settle, GiveBack}
use Rattle.local_broker.specs.Places.{GroupPlace}
use Rattle.local_broker.specs.Groups.{HasGroup, IsOutAt}
use Rattle.local_broker.specs.Broker.{Broker}
use Rattle.local_broker.specs.Calls.{Calls, Closes}

-- a call of a connection, or the close
pub data Happening : Type 0 where
  Called : (supply_call : SupplyCall GroupPlace) → Happening
  Closed : Happening

abbrev pub Happens : Broker → Happening → Broker → Type 0
Happens old (Called supply_call) new = Calls old supply_call new
Happens old Closed new = Closes old new

-- one after the other
abbrev pub HappensAll : Broker → List Happening → Broker → Type 0
HappensAll old [] new = new ≡ old
HappensAll old (first ∷ others) new = (mid : Broker) × Happens old first mid × HappensAll mid others new

-- the group of a slot has its number, and its events are a run to where its jobs are
pub record IsRunning (slot : ℕ) (group : Group) : Type 0 where
  pub numbered : group.slot ≡ slot
  pub run : IsRun group.events group.state

abbrev pub AreRunning : Broker → Type 0
AreRunning b = (slot : ℕ) (group : Group) → slice_get b.groups slot ≡ Some group → IsRunning slot group

-- an event that ends a hand-out
abbrev pub EndsHandOut : Event → Type 0
EndsHandOut (event.Accept port) = ⊥
EndsHandOut (event.First member job) = ⊥
EndsHandOut (event.Ack member job) = Unit {0}
EndsHandOut (event.Refuse member job) = Unit {0}
EndsHandOut (event.Discard member job) = Unit {0}
EndsHandOut (event.Back member job) = Unit {0}
EndsHandOut (event.Again member job) = ⊥
EndsHandOut event.Close = ⊥

-- the group of this slot has its earlier events, and after them only such as end hand-outs
pub record OnlyEnds (old : Broker) (slot : ℕ) (group : Group) : Type 0 where
  pub before : Group
  pub was : slice_get old.groups slot ≡ Some before
  pub added : List Event
  pub events : group.events ≡ before.events ++ added
  pub ends : AllByRecursion EndsHandOut added

-- a place settles the message with this stamp, or gives it back
abbrev pub Spends : Stamp → Happening → Type 0
Spends stamp (Called (Settle place place' envelope fate)) = envelope.stamp ≡ stamp
Spends stamp (Called (GiveBack place place' envelope answer)) = envelope.stamp ≡ stamp
Spends stamp _ = ⊥

abbrev pub NoneSpends : Stamp → List Happening → Type 0
NoneSpends stamp [] = Unit {0}
NoneSpends stamp (first ∷ others) = ¬ Spends stamp first × NoneSpends stamp others

-- the place was handed this message, and has neither settled it nor given it back
abbrev pub HasOut : Broker → GroupPlace → Held → Type 0
HasOut b place envelope = HasGroup b.groups place.slot (λ group. IsOutAt group place.number envelope)
