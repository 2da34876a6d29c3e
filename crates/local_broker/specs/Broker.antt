-- What the connections of a broker on one thread share.
use Rattle.std.specs.Prelude.{◌≡◌, ℕ, ◌<◌, Bool, true, not, List, [], Some, refl, slice_get, length}
use Rattle.std.specs.List.{list_all}
use Rattle.std.specs.Coded.{Coded, code_by, coded×, coded_list}
use Rattle.mqtt_topic.specs.Names.{Share}
use Rattle.group_jobs.specs.Stamps.{Held}
use Rattle.session_desk.specs.Books.{Books, new_books, with_free}
use Rattle.session_desk.specs.Everywhere.{IsEverywhere}
use Rattle.session_desk.specs.Hands.{DeskLaw}
use Rattle.session_desk.specs.Places.{IsFreeAt}
use Rattle.local_group.specs.Groups.{Group, IsFresh}
use Rattle.conn_supply.specs.Holding.{IsOutAtPlace}
use Rattle.local_broker.specs.Places.{GroupPlace, place_at, has_out}

pub record Broker : Type 0 where
  -- who has which session, and which places are free
  pub desk : Books Held GroupPlace
  -- the shares that are bound, the one of slot n at place n
  pub routes : List Share
  -- the groups, the one of slot n at place n
  pub groups : List Group

-- what holds between any two calls
pub record IsSound (b : Broker) : Type 0 where
  pub desk : DeskLaw b.desk.rows b.desk.made
  pub groups : length b.groups ≡ 8
  -- a session that is no member holds nothing
  pub out : IsEverywhere (IsOutAtPlace has_out) (λ place. has_out place []) b.desk

-- no group is closed
abbrev pub is_open : Broker → Bool
is_open b = list_all (λ group. not group.state.closed) b.groups

-- every group is
abbrev pub IsClosed : Broker → Type 0
IsClosed b = (slot : ℕ) (group : Group) → slice_get b.groups slot ≡ Some group → group.state.closed ≡ true

-- a group before its first message, in whose queue so many may wait
pub record IsNewGroup (slot capacity : ℕ) (group : Group) : Type 0 where
  pub fresh : IsFresh group
  pub numbered : group.slot ≡ slot
  pub fits : group.capacity ≡ capacity

abbrev pub AreNewGroups : ℕ → List Group → Type 0
AreNewGroups capacity groups = (slot : ℕ) (group : Group) → slice_get groups slot ≡ Some group → IsNewGroup slot capacity group

-- a desk without sessions, with each place free
pub record HasAllPlaces (desk : Books Held GroupPlace) : Type 0 where
  pub books : desk ≡ with_free new_books desk.free
  pub cells : length desk.free ≡ 256
  pub free : (cell : ℕ) → cell < 256 → IsFreeAt desk.free cell (place_at cell)

-- no session, all places free, these shares bound, and no message in any group
pub record IsNewBroker (capacity : ℕ) (shares : List Share) (b : Broker) : Type 0 where
  pub desk : HasAllPlaces b.desk
  pub routes : b.routes ≡ shares
  pub eight : length b.groups ≡ 8
  pub groups : AreNewGroups capacity b.groups

abbrev pub broker_code : Coded (Books Held GroupPlace) → Coded Share → Coded Group → Coded Broker
broker_code desk share group =
    code_by (Books Held GroupPlace × (List Share × List Group)) (coded× desk (coded× (coded_list share) (coded_list group))) (λ b. (b.desk, (b.routes, b.groups)))
    (λ p. record { desk = p.0; routes = p.1.0; groups = p.1.1 }) (λ _. refl)
