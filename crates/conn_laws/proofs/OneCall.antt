-- Where each call of a supply has one answer: what that says, call by call.
use Rattle.std.proofs.Common.{◌≡◌, ◌≢◌, ℕ, Bool, List, Option, Result, Ok, Err, refl, sym, subst}
use Rattle.mqtt_topic.specs.Names.{Share}
use Rattle.group_jobs.specs.declared.fate.Fate.{Fate}
use Rattle.group_jobs.specs.declared.message.Message.{Message}
use Rattle.group_jobs.specs.declared.stamp.Stamp.{Stamp}
use Rattle.group_jobs.specs.Stamps.{Held}
use Rattle.session_desk.specs.Attaching.{Request}
use Rattle.session_desk.specs.declared.attached.Attached.{Attached}
use Rattle.session_desk.specs.declared.error.DeskError.{DeskError}
use Rattle.session_desk.specs.declared.error.DeskError.TheVariants as desk
use Rattle.session_desk.specs.declared.session.Session.{Session}
use Rattle.conn_supply.specs.declared.supply.BindRefusal.{BindRefusal}
use Rattle.conn_supply.specs.declared.supply.BindRefusal.TheVariants as bind
use Rattle.conn_supply.specs.declared.supply.OfferRefusal.{OfferRefusal}
use Rattle.conn_supply.specs.declared.supply.OfferRefusal.TheVariants as offer
use Rattle.conn_supply.specs.SupplyCalls.{SupplyCall}
use Rattle.conn_supply.specs.SupplyCalls.SupplyCall.{Attach, Withdraw, Kicked, Park, ParkAsIs, Keep, Bury, Sweep, LendPlace, TakePlace, Bind, Find, Match, Offer, MayTake, Take, TakeBack, Settle, GiveBack}
use Rattle.conn_laws.specs.Asking.{OneAnswer}

-- calls with the same arguments that are one have the same answer
attach_is : {P : Type 0} (request : Request) (x y : Result (Attached Held P) DeskError) → Attach request x ≡ Attach request y → x ≡ y
attach_is request x y e = cc

kicked_is : {P : Type 0} (connection : ℕ) (x y : Bool) → ◌≡◌ {A = SupplyCall P} (Kicked connection x) (Kicked connection y) → x ≡ y
kicked_is connection x y e = cc

park_is : {P : Type 0} (session : Session Held P) (now : ℕ) (x y : Option (Session Held P)) → Park session now x ≡ Park session now y → x ≡ y
park_is session now x y e = cc

sweep_is : {P : Type 0} (now : ℕ) (x y : Option (Session Held P)) → Sweep now x ≡ Sweep now y → x ≡ y
sweep_is now x y e = cc

lend_is : {P : Type 0} (slot : ℕ) (x y : Option P) → LendPlace slot x ≡ LendPlace slot y → x ≡ y
lend_is slot x y e = cc

bind_is : {P : Type 0} (share : Share) (x y : Result ℕ BindRefusal) → ◌≡◌ {A = SupplyCall P} (Bind share x) (Bind share y) → x ≡ y
bind_is share x y e = cc

find_is : {P : Type 0} (share : Share) (x y : Option ℕ) → ◌≡◌ {A = SupplyCall P} (Find share x) (Find share y) → x ≡ y
find_is share x y e = cc

match_is : {P : Type 0} (topic x y : List ℕ) → ◌≡◌ {A = SupplyCall P} (Match topic x) (Match topic y) → x ≡ y
match_is topic x y e = cc

offer_is : {P : Type 0} (slot connection : ℕ) (message : Message) (x y : Result Stamp OfferRefusal) → ◌≡◌ {A = SupplyCall P} (Offer slot connection message x) (Offer slot connection message y) → x ≡ y
offer_is slot connection message x y e = cc

may_take_is : {P : Type 0} (place : P) (x y : Bool) → MayTake place x ≡ MayTake place y → x ≡ y
may_take_is place x y e = cc

take_place_is : {P : Type 0} (place p q : P) (x y : Option Held) → Take place p (Ok x) ≡ Take place q (Ok y) → p ≡ q
take_place_is place p q x y e = cc

take_is : {P : Type 0} (place p q : P) (x y : Option Held) → Take place p (Ok x) ≡ Take place q (Ok y) → x ≡ y
take_is place p q x y e = cc

take_back_place_is : {P : Type 0} (place p q : P) (x y : Option Held) → TakeBack place p (Ok x) ≡ TakeBack place q (Ok y) → p ≡ q
take_back_place_is place p q x y e = cc

take_back_is : {P : Type 0} (place p q : P) (x y : Option Held) → TakeBack place p (Ok x) ≡ TakeBack place q (Ok y) → x ≡ y
take_back_is place p q x y e = cc

settle_place_is : {P : Type 0} (place p q : P) (envelope : Held) (fate : Fate) → Settle place p envelope fate ≡ Settle place q envelope fate → p ≡ q
settle_place_is place p q envelope fate e = cc

give_place_is : {P : Type 0} (place p q : P) (envelope : Held) (x y : Result (Unit {0}) Held) → GiveBack place p envelope x ≡ GiveBack place q envelope y → p ≡ q
give_place_is place p q envelope x y e = cc

give_is : {P : Type 0} (place p q : P) (envelope : Held) (x y : Result (Unit {0}) Held) → GiveBack place p envelope x ≡ GiveBack place q envelope y → x ≡ y
give_is place p q envelope x y e = cc

module _ {S P : Type 0} (call : S → SupplyCall P → S → Type 0) (AreAlike : S → S → Type 0) (answers : OneAnswer call AreAlike) where
  -- nothing changes
  pub still : (a a' b b' : S) → AreAlike a b → a' ≡ a → b' ≡ b → AreAlike a' b'
  still a a' b b' alike is was = subst (λ s. AreAlike s b') (sym is) (subst (AreAlike a) (sym was) alike)

  pub attached : (a a' b b' : S) (request : Request) (x y : Result (Attached Held P) DeskError) → AreAlike a b → x ≢ Err desk.Memory → y ≢ Err desk.Memory
      → call a (Attach request x) a' → call b (Attach request y) b' → (x ≡ y) × AreAlike a' b'
  attached a a' b b' request x y alike had also h k =
      let one = answers a b a' b' (Attach request x) (Attach request y) alike (y, refl) had also h k in (attach_is request x y one.0, one.1)

  pub withdrawn : (a a' b b' : S) (connection : ℕ) → AreAlike a b → call a (Withdraw connection) a' → call b (Withdraw connection) b' → AreAlike a' b'
  withdrawn a a' b b' connection alike h k = (answers a b a' b' (Withdraw connection) (Withdraw connection) alike refl tt tt h k).1

  pub kicked : (a a' b b' : S) (connection : ℕ) (x y : Bool) → AreAlike a b → call a (Kicked connection x) a' → call b (Kicked connection y) b' → (x ≡ y) × AreAlike a' b'
  kicked a a' b b' connection x y alike h k =
      let one = answers a b a' b' (Kicked connection x) (Kicked connection y) alike (y, refl) tt tt h k in (kicked_is {P = P} connection x y one.0, one.1)

  pub parked : (a a' b b' : S) (session : Session Held P) (now : ℕ) (x y : Option (Session Held P)) → AreAlike a b → call a (Park session now x) a' → call b (Park session now y) b' → (x ≡ y) × AreAlike a' b'
  parked a a' b b' session now x y alike h k =
      let one = answers a b a' b' (Park session now x) (Park session now y) alike (y, refl) tt tt h k in (park_is session now x y one.0, one.1)

  pub parked_as_is : (a a' b b' : S) (session : Session Held P) → AreAlike a b → call a (ParkAsIs session) a' → call b (ParkAsIs session) b' → AreAlike a' b'
  parked_as_is a a' b b' session alike h k = (answers a b a' b' (ParkAsIs session) (ParkAsIs session) alike refl tt tt h k).1

  pub kept : (a a' b b' : S) (session : Session Held P) → AreAlike a b → call a (Keep session) a' → call b (Keep session) b' → AreAlike a' b'
  kept a a' b b' session alike h k = (answers a b a' b' (Keep session) (Keep session) alike refl tt tt h k).1

  pub buried : (a a' b b' : S) (session : Session Held P) → AreAlike a b → call a (Bury session) a' → call b (Bury session) b' → AreAlike a' b'
  buried a a' b b' session alike h k = (answers a b a' b' (Bury session) (Bury session) alike refl tt tt h k).1

  pub swept : (a a' b b' : S) (now : ℕ) (x y : Option (Session Held P)) → AreAlike a b → call a (Sweep now x) a' → call b (Sweep now y) b' → (x ≡ y) × AreAlike a' b'
  swept a a' b b' now x y alike h k =
      let one = answers a b a' b' (Sweep now x) (Sweep now y) alike (y, refl) tt tt h k in (sweep_is now x y one.0, one.1)

  pub lent : (a a' b b' : S) (slot : ℕ) (x y : Option P) → AreAlike a b → call a (LendPlace slot x) a' → call b (LendPlace slot y) b' → (x ≡ y) × AreAlike a' b'
  lent a a' b b' slot x y alike h k =
      let one = answers a b a' b' (LendPlace slot x) (LendPlace slot y) alike (y, refl) tt tt h k in (lend_is slot x y one.0, one.1)

  pub place_taken : (a a' b b' : S) (place : P) → AreAlike a b → call a (TakePlace place) a' → call b (TakePlace place) b' → AreAlike a' b'
  place_taken a a' b b' place alike h k = (answers a b a' b' (TakePlace place) (TakePlace place) alike refl tt tt h k).1

  pub bound : (a a' b b' : S) (share : Share) (x y : Result ℕ BindRefusal) → AreAlike a b → x ≢ Err bind.Memory → y ≢ Err bind.Memory
      → call a (Bind share x) a' → call b (Bind share y) b' → (x ≡ y) × AreAlike a' b'
  bound a a' b b' share x y alike had also h k =
      let one = answers a b a' b' (Bind share x) (Bind share y) alike (y, refl) had also h k in (bind_is {P = P} share x y one.0, one.1)

  pub found : (a a' b b' : S) (share : Share) (x y : Option ℕ) → AreAlike a b → call a (Find share x) a' → call b (Find share y) b' → (x ≡ y) × AreAlike a' b'
  found a a' b b' share x y alike h k =
      let one = answers a b a' b' (Find share x) (Find share y) alike (y, refl) tt tt h k in (find_is {P = P} share x y one.0, one.1)

  pub matched : (a a' b b' : S) (topic x y : List ℕ) → AreAlike a b → call a (Match topic x) a' → call b (Match topic y) b' → (x ≡ y) × AreAlike a' b'
  matched a a' b b' topic x y alike h k =
      let one = answers a b a' b' (Match topic x) (Match topic y) alike (y, refl) tt tt h k in (match_is {P = P} topic x y one.0, one.1)

  pub offered : (a a' b b' : S) (slot connection : ℕ) (message : Message) (x y : Result Stamp OfferRefusal) → AreAlike a b → x ≢ Err offer.Memory → y ≢ Err offer.Memory
      → call a (Offer slot connection message x) a' → call b (Offer slot connection message y) b' → (x ≡ y) × AreAlike a' b'
  offered a a' b b' slot connection message x y alike had also h k =
      let one = answers a b a' b' (Offer slot connection message x) (Offer slot connection message y) alike (y, refl) had also h k in (offer_is {P = P} slot connection message x y one.0, one.1)

  pub allowed : (a a' b b' : S) (place : P) (x y : Bool) → AreAlike a b → call a (MayTake place x) a' → call b (MayTake place y) b' → (x ≡ y) × AreAlike a' b'
  allowed a a' b b' place x y alike h k =
      let one = answers a b a' b' (MayTake place x) (MayTake place y) alike (y, refl) tt tt h k in (may_take_is place x y one.0, one.1)

  pub taken : (a a' b b' : S) (place p q : P) (x y : Option Held) → AreAlike a b → call a (Take place p (Ok x)) a' → call b (Take place q (Ok y)) b' → (p ≡ q) × (x ≡ y) × AreAlike a' b'
  taken a a' b b' place p q x y alike h k =
      let one = answers a b a' b' (Take place p (Ok x)) (Take place q (Ok y)) alike (q, Ok y, refl) tt tt h k in (take_place_is place p q x y one.0, take_is place p q x y one.0, one.1)

  pub taken_back : (a a' b b' : S) (place p q : P) (x y : Option Held) → AreAlike a b → call a (TakeBack place p (Ok x)) a' → call b (TakeBack place q (Ok y)) b' → (p ≡ q) × (x ≡ y) × AreAlike a' b'
  taken_back a a' b b' place p q x y alike h k =
      let one = answers a b a' b' (TakeBack place p (Ok x)) (TakeBack place q (Ok y)) alike (q, Ok y, refl) tt tt h k in
      (take_back_place_is place p q x y one.0, take_back_is place p q x y one.0, one.1)

  pub settled : (a a' b b' : S) (place p q : P) (envelope : Held) (fate : Fate) → AreAlike a b → call a (Settle place p envelope fate) a' → call b (Settle place q envelope fate) b' → (p ≡ q) × AreAlike a' b'
  settled a a' b b' place p q envelope fate alike h k =
      let one = answers a b a' b' (Settle place p envelope fate) (Settle place q envelope fate) alike (q, refl) tt tt h k in (settle_place_is place p q envelope fate one.0, one.1)

  pub given_back : (a a' b b' : S) (place p q : P) (envelope : Held) (x y : Result (Unit {0}) Held) → AreAlike a b
      → call a (GiveBack place p envelope x) a' → call b (GiveBack place q envelope y) b' → (p ≡ q) × (x ≡ y) × AreAlike a' b'
  given_back a a' b b' place p q envelope x y alike h k =
      let one = answers a b a' b' (GiveBack place p envelope x) (GiveBack place q envelope y) alike (q, y, refl) tt tt h k in
      (give_place_is place p q envelope x y one.0, give_is place p q envelope x y one.0, one.1)
