-- Each call of brokers that are alike has one answer.
use Rattle.std.proofs.Common.{◌≡◌, ◌≢◌, ℕ, Bool, List, Option, Some, None, Result, Ok, Err, refl, sym, ap, ◌∙◌, subst, inl, inr, arith}
use Rattle.std.proofs.lemmas.Option.{same_Some}
use Rattle.mqtt_topic.specs.Names.{Share}
use Rattle.mqtt_topic.specs.Routes.{slot_of, routed, places_of}
use Rattle.group_jobs.specs.Stamps.{Held}
use Rattle.group_jobs.specs.declared.message.Message.{Message}
use Rattle.group_jobs.specs.declared.stamp.Stamp.{Stamp}
use Rattle.session_desk.specs.declared.newcomers.Newcomers.TheVariants.{IfRoom}
use Rattle.session_desk.specs.Hands.{DeskLaw}
use Rattle.session_desk.specs.declared.attached.Attached.{Attached}
use Rattle.session_desk.specs.declared.error.DeskError.{DeskError}
use Rattle.session_desk.specs.declared.session.Session.{Session}
use Rattle.session_desk.specs.Attaching.{Request}
use Rattle.session_desk.specs.Calls.{Call, Makes}
use Rattle.session_desk.specs.Calls as desk
use Rattle.session_desk.specs.Asking as desk_asking
use Rattle.session_desk.proofs.OneAnswer as desk_answer
use Rattle.local_group.specs.Groups.{Group}
use Rattle.conn_supply.specs.declared.supply.BindRefusal.{BindRefusal}
use Rattle.conn_supply.specs.declared.supply.BindRefusal.TheVariants as bind
use Rattle.conn_supply.specs.declared.supply.OfferRefusal.{OfferRefusal}
use Rattle.conn_supply.specs.declared.supply.OfferRefusal.TheVariants as refusal
use Rattle.conn_supply.specs.SupplyCalls.{SupplyCall}
use Rattle.conn_supply.specs.SupplyCalls.SupplyCall.{Attach, Withdraw, Kicked, Park, ParkAsIs, Keep, Bury, Sweep, LendPlace, TakePlace, Bind, Find, Match, Offer, MayTake, Take, TakeBack, Settle, GiveBack}
use Rattle.conn_laws.specs.Asking.{IsSameQuestion, HadMemory}
use Rattle.local_broker.specs.Places.{GroupPlace, cell_of}
use Rattle.local_broker.specs.Groups.{IsOffered, HandsOut, HandsOutAgain, IsSettled, IsGivenBack}
use Rattle.local_broker.specs.Broker.{Broker}
use Rattle.local_broker.specs.Alike.{AreAlikeInEachSlot, AreAlike}
use Rattle.local_broker.specs.Calls.{AsksDesk, AsksGroup, Binds, OffersFrom, Calls, Closes}
use Rattle.local_broker.proofs.OneGroup.{in_group, one_offer, one_take, one_take_back, one_settle, one_give_back, one_close}

-- what a call of the desk says of its answer
attach_is : (request : Request) (x y : Result (Attached Held GroupPlace) DeskError) → desk.Attach (IfRoom 256) request x ≡ desk.Attach (IfRoom 256) request y → x ≡ y
attach_is request x y e = cc

kicked_is : (connection : ℕ) (x y : Bool) → ◌≡◌ {A = Call Held GroupPlace} (desk.Kicked connection x) (desk.Kicked connection y) → x ≡ y
kicked_is connection x y e = cc

park_is : (session : Session Held GroupPlace) (now : ℕ) (x y : Option (Session Held GroupPlace)) → desk.Park session now x ≡ desk.Park session now y → x ≡ y
park_is session now x y e = cc

sweep_is : (now : ℕ) (x y : Option (Session Held GroupPlace)) → desk.Sweep now x ≡ desk.Sweep now y → x ≡ y
sweep_is now x y e = cc

lend_is : (slot : ℕ) (x y : Option GroupPlace) → ◌≡◌ {A = Call Held GroupPlace} (desk.LendPlace slot x) (desk.LendPlace slot y) → x ≡ y
lend_is slot x y e = cc

none_some : {A : Type 0} (a : A) → None ≡ Some a → ⊥
none_some a e = cc

-- a share is bound in one way
one_bind : (old new new' : List Share) (share : Share) (x y : Result ℕ BindRefusal) → x ≢ Err bind.Memory → y ≢ Err bind.Memory → Binds old share x new → Binds old share y new' → (x ≡ y) × (new ≡ new')
one_bind old new new' share (Ok a) (Ok b) had also (inl h) (inl k) = (ap Ok (same_Some a b (sym h.0 ∙ k.0)), h.1 ∙ sym k.1)
one_bind old new new' share (Ok a) (Ok b) had also (inl h) (inr k) = absurd (none_some a (sym k.0 ∙ h.0))
one_bind old new new' share (Ok a) (Ok b) had also (inr h) (inl k) = absurd (none_some b (sym h.0 ∙ k.0))
one_bind old new new' share (Ok a) (Ok b) had also (inr h) (inr k) = (ap Ok (h.1 ∙ sym k.1), h.3 ∙ sym k.3)
one_bind old new new' share (Ok a) (Err bind.NoSlot) had also (inl h) k = absurd (none_some a (sym k.0 ∙ h.0))
one_bind old new new' share (Ok a) (Err bind.NoSlot) had also (inr h) k = absurd (let less = h.2 in let all = k.2 in omega arith)
one_bind old new new' share (Err bind.NoSlot) (Ok b) had also h (inl k) = absurd (none_some b (sym h.0 ∙ k.0))
one_bind old new new' share (Err bind.NoSlot) (Ok b) had also h (inr k) = absurd (let less = k.2 in let all = h.2 in omega arith)
one_bind old new new' share (Err bind.NoSlot) (Err bind.NoSlot) had also h k = (refl, h.1 ∙ sym k.1)
one_bind old new new' share (Err bind.NotDeclared) y had also h k = absurd h
one_bind old new new' share (Ok a) (Err bind.NotDeclared) had also h k = absurd k
one_bind old new new' share (Err bind.NoSlot) (Err bind.NotDeclared) had also h k = absurd k
one_bind old new new' share (Err bind.Memory) y had also h k = absurd (had refl)
one_bind old new new' share x (Err bind.Memory) had also h k = absurd (also refl)

same_groups : (these those these' those' : List Group) → AreAlikeInEachSlot these those → these' ≡ these → those' ≡ those → AreAlikeInEachSlot these' those'
same_groups these those these' those' alike is was = rw (is, was) alike

-- a message is offered in one way
one_offered : (these those these' those' : List Group) (slot connection : ℕ) (message : Message) (x y : Result Stamp OfferRefusal) → AreAlikeInEachSlot these those
    → x ≢ Err refusal.Memory → y ≢ Err refusal.Memory → OffersFrom these slot connection message x these' → OffersFrom those slot connection message y those' → (x ≡ y) × AreAlikeInEachSlot these' those'
one_offered these those these' those' slot connection message x y alike had also (inl h) (inl k) = (h.1 ∙ sym k.1, same_groups these those these' those' alike h.2 k.2)
one_offered these those these' those' slot connection message x y alike had also (inl h) (inr (inl k)) = absurd (let more = h.0 in let less = k.0 in omega arith)
one_offered these those these' those' slot connection message x y alike had also (inl h) (inr (inr k)) = absurd (let more = h.0 in let less = k.0 in omega arith)
one_offered these those these' those' slot connection message x y alike had also (inr (inl h)) (inl k) = absurd (let less = h.0 in let more = k.0 in omega arith)
one_offered these those these' those' slot connection message x y alike had also (inr (inl h)) (inr (inl k)) = (h.2 ∙ sym k.2, same_groups these those these' those' alike h.3 k.3)
one_offered these those these' those' slot connection message x y alike had also (inr (inl h)) (inr (inr k)) = absurd (let more = h.1 in let less = k.1 in omega arith)
one_offered these those these' those' slot connection message x y alike had also (inr (inr h)) (inl k) = absurd (let less = h.0 in let more = k.0 in omega arith)
one_offered these those these' those' slot connection message x y alike had also (inr (inr h)) (inr (inl k)) = absurd (let less = h.1 in let more = k.1 in omega arith)
one_offered these those these' those' slot connection message x y alike had also (inr (inr h)) (inr (inr k)) =
    in_group these those these' those' slot (λ before after. IsOffered before connection message x after) (λ before after. IsOffered before connection message y after) alike
    (λ one other one' other' same a b. one_offer one other one' other' same connection message x y had also a b) h.2 k.2

module _ (one other one' other' : Broker) (alike : AreAlike one other) where
  -- nothing changes
  same : one' ≡ one → other' ≡ other → AreAlike one' other'
  same is was = rw (is, was) alike

  -- only the groups change
  groups_alike : AsksGroup one one' → AsksGroup other other' → AreAlikeInEachSlot one'.groups other'.groups → AreAlike one' other'
  groups_alike a b groups = record { desk = a.desk ∙ alike.desk ∙ sym b.desk; routes = a.routes ∙ alike.routes ∙ sym b.routes; groups = groups }

  asks_desk : (call its : Call Held GroupPlace) → DeskLaw one.desk.rows one.desk.made → desk_asking.IsSameQuestion call its → desk_asking.HadMemory call → desk_asking.HadMemory its
      → AsksDesk one call one' → AsksDesk other its other' → (call ≡ its) × AreAlike one' other'
  asks_desk call its law asks had also a b =
      let told = desk_answer.one_answer cell_of one.desk one'.desk other'.desk law call its asks had also a.makes (subst (λ old. Makes cell_of old its other'.desk) (sym alike.desk) b.makes) in (
        told.0,
        record {
          desk = told.1;
          routes = a.routes ∙ alike.routes ∙ sym b.routes;
          groups = same_groups one.groups other.groups one'.groups other'.groups alike.groups a.groups b.groups;
        },
      )

  -- the same call, by its answer
  told : {A : Type 0} (say : A → SupplyCall GroupPlace) (x y : A) (its : SupplyCall GroupPlace) → its ≡ say y → (x ≡ y) × AreAlike one' other' → (say x ≡ its) × AreAlike one' other'
  told say x y its is both = (ap say both.0 ∙ sym is, both.1)

  -- the same place, and the same answer
  placed : {A : Type 0} (say : GroupPlace → A → SupplyCall GroupPlace) (place after behind : GroupPlace) (x y : A) (its : SupplyCall GroupPlace) → its ≡ say behind y → after ≡ place → behind ≡ place
      → (x ≡ y) × AreAlike one' other' → (say after x ≡ its) × AreAlike one' other'
  placed say place after behind x y its is here also both = ((λ i. say ((here ∙ sym also) i) (both.0 i)) ∙ sym is, both.1)

  given_back : (place after : GroupPlace) (envelope : Held) (its : SupplyCall GroupPlace) (behind : GroupPlace) (done : Unit {0}) (y : Result (Unit {0}) Held) → its ≡ GiveBack place behind envelope y
      → Calls one (GiveBack place after envelope (Ok done)) one' → Calls other (GiveBack place behind envelope y) other' → (GiveBack place after envelope (Ok done) ≡ its) × AreAlike one' other'
  given_back place after envelope its behind done (Ok also) is a b =
      let both = in_group {X = Unit {0}} one.groups other.groups one'.groups other'.groups place.slot (λ g h. IsGivenBack g place.number envelope h) (λ g h. IsGivenBack g place.number envelope h) alike.groups
      (λ g h g' h' like c d. (tt, one_give_back g h g' h' like place.number envelope c d)) a.0 b.0 in
      (ap (λ p. GiveBack place p envelope (Ok done)) (a.1 ∙ sym b.1) ∙ sym is, groups_alike a.2 b.2 both.1)
  given_back place after envelope its behind done (Err back) is a b = absurd b

  pub one_answer : (supply_call its : SupplyCall GroupPlace) → DeskLaw one.desk.rows one.desk.made → IsSameQuestion supply_call its → HadMemory supply_call → HadMemory its → Calls one supply_call one' → Calls other its other'
      → (supply_call ≡ its) × AreAlike one' other'
  one_answer (Attach request x) its law asks had also a b =
      let d = asks_desk (desk.Attach (IfRoom 256) request x) (desk.Attach (IfRoom 256) request asks.0) law (asks.0, refl) had (rw asks.1 at also) a (rw asks.1 at b) in
      told (Attach request) x asks.0 its asks.1 (attach_is request x asks.0 d.0, d.1)
  one_answer (Withdraw connection) its law asks had also a b =
      (sym asks, (asks_desk (desk.Withdraw connection) (desk.Withdraw connection) law refl tt tt a (rw asks at b)).1)
  one_answer (Kicked connection x) its law asks had also a b =
      let d = asks_desk (desk.Kicked connection x) (desk.Kicked connection asks.0) law (asks.0, refl) tt tt a (rw asks.1 at b) in
      told (Kicked connection) x asks.0 its asks.1 (kicked_is connection x asks.0 d.0, d.1)
  one_answer (Park session now x) its law asks had also a b =
      let d = asks_desk (desk.Park session now x) (desk.Park session now asks.0) law (asks.0, refl) tt tt a (rw asks.1 at b) in
      told (Park session now) x asks.0 its asks.1 (park_is session now x asks.0 d.0, d.1)
  one_answer (ParkAsIs session) its law asks had also a b =
      let b' = rw asks at b in (sym asks, (asks_desk (desk.ParkAsIs session a.0) (desk.ParkAsIs session b'.0) law (b'.0, refl) tt tt a.1 b'.1).1)
  one_answer (Keep session) its law asks had also a b =
      let b' = rw asks at b in (sym asks, (asks_desk (desk.Keep session a.0) (desk.Keep session b'.0) law (b'.0, refl) tt tt a.1 b'.1).1)
  one_answer (Bury session) its law asks had also a b =
      let b' = rw asks at b in (sym asks, (asks_desk (desk.Bury session a.0) (desk.Bury session b'.0) law (b'.0, refl) tt tt a.1 b'.1).1)
  one_answer (Sweep now x) its law asks had also a b =
      let d = asks_desk (desk.Sweep now x) (desk.Sweep now asks.0) law (asks.0, refl) tt tt a (rw asks.1 at b) in
      told (Sweep now) x asks.0 its asks.1 (sweep_is now x asks.0 d.0, d.1)
  one_answer (LendPlace slot x) its law asks had also a b =
      let d = asks_desk (desk.LendPlace slot x) (desk.LendPlace slot asks.0) law (asks.0, refl) tt tt a (rw asks.1 at b) in
      told (LendPlace slot) x asks.0 its asks.1 (lend_is slot x asks.0 d.0, d.1)
  one_answer (TakePlace place) its law asks had also a b =
      let b' = rw asks at b in (sym asks, (asks_desk (desk.TakePlace place a.0) (desk.TakePlace place b'.0) law (b'.0, refl) tt tt a.1 b'.1).1)
  one_answer (Bind share x) its law asks had also a b =
      let b' = rw asks.1 at b in
      let bound = one_bind one.routes one'.routes other'.routes share x asks.0 had (rw asks.1 at also) a.0 (subst (λ old. Binds old share asks.0 other'.routes) (sym alike.routes) b'.0) in
      told (Bind share) x asks.0 its asks.1 (
        bound.0,
        record {
          desk = a.1.desk ∙ alike.desk ∙ sym b'.1.desk;
          routes = bound.1;
          groups = same_groups one.groups other.groups one'.groups other'.groups alike.groups a.1.groups b'.1.groups;
        },
      )
  one_answer (Find share x) its law asks had also a b =
      let b' = rw asks.1 at b in told (Find share) x asks.0 its asks.1 (a.0 ∙ ap (slot_of share.text) alike.routes ∙ sym b'.0, same a.1 b'.1)
  one_answer (Match topic x) its law asks had also a b =
      let b' = rw asks.1 at b in told (Match topic) x asks.0 its asks.1 (a.0 ∙ ap (λ routes. places_of 0 (routed topic routes)) alike.routes ∙ sym b'.0, same a.1 b'.1)
  one_answer (Offer slot connection message x) its law asks had also a b =
      let b' = rw asks.1 at b in
      let done = one_offered one.groups other.groups one'.groups other'.groups slot connection message x asks.0 alike.groups had (rw asks.1 at also) a.0 b'.0 in
      told (Offer slot connection message) x asks.0 its asks.1 (done.0, groups_alike a.1 b'.1 done.1)
  one_answer (MayTake place x) its law asks had also a b =
      let b' = rw asks.1 at b in told (MayTake place) x asks.0 its asks.1 (a.0 ∙ sym b'.0, same a.1 b'.1)
  one_answer (Take place after x) its law asks had also a b =
      let b' = rw asks.2 at b in
      let also' = rw asks.2 at also in
      let done = in_group one.groups other.groups one'.groups other'.groups place.slot (λ g h. HandsOut g place.number x h) (λ g h. HandsOut g place.number asks.1 h) alike.groups
      (λ g h g' h' like c d. one_take g h g' h' like place.number x asks.1 had also' c d) a.0 b'.0 in
      placed (Take place) place after asks.0 x asks.1 its asks.2 a.1 b'.1 (done.0, groups_alike a.2 b'.2 done.1)
  one_answer (TakeBack place after x) its law asks had also a b =
      let b' = rw asks.2 at b in
      let also' = rw asks.2 at also in
      let done = in_group one.groups other.groups one'.groups other'.groups place.slot (λ g h. HandsOutAgain g place.number x h) (λ g h. HandsOutAgain g place.number asks.1 h) alike.groups
      (λ g h g' h' like c d. one_take_back g h g' h' like place.number x asks.1 had also' c d) a.0 b'.0 in
      placed (TakeBack place) place after asks.0 x asks.1 its asks.2 a.1 b'.1 (done.0, groups_alike a.2 b'.2 done.1)
  one_answer (Settle place after envelope fate) its law asks had also a b =
      let b' = rw asks.1 at b in
      let done = in_group {X = Unit {0}} one.groups other.groups one'.groups other'.groups place.slot (λ g h. IsSettled g place.number envelope fate h) (λ g h. IsSettled g place.number envelope fate h) alike.groups
      (λ g h g' h' like c d. (tt, one_settle g h g' h' like place.number envelope fate c d)) a.0 b'.0 in
      (ap (λ p. Settle place p envelope fate) (a.1 ∙ sym b'.1) ∙ sym asks.1, groups_alike a.2 b'.2 done.1)
  one_answer (GiveBack place after envelope (Ok done)) its law asks had also a b = given_back place after envelope its asks.0 done asks.1 asks.2 a (rw asks.2 at b)
  one_answer (GiveBack place after envelope (Err back)) its law asks had also a b = absurd a

  pub one_close_of_all : Closes one one' → Closes other other' → AreAlike one' other'
  one_close_of_all a b =
      record {
        desk = a.desk ∙ alike.desk ∙ sym b.desk;
        routes = a.routes ∙ alike.routes ∙ sym b.routes;
        groups = one_close one.groups other.groups one'.groups other'.groups alike.groups a.groups b.groups;
      }
