-- A call of groups that are alike has one answer.
use Rattle.std.proofs.Common.{◌≡◌, ◌≢◌, ◌⊎◌, ℕ, zero, suc, true, false, List, [], ◌∷◌, length, slice_get, slice_set, Option, Some, None, Result, Ok, Err, refl, sym, ap, ◌∙◌, subst, ⊎_elim, inl, inr, arith}
use Rattle.std.proofs.lemmas.Bool.{cases_eq, false≢true}
use Rattle.std.proofs.lemmas.List.{length-set}
use Rattle.std.proofs.lemmas.Option.{slice_get_within, same_Some}
use Rattle.dispatch_core.specs.GroupState.{accepted_of}
use Rattle.dispatch_core.specs.declared.event.Job.{Job}
use Rattle.dispatch_core.proofs.ExactLaws.{same_next}
use Rattle.dispatch_core.proofs.Spots.{slice_get-set_same, slice_get-set_other}
use Rattle.group_jobs.specs.declared.fate.Fate.{Fate}
use Rattle.group_jobs.specs.declared.message.Message.{Message}
use Rattle.group_jobs.specs.declared.stamp.Stamp.{Stamp}
use Rattle.group_jobs.specs.Stamps.{Held}
use Rattle.local_group.specs.declared.error.OfferError.{OfferError}
use Rattle.local_group.specs.declared.error.OfferError.TheVariants as why
use Rattle.local_group.specs.Groups.{Group, MayOffer, MayNotOffer}
use Rattle.local_group.specs.Alike.{AreAlike}
use Rattle.local_group.proofs.Alike as groups
use Rattle.conn_supply.specs.declared.supply.NoMemory.{NoMemory}
use Rattle.conn_supply.specs.declared.supply.OfferRefusal.{OfferRefusal}
use Rattle.conn_supply.specs.declared.supply.OfferRefusal.TheVariants as refusal
use Rattle.conn_laws.specs.Asking.{IsOkResult}
use Rattle.local_broker.specs.Groups.{told_as, IsOffered, HandsOut, HandsOutAgain, IsOutAt, IsSettled, IsGivenBack, InGroup, ClosesEach}
use Rattle.local_broker.specs.Alike.{AreAlikeInEachSlot}

none_cons : {A : Type 0} (a : A) (list : List A) → [] ≡ a ∷ list → ⊥
none_cons a list e = cc

not_both : (group : Group) → group.state.closed ≡ false → group.state.closed ≡ true → ⊥
not_both group is was = false≢true (sym is ∙ was)

accepted_is : (one other : Group) (port : ℕ) → AreAlike one other → accepted_of one.state port ≡ accepted_of other.state port
accepted_is one other port alike = ap (λ (job : Job). job.number) (same_next one.state other.state port alike.state.spots)

-- of several reasons against an offer one counts
may_not : (one other : Group) (port : ℕ) (reason : OfferError) → AreAlike one other → MayNotOffer one port reason → MayNotOffer other port reason
may_not one other port why.Shut alike is = alike.state.mark ∙ is
may_not one other port why.LifeSpent alike is = (alike.state.mark ∙ is.0, (let same = accepted_is one other port alike in let more = is.1 in omega arith))
may_not one other port why.Full alike is =
    let same = accepted_is one other port alike in
    let queued : length one.queue ≡ length other.queue = ap length alike.queue in
    (alike.state.mark ∙ is.0, (let less = is.1 in omega arith), (let more = is.2 in let room = alike.capacity in omega arith))
may_not one other port why.Memory alike is = groups.may_offer one other port alike is

may_and_may_not : (group : Group) (port : ℕ) (reason : OfferError) → MayOffer group port → MayNotOffer group port reason → reason ≢ why.Memory → ⊥
may_and_may_not group port why.Shut may is had = not_both group may.0 is
may_and_may_not group port why.LifeSpent may is had = let less = may.1 in let more = is.1 in omega arith
may_and_may_not group port why.Full may is had = let less = may.2 in let more = is.2 in omega arith
may_and_may_not group port why.Memory may is had = had refl

one_reason : (group : Group) (port : ℕ) (x y : OfferError) → MayNotOffer group port x → MayNotOffer group port y → x ≢ why.Memory → y ≢ why.Memory → x ≡ y
one_reason group port why.Shut why.Shut h k had also = refl
one_reason group port why.Shut why.LifeSpent h k had also = absurd (not_both group k.0 h)
one_reason group port why.Shut why.Full h k had also = absurd (not_both group k.0 h)
one_reason group port why.LifeSpent why.Shut h k had also = absurd (not_both group h.0 k)
one_reason group port why.LifeSpent why.LifeSpent h k had also = refl
one_reason group port why.LifeSpent why.Full h k had also = absurd (let more = h.1 in let less = k.1 in omega arith)
one_reason group port why.Full why.Shut h k had also = absurd (not_both group h.0 k)
one_reason group port why.Full why.LifeSpent h k had also = absurd (let more = k.1 in let less = h.1 in omega arith)
one_reason group port why.Full why.Full h k had also = refl
one_reason group port why.Memory y h k had also = absurd (had refl)
one_reason group port x why.Memory h k had also = absurd (also refl)

-- a reason that a connection is not told of as lack of memory is none
not_memory : (reason : OfferError) (told : OfferRefusal) → told ≡ told_as reason → ◌≢◌ {A = Result Stamp OfferRefusal} (Err told) (Err refusal.Memory) → reason ≢ why.Memory
not_memory reason told is had same = had (ap Err (is ∙ ap told_as same))

module _ (one other one' other' : Group) (alike : AreAlike one other) where
  pub one_offer : (port : ℕ) (message : Message) (x y : Result Stamp OfferRefusal) → x ≢ Err refusal.Memory → y ≢ Err refusal.Memory
      → IsOffered one port message x one' → IsOffered other port message y other' → (x ≡ y) × AreAlike one' other'
  one_offer port message (Ok stamp) (Ok stamp') had also a b =
      let same = groups.accepts one other one' other' alike port message stamp stamp' a b in (ap Ok same.0, same.1)
  one_offer port message (Ok stamp) (Err told) had also a b =
      absurd (may_and_may_not other port b.why (groups.may_offer one other port alike a.may) b.may_not (not_memory b.why told b.told also))
  one_offer port message (Err told) (Ok stamp) had also a b =
      absurd (may_and_may_not other port a.why b.may (may_not one other port a.why alike a.may_not) (not_memory a.why told a.told had))
  one_offer port message (Err told) (Err told') had also a b =
      let same = one_reason other port a.why b.why (may_not one other port a.why alike a.may_not) b.may_not (not_memory a.why told a.told had) (not_memory b.why told' b.told also) in
      (ap Err (a.told ∙ ap told_as same ∙ sym b.told), groups.stays one other one' other' alike a.same b.same)

  -- a message is there, and none is
  nothing_there : {A : Type 0} (group : Group) (list : List A) (first : A) (rest : List A) → group.state.closed ≡ false → list ≡ first ∷ rest → (group.state.closed ≡ true) ⊎ (list ≡ []) → ⊥
  nothing_there group list first rest open_still is none =
      ⊎_elim (λ (was : group.state.closed ≡ true). not_both group open_still was) (λ (empty : list ≡ []). none_cons first rest (sym empty ∙ is)) none

  pub one_take : (place : ℕ) (x y : Result (Option Held) NoMemory) → IsOkResult x → IsOkResult y → HandsOut one place x one' → HandsOut other place y other' → (x ≡ y) × AreAlike one' other'
  one_take place (Ok (Some a)) (Ok (Some b)) had also h k = let same = groups.takes one other one' other' alike place a b h k in (ap (λ e. Ok (Some e)) same.0, same.1)
  one_take place (Ok (Some a)) (Ok None) had also h k =
      absurd (nothing_there other other.queue h.0 one'.queue (alike.state.mark ∙ h.4.step.may.not_closed tt) (sym alike.queue ∙ h.1) k.0)
  one_take place (Ok None) (Ok (Some b)) had also h k =
      absurd (nothing_there one one.queue k.0 other'.queue (sym alike.state.mark ∙ k.4.step.may.not_closed tt) (alike.queue ∙ k.1) h.0)
  one_take place (Ok None) (Ok None) had also h k = (refl, groups.stays one other one' other' alike h.1 k.1)
  one_take place (Err error) y had also h k = absurd had
  one_take place x (Err error) had also h k = absurd also

  pub one_take_back : (place : ℕ) (x y : Result (Option Held) NoMemory) → IsOkResult x → IsOkResult y → HandsOutAgain one place x one' → HandsOutAgain other place y other' → (x ≡ y) × AreAlike one' other'
  one_take_back place (Ok (Some a)) (Ok (Some b)) had also h k = let same = groups.takes_back one other one' other' alike place a b h k in (ap (λ e. Ok (Some e)) same.0, same.1)
  one_take_back place (Ok (Some a)) (Ok None) had also h k =
      absurd (nothing_there other other.returned h.0 one'.returned (alike.state.mark ∙ h.4.step.may.not_closed tt) (sym alike.returned ∙ h.1) k.0)
  one_take_back place (Ok None) (Ok (Some b)) had also h k =
      absurd (nothing_there one one.returned k.0 other'.returned (sym alike.state.mark ∙ k.4.step.may.not_closed tt) (alike.returned ∙ k.1) h.0)
  one_take_back place (Ok None) (Ok None) had also h k = (refl, groups.stays one other one' other' alike h.1 k.1)
  one_take_back place (Err error) y had also h k = absurd had
  one_take_back place x (Err error) had also h k = absurd also

  out_also : (place : ℕ) (envelope : Held) → IsOutAt one place envelope → IsOutAt other place envelope
  out_also place envelope is = record { held = groups.held one other envelope alike is.held; its = is.its }

  out_before : (place : ℕ) (envelope : Held) → IsOutAt other place envelope → IsOutAt one place envelope
  out_before place envelope is = record { held = groups.held other one envelope (groups.flipped one other alike) is.held; its = is.its }

  pub one_settle : (place : ℕ) (envelope : Held) (fate : Fate) → IsSettled one place envelope fate one' → IsSettled other place envelope fate other' → AreAlike one' other'
  one_settle place envelope fate (inl h) (inl k) = groups.settles one other one' other' alike envelope fate h.1 k.1
  one_settle place envelope fate (inl h) (inr k) = absurd (k.stranger (out_also place envelope h.0))
  one_settle place envelope fate (inr h) (inl k) = absurd (h.stranger (out_before place envelope k.0))
  one_settle place envelope fate (inr h) (inr k) = groups.stays one other one' other' alike h.same k.same

  pub one_give_back : (place : ℕ) (envelope : Held) → IsGivenBack one place envelope one' → IsGivenBack other place envelope other' → AreAlike one' other'
  one_give_back place envelope (inl h) (inl k) = groups.gives_back one other one' other' alike envelope h.1 k.1
  one_give_back place envelope (inl h) (inr k) = absurd (k.stranger (out_also place envelope h.0))
  one_give_back place envelope (inr h) (inl k) = absurd (h.stranger (out_before place envelope k.0))
  one_give_back place envelope (inr h) (inr k) = groups.stays one other one' other' alike h.same k.same

-- one group becomes another in each of two lists
set_alike : (these those : List Group) (at : ℕ) (before also after then : Group) → AreAlikeInEachSlot these those → slice_get these at ≡ Some before → slice_get those at ≡ Some also → AreAlike after then
    → AreAlikeInEachSlot (slice_set these at after) (slice_set those at then)
set_alike these those at before also after then alike there here same =
    record {
      as_many = length-set these at after ∙ alike.as_many ∙ sym (length-set those at then);
      each = λ slot one other has had.
          ⊎_elim
          (λ (is : slot ≡ at).
          let a : after ≡ one = same_Some after one (sym (slice_get-set_same these at after (slice_get_within these at before there)) ∙ ap (slice_get (slice_set these at after)) (sym is) ∙ has) in
          let b : then ≡ other = same_Some then other (sym (slice_get-set_same those at then (slice_get_within those at also here)) ∙ ap (slice_get (slice_set those at then)) (sym is) ∙ had) in
          subst (λ g. AreAlike g other) a (subst (AreAlike after) b same))
          (λ (elsewhere : slot ≢ at). alike.each slot one other (sym (slice_get-set_other these at slot after elsewhere) ∙ has) (sym (slice_get-set_other those at slot then elsewhere) ∙ had))
          (cases_eq slot at);
    }

-- a call of the group of one slot, in each of two lists
pub in_group : {X : Type 0} (these those these' those' : List Group) (slot : ℕ) (Does Also : Group → Group → Type 0) → AreAlikeInEachSlot these those
    → ((one other one' other' : Group) → AreAlike one other → Does one one' → Also other other' → X × AreAlike one' other')
    → InGroup these slot Does these' → InGroup those slot Also those' → X × AreAlikeInEachSlot these' those'
in_group these those these' those' slot Does Also alike both a b =
    let same = both a.before b.before a.after b.after (alike.each slot a.before b.before a.there b.there) a.does b.does in
    (same.0, rw (a.becomes, b.becomes) (set_alike these those slot a.before b.before a.after b.after alike a.there b.there same.1))

-- a group that one list has, another one has where there are as many
there_also : (these those : List Group) (slot : ℕ) (one : Group) → length these ≡ length those → slice_get these slot ≡ Some one → (other : Group) × (slice_get those slot ≡ Some other)
there_also [] those slot one same there = absurd (let e : ◌≡◌ {A = Option Group} None (Some one) = there in cc)
there_also (first ∷ these) [] slot one same there = absurd (let e : length (first ∷ these) ≡ 0 = same in omega arith)
there_also (first ∷ these) (second ∷ those) zero one same there = (second, refl)
there_also (first ∷ these) (second ∷ those) (suc slot) one same there = there_also these those slot one (let e : length (first ∷ these) ≡ length (second ∷ those) = same in omega arith) there

-- the close
pub one_close : (these those these' those' : List Group) → AreAlikeInEachSlot these those → ClosesEach these these' → ClosesEach those those' → AreAlikeInEachSlot these' those'
one_close these those these' those' alike a b =
    record {
      as_many = a.as_many ∙ alike.as_many ∙ sym b.as_many;
      each = λ slot one other there here.
          let before = there_also these' these slot one a.as_many there in
          let also = there_also those' those slot other b.as_many here in
          let closed = a.each slot before.0 before.1 in
          let closes = b.each slot also.0 also.1 in
          let is = same_Some closed.group one (sym closed.there ∙ there) in
          let was = same_Some closes.group other (sym closes.there ∙ here) in
          subst (λ g. AreAlike g other) is (subst (AreAlike closed.group) was (groups.closes before.0 also.0 closed.group closes.group (alike.each slot before.0 also.0 before.1 also.1) closed.is_so closes.is_so));
    }
