-- A SUBSCRIBE and an UNSUBSCRIBE have one answer, where each call has one.
use Rattle.std.proofs.Common.{◌≡◌, ◌≢◌, ℕ, List, [], ◌∷◌, Option, Some, None, Result, Ok, Err, sym, ap, ◌∙◌, subst, inl, inr, Bool, true, false}
use Rattle.std.proofs.lemmas.Option.{same_Some}
use Rattle.mqtt_packet.specs.declared.packet.Subscribe.{Subscribe}
use Rattle.mqtt_packet.specs.declared.packet.Subscription.{Subscription}
use Rattle.mqtt_packet.specs.declared.packet.Unsubscribe.{Unsubscribe}
use Rattle.mqtt_topic.specs.declared.error.TopicError.{TopicError}
use Rattle.mqtt_topic.specs.Names.{Share, share_of}
use Rattle.users.specs.Table.{Rights}
use Rattle.users.specs.Rights.{may_work}
use Rattle.conn_rules.specs.declared.subscribing.EntryAnswer.{EntryAnswer}
use Rattle.conn_rules.specs.declared.subscribing.EntryAnswer.TheVariants as entries
use Rattle.conn_rules.specs.Subscribing.{entry_answer, subscribe_refusal, unsubscribe_refusal}
use Rattle.conn_rules.specs.Packets.{suback, unsuback}
use Rattle.session_desk.specs.declared.session.Membership.{Membership}
use Rattle.session_desk.specs.declared.session.Membership.TheVariants.{NotMember, Member, Leaving}
use Rattle.conn_supply.specs.declared.reply.Reply.{Reply}
use Rattle.conn_supply.specs.declared.supply.BindRefusal.{BindRefusal}
use Rattle.conn_supply.specs.declared.supply.BindRefusal.TheVariants as refusal
use Rattle.conn_supply.specs.SupplyCalls.{SupplyCall}
use Rattle.conn_laws.specs.Asking.{OneAnswer}
use Rattle.conn_supply.specs.Replies.{going_on}
use Rattle.conn_supply.specs.Subscribing.{IsLent, EntersAs, StaysAs, Joins, JoinsIf, AnswersEntry, AnswersEntries, subscription_after, SubscribesAs, Subscribes, LeavesFrom, LeavesBy, LeavesByAll, UnsubscribesAs, Unsubscribes}
use Rattle.conn_laws.proofs.OneCall as calls
use Rattle.conn_laws.proofs.OneEnding.{none_some}

ok_is : (x y : ℕ) → ◌≡◌ {A = Result ℕ BindRefusal} (Ok x) (Ok y) → x ≡ y
ok_is x y e = cc

bound_or_not : (x : ℕ) (y : BindRefusal) → Ok x ≡ Err y → ⊥
bound_or_not x y e = cc

slot_had : (x : ℕ) → Ok x ≢ Err refusal.Memory
slot_had x e = bound_or_not x refusal.Memory e

none_had : ◌≢◌ {A = Result ℕ BindRefusal} (Err refusal.NoSlot) (Err refusal.Memory)
none_had e = cc

undeclared_had : ◌≢◌ {A = Result ℕ BindRefusal} (Err refusal.NotDeclared) (Err refusal.Memory)
undeclared_had e = cc

none_or_undeclared : ◌≢◌ {A = Result ℕ BindRefusal} (Err refusal.NoSlot) (Err refusal.NotDeclared)
none_or_undeclared e = cc

-- a code and a membership are one
abbrev AreOne : {P : Type 0} → ℕ → ℕ → Membership P → Membership P → Type 0
AreOne c d m n = (c ≡ d) × (m ≡ n)

module _ {S P : Type 0} (call : S → SupplyCall P → S → Type 0) (slot_of : P → ℕ) where
  stayed : (place : P) (found : Option ℕ) (old : Membership P) (c d : ℕ) (m n : Membership P) → StaysAs call slot_of place found old c m → StaysAs call slot_of place found old d n → AreOne c d m n
  stayed place found old c d m n (inl h) (inl k) = (h.1 ∙ sym k.1, h.2 ∙ sym k.2)
  stayed place found old c d m n (inl h) (inr k) = absurd (k.0 h.0)
  stayed place found old c d m n (inr h) (inl k) = absurd (h.0 k.0)
  stayed place found old c d m n (inr h) (inr k) = (h.1 ∙ sym k.1, h.2 ∙ sym k.2)

  left_from : (place : P) (found : Option ℕ) (c d : ℕ) (m n : Membership P) → LeavesFrom call slot_of place found c m → LeavesFrom call slot_of place found d n → AreOne c d m n
  left_from place found c d m n (inl h) (inl k) = (h.1 ∙ sym k.1, h.2 ∙ sym k.2)
  left_from place found c d m n (inl h) (inr k) = absurd (k.0 h.0)
  left_from place found c d m n (inr h) (inl k) = absurd (h.0 k.0)
  left_from place found c d m n (inr h) (inr k) = (h.1 ∙ sym k.1, h.2 ∙ sym k.2)

module _ {S P : Type 0} (call : S → SupplyCall P → S → Type 0) (AreAlike : S → S → Type 0) (answers : OneAnswer call AreAlike) (slot_of : P → ℕ) where
  abbrev Agree : ℕ → ℕ → Membership P → Membership P → S → S → Type 0
  Agree c d m n a b = AreOne c d m n × AreAlike a b

  lent : (x y : Option P) (a a' b b' : S) (slot c d : ℕ) (m n : Membership P) → AreAlike a b → IsLent call slot_of a slot x c m a' → IsLent call slot_of b slot y d n b' → Agree c d m n a' b'
  lent None None a a' b b' slot c d m n alike h k = ((h.1 ∙ sym k.1, h.2 ∙ sym k.2), (calls.lent call AreAlike answers a a' b b' slot None None alike h.0 k.0).1)
  lent None (Some q) a a' b b' slot c d m n alike h k = absurd (none_some q (calls.lent call AreAlike answers a a' b b' slot None (Some q) alike h.0 k.0).0)
  lent (Some p) None a a' b b' slot c d m n alike h k = absurd (none_some p (sym (calls.lent call AreAlike answers a a' b b' slot (Some p) None alike h.0 k.0).0))
  lent (Some p) (Some q) a a' b b' slot c d m n alike h k =
      let one = calls.lent call AreAlike answers a a' b b' slot (Some p) (Some q) alike h.0 k.0 in
      ((h.1 ∙ sym k.1, h.2 ∙ ap Member (same_Some p q one.0) ∙ sym k.2), one.1)

  entered : (x y : Result ℕ BindRefusal) (a a' b b' : S) (share : Share) (c d : ℕ) (m n : Membership P) → AreAlike a b
      → EntersAs call slot_of a share x c m a' → EntersAs call slot_of b share y d n b' → Agree c d m n a' b'
  entered (Ok x) (Ok y) a a' b b' share c d m n alike h k =
      let one = calls.bound call AreAlike answers a h.0 b k.0 share (Ok x) (Ok y) alike (slot_had x) (slot_had y) h.2 k.2 in
      lent h.1 k.1 h.0 a' k.0 b' x c d m n one.1 h.3 (subst (λ slot. IsLent call slot_of k.0 slot k.1 d n b') (sym (ok_is x y one.0)) k.3)
  entered (Ok x) (Err refusal.NoSlot) a a' b b' share c d m n alike h k =
      absurd (bound_or_not x refusal.NoSlot (calls.bound call AreAlike answers a h.0 b b' share (Ok x) (Err refusal.NoSlot) alike (slot_had x) none_had h.2 k.0).0)
  entered (Err refusal.NoSlot) (Ok y) a a' b b' share c d m n alike h k =
      absurd (bound_or_not y refusal.NoSlot (sym (calls.bound call AreAlike answers a a' b k.0 share (Err refusal.NoSlot) (Ok y) alike none_had (slot_had y) h.0 k.2).0))
  entered (Err refusal.NoSlot) (Err refusal.NoSlot) a a' b b' share c d m n alike h k =
      ((h.1 ∙ sym k.1, h.2 ∙ sym k.2), (calls.bound call AreAlike answers a a' b b' share (Err refusal.NoSlot) (Err refusal.NoSlot) alike none_had none_had h.0 k.0).1)
  entered (Ok x) (Err refusal.NotDeclared) a a' b b' share c d m n alike h k =
      absurd (bound_or_not x refusal.NotDeclared (calls.bound call AreAlike answers a h.0 b b' share (Ok x) (Err refusal.NotDeclared) alike (slot_had x) undeclared_had h.2 k.0).0)
  entered (Err refusal.NotDeclared) (Ok y) a a' b b' share c d m n alike h k =
      absurd (bound_or_not y refusal.NotDeclared (sym (calls.bound call AreAlike answers a a' b k.0 share (Err refusal.NotDeclared) (Ok y) alike undeclared_had (slot_had y) h.0 k.2).0))
  entered (Err refusal.NotDeclared) (Err refusal.NotDeclared) a a' b b' share c d m n alike h k =
      ((h.1 ∙ sym k.1, h.2 ∙ sym k.2), (calls.bound call AreAlike answers a a' b b' share (Err refusal.NotDeclared) (Err refusal.NotDeclared) alike undeclared_had undeclared_had h.0 k.0).1)
  entered (Err refusal.NoSlot) (Err refusal.NotDeclared) a a' b b' share c d m n alike h k =
      absurd (none_or_undeclared (calls.bound call AreAlike answers a a' b b' share (Err refusal.NoSlot) (Err refusal.NotDeclared) alike none_had undeclared_had h.0 k.0).0)
  entered (Err refusal.NotDeclared) (Err refusal.NoSlot) a a' b b' share c d m n alike h k =
      absurd (none_or_undeclared (sym (calls.bound call AreAlike answers a a' b b' share (Err refusal.NotDeclared) (Err refusal.NoSlot) alike undeclared_had none_had h.0 k.0).0))
  entered (Err refusal.Memory) y a a' b b' share c d m n alike h k = absurd h
  entered x (Err refusal.Memory) a a' b b' share c d m n alike h k = absurd k

  stays : (a a' b b' : S) (share : Share) (place : P) (old : Membership P) (x y : Option ℕ) (c d : ℕ) (m n : Membership P) → AreAlike a b
      → (x ≡ y) × AreAlike a' b' → StaysAs call slot_of place x old c m → StaysAs call slot_of place y old d n → Agree c d m n a' b'
  stays a a' b b' share place old x y c d m n alike one h k = (stayed call slot_of place x old c d m n h (subst (λ f. StaysAs call slot_of place f old d n) (sym one.0) k), one.1)

  joined : (old : Membership P) (a a' b b' : S) (share : Share) (c d : ℕ) (m n : Membership P) → AreAlike a b
      → Joins call slot_of a old share c m a' → Joins call slot_of b old share d n b' → Agree c d m n a' b'
  joined NotMember a a' b b' share c d m n alike h k = entered h.0 k.0 a a' b b' share c d m n alike h.1 k.1
  joined (Member place) a a' b b' share c d m n alike h k =
      stays a a' b b' share place (Member place) h.0 k.0 c d m n alike (calls.found call AreAlike answers a a' b b' share h.0 k.0 alike h.1 k.1) h.2 k.2
  joined (Leaving place) a a' b b' share c d m n alike h k =
      stays a a' b b' share place (Leaving place) h.0 k.0 c d m n alike (calls.found call AreAlike answers a a' b b' share h.0 k.0 alike h.1 k.1) h.2 k.2

  joined_if : (allowed : Bool) (old : Membership P) (a a' b b' : S) (share : Share) (c d : ℕ) (m n : Membership P) → AreAlike a b
      → JoinsIf call slot_of allowed a old share c m a' → JoinsIf call slot_of allowed b old share d n b' → Agree c d m n a' b'
  joined_if true old a a' b b' share c d m n alike h k = joined old a a' b b' share c d m n alike h k
  joined_if false old a a' b b' share c d m n alike h k = ((h.0 ∙ sym k.0, h.1 ∙ sym k.1), calls.still call AreAlike answers a a' b b' alike h.2 k.2)

  entry_answered : (rights : Rights) (which : EntryAnswer) (a a' b b' : S) (old : Membership P) (c d : ℕ) (m n : Membership P) → AreAlike a b
      → AnswersEntry call slot_of rights a old which c m a' → AnswersEntry call slot_of rights b old which d n b' → Agree c d m n a' b'
  entry_answered rights (entries.Refuse code) a a' b b' old c d m n alike h k = ((h.0 ∙ sym k.0, h.1 ∙ sym k.1), calls.still call AreAlike answers a a' b b' alike h.2 k.2)
  entry_answered rights (entries.Join share) a a' b b' old c d m n alike h k = joined_if (may_work rights share.text) old a a' b b' share c d m n alike h k

  entries_answered : (rights : Rights) (subscriptions : List Subscription) (a a' b b' : S) (old : Membership P) (cs ds : List ℕ) (m n : Membership P) → AreAlike a b
      → AnswersEntries call slot_of rights a old subscriptions cs m a' → AnswersEntries call slot_of rights b old subscriptions ds n b' → (cs ≡ ds) × (m ≡ n) × AreAlike a' b'
  entries_answered rights [] a a' b b' old cs ds m n alike h k = (h.0 ∙ sym k.0, h.1 ∙ sym k.1, calls.still call AreAlike answers a a' b b' alike h.2 k.2)
  entries_answered rights (entry ∷ others) a a' b b' old cs ds m n alike h k =
      let one = entry_answered rights (entry_answer entry) a h.3 b k.3 old h.0 k.0 h.2 k.2 alike h.4 k.4 in
      let rest = entries_answered rights others h.3 a' k.3 b' h.2 h.1 k.1 m n one.1 h.5 (subst (λ was. AnswersEntries call slot_of rights k.3 was others k.1 n b') (sym one.0.1) k.5) in
      (h.6 ∙ (λ i. one.0.0 i ∷ rest.0 i) ∙ sym k.6, rest.1, rest.2)

  subscribed_as : (rights : Rights) (refused : Option ℕ) (a a' b b' : S) (old : Membership P) (was : Option ℕ) (subscribe : Subscribe) (r u : Reply) (m n : Membership P) (s t : Option ℕ) → AreAlike a b
      → SubscribesAs call slot_of refused rights a old was subscribe r m s a' → SubscribesAs call slot_of refused rights b old was subscribe u n t b' → (r ≡ u) × (m ≡ n) × (s ≡ t) × AreAlike a' b'
  subscribed_as rights (Some code) a a' b b' old was subscribe r u m n s t alike h k =
      (h.0 ∙ sym k.0, h.1 ∙ sym k.1, h.2 ∙ sym k.2, calls.still call AreAlike answers a a' b b' alike h.3 k.3)
  subscribed_as rights None a a' b b' old was subscribe r u m n s t alike h k =
      let one = entries_answered rights subscribe.subscriptions a a' b b' old h.0 k.0 m n alike h.2 k.2 in (
        h.1 ∙ ap (λ codes. going_on (Some (suback subscribe.packet_identifier codes))) one.0 ∙ sym k.1,
        one.1,
        h.3 ∙ ap (λ codes. subscription_after codes subscribe.properties.subscription_identifier was) one.0 ∙ sym k.3,
        one.2,
      )

  pub subscribed : (rights : Rights) (a a' b b' : S) (old : Membership P) (was : Option ℕ) (subscribe : Subscribe) (r u : Reply) (m n : Membership P) (s t : Option ℕ) → AreAlike a b
      → Subscribes call slot_of rights a old was subscribe r m s a' → Subscribes call slot_of rights b old was subscribe u n t b' → (r ≡ u) × (m ≡ n) × (s ≡ t) × AreAlike a' b'
  subscribed rights a a' b b' old was subscribe r u m n s t alike h k = subscribed_as rights (subscribe_refusal subscribe) a a' b b' old was subscribe r u m n s t alike h k

  -- a share is left
  left : (old : Membership P) (parsed : Result Share TopicError) (a a' b b' : S) (c d : ℕ) (m n : Membership P) → AreAlike a b
      → LeavesBy call slot_of a old parsed c m a' → LeavesBy call slot_of b old parsed d n b' → Agree c d m n a' b'
  left NotMember parsed a a' b b' c d m n alike h k = ((h.0 ∙ sym k.0, h.1 ∙ sym k.1), calls.still call AreAlike answers a a' b b' alike h.2 k.2)
  left (Member place) (Ok share) a a' b b' c d m n alike h k =
      let one = calls.found call AreAlike answers a a' b b' share h.0 k.0 alike h.1 k.1 in
      (left_from call slot_of place h.0 c d m n h.2 (subst (λ f. LeavesFrom call slot_of place f d n) (sym one.0) k.2), one.1)
  left (Member place) (Err error) a a' b b' c d m n alike h k = ((h.0 ∙ sym k.0, h.1 ∙ sym k.1), calls.still call AreAlike answers a a' b b' alike h.2 k.2)
  left (Leaving place) parsed a a' b b' c d m n alike h k = ((h.0 ∙ sym k.0, h.1 ∙ sym k.1), calls.still call AreAlike answers a a' b b' alike h.2 k.2)

  all_left : (texts : List (List ℕ)) (a a' b b' : S) (old : Membership P) (cs ds : List ℕ) (m n : Membership P) → AreAlike a b
      → LeavesByAll call slot_of a old texts cs m a' → LeavesByAll call slot_of b old texts ds n b' → (cs ≡ ds) × (m ≡ n) × AreAlike a' b'
  all_left [] a a' b b' old cs ds m n alike h k = (h.0 ∙ sym k.0, h.1 ∙ sym k.1, calls.still call AreAlike answers a a' b b' alike h.2 k.2)
  all_left (text ∷ texts) a a' b b' old cs ds m n alike h k =
      let one = left old (share_of text) a h.3 b k.3 h.0 k.0 h.2 k.2 alike h.4 k.4 in
      let rest = all_left texts h.3 a' k.3 b' h.2 h.1 k.1 m n one.1 h.5 (subst (λ was. LeavesByAll call slot_of k.3 was texts k.1 n b') (sym one.0.1) k.5) in
      (h.6 ∙ (λ i. one.0.0 i ∷ rest.0 i) ∙ sym k.6, rest.1, rest.2)

  unsubscribed_as : (refused : Option ℕ) (a a' b b' : S) (old : Membership P) (unsubscribe : Unsubscribe) (r u : Reply) (m n : Membership P) → AreAlike a b
      → UnsubscribesAs call slot_of refused a old unsubscribe r m a' → UnsubscribesAs call slot_of refused b old unsubscribe u n b' → (r ≡ u) × (m ≡ n) × AreAlike a' b'
  unsubscribed_as (Some code) a a' b b' old unsubscribe r u m n alike h k = (h.0 ∙ sym k.0, h.1 ∙ sym k.1, calls.still call AreAlike answers a a' b b' alike h.2 k.2)
  unsubscribed_as None a a' b b' old unsubscribe r u m n alike h k =
      let one = all_left unsubscribe.filters a a' b b' old h.0 k.0 m n alike h.2 k.2 in
      (h.1 ∙ ap (λ codes. going_on (Some (unsuback unsubscribe.packet_identifier codes))) one.0 ∙ sym k.1, one.1, one.2)

  pub unsubscribed : (a a' b b' : S) (old : Membership P) (unsubscribe : Unsubscribe) (r u : Reply) (m n : Membership P) → AreAlike a b
      → Unsubscribes call slot_of a old unsubscribe r m a' → Unsubscribes call slot_of b old unsubscribe u n b' → (r ≡ u) × (m ≡ n) × AreAlike a' b'
  unsubscribed a a' b b' old unsubscribe r u m n alike h k = unsubscribed_as (unsubscribe_refusal unsubscribe) a a' b b' old unsubscribe r u m n alike h k
