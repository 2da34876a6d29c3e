-- A PUBLISH and a PUBACK have one answer, where each call has one.
use Rattle.std.proofs.Common.{◌≡◌, ◌≢◌, ℕ, ◌+◌, length, List, [], ◌∷◌, Option, Some, None, Result, Ok, Err, Contains, refl, sym, ap, ◌∙◌, subst, ⊎_elim, Bool, true, false}
use Rattle.mqtt_packet.specs.declared.packet.Publish.{Publish}
use Rattle.users.specs.Table.{Rights}
use Rattle.users.specs.Rights.{may_publish}
use Rattle.group_jobs.specs.Stamps.{Held}
use Rattle.group_jobs.specs.declared.message.Message.{Message}
use Rattle.group_jobs.specs.declared.stamp.Stamp.{Stamp}
use Rattle.member_window.specs.Identifiers.{identifiers, AreDistinct}
use Rattle.member_window.specs.Contents.{Contents, held_of, IsSound}
use Rattle.member_window.specs.Calls.{Acks}
use Rattle.member_window.proofs.Lists.{contains_nil, contains_cons_cases, contains_identifier}
use Rattle.session_desk.specs.declared.session.Session.{Session}
use Rattle.session_desk.specs.declared.session.Membership.{Membership}
use Rattle.session_desk.specs.declared.session.Membership.TheVariants.{NotMember, Member, Leaving}
use Rattle.conn_rules.specs.Acknowledging.{fate_of}
use Rattle.conn_rules.specs.Publishing.{publish_answer, puback_code, message_of}
use Rattle.conn_rules.specs.declared.publishing.PublishAnswer.{PublishAnswer}
use Rattle.conn_rules.specs.declared.publishing.PublishAnswer.TheVariants as answer
use Rattle.conn_supply.specs.declared.reply.Reply.{Reply}
use Rattle.conn_supply.specs.declared.supply.OfferRefusal.{OfferRefusal}
use Rattle.conn_supply.specs.declared.supply.OfferRefusal.TheVariants as refusal
use Rattle.conn_supply.specs.SupplyCalls.{SupplyCall}
use Rattle.conn_laws.specs.Asking.{OneAnswer}
use Rattle.conn_supply.specs.Memberships.{with_window, with_membership}
use Rattle.conn_supply.specs.Replies.{acknowledging}
use Rattle.conn_supply.specs.Publishing.{Took, Offers, OffersIf, IsOffered, AnswersPublish, Publishes}
use Rattle.conn_supply.specs.Acknowledging.{Settles, SettlesIn, AcknowledgesFor, Acknowledges}
use Rattle.conn_laws.proofs.OneCall as calls

-- how many took a message
took : (x : Result Stamp OfferRefusal) (n m : ℕ) → Took x n → Took x m → n ≡ m
took (Ok stamp) n m h k = h ∙ sym k
took (Err refusal.Shut) n m h k = h ∙ sym k
took (Err refusal.LifeSpent) n m h k = h ∙ sym k
took (Err refusal.Full) n m h k = h ∙ sym k
took (Err refusal.Memory) n m h k = absurd h

had_memory : (x : Result Stamp OfferRefusal) (n : ℕ) → Took x n → x ≢ Err refusal.Memory
had_memory x n h is = subst (λ y. Took y n) is h

-- under an identifier is one item
one_item : {T : Type 0} (entries : List (ℕ × T)) (identifier : ℕ) (x y : T) → AreDistinct (identifiers entries) → Contains entries (identifier, x) → Contains entries (identifier, y) → x ≡ y
one_item [] identifier x y distinct h k = absurd (contains_nil (identifier, x) h)
one_item {T} (entry ∷ entries) identifier x y distinct h k =
    ⊎_elim
    (λ (here : entry ≡ (identifier, x)).
    ⊎_elim
    (λ (also : entry ≡ (identifier, y)). ap (λ (e : ℕ × T). e.1) (sym here ∙ also))
    (λ (later : Contains entries (identifier, y)).
    absurd (distinct.0 (subst (λ n. Contains (identifiers entries) n) (sym (ap (λ (e : ℕ × T). e.0) here)) (contains_identifier entries identifier y later))))
    (contains_cons_cases entry entries (identifier, y) k))
    (λ (later : Contains entries (identifier, x)).
    ⊎_elim
    (λ (here : entry ≡ (identifier, y)).
    absurd (distinct.0 (subst (λ n. Contains (identifiers entries) n) (sym (ap (λ (e : ℕ × T). e.0) here)) (contains_identifier entries identifier x later))))
    (λ (also : Contains entries (identifier, y)). one_item entries identifier x y distinct.1 later also)
    (contains_cons_cases entry entries (identifier, y) k))
    (contains_cons_cases entry entries (identifier, x) h)

acked : (window w v : Contents Held) (identifier : ℕ) (x y : Option Held) → IsSound window → Acks window identifier x w → Acks window identifier y v → (x ≡ y) × (w ≡ v)
acked window w v identifier None None sound h k = (refl, h.1 ∙ sym k.1)
acked window w v identifier None (Some y) sound h k = absurd (h.0 (contains_identifier (held_of window) identifier y k.0))
acked window w v identifier (Some x) None sound h k = absurd (k.0 (contains_identifier (held_of window) identifier x h.0))
acked window w v identifier (Some x) (Some y) sound h k = (ap Some (one_item (held_of window) identifier x y sound.entries.distinct h.0 k.0), h.1 ∙ sym k.1)

module _ {S P : Type 0} (call : S → SupplyCall P → S → Type 0) (AreAlike : S → S → Type 0) (answers : OneAnswer call AreAlike) where
  offered : (slots : List ℕ) (a a' b b' : S) (connection : ℕ) (message : Message) (n m : ℕ) → AreAlike a b
      → Offers call a connection message slots n a' → Offers call b connection message slots m b' → (n ≡ m) × AreAlike a' b'
  offered [] a a' b b' connection message n m alike h k = (h.0 ∙ sym k.0, calls.still call AreAlike answers a a' b b' alike h.1 k.1)
  offered (slot ∷ slots) a a' b b' connection message n m alike h k =
      let one = calls.offered call AreAlike answers a h.1 b k.1 slot connection message h.0 k.0 alike (had_memory h.0 h.2 h.5) (had_memory k.0 k.2 k.5) h.4 k.4 in
      let first = took h.0 h.2 k.2 h.5 (subst (λ x. Took x k.2) (sym one.0) k.5) in
      let rest = offered slots h.1 a' k.1 b' connection message h.3 k.3 one.1 h.6 k.6 in
      (h.7 ∙ (λ i. first i + rest.0 i) ∙ sym k.7, rest.1)

  offered_to : (a a' b b' : S) (connection now : ℕ) (publish : Publish) (identifier : ℕ) (r u : Reply) → AreAlike a b
      → IsOffered call a connection now publish identifier r a' → IsOffered call b connection now publish identifier u b' → (r ≡ u) × AreAlike a' b'
  offered_to a a' b b' connection now publish identifier r u alike h k =
      let one = calls.matched call AreAlike answers a h.mid b k.mid publish.topic h.slots k.slots alike h.matched k.matched in
      let taken = offered h.slots h.mid a' k.mid b' connection (message_of now publish) h.taken k.taken one.1 h.offered (subst (λ slots. Offers call k.mid connection (message_of now publish) slots k.taken b') (sym one.0) k.offered) in
      (h.replied ∙ (λ i. acknowledging identifier (puback_code (length (one.0 i)) (taken.0 i))) ∙ sym k.replied, taken.1)

  offered_if : (allowed : Bool) (a a' b b' : S) (connection now : ℕ) (publish : Publish) (identifier : ℕ) (r u : Reply) → AreAlike a b
      → OffersIf call allowed a connection now publish identifier r a' → OffersIf call allowed b connection now publish identifier u b' → (r ≡ u) × AreAlike a' b'
  offered_if true a a' b b' connection now publish identifier r u alike h k = offered_to a a' b b' connection now publish identifier r u alike h k
  offered_if false a a' b b' connection now publish identifier r u alike h k = (h.0 ∙ sym k.0, calls.still call AreAlike answers a a' b b' alike h.1 k.1)

  answered : (rights : Rights) (which : PublishAnswer) (a a' b b' : S) (connection now : ℕ) (publish : Publish) (r u : Reply) → AreAlike a b
      → AnswersPublish call rights a connection now publish which r a' → AnswersPublish call rights b connection now publish which u b' → (r ≡ u) × AreAlike a' b'
  answered rights (answer.Close code) a a' b b' connection now publish r u alike h k = (h.0 ∙ sym k.0, calls.still call AreAlike answers a a' b b' alike h.1 k.1)
  answered rights (answer.Offer identifier) a a' b b' connection now publish r u alike h k =
      offered_if (may_publish rights publish.topic) a a' b b' connection now publish identifier r u alike h k

  pub published : (rights : Rights) (a a' b b' : S) (connection now : ℕ) (publish : Publish) (r u : Reply) → AreAlike a b
      → Publishes call rights a connection now publish r a' → Publishes call rights b connection now publish u b' → (r ≡ u) × AreAlike a' b'
  published rights a a' b b' connection now publish r u alike h k = answered rights (publish_answer publish) a a' b b' connection now publish r u alike h k

  -- a PUBACK
  settled : (found : Option Held) (a a' b b' : S) (place p q : P) (code : ℕ) → AreAlike a b → Settles call a place code found p a' → Settles call b place code found q b' → (p ≡ q) × AreAlike a' b'
  settled None a a' b b' place p q code alike h k = (h.0 ∙ sym k.0, calls.still call AreAlike answers a a' b b' alike h.1 k.1)
  settled (Some envelope) a a' b b' place p q code alike h k = calls.settled call AreAlike answers a a' b b' place p q envelope (fate_of code) alike h k

  settled_in : (a a' b b' : S) (place p q : P) (window w v : Contents Held) (identifier code : ℕ) → AreAlike a b
      → SettlesIn call a place window identifier code p w a' → SettlesIn call b place window identifier code q v b' → (p ≡ q) × (w ≡ v) × AreAlike a' b'
  settled_in a a' b b' place p q window w v identifier code alike h k =
      let one = acked window w v identifier h.found k.found h.sound h.acked k.acked in
      let done = settled h.found a a' b b' place p q code alike h.settled (subst (λ x. Settles call b place code x q b') (sym one.0) k.settled) in
      (done.0, one.1, done.1)

  acknowledged_for : (membership : Membership P) (a a' b b' : S) (window w v : Contents Held) (identifier code : ℕ) (m n : Membership P) → AreAlike a b
      → AcknowledgesFor call a membership window identifier code m w a' → AcknowledgesFor call b membership window identifier code n v b' → (m ≡ n) × (w ≡ v) × AreAlike a' b'
  acknowledged_for NotMember a a' b b' window w v identifier code m n alike h k = (h.0 ∙ sym k.0, h.1 ∙ sym k.1, calls.still call AreAlike answers a a' b b' alike h.2 k.2)
  acknowledged_for (Member place) a a' b b' window w v identifier code m n alike h k =
      let one = settled_in a a' b b' place h.0 k.0 window w v identifier code alike h.1 k.1 in (h.2 ∙ ap Member one.0 ∙ sym k.2, one.1, one.2)
  acknowledged_for (Leaving place) a a' b b' window w v identifier code m n alike h k =
      let one = settled_in a a' b b' place h.0 k.0 window w v identifier code alike h.1 k.1 in (h.2 ∙ ap Leaving one.0 ∙ sym k.2, one.1, one.2)

  pub acknowledged : (a a' b b' : S) (session s t : Session Held P) (identifier code : ℕ) → AreAlike a b
      → Acknowledges call a session identifier code s a' → Acknowledges call b session identifier code t b' → (s ≡ t) × AreAlike a' b'
  acknowledged a a' b b' session s t identifier code alike h k =
      let one = acknowledged_for session.membership a a' b b' session.window s.window t.window identifier code s.membership t.membership alike h.settles k.settles in
      (h.same ∙ (λ i. with_membership (with_window session (one.1 i)) (one.0 i)) ∙ sym k.same, one.2)
