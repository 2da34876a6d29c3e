-- The session of a connection is handed in, and memberships change: what is held stays out.
use Rattle.std.proofs.Common.{false, true, Bool, ◌≡◌, ◌⊎◌, ℕ, List, [], ◌∷◌, Option, Some, None, Result, Ok, Err, Contains, refl, sym, ap, subst, ◌∙◌, inl, inr, ⊎_elim}
use Rattle.mqtt_topic.specs.declared.error.TopicError.{TopicError}
use Rattle.mqtt_topic.specs.Names.{Share, share_of}
use Rattle.mqtt_packet.specs.declared.packet.Subscription.{Subscription}
use Rattle.group_jobs.specs.Stamps.{Held}
use Rattle.group_jobs.specs.declared.stamp.Stamp.{Stamp}
use Rattle.member_window.specs.Contents.{held_of}
use Rattle.member_window.proofs.Lists.{contains_nil}
use Rattle.users.specs.Table.{Rights}
use Rattle.users.specs.Rights.{may_work}
use Rattle.conn_rules.specs.declared.subscribing.EntryAnswer.{EntryAnswer}
use Rattle.conn_rules.specs.declared.subscribing.EntryAnswer.TheVariants as entries
use Rattle.conn_rules.specs.Subscribing.{entry_answer}
use Rattle.session_desk.specs.declared.session.Membership.{Membership}
use Rattle.session_desk.specs.declared.session.Membership.TheVariants.{NotMember, Member, Leaving}
use Rattle.session_desk.specs.declared.row.Holder.TheVariants.{Parked}
use Rattle.session_desk.specs.Rows.{away, with_holder}
use Rattle.session_desk.specs.Keeping.{Parks, ParksAsIs, EndsLent, parked_at}
use Rattle.conn_supply.specs.declared.supply.BindRefusal.{BindRefusal}
use Rattle.conn_supply.specs.declared.supply.BindRefusal.TheVariants as refusal
use Rattle.conn_supply.specs.SupplyCalls.{SupplyCall}
use Rattle.conn_supply.specs.SupplyCalls.SupplyCall.{Park, ParkAsIs, LendPlace, Bind, Find}
use Rattle.conn_supply.specs.Subscribing.{IsLent, EntersAs, Joins, AnswersEntry, AnswersEntries, LeavesBy, LeavesByAll, JoinsIf}
use Rattle.conn_engine.specs.Ending.{down, PartsAs, Parts}
use Rattle.local_broker.specs.Places.{GroupPlace}
use Rattle.local_broker.specs.Broker.{Broker}
use Rattle.local_broker.specs.Calls.{Calls}
use Rattle.local_broker.specs.Histories.{Called, Spends}
use Rattle.local_broker.proofs.Happened.{running_all}
use Rattle.local_broker.proofs.Outs.{stays_all}
use Rattle.local_server.specs.Happening.{slot_of}
use Rattle.local_server.specs.Settling.{AreOutFor}
use Rattle.local_server.proofs.Settled.{none_settled}
use Rattle.local_server.proofs.Known.{AllKnown}
use Rattle.local_server.proofs.Accepting.{IsNoOffer, called_known}
use Rattle.local_server.proofs.Owning.{Ledger, Entries, Kept, Keeper, AtDesk, InHand, IsAtDesk, Has, Owns, Holds, Goes, Shrinks, still, calm_then, one, same_rows, written, put_in, owns_calm, calm}
use Rattle.local_server.proofs.Retiring.{KeepsOut, went, went_then, retired}

-- the desk has the session then
abbrev Comes : Broker → ℕ → Kept → Broker → Type 0
Comes old k its new = (number : ℕ) (t : Kept) → IsAtDesk new.desk.rows number t → ((number ≡ k) × (t ≡ its)) ⊎ IsAtDesk old.desk.rows number t

-- a session has what the step had in its hands, or was there before
abbrev Whose : Ledger → Broker → ℕ → Kept → Keeper → Kept → Type 0
Whose ledger old k its keeper t = ((keeper ≡ AtDesk k) × (t ≡ its)) ⊎ Has ledger.all_connected old.desk.rows keeper t

whose : (keeper : Keeper) (ledger : Ledger) (old new : Broker) (k : ℕ) (its t : Kept) → Comes old k its new → Has ledger.all_connected new.desk.rows keeper t → Whose ledger old k its keeper t
whose (AtDesk number) ledger old new k its t comes has =
    ⊎_elim (λ (is : (number ≡ k) × (t ≡ its)). inl (ap AtDesk is.0, is.1)) (λ (was : IsAtDesk old.desk.rows number t). inr was) (comes number t has)
whose (InHand connection) ledger old new k its t comes has = inr has

module _ (ledger : Ledger) (old : Broker) (k : ℕ) (its : Kept) (was : Holds ledger old its.membership (held_of its.window)) where
  owned_then : (keeper : Keeper) (t : Kept) → Whose ledger old k its keeper t → AreOutFor old t.membership (held_of t.window)
  owned_then keeper t (inl is) = subst (λ (s : Kept). AreOutFor old s.membership (held_of s.window)) (sym is.1) was.mine.owned
  owned_then keeper t (inr had) = was.others.owned keeper t had

  known_then : (keeper : Keeper) (t : Kept) → Whose ledger old k its keeper t → AllKnown ledger.log (held_of t.window)
  known_then keeper t (inl is) = subst (λ (s : Kept). AllKnown ledger.log (held_of s.window)) (sym is.1) was.mine.known
  known_then keeper t (inr had) = was.others.known keeper t had

  once_then : (one other : Keeper) (s t : Kept) (i j : ℕ) (e f : Held) → Whose ledger old k its one s → Whose ledger old k its other t
      → Contains (held_of s.window) (i, e) → Contains (held_of t.window) (j, f) → e.stamp ≡ f.stamp → (one ≡ other) × (i ≡ j)
  once_then one other s t i j e f (inl is) (inl are) c d same = (
    is.0 ∙ sym are.0,
    was.mine.once i j e f (subst (λ (x : Kept). Contains (held_of x.window) (i, e)) is.1 c) (subst (λ (x : Kept). Contains (held_of x.window) (j, f)) are.1 d) same,
  )
  once_then one other s t i j e f (inl is) (inr had) c d same =
      absurd (was.mine.apart other t had i j e f (subst (λ (x : Kept). Contains (held_of x.window) (i, e)) is.1 c) d same)
  once_then one other s t i j e f (inr had) (inl are) c d same =
      absurd (was.mine.apart one s had j i f e (subst (λ (x : Kept). Contains (held_of x.window) (j, f)) are.1 d) c (sym same))
  once_then one other s t i j e f (inr had) (inr has) c d same = was.others.once one other s t i j e f had has c d same

-- a session is shelved: the desk has it from then on
owned_later : (membership : Membership GroupPlace) (entries : Entries) (old new : Broker) (supply_call : SupplyCall GroupPlace) → Calls old supply_call new
    → ((stamp : Stamp) → ¬ Spends stamp (Called supply_call))
    → AreOutFor old membership entries → AreOutFor new membership entries
owned_later NotMember entries old new supply_call does spends owned = owned
owned_later (Member place) entries old new supply_call does spends owned = λ i e c. stays_all (Called supply_call ∷ []) old new place e (owned i e c) (new, does, refl) (spends e.stamp, tt)
owned_later (Leaving place) entries old new supply_call does spends owned = λ i e c. stays_all (Called supply_call ∷ []) old new place e (owned i e c) (new, does, refl) (spends e.stamp, tt)

shelved : (ledger : Ledger) (old new : Broker) (k : ℕ) (its : Kept) (supply_call : SupplyCall GroupPlace) → Calls old supply_call new → ((stamp : Stamp) → ¬ Spends stamp (Called supply_call)) → IsNoOffer supply_call
    → Comes old k its new
    → Holds ledger old its.membership (held_of its.window) → Owns ledger new
shelved ledger old new k its supply_call does spends no_offer comes was =
    record {
      running = running_all (Called supply_call ∷ []) old new was.others.running (new, does, refl);
      know = called_known supply_call ledger.log old new spends no_offer does was.others.know;
      known = λ keeper t has. known_then ledger old k its was keeper t (whose keeper ledger old new k its t comes has);
      owned = λ keeper t has.
          owned_later t.membership (held_of t.window) old new supply_call does spends (owned_then ledger old k its was keeper t (whose keeper ledger old new k its t comes has));
      once = λ one other s t i j e f has had c d same.
          once_then ledger old k its was one other s t i j e f (whose one ledger old new k its s comes has) (whose other ledger old new k its t comes had) c d same;
    }

-- it is parked as it is, or let go
parked_back : (back : Option Kept) (ledger : Ledger) (old new : Broker) (session : Kept) → Calls old (ParkAsIs session) new → ParksAsIs old.desk session back new.desk
    → Holds ledger old session.membership (held_of session.window) → Owns ledger new
parked_back None ledger old new session does parks was =
    let k = session.identity.number in
    shelved ledger old new k session (ParkAsIs session) does (λ stamp spends. spends) tt
    (put_in old.desk.rows new.desk.rows k (with_holder parks.lent.row (Parked session)) session (ap (λ b. b.rows) parks.after) refl) was
parked_back (Some back) ledger old new session does parks was =
    owns_calm ledger old new (one (ParkAsIs session) old new (λ stamp spends. spends) refl tt does (same_rows old new (ap (λ b. b.rows) parks.2))) was.others

pub parked_as_is : (ledger : Ledger) (old new : Broker) (session : Kept) → Calls old (ParkAsIs session) new → Holds ledger old session.membership (held_of session.window)
    → KeepsOut ledger old new
parked_as_is ledger old new session does was =
    record { owns = parked_back does.0 ledger old new session does does.1.makes was; adds = none_settled (ParkAsIs session) old new refl does }

-- the connection has ended: its session is parked, or retired
parted_as : (answer : Option Kept) (ledger : Ledger) (old mid new : Broker) (session : Kept) (now : ℕ) → Calls old (Park session now answer) mid
    → Parks old.desk session now answer mid.desk
    → PartsAs Calls mid answer new → Holds ledger old session.membership (held_of session.window) → KeepsOut ledger mid new
parted_as None ledger old mid new session now does parks parts was =
    let k = session.identity.number in
    went ledger mid new (still mid new parts)
    (shelved ledger old mid k (parked_at session now) (Park session now None) does (λ stamp spends. spends) tt
    (put_in old.desk.rows mid.desk.rows k (with_holder parks.lent.row (Parked (parked_at session now))) (parked_at session now) (ap (λ b. b.rows) parks.after) refl) was)
parted_as (Some back) ledger old mid new session now does parks parts was =
    let shrinks : Shrinks old mid =
    ⊎_elim
    (λ (over : EndsLent old.desk session mid.desk). λ number t at.
    (written old.desk.rows mid.desk.rows session.identity.number (away over.lent.row.client) (ap (λ b. b.rows) over.after) refl number t at).1)
    (λ stays. same_rows old mid (ap (λ b. b.rows) stays.1))
    parks.1 in
    let goes = one (Park session now (Some back)) old mid (λ stamp spends. spends) refl tt does shrinks in
    retired ledger mid new back parts.0 parts.1
    (subst (λ (s : Kept). Holds ledger mid s.membership (held_of s.window)) (sym parks.0) (calm ledger old mid session.membership (held_of session.window) goes was))

pub parted : (ledger : Ledger) (old new : Broker) (session : Kept) (now : ℕ) → Parts Calls old session now new → Holds ledger old session.membership (held_of session.window)
    → KeepsOut ledger old new
parted ledger old new session now parts was =
    went_then ledger old parts.1 new (none_settled (Park (down session) now parts.0) old parts.1 refl parts.2)
    (parted_as parts.0 ledger old parts.1 new (down session) now parts.2 parts.2.makes parts.3 was)

-- a membership gives way to another through whose place all is out that was
abbrev pub Follows : Membership GroupPlace → Membership GroupPlace → Type 0
Follows membership membership' = (b : Broker) (entries : Entries) → AreOutFor b membership entries → AreOutFor b membership' entries

pub same_member : (membership membership' : Membership GroupPlace) → membership' ≡ membership → Follows membership membership'
same_member membership membership' same b entries owned = subst (λ (m : Membership GroupPlace). AreOutFor b m entries) (sym same) owned

none_out : (membership : Membership GroupPlace) (b : Broker) (entries : Entries) → entries ≡ [] → AreOutFor b membership entries
none_out NotMember b entries none = none
none_out (Member place) b entries none = λ i e c. absurd (contains_nil (i, e) (subst (λ (es : Entries). Contains es (i, e)) none c))
none_out (Leaving place) b entries none = λ i e c. absurd (contains_nil (i, e) (subst (λ (es : Entries). Contains es (i, e)) none c))

-- shares are joined and left
abbrev pub Moves : Membership GroupPlace → Membership GroupPlace → Broker → Broker → Type 0
Moves membership membership' old new = Goes [] old new × Follows membership membership'

lent : (place : Option GroupPlace) (old new : Broker) (slot code : ℕ) (membership : Membership GroupPlace) → IsLent Calls slot_of old slot place code membership new
    → Goes [] old new
lent None old new slot code membership is = one (LendPlace slot None) old new (λ stamp spends. spends) refl tt is.0 (same_rows old new (ap (λ b. b.rows) is.0.makes.2))
lent (Some place) old new slot code membership is = one (LendPlace slot (Some place)) old new (λ stamp spends. spends) refl tt is.0 (same_rows old new (ap (λ b. b.rows) is.0.makes.2))

entered : (bound : Result ℕ BindRefusal) (old new : Broker) (share : Share) (code : ℕ) (membership : Membership GroupPlace)
    → EntersAs Calls slot_of old share bound code membership new → Goes [] old new
entered (Ok slot) old new share code membership enters =
    calm_then old enters.0 new
    (one (Bind share (Ok slot)) old enters.0 (λ stamp spends. spends) refl tt enters.2 (same_rows old enters.0 (ap (λ d. d.rows) enters.2.1.desk)))
    (lent enters.1 enters.0 new slot code membership enters.3)
entered (Err refusal.NoSlot) old new share code membership enters =
    one (Bind share (Err refusal.NoSlot)) old new (λ stamp spends. spends) refl tt enters.0 (same_rows old new (ap (λ d. d.rows) enters.0.1.desk))
entered (Err refusal.Memory) old new share code membership enters = absurd enters
entered (Err refusal.NotDeclared) old new share code membership enters = absurd enters.0.0

found : (share : Share) (answer : Option ℕ) (old new : Broker) → Calls old (Find share answer) new → Goes [] old new
found share answer old new does = one (Find share answer) old new (λ stamp spends. spends) refl tt does (same_rows old new (ap (λ b. b.desk.rows) does.1))

joined : (membership : Membership GroupPlace) (old new : Broker) (share : Share) (code : ℕ) (membership' : Membership GroupPlace)
    → Joins Calls slot_of old membership share code membership' new → Moves membership membership' old new
joined NotMember old new share code membership' does = (entered does.0 old new share code membership' does.1, λ b entries none. none_out membership' b entries none)
joined (Member place) old new share code membership' does = (
  found share does.0 old new does.1,
  ⊎_elim (λ stays. same_member (Member place) membership' stays.2) (λ stays. same_member (Member place) membership' stays.2) does.2,
)
joined (Leaving place) old new share code membership' does = (
  found share does.0 old new does.1,
  ⊎_elim (λ stays. λ b entries owned. same_member (Member place) membership' stays.2 b entries owned) (λ stays. same_member (Leaving place) membership' stays.2) does.2,
)

joined_if : (allowed : Bool) (membership : Membership GroupPlace) (old new : Broker) (share : Share) (code : ℕ) (membership' : Membership GroupPlace)
    → JoinsIf Calls slot_of allowed old membership share code membership' new → Moves membership membership' old new
joined_if true membership old new share code membership' does = joined membership old new share code membership' does
joined_if false membership old new share code membership' does = (still old new does.2, same_member membership membership' does.1)

entry_answered : (rights : Rights) (answer : EntryAnswer) (old new : Broker) (membership : Membership GroupPlace) (code : ℕ) (membership' : Membership GroupPlace)
    → AnswersEntry Calls slot_of rights old membership answer code membership' new → Moves membership membership' old new
entry_answered rights (entries.Refuse refused) old new membership code membership' answers = (still old new answers.2, same_member membership membership' answers.1)
entry_answered rights (entries.Join share) old new membership code membership' answers = joined_if (may_work rights share.text) membership old new share code membership' answers

pub entries_answered : (rights : Rights) (subscriptions : List Subscription) (old new : Broker) (membership : Membership GroupPlace) (codes : List ℕ)
    (membership' : Membership GroupPlace)
    → AnswersEntries Calls slot_of rights old membership subscriptions codes membership' new → Moves membership membership' old new
entries_answered rights [] old new membership codes membership' answers = (still old new answers.2, same_member membership membership' answers.1)
entries_answered rights (entry ∷ others) old new membership codes membership' answers =
    let first = entry_answered rights (entry_answer entry) old answers.3 membership answers.0 answers.2 answers.4 in
    let rest = entries_answered rights others answers.3 new answers.2 answers.1 membership' answers.5 in
    (calm_then old answers.3 new first.0 rest.0, λ b held owned. rest.1 b held (first.1 b held owned))

left : (membership : Membership GroupPlace) (parsed : Result Share TopicError) (old new : Broker) (code : ℕ) (membership' : Membership GroupPlace)
    → LeavesBy Calls slot_of old membership parsed code membership' new → Moves membership membership' old new
left NotMember parsed old new code membership' leaves = (still old new leaves.2, same_member NotMember membership' leaves.1)
left (Member place) (Ok share) old new code membership' leaves = (
  found share leaves.0 old new leaves.1,
  ⊎_elim (λ goes. λ b entries owned. same_member (Leaving place) membership' goes.2 b entries owned) (λ stays. same_member (Member place) membership' stays.2) leaves.2,
)
left (Member place) (Err error) old new code membership' leaves = (still old new leaves.2, same_member (Member place) membership' leaves.1)
left (Leaving place) parsed old new code membership' leaves = (still old new leaves.2, same_member (Leaving place) membership' leaves.1)

pub all_left : (texts : List (List ℕ)) (old new : Broker) (membership : Membership GroupPlace) (codes : List ℕ) (membership' : Membership GroupPlace)
    → LeavesByAll Calls slot_of old membership texts codes membership' new → Moves membership membership' old new
all_left [] old new membership codes membership' leaves = (still old new leaves.2, same_member membership membership' leaves.1)
all_left (text ∷ texts) old new membership codes membership' leaves =
    let first = left membership (share_of text) old leaves.3 leaves.0 leaves.2 leaves.4 in
    let rest = all_left texts leaves.3 new leaves.2 leaves.1 membership' leaves.5 in
    (calm_then old leaves.3 new first.0 rest.0, λ b held owned. rest.1 b held (first.1 b held owned))
