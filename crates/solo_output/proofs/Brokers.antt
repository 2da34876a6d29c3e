-- How a broker shows a model: its routes and its groups, one group at a time.
use Rattle.std.proofs.Common.{◌≡◌, ◌≢◌, ℕ, zero, suc, ◌<◌, ◌≤◌, ◌==◌, true, false, cond, List, [], ◌∷◌, ◌++◌, map, length, slice_get, slice_set, Some, refl, sym, ap, ◌∙◌, subst, ⊎_elim, arith, eq-eqb, ne_eqb}
use Rattle.std.proofs.lemmas.Bool.{cases_eq, cases_Bool}
use Rattle.std.proofs.lemmas.List.{length-map, length-set}
use Rattle.std.proofs.lemmas.Option.{slice_get_within, same_Some}
use Rattle.dispatch_core.proofs.Spots.{slice_get-set_same, slice_get-set_other}
use Rattle.mqtt_topic.specs.Names.{Share}
use Rattle.group_jobs.specs.declared.message.Message.{Message}
use Rattle.group_jobs.specs.Stamps.{Held}
use Rattle.session_desk.specs.declared.session.Membership.{Membership}
use Rattle.session_desk.specs.declared.session.Membership.TheVariants.{NotMember, Member, Leaving}
use Rattle.conn_rules.specs.Setups.{most_capacity}
use Rattle.local_group.specs.Groups.{Group}
use Rattle.local_broker.specs.Groups.{InGroup}
use Rattle.local_broker.specs.Broker.{Broker}
use Rattle.solo_output.specs.Groups.{Bound, SoloState, shares_of, accepted_in, accepting, handed_in, bound}
use Rattle.solo_output.proofs.Groups.{ShowsGroup}

-- a broker of eight groups has a slot for each share, and its queues are as long as may be
pub record FitsBroker (capacity : ℕ) (shares : List Share) : Type 0 where
  pub few : length shares ≤ 8
  pub small : capacity ≤ most_capacity

-- the entries of the window that are messages of the group of this slot: a client is a member of one group at a time
abbrev pub entries_at : Membership ℕ → ℕ → List (ℕ × Held) → List (ℕ × Held)
entries_at NotMember slot entries = []
entries_at (Member own) slot entries = cond (own == slot) entries []
entries_at (Leaving own) slot entries = cond (own == slot) entries []

-- each group shows what the model has of its slot; these entries are in the window
abbrev pub ShowsGroups : SoloState → List (ℕ × Held) → List Group → Type 0
ShowsGroups solo entries groups =
    (slot : ℕ) (group : Group) → slice_get groups slot ≡ Some group
    → ShowsGroup solo.capacity slot (accepted_in slot solo.groups) (handed_in slot solo.handed_out) (entries_at solo.membership slot entries) group

pub record ShowsBroker (solo : SoloState) (entries : List (ℕ × Held)) (b : Broker) : Type 0 where
  pub routes : b.routes ≡ shares_of solo.groups
  pub few : length solo.groups ≤ 8
  pub eight : length b.groups ≡ 8
  pub groups : ShowsGroups solo entries b.groups

-- what holds of each group, where a call was made of one of them
pub in_group : (old new : List Group) (at : ℕ) (Does : Group → Group → Type 0) (IsSo : ℕ → Group → Type 0) (does : InGroup old at Does new)
    → ((slot : ℕ) (group : Group) → slot ≢ at → slice_get old slot ≡ Some group → IsSo slot group)
    → IsSo at does.after
    → (slot : ℕ) (group : Group) → slice_get new slot ≡ Some group → IsSo slot group
in_group old new at Does IsSo does others here slot group there =
    let set_there : slice_get (slice_set old at does.after) slot ≡ Some group = ap (λ (l : List Group). slice_get l slot) (sym does.becomes) ∙ there in
    ⊎_elim
    (λ (is : slot ≡ at).
    let same : does.after ≡ group =
    same_Some does.after group
    (sym (slice_get-set_same old at does.after (slice_get_within old at does.before does.there)) ∙ ap (slice_get (slice_set old at does.after)) (sym is) ∙ set_there) in
    subst (λ (s : ℕ). IsSo s group) (sym is) (subst (IsSo at) same here))
    (λ (other : slot ≢ at). others slot group other (sym (slice_get-set_other old at slot does.after other) ∙ set_there))
    (cases_eq slot at)

pub as_many : (old new : List Group) (at : ℕ) (Does : Group → Group → Type 0) → InGroup old at Does new → length new ≡ length old
as_many old new at Does does = ap length does.becomes ∙ length-set old at does.after

-- the groups of a model

pub accepted_same : (slot : ℕ) (message : Message) (groups : List Bound) → slot < length groups → accepted_in slot (accepting slot message groups) ≡ accepted_in slot groups ++ message ∷ []
accepted_same slot message [] within = absurd (omega arith)
accepted_same zero message (group ∷ groups) within = refl
accepted_same (suc slot) message (group ∷ groups) within = accepted_same slot message groups (omega arith)

pub accepted_other : (slot other : ℕ) (message : Message) (groups : List Bound) → other ≢ slot → accepted_in other (accepting slot message groups) ≡ accepted_in other groups
accepted_other slot other message [] differs = refl
accepted_other zero zero message (group ∷ groups) differs = absurd (differs refl)
accepted_other zero (suc other) message (group ∷ groups) differs = refl
accepted_other (suc slot) zero message (group ∷ groups) differs = refl
accepted_other (suc slot) (suc other) message (group ∷ groups) differs = accepted_other slot other message groups (λ e. differs (ap (λ n. suc n) e))

pub shares_kept : (slot : ℕ) (message : Message) (groups : List Bound) → shares_of (accepting slot message groups) ≡ shares_of groups
shares_kept slot message [] = refl
shares_kept zero message (group ∷ groups) = refl
shares_kept (suc slot) message (group ∷ groups) = ap (λ (l : List Share). group.share ∷ l) (shares_kept slot message groups)

pub length-accepting : (slot : ℕ) (message : Message) (groups : List Bound) → length (accepting slot message groups) ≡ length groups
length-accepting slot message [] = refl
length-accepting zero message (group ∷ groups) = refl
length-accepting (suc slot) message (group ∷ groups) = ap (λ n. suc n) (length-accepting slot message groups)

pub length-shares : (groups : List Bound) → length (shares_of groups) ≡ length groups
length-shares groups = length-map groups (λ (group : Bound). group.share)

-- a further share changes nothing of the others, and its group accepted nothing
pub accepted_bound : (slot : ℕ) (share : Share) (groups : List Bound) → accepted_in slot (groups ++ bound share ∷ []) ≡ accepted_in slot groups
accepted_bound zero share [] = refl
accepted_bound (suc slot) share [] = refl
accepted_bound zero share (group ∷ groups) = refl
accepted_bound (suc slot) share (group ∷ groups) = accepted_bound slot share groups

pub accepted_first : (slot : ℕ) (shares : List Share) → accepted_in slot (map bound shares) ≡ []
accepted_first slot [] = refl
accepted_first zero (share ∷ shares) = refl
accepted_first (suc slot) (share ∷ shares) = accepted_first slot shares

pub shares_first : (shares : List Share) → shares_of (map bound shares) ≡ shares
shares_first [] = refl
shares_first (share ∷ shares) = ap (λ (l : List Share). share ∷ l) (shares_first shares)

-- entries of one slot
pub entries_same : (slot : ℕ) (entries : List (ℕ × Held)) → entries_at (Member slot) slot entries ≡ entries
entries_same slot entries = ap (λ b. cond b entries []) (eq-eqb slot slot refl)

pub entries_other : (own slot : ℕ) (entries : List (ℕ × Held)) → own ≢ slot → entries_at (Member own) slot entries ≡ []
entries_other own slot entries differs = ap (λ b. cond b entries []) (ne_eqb own slot differs)

pub entries_none : (membership : Membership ℕ) (slot : ℕ) → entries_at membership slot [] ≡ []
entries_none NotMember slot = refl
entries_none (Member own) slot = ⊎_elim (λ (is : (own == slot) ≡ true). ap (λ b. cond b [] []) is) (λ (is : (own == slot) ≡ false). ap (λ b. cond b [] []) is) (cases_Bool (own == slot))
entries_none (Leaving own) slot = ⊎_elim (λ (is : (own == slot) ≡ true). ap (λ b. cond b [] []) is) (λ (is : (own == slot) ≡ false). ap (λ b. cond b [] []) is) (cases_Bool (own == slot))
