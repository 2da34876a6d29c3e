-- What a close leaves.
use Rattle.std.proofs.Common.{◌≡◌, ◌≢◌, ℕ, ◌+◌, ◌<◌, ◌≤◌, ◌⊎◌, Bool, true, false, not, ◌&&◌, List, [], ◌∷◌, length, length-set, get_or, set, slice_get, Some, refl, sym, ap, ◌∙◌, subst, inl, inr, ⊎_elim, arith}
use Rattle.std.specs.List.{list_all}
use Rattle.std.proofs.lemmas.Bool.{cases_eq}
use Rattle.std.proofs.lemmas.Option.{slice_get_within, slice_get-get_or, same_Some}
use Rattle.dispatch_core.proofs.Spots.{slice_get-set_same, slice_get-set_other}
use Rattle.local_group.specs.Groups.{Group, Closes}
use Rattle.local_broker.specs.Groups.{HasGroup, ClosesEach}

pub either : (b : Bool) → (b ≡ true) ⊎ (b ≡ false)
either true = inl refl
either false = inr refl

-- the group after its close
shut : (before after : Group) → Closes before after → after.state.closed ≡ true
shut before after closes =
    ⊎_elim (λ (was : before.state.closed ≡ true). ap (λ g. g.state.closed) (closes.again was) ∙ was) (λ (was : before.state.closed ≡ false). (closes.closed was).step.made.2)
    (either before.state.closed)

-- the groups before this slot are closed, and the others are as they were
pub record AreClosed (first now : List Group) (at : ℕ) : Type 0 where
  pub as_many : length now ≡ length first
  pub closed : (slot : ℕ) (before : Group) → slot < at → slice_get first slot ≡ Some before → HasGroup now slot (Closes before)
  pub left : (slot : ℕ) → at ≤ slot → slice_get now slot ≡ slice_get first slot

pub close_more : (first now : List Group) (at : ℕ) (old new : Group) → AreClosed first now at → slice_get now at ≡ Some old → Closes old new → AreClosed first (set now at new) (at + 1)
close_more first now at old new are there closes =
    let within = slice_get_within now at old there in
    record {
      as_many = length-set now at new ∙ are.as_many;
      closed = λ slot before less was.
          ⊎_elim
          (λ (is : slot ≡ at).
          let same = same_Some old before (sym there ∙ are.left at (omega arith) ∙ ap (slice_get first) (sym is) ∙ was) in
          record {
            group = new;
            there = ap (slice_get (set now at new)) is ∙ slice_get-set_same now at new within;
            is_so = subst (λ b. Closes b new) same closes;
          })
          (λ (other : slot ≢ at).
          let has = are.closed slot before (omega arith) was in
          record {
            group = has.group;
            there = slice_get-set_other now at slot new other ∙ has.there;
            is_so = has.is_so;
          })
          (cases_eq slot at);
      left = λ slot from. slice_get-set_other now at slot new (λ e. omega arith) ∙ are.left slot (omega arith);
    }

pub closed_each : (first now : List Group) (at : ℕ) → AreClosed first now at → length first ≤ at → ClosesEach first now
closed_each first now at are all =
    record { as_many = are.as_many; each = λ slot before was. are.closed slot before (let within = slice_get_within first slot before was in omega arith) was }

pub all_shut : (old new : List Group) → ClosesEach old new → (slot : ℕ) (group : Group) → slice_get new slot ≡ Some group → group.state.closed ≡ true
all_shut old new closes slot group there =
    let within = slice_get_within new slot group there in
    let before = get_or old slot group in
    let has = closes.each slot before (slice_get-get_or old slot group (let as_many = closes.as_many in omega arith)) in
    ap (λ g. g.state.closed) (same_Some group has.group (sym there ∙ has.there)) ∙ shut before has.group has.is_so

pub not_open : (groups : List Group) → 0 < length groups → ((slot : ℕ) (group : Group) → slice_get groups slot ≡ Some group → group.state.closed ≡ true)
    → list_all (λ group. not group.state.closed) groups ≡ false
not_open [] some closed = absurd (omega arith)
not_open (group ∷ groups) some closed = ap (λ c. not c && list_all (λ g. not g.state.closed) groups) (closed 0 group refl)
