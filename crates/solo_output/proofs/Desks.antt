-- How a desk shows a model: one place at most is lent, the first of its group, and the connection is not kicked.
use Rattle.std.proofs.Common.{◌≡◌, ◌≢◌, ℕ, ◌+◌, ◌*◌, ◌/◌, ◌%◌, ◌<◌, ◌≤◌, Bool, true, false, List, slice_get, slice_set, Option, Some, None, refl, sym, ap, ◌∙◌, ⊎_elim, arith}
use Rattle.std.proofs.lemmas.Bool.{cases_eq, cases_lt}
use Rattle.std.proofs.lemmas.Option.{slice_get_within, same_Some, none-some}
use Rattle.dispatch_core.proofs.Spots.{slice_get-set_same, slice_get-set_other}
use Rattle.group_jobs.specs.Stamps.{Held}
use Rattle.session_desk.specs.declared.session.Membership.{Membership}
use Rattle.session_desk.specs.declared.session.Membership.TheVariants.{NotMember, Member, Leaving}
use Rattle.session_desk.specs.Books.{Books}
use Rattle.session_desk.specs.Places.{IsFreeAt, cell_at}
use Rattle.conn_supply.specs.SupplyCalls.SupplyCall.{LendPlace, TakePlace, Kicked}
use Rattle.local_broker.specs.Places.{GroupPlace, cell_of, place_at}
use Rattle.local_broker.specs.Broker.{Broker}
use Rattle.local_broker.specs.Calls.{Calls}
use Rattle.solo_output.proofs.Hands.{first_place}

-- each place is free
abbrev pub AllFree : List (Option GroupPlace) → Type 0
AllFree free = (cell : ℕ) → cell < 256 → IsFreeAt free cell (place_at cell)

-- but for the first of this group
pub record OneTaken (slot : ℕ) (free : List (Option GroupPlace)) : Type 0 where
  pub small : slot < 8
  pub taken : slice_get free (cell_at slot 0) ≡ Some None
  pub others : (cell : ℕ) → cell < 256 → cell ≢ cell_at slot 0 → IsFreeAt free cell (place_at cell)

abbrev pub FreeBut : Membership ℕ → List (Option GroupPlace) → Type 0
FreeBut NotMember free = AllFree free
FreeBut (Member slot) free = OneTaken slot free
FreeBut (Leaving slot) free = OneTaken slot free

pub record ShowsDesk (membership : Membership ℕ) (desk : Books Held GroupPlace) : Type 0 where
  pub not_kicked : slice_get desk.kicked 0 ≡ Some false
  pub places : FreeBut membership desk.free

-- the place of the first cell of a group
first_cell : (slot : ℕ) → place_at (cell_at slot 0) ≡ first_place slot
first_cell slot =
    let q : (32 * slot + 0) / 32 ≡ slot = omega arith in
    let r : (32 * slot + 0) % 32 ≡ 0 = omega arith in
    λ i. record { slot = q i; number = r i }

-- a call of the desk changes nothing else
pub record StaysBut (old new : Broker) : Type 0 where
  pub routes : new.routes ≡ old.routes
  pub groups : new.groups ≡ old.groups
  pub rows : new.desk.rows ≡ old.desk.rows

-- ---- a place is lent

pub lends : (slot : ℕ) (old new : Broker) (place : GroupPlace) → slot < 8 → ShowsDesk NotMember old.desk → Calls old (LendPlace slot (Some place)) new
    → (place ≡ first_place slot) × ShowsDesk (Member slot) new.desk × StaysBut old new
lends slot old new place small shows does =
    let free = does.makes.0 in
    let lent = does.makes.1 in
    let least = lent.1 in
    let within : cell_at slot 0 < 256 = omega arith in
    let first : least.number ≡ 0 =
    ⊎_elim
    (λ (some : 0 < least.number). absurd (least.least 0 (place_at (cell_at slot 0)) some (shows.places (cell_at slot 0) within)))
    (λ (none : least.number ≤ 0). omega arith)
    (cases_lt 0 least.number) in
    let cell : lent.0 ≡ cell_at slot 0 = least.at ∙ ap (cell_at slot) first in
    let is : least.place ≡ place_at (cell_at slot 0) =
    same_Some least.place (place_at (cell_at slot 0))
    (same_Some (Some least.place) (Some (place_at (cell_at slot 0)))
    (sym least.is_free ∙ ap (slice_get old.desk.free) cell ∙ shows.places (cell_at slot 0) within)) in
    let free_is : new.desk.free ≡ slice_set old.desk.free (cell_at slot 0) None =
    ap (λ (b : Books Held GroupPlace). b.free) does.makes.2 ∙ lent.3 ∙ ap (λ (c : ℕ). slice_set old.desk.free c None) cell in
    let inside = slice_get_within old.desk.free (cell_at slot 0) (Some (place_at (cell_at slot 0))) (shows.places (cell_at slot 0) within) in (
      lent.2 ∙ is ∙ first_cell slot,
      record {
        not_kicked = ap (λ (b : Books Held GroupPlace). slice_get b.kicked 0) does.makes.2 ∙ shows.not_kicked;
        places = record {
          small = small;
          taken = ap (λ (l : List (Option GroupPlace)). slice_get l (cell_at slot 0)) free_is ∙ slice_get-set_same old.desk.free (cell_at slot 0) None inside;
          others = λ other less differs.
              ap (λ (l : List (Option GroupPlace)). slice_get l other) free_is ∙ slice_get-set_other old.desk.free (cell_at slot 0) other None differs ∙ shows.places other less;
        };
      },
      record { routes = does.routes; groups = does.groups; rows = ap (λ (b : Books Held GroupPlace). b.rows) does.makes.2 },
    )

pub lends_some : (slot : ℕ) (old new : Broker) → slot < 8 → ShowsDesk NotMember old.desk → Calls old (LendPlace slot None) new → ⊥
lends_some slot old new small shows does =
    let within : cell_at slot 0 < 256 = omega arith in
    does.makes.1.0 0 (place_at (cell_at slot 0)) (omega arith) (shows.places (cell_at slot 0) within)

-- ---- it comes back

taken_free : (slot : ℕ) (old new : Broker) (back : Option GroupPlace) → OneTaken slot old.desk.free → slice_get old.desk.kicked 0 ≡ Some false
    → (free : List (Option GroupPlace)) → Rattle.session_desk.specs.Places.TakesPlace old.desk.free (cell_of (first_place slot)) (first_place slot) back free
    → new.desk ≡ Rattle.session_desk.specs.Books.with_free old.desk free → ShowsDesk NotMember new.desk
taken_free slot old new None shows kicked free takes is =
    let within = slice_get_within old.desk.free (cell_at slot 0) None shows.taken in
    let free_is : new.desk.free ≡ slice_set old.desk.free (cell_at slot 0) (Some (first_place slot)) = ap (λ (b : Books Held GroupPlace). b.free) is ∙ takes.1 in
    record {
      not_kicked = ap (λ (b : Books Held GroupPlace). slice_get b.kicked 0) is ∙ kicked;
      places = λ cell less.
          ⊎_elim
          (λ (own : cell ≡ cell_at slot 0).
          ap (λ (l : List (Option GroupPlace)). slice_get l cell) free_is ∙ ap (slice_get (slice_set old.desk.free (cell_at slot 0) (Some (first_place slot)))) own
          ∙ slice_get-set_same old.desk.free (cell_at slot 0) (Some (first_place slot)) within
          ∙ ap (λ (p : GroupPlace). Some (Some p)) (sym (first_cell slot) ∙ ap place_at (sym own)))
          (λ (other : cell ≢ cell_at slot 0).
          ap (λ (l : List (Option GroupPlace)). slice_get l cell) free_is ∙ slice_get-set_other old.desk.free (cell_at slot 0) cell (Some (first_place slot)) other ∙ shows.others cell less other)
          (cases_eq cell (cell_at slot 0));
    }
taken_free slot old new (Some back) shows kicked free takes is =
    absurd (none-some takes.1.0 (same_Some None (Some takes.1.0) (sym shows.taken ∙ takes.1.1)))

pub takes : (slot : ℕ) (old new : Broker) → OneTaken slot old.desk.free → slice_get old.desk.kicked 0 ≡ Some false → Calls old (TakePlace (first_place slot)) new
    → ShowsDesk NotMember new.desk × StaysBut old new
takes slot old new shows kicked does = (
  taken_free slot old new does.0 shows kicked does.1.makes.0 does.1.makes.1 does.1.makes.2,
  record { routes = does.1.routes; groups = does.1.groups; rows = ap (λ (b : Books Held GroupPlace). b.rows) does.1.makes.2 },
)

-- ---- nobody else asked for the session

pub not_kicked : (kicked : Bool) (old new : Broker) → slice_get old.desk.kicked 0 ≡ Some false → Calls old (Kicked 0 kicked) new → (kicked ≡ false) × (new.desk ≡ old.desk) × (new.routes ≡ old.routes) × (new.groups ≡ old.groups)
not_kicked true old new none does = absurd (Rattle.std.proofs.lemmas.Bool.false≢true (same_Some false true (sym none ∙ does.makes.0.0 refl)))
not_kicked false old new none does = (refl, does.makes.1, does.routes, does.groups)
