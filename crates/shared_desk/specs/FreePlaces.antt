-- What the calls of a desk make of the cells of free places.
use Rattle.std.specs.Prelude.{ℕ, nat_eq, if◌then◌else◌, List, [], ◌∷◌, Option, Some, None}
use Rattle.std.specs.Option.{option_or}
use Rattle.group_jobs.specs.Stamps.{Held}
use Rattle.session_desk.specs.declared.session.Membership.{Membership}
use Rattle.session_desk.specs.declared.session.Membership.TheVariants.{NotMember, Member, Leaving}
use Rattle.session_desk.specs.Calls.{Call, Bury, LendPlace, TakePlace}

module _ {P : Type 0} (cell : P → ℕ) where
  -- what the cell of a place has from now on, where that is this cell: the place, or nothing
  abbrev pub put_at : ℕ → P → Option (Option P)
  put_at at place = if nat_eq (cell place) at then Some (Some place) else None

  abbrev pub lent_at : ℕ → P → Option (Option P)
  lent_at at place = if nat_eq (cell place) at then Some None else None

  -- the same of a member's place
  abbrev pub freed_at : ℕ → Membership P → Option (Option P)
  freed_at at NotMember = None
  freed_at at (Member place) = put_at at place
  freed_at at (Leaving place) = put_at at place

  -- what a call makes of this cell, where it makes anything of it: it has a place that is taken in, or that of a session that is buried; or it has none any more, where its place is lent
  abbrev pub change_at : ℕ → Call Held P → Option (Option P)
  change_at at (TakePlace place None) = put_at at place
  change_at at (Bury session None) = freed_at at session.membership
  change_at at (LendPlace slot (Some place)) = lent_at at place
  change_at at _ = None

  -- the last that these calls made of it
  abbrev pub last_change : ℕ → List (Call Held P) → Option (Option P)
  last_change at [] = None
  last_change at (call ∷ calls) = option_or (last_change at calls) (change_at at call)
