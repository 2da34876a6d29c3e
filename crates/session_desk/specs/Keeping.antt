-- What a desk makes of a session that is handed in: it is parked, kept or buried, or handed back.
use Rattle.std.specs.Prelude.{◌≡◌, ◌≢◌, ◌⊎◌, ℕ, List, [], Option, Some, None, slice_get, slice_set}
use Rattle.member_window.specs.Contents.{held_of}
use Rattle.session_desk.specs.declared.session.Session.{Session}
use Rattle.session_desk.specs.declared.session.Membership.{Membership}
use Rattle.session_desk.specs.declared.session.Membership.TheVariants.{NotMember, Member, Leaving}
use Rattle.session_desk.specs.Rows.{IsLentIn, IsAwayIn}
use Rattle.session_desk.specs.Books.{Books, after_park, after_end, after_keep, after_bury}

-- the session is lent, by what the desk knows
abbrev pub IsLent : {E P : Type 0} → Books E P → Session E P → Type 0
IsLent b session = IsLentIn b.rows session

-- the session is ending and in a caller's hands, by what the desk knows
abbrev pub IsAway : {E P : Type 0} → Books E P → Session E P → Type 0
IsAway b session = IsAwayIn b.rows session

-- parked at this moment
abbrev pub parked_at : {E P : Type 0} → Session E P → ℕ → Session E P
parked_at session now =
    record { identity = session.identity; expiry = record { seconds = session.expiry.seconds; parked = Some now }; window = session.window; membership = session.membership; subscription = session.subscription }

-- `park` keeps a lent session from this moment on; one that ends with its connection it ends, and hands back
pub record EndsLent {E P : Type 0} (old : Books E P) (session : Session E P) (new : Books E P) : Type 0 where
  pub lent : IsLent old session
  pub with_connection : session.expiry.seconds ≡ 0
  pub after : new ≡ after_end old session.identity.number lent.row

pub record ParksLent {E P : Type 0} (old : Books E P) (session : Session E P) (now : ℕ) (new : Books E P) : Type 0 where
  pub lent : IsLent old session
  pub goes_on : session.expiry.seconds ≢ 0
  pub after : new ≡ after_park old session.identity.number lent.row (parked_at session now)

abbrev pub Parks : {E P : Type 0} → Books E P → Session E P → ℕ → Option (Session E P) → Books E P → Type 0
Parks old session now None new = ParksLent old session now new
Parks old session now (Some back) new = (back ≡ session) × (EndsLent old session new ⊎ (¬ IsLent old session × (new ≡ old)))

-- `park_as_is` keeps a lent session as it is
pub record KeepsLent {E P : Type 0} (old : Books E P) (session : Session E P) (new : Books E P) : Type 0 where
  pub lent : IsLent old session
  pub after : new ≡ after_park old session.identity.number lent.row session

abbrev pub ParksAsIs : {E P : Type 0} → Books E P → Session E P → Option (Session E P) → Books E P → Type 0
ParksAsIs old session None new = KeepsLent old session new
ParksAsIs old session (Some back) new = (back ≡ session) × ¬ IsLent old session × (new ≡ old)

-- `keep` takes an ending session back
pub record KeepsAway {E P : Type 0} (old : Books E P) (session : Session E P) (new : Books E P) : Type 0 where
  pub gone : IsAway old session
  pub after : new ≡ after_keep old session.identity.number gone.row session

abbrev pub Keeps : {E P : Type 0} → Books E P → Session E P → Option (Session E P) → Books E P → Type 0
Keeps old session None new = KeepsAway old session new
Keeps old session (Some back) new = (back ≡ session) × ¬ IsAway old session × (new ≡ old)

module _ {P : Type 0} (cell : P → ℕ) where
  -- the cell of a member's place is empty
  abbrev pub HasCell : List (Option P) → Membership P → Type 0
  HasCell free NotMember = Unit {0}
  HasCell free (Member place) = slice_get free (cell place) ≡ Some None
  HasCell free (Leaving place) = slice_get free (cell place) ≡ Some None

  -- its place is free again
  abbrev pub freed : List (Option P) → Membership P → List (Option P)
  freed free NotMember = free
  freed free (Member place) = slice_set free (cell place) (Some place)
  freed free (Leaving place) = slice_set free (cell place) (Some place)

  -- an ending session in a caller's hands that holds nothing, and whose place, if it has one, is not free already
  pub record CanBury {E : Type 0} (b : Books E P) (session : Session E P) : Type 0 where
    pub gone : IsAway b session
    pub empty : held_of session.window ≡ []
    pub room : HasCell b.free session.membership

  -- `bury` frees the row and the place of such a session
  abbrev pub Buries : {E : Type 0} → Books E P → Session E P → Option (Session E P) → Books E P → Type 0
  Buries old session None new = CanBury old session × (new ≡ after_bury old session.identity.number (freed old.free session.membership))
  Buries old session (Some back) new = (back ≡ session) × ¬ CanBury old session × (new ≡ old)
