-- What a desk has: the items of the sessions that it keeps, and places.
use Rattle.std.specs.Prelude.{◌≡◌, ℕ, ◌+◌, List, [], ◌∷◌, ◌++◌, map, Option, Some, None, Result, Ok, Err, sum_by}
use Rattle.std.specs.FinMap as rows
use Rattle.member_window.specs.Contents.{held_of}
use Rattle.session_desk.specs.declared.attached.Attached.{Attached}
use Rattle.session_desk.specs.declared.attached.Attached.TheVariants.{New, Resumed, Replace, Busy}
use Rattle.session_desk.specs.declared.error.DeskError.{DeskError}
use Rattle.session_desk.specs.declared.session.Session.{Session}
use Rattle.session_desk.specs.declared.session.Membership.{Membership}
use Rattle.session_desk.specs.declared.session.Membership.TheVariants.{NotMember, Member, Leaving}
use Rattle.session_desk.specs.declared.row.Row.{Row}
use Rattle.session_desk.specs.Rows.{session_in}
use Rattle.session_desk.specs.Books.{Books}

-- what a session holds
abbrev pub items_of : {E P : Type 0} → Option (Session E P) → List E
items_of None = []
items_of (Some session) = map (λ entry. entry.1) (held_of session.window)

-- the place that it has, if it has one
abbrev pub place_in : {P : Type 0} → Membership P → List P
place_in NotMember = []
place_in (Member place) = place ∷ []
place_in (Leaving place) = place ∷ []

abbrev pub place_of : {E P : Type 0} → Option (Session E P) → List P
place_of None = []
place_of (Some session) = place_in session.membership

abbrev pub free_in : {P : Type 0} → Option P → List P
free_in None = []
free_in (Some place) = place ∷ []

-- the places of the sessions that whoever asked for one was given
abbrev pub places_given : {E P : Type 0} → Result (Attached E P) DeskError → List P
places_given (Ok (New session ended)) = place_in session.membership ++ place_of ended
places_given (Ok (Resumed session)) = place_in session.membership
places_given (Ok (Replace holder)) = []
places_given (Ok Busy) = []
places_given (Err error) = []

-- by any measure as much as is in the sessions that the desk keeps: so these are their items, in some order
abbrev pub AreItems : {E P : Type 0} → List (ℕ × Row E P) → List E → Type 0
AreItems {E} entries items = (measure : E → ℕ) → sum_by measure items ≡ sum_by (λ entry. sum_by measure (items_of (session_in entry.1.held_by))) entries

-- and as much as the places of these sessions and the free ones: so these are those places, in some order
abbrev pub ArePlaces : {E P : Type 0} → List (ℕ × Row E P) → List (Option P) → List P → Type 0
ArePlaces {E} {P} entries free places =
    (measure : P → ℕ) → sum_by measure places ≡ sum_by (λ entry. sum_by measure (place_of (session_in entry.1.held_by))) entries + sum_by (λ cell. sum_by measure (free_in cell)) free

-- everything that the desk has
pub record HasAll {E P : Type 0} (b : Books E P) (all_places : List P) (all_items : List E) : Type 0 where
  pub items : AreItems (rows.entries b.rows) all_items
  pub places : ArePlaces (rows.entries b.rows) b.free all_places
