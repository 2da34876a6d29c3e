-- A desk behind a lock: what holds of it whenever the lock is taken, and what a call tells of it.
use Rattle.std.specs.Prelude.{ℕ, List, []}
use Rattle.group_jobs.specs.Stamps.{Held}
use Rattle.session_desk.specs.Books.{Books}
use Rattle.session_desk.specs.Calls.{Call, IsAllowed, Makes}
use Rattle.session_desk.specs.Everywhere.{IsEverywhere}
use Rattle.session_desk.specs.Hands.{DeskLaw}
use Rattle.session_desk.specs.Places.{cell_at}
use Rattle.conn_supply.specs.Holding.{IsOutAtPlace}

module _ {P : Type 0} (HasOut : P → List Held → Type 0) where
  -- it keeps the desk law; each session has out at its place just what it holds, and nothing is out at a free place
  pub record IsLawful (books : Books Held P) : Type 0 where
    pub law : DeskLaw books.rows books.made
    pub out : IsEverywhere (IsOutAtPlace HasOut) (λ place. HasOut place []) books

  -- a call was made of such a desk, which is such a one after it: what the books were and are then, nobody else knows
  pub record IsMade (slot_of number_of : P → ℕ) (call : Call Held P) : Type 0 where
    pub old : Books Held P
    pub new : Books Held P
    pub before : IsLawful old
    pub after : IsLawful new
    pub allowed : IsAllowed call
    pub makes : Makes (λ place. cell_at (slot_of place) (number_of place)) old call new
