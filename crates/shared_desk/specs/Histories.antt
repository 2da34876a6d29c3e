-- The one history of a desk behind a lock: its calls, in the order of the lock, from a new desk on.
use Rattle.std.specs.Prelude.{◌≡◌, ℕ, List, [], ◌∷◌, ◌++◌, Option}
use Rattle.group_jobs.specs.Stamps.{Held}
use Rattle.session_desk.specs.Books.{Books, new_books}
use Rattle.session_desk.specs.Calls.{Call, MakesAll, TakePlace}
use Rattle.session_desk.specs.Everywhere.{AllGoIn}
use Rattle.session_desk.specs.Places.{cell_at}
use Rattle.conn_supply.specs.Holding.{IsOutAtPlace}
use Rattle.call_history.specs.Callers.{CallerState, calling}

module _ {P : Type 0} (HasOut : P → List Held → Type 0) (slot_of number_of : P → ℕ) where
  -- these calls, one after the other, made these books of a new desk, and what went in had out at its place what it holds
  pub record Leads (calls : List (Call Held P)) (books : Books Held P) : Type 0 where
    pub made : MakesAll (λ place. cell_at (slot_of place) (number_of place)) new_books calls books
    pub going : AllGoIn (IsOutAtPlace HasOut) (λ place. HasOut place []) calls

  -- a new desk's calls may be these
  abbrev pub IsHistory : List (Call Held P) → Type 0
  IsHistory calls = (books : Books Held P) × Leads calls books

  -- the caller made this call, after what it knew and what others did since, and it is one of its own
  pub record AddsCall (old : CallerState (Call Held P)) (call : Call Held P) (new : CallerState (Call Held P)) : Type 0 where
    pub since : List (Call Held P)
    pub is : new ≡ calling old (old.calls ++ since) (call ∷ [])
    pub legal : IsHistory new.calls

  -- these places were handed in, one after the other, with calls of others between
  abbrev pub TakesEach : CallerState (Call Held P) → List P → CallerState (Call Held P) → Type 0
  TakesEach old [] new = new ≡ old
  TakesEach old (place ∷ places) new =
      (back : Option P) × (between : CallerState (Call Held P)) × AddsCall old (TakePlace place back) between × TakesEach between places new
