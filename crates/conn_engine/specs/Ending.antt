-- What becomes of a session whose connection has ended, or whose time is over.
use Rattle.std.specs.Prelude.{◌≡◌, ◌≢◌, ◌⊎◌, ℕ, zero, suc, Bool, true, false, List, [], ◌∷◌, Option, Some, None, Ok, Err}
use Rattle.group_jobs.specs.Stamps.{Held}
use Rattle.member_window.specs.Contents.{Contents, held_of, after_down}
use Rattle.session_desk.specs.declared.session.Session.{Session}
use Rattle.session_desk.specs.declared.session.Membership.{Membership}
use Rattle.session_desk.specs.declared.session.Membership.TheVariants.{NotMember, Member, Leaving}
use Rattle.conn_supply.specs.SupplyCalls.{SupplyCall}
use Rattle.conn_supply.specs.SupplyCalls.SupplyCall.{GiveBack, Keep, Bury, Park, Sweep}
use Rattle.conn_supply.specs.Memberships.{with_window, with_membership}

-- the window of a session that is ending, with what it holds still
abbrev pub ending : List (ℕ × Held) → Contents Held
ending left = record { owed = []; waiting = left; quota = None; retired = true }

-- a session that is ending, with its place and what it holds still
abbrev pub ending_session : {P : Type 0} → Session Held P → Membership P → List (ℕ × Held) → Session Held P
ending_session session membership left = with_membership (with_window session (ending left)) membership

-- a session whose connection has ended
abbrev pub down : {P : Type 0} → Session Held P → Session Held P
down session = with_window session (after_down session.window)

module _ {S P : Type 0} (call : S → SupplyCall P → S → Type 0) where
  -- a place gives its messages back, the oldest first, until there is no memory for one: what is left is that one and those after it
  abbrev pub GivesBack : S → P → List (ℕ × Held) → P → List (ℕ × Held) → S → Type 0
  GivesBack old place [] place' left new = (place' ≡ place) × (left ≡ []) × (new ≡ old)
  GivesBack old place (entry ∷ entries) place' left new =
      ((between : P) × (mid : S) × call old (GiveBack place between entry.1 (Ok tt)) mid × GivesBack mid between entries place' left new)
      ⊎ (call old (GiveBack place place' entry.1 (Err entry.1)) new × (left ≡ entry ∷ entries))

  -- an ending session that holds nothing is gone, and any other is kept
  abbrev pub Ends : S → Session Held P → Bool → S → Type 0
  Ends old session gone new =
      ((held_of session.window ≡ []) × (gone ≡ true) × call old (Bury session) new)
      ⊎ ((held_of session.window ≢ []) × (gone ≡ false) × call old (Keep session) new)

  -- through its place, a session gives back what it holds
  pub record RetiresFrom (old : S) (session : Session Held P) (place : P) (again : P → Membership P) (gone : Bool) (new : S) : Type 0 where
    pub place' : P
    pub left : List (ℕ × Held)
    pub mid : S
    pub given : GivesBack old place (held_of session.window) place' left mid
    pub ended : Ends mid (ending_session session (again place') left) gone new

  -- a session that is no member has no place to give anything back through, and holds nothing
  abbrev pub RetiresAs : S → Session Held P → Membership P → Bool → S → Type 0
  RetiresAs old session NotMember gone new = Ends old (down session) gone new
  RetiresAs old session (Member place) gone new = RetiresFrom old session place Member gone new
  RetiresAs old session (Leaving place) gone new = RetiresFrom old session place Leaving gone new

  -- a session is retired: it gives back what it holds, and is gone; where an allocation failed, it is kept with the rest
  abbrev pub Retires : S → Session Held P → Bool → S → Type 0
  Retires old session gone new = RetiresAs old session session.membership gone new

  -- the connection of a session has ended: it is parked, and retired where it ends with its connection
  abbrev pub PartsAs : S → Option (Session Held P) → S → Type 0
  PartsAs old None new = new ≡ old
  PartsAs old (Some back) new = (gone : Bool) × Retires old back gone new

  abbrev pub Parts : S → Session Held P → ℕ → S → Type 0
  Parts old session now new =
      (answer : Option (Session Held P)) × (mid : S) × call old (Park (down session) now answer) mid × PartsAs mid answer new

  -- sessions that are due are retired, so many at most, until none is due or an allocation failed
  abbrev pub Sweeps : S → ℕ → ℕ → S → Type 0
  Sweeps old now zero new = new ≡ old
  Sweeps old now (suc most) new =
      call old (Sweep now None) new
      ⊎ ((session : Session Held P) × (mid : S) × (after : S) × call old (Sweep now (Some session)) mid
      × ((Retires mid session false new) ⊎ (Retires mid session true after × Sweeps after now most new)))
