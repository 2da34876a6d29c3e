-- How a desk comes to an answer: what a look at a client's row finds, and what opens a new session.
use Rattle.std.specs.Prelude.{◌≡◌, ℕ, ◌<◌, Bool, List, Result, Ok, Err}
use Rattle.std.specs.FinMap as map
use Rattle.session_desk.specs.declared.error.DeskError.{DeskError}
use Rattle.session_desk.specs.declared.error.DeskError.TheVariants as errors
use Rattle.session_desk.specs.declared.session.Session.{Session}
use Rattle.session_desk.specs.declared.sight.Sight.{Sight}
use Rattle.session_desk.specs.declared.sight.Sight.TheVariants as sight
use Rattle.session_desk.specs.declared.row.Row.{Row}
use Rattle.session_desk.specs.declared.row.Holder.TheVariants.{Lent, Parked}
use Rattle.session_desk.specs.Rows.{most_rows}
use Rattle.session_desk.specs.Books.{Books, new_session, after_new, after_end}
use Rattle.session_desk.specs.Attaching.{IsStale}

-- what a look at the row of a client's session finds
abbrev pub LooksAs : {E P : Type 0} → Row E P → Bool → ℕ → Sight → Type 0
LooksAs row clean now (sight.Lent holder wait) = (row.held_by ≡ Lent holder) × (row.wait ≡ wait)
LooksAs {E} {P} row clean now sight.Stale = (session : Session E P) × (row.held_by ≡ Parked session) × IsStale session clean now
LooksAs {E} {P} row clean now sight.Fresh = (session : Session E P) × (row.held_by ≡ Parked session) × ¬ IsStale session clean now

-- a new session of a client that has none, where there is memory
abbrev pub Opens : {E P : Type 0} → Books E P → List ℕ → ℕ → Result (Session E P) DeskError → Books E P → Type 0
Opens old client connection (Ok session) new = (session ≡ new_session (record { number = old.made; client = client })) × (new ≡ after_new old client connection)
Opens old client connection (Err errors.Memory) new = new ≡ old
Opens old client connection (Err errors.Full) new = ⊥
Opens old client connection (Err errors.NoPlace) new = ⊥
Opens old client connection (Err errors.NoName) new = ⊥

-- the same, where a parked session in this row ends, and there is room for one more
abbrev pub OpensOver : {E P : Type 0} → Books E P → List ℕ → ℕ → ℕ → Row E P → Result (Session E P × Session E P) DeskError → Books E P → Type 0
OpensOver old client connection number row (Ok both) new =
    (row.held_by ≡ Parked both.1) × (map.len old.rows < most_rows) × (both.0 ≡ new_session (record { number = old.made; client = client })) × (new ≡ after_new (after_end old number row) client connection)
OpensOver old client connection number row (Err errors.Memory) new = new ≡ old
OpensOver old client connection number row (Err errors.Full) new = ⊥
OpensOver old client connection number row (Err errors.NoPlace) new = ⊥
OpensOver old client connection number row (Err errors.NoName) new = ⊥
