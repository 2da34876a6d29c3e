-- What a desk knows, as its callers see it, and what its calls make of that.
use Rattle.std.specs.Prelude.{◌≡◌, ℕ, ◌+◌, Bool, true, false, List, Option, Some, None, slice_get, slice_set, replicate}
use Rattle.std.specs.FinMap as map
use Rattle.limits.specs.Limits.{most_connections}
use Rattle.member_window.specs.Contents.{new_contents}
use Rattle.session_desk.specs.declared.session.Session.{Session}
use Rattle.session_desk.specs.declared.session.Membership.TheVariants.{NotMember}
use Rattle.session_desk.specs.declared.row.Row.{Row}
use Rattle.session_desk.specs.declared.row.Holder.TheVariants.{Lent, Parked, Kept}
use Rattle.session_desk.specs.Sessions.{Who}
use Rattle.session_desk.specs.Rows.{Rows, with_holder, with_wait, away, new_row}

-- what a desk knows
pub record Books (E P : Type 0) : Type 0 where
  -- one row of each session that is not buried, by the session's number
  pub rows : Rows E P
  -- how many sessions were ever new, which is the number of the next one
  pub made : ℕ
  -- the greatest number in a name that was given to a client without an identifier, or 0
  pub assigned : ℕ
  -- the session that each connection waits for, if it waits
  pub waits : List (Option ℕ)
  -- the connections that are marked as kicked
  pub kicked : List Bool
  -- the cells of the places, each with a place where that is free
  pub free : List (Option P)

-- a new desk's
abbrev pub new_books : {E P : Type 0} → Books E P
new_books = record { rows = map.empty; made = 0; assigned = 0; waits = replicate most_connections None; kicked = replicate most_connections false; free = replicate 256 None }

-- a new session: it ends with its connection, holds nothing, is no member, and has no Subscription Identifier
abbrev pub new_session : {E P : Type 0} → Who → Session E P
new_session who = record { identity = who; expiry = record { seconds = 0; parked = None }; window = new_contents; membership = NotMember; subscription = None }

-- this connection waits for the session: the session's row names the connection, and the connection the session
pub record IsWaiting {E P : Type 0} (b : Books E P) (number : ℕ) (row : Row E P) (connection : ℕ) : Type 0 where
  pub named : row.wait ≡ Some connection
  pub waits : slice_get b.waits connection ≡ Some (Some number)

-- the connection is marked as kicked
abbrev pub IsKicked : {E P : Type 0} → Books E P → ℕ → Type 0
IsKicked b connection = slice_get b.kicked connection ≡ Some true

-- the rows are these from now on
abbrev pub with_rows : {E P : Type 0} → Books E P → Rows E P → Books E P
with_rows b rows = record { rows = rows; made = b.made; assigned = b.assigned; waits = b.waits; kicked = b.kicked; free = b.free }

-- a session is with this connection from now on: the connection is not kicked, and waits for nothing
abbrev pub entered : {E P : Type 0} → Books E P → ℕ → Books E P
entered b connection =
    record { rows = b.rows; made = b.made; assigned = b.assigned; waits = slice_set b.waits connection None; kicked = slice_set b.kicked connection false; free = b.free }

-- a session of this client is new, and is lent to this connection
abbrev pub after_new : {E P : Type 0} → Books E P → List ℕ → ℕ → Books E P
after_new b client connection =
    entered (record { rows = map.insert b.rows b.made (new_row client connection); made = b.made + 1; assigned = b.assigned; waits = b.waits; kicked = b.kicked; free = b.free }) connection

-- the name with this number was given
abbrev pub after_name : {E P : Type 0} → Books E P → ℕ → Books E P
after_name b number = record { rows = b.rows; made = b.made; assigned = number; waits = b.waits; kicked = b.kicked; free = b.free }

-- the session in this row is lent to this connection
abbrev pub after_lend : {E P : Type 0} → Books E P → ℕ → Row E P → ℕ → Books E P
after_lend b number row connection = entered (with_rows b (map.insert b.rows number (with_holder row (Lent connection)))) connection

-- this connection waits for the session, and its holder is kicked
abbrev pub after_replace : {E P : Type 0} → Books E P → ℕ → Row E P → ℕ → ℕ → Books E P
after_replace b number row connection holder =
    record {
      rows = map.insert b.rows number (with_wait row connection);
      made = b.made;
      assigned = b.assigned;
      waits = slice_set b.waits connection (Some number);
      kicked = slice_set b.kicked holder true;
      free = b.free;
    }

-- the connection waits for nothing
abbrev pub after_withdraw : {E P : Type 0} → Books E P → ℕ → Books E P
after_withdraw b connection =
    record { rows = b.rows; made = b.made; assigned = b.assigned; waits = slice_set b.waits connection None; kicked = b.kicked; free = b.free }

-- the session in this row is parked
abbrev pub after_park : {E P : Type 0} → Books E P → ℕ → Row E P → Session E P → Books E P
after_park b number row session = with_rows b (map.insert b.rows number (with_holder row (Parked session)))

-- the session in this row is ending, and in the caller's hands
abbrev pub after_end : {E P : Type 0} → Books E P → ℕ → Row E P → Books E P
after_end b number row = with_rows b (map.insert b.rows number (away row.client))

-- the session in this row is ending, and kept
abbrev pub after_keep : {E P : Type 0} → Books E P → ℕ → Row E P → Session E P → Books E P
after_keep b number row session = with_rows b (map.insert b.rows number (with_holder row (Kept session)))

-- the session with this number is buried, and these places are free
abbrev pub after_bury : {E P : Type 0} → Books E P → ℕ → List (Option P) → Books E P
after_bury b number free =
    record { rows = map.remove b.rows number; made = b.made; assigned = b.assigned; waits = b.waits; kicked = b.kicked; free = free }

-- these places are free
abbrev pub with_free : {E P : Type 0} → Books E P → List (Option P) → Books E P
with_free b free = record { rows = b.rows; made = b.made; assigned = b.assigned; waits = b.waits; kicked = b.kicked; free = free }
