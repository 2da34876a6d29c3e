-- A rule of what a desk of the tests has: each session holds few numbers, and each place is one of two.
use Rattle.std.specs.Prelude.{ℕ, ◌≤◌, length}
use Rattle.std.proofs.Common.{arith}
use Rattle.member_window.specs.Contents.{held_of}
use Rattle.session_desk.specs.Sessions.{Who}
use Rattle.session_desk.specs.Books.{new_session}
use Rattle.session_desk.specs.Everywhere.{IfMember}
use Rattle.session_desk.specs.declared.session.Session.{Session}
use Rattle.sessions_tests.specs.declared.spot.Spot.{Spot}
use Rattle.sessions_tests.specs.Spots.{number_of_spot}

abbrev pub IsOneOfTwo : Spot → Type 0
IsOneOfTwo place = number_of_spot place ≤ 1

-- at most ten, at one of the two places
abbrev pub HoldsFew : Session ℕ Spot → Type 0
HoldsFew session = (length (held_of session.window) ≤ 10) × IfMember IsOneOfTwo session.membership

-- a new session holds none
pub few_at_first : (who : Who) → HoldsFew (new_session who)
few_at_first who = (omega arith, tt)
