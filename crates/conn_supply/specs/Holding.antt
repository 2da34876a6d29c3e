-- What is out at a place: the messages that its member holds, and no others.
use Rattle.std.specs.Prelude.{◌≡◌, ℕ, List, [], ◌∷◌, ◌++◌, map, Option, Some, None, Result, Ok, Err}
use Rattle.group_jobs.specs.Stamps.{Held, under}
use Rattle.member_window.specs.Contents.{Contents, held_of}
use Rattle.session_desk.specs.declared.session.Session.{Session}
use Rattle.session_desk.specs.declared.session.Membership.{Membership}
use Rattle.session_desk.specs.declared.session.Membership.TheVariants.{NotMember, Member, Leaving}
use Rattle.conn_supply.specs.declared.supply.NoMemory.{NoMemory}

-- the messages of a window, in order of first sending
abbrev pub messages : Contents Held → List Held
messages window = map (λ entry. entry.1) (held_of window)

-- one of these messages, and the others in their order
pub record IsOneOf (all : List Held) (envelope : Held) (others : List Held) : Type 0 where
  pub before : List Held
  pub behind : List Held
  pub together : all ≡ before ++ envelope ∷ behind
  pub apart : others ≡ before ++ behind

-- these, and after them the message that was found, if one was, under that Subscription Identifier
abbrev pub with_found : List Held → Option ℕ → Result (Option Held) NoMemory → List Held
with_found all subscription (Ok (Some envelope)) = all ++ under subscription envelope ∷ []
with_found all subscription (Ok None) = all
with_found all subscription (Err refusal) = all

module _ {P : Type 0} (HasOut : P → List Held → Type 0) where
  -- what a member holds is out at its place; who is no member holds nothing
  abbrev pub AreOut : Membership P → List Held → Type 0
  AreOut NotMember all = all ≡ []
  AreOut (Member place) all = HasOut place all
  AreOut (Leaving place) all = HasOut place all

  abbrev pub IsOutAtPlace : Session Held P → Type 0
  IsOutAtPlace session = AreOut session.membership (messages session.window)

  -- the same messages are out with another membership
  abbrev pub StayOut : Membership P → Membership P → Type 0
  StayOut membership membership' = (all : List Held) → AreOut membership all → AreOut membership' all

  -- a message is among those that are out at a place
  pub record IsAmong (place : P) (envelope : Held) : Type 0 where
    pub all : List Held
    pub others : List Held
    pub one : IsOneOf all envelope others
    pub out : HasOut place all

  -- a place has out what it had
  abbrev pub KeepsOut : P → P → Type 0
  KeepsOut old new = (all : List Held) → HasOut old all → HasOut new all

  -- and the message that was found, under whatever Subscription Identifier it is sent
  abbrev pub FindsOut : P → Result (Option Held) NoMemory → P → Type 0
  FindsOut old found new = (all : List Held) (subscription : Option ℕ) → HasOut old all → HasOut new (with_found all subscription found)

  -- all but this message
  abbrev pub SpendsOut : P → Held → P → Type 0
  SpendsOut old envelope new = (all others : List Held) → IsOneOf all envelope others → HasOut old all → HasOut new others

  -- all but this message, where it was given back
  abbrev pub ReturnsOut : P → Held → Result (Unit {0}) Held → P → Type 0
  ReturnsOut old envelope (Ok _) new = SpendsOut old envelope new
  ReturnsOut old envelope (Err back) new = KeepsOut old new
