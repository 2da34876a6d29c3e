-- What a PUBACK does (section 3.4).
use Rattle.std.specs.Prelude.{◌≡◌, ℕ, Option, Some, None}
use Rattle.group_jobs.specs.Stamps.{Held}
use Rattle.member_window.specs.Contents.{Contents, IsSound}
use Rattle.member_window.specs.Calls.{Acks}
use Rattle.session_desk.specs.declared.session.Session.{Session}
use Rattle.session_desk.specs.declared.session.Membership.{Membership}
use Rattle.session_desk.specs.declared.session.Membership.TheVariants.{NotMember, Member, Leaving}
use Rattle.conn_rules.specs.Acknowledging.{fate_of}
use Rattle.conn_supply.specs.SupplyCalls.{SupplyCall}
use Rattle.conn_supply.specs.SupplyCalls.SupplyCall.{Settle}
use Rattle.conn_supply.specs.Memberships.{with_window, with_membership}

module _ {S P : Type 0} (call : S → SupplyCall P → S → Type 0) where
  -- the place settles the message that was found under the identifier: below 80 it is acknowledged, else refused
  abbrev pub Settles : S → P → ℕ → Option Held → P → S → Type 0
  Settles old place code None place' new = (place' ≡ place) × (new ≡ old)
  Settles old place code (Some envelope) place' new = call old (Settle place place' envelope (fate_of code)) new

  -- the message under this identifier is no longer in the window, and its place settles it; where there is none, nothing is done
  pub record SettlesIn (old : S) (place : P) (window : Contents Held) (identifier code : ℕ) (place' : P) (window' : Contents Held) (new : S) : Type 0 where
    -- one message at most is under an identifier
    pub sound : IsSound window
    pub found : Option Held
    pub acked : Acks window identifier found window'
    pub settled : Settles old place code found place' new

  -- a session that is no member holds nothing, and its PUBACK does nothing
  abbrev pub AcknowledgesFor : S → Membership P → Contents Held → ℕ → ℕ → Membership P → Contents Held → S → Type 0
  AcknowledgesFor old NotMember window identifier code membership' window' new = (membership' ≡ NotMember) × (window' ≡ window) × (new ≡ old)
  AcknowledgesFor old (Member place) window identifier code membership' window' new =
      (place' : P) × SettlesIn old place window identifier code place' window' new × (membership' ≡ Member place')
  AcknowledgesFor old (Leaving place) window identifier code membership' window' new =
      (place' : P) × SettlesIn old place window identifier code place' window' new × (membership' ≡ Leaving place')

  -- a PUBACK of this identifier and this Reason Code
  pub record Acknowledges (old : S) (session : Session Held P) (identifier code : ℕ) (session' : Session Held P) (new : S) : Type 0 where
    pub settles : AcknowledgesFor old session.membership session.window identifier code session'.membership session'.window new
    pub same : session' ≡ with_membership (with_window session session'.window) session'.membership
