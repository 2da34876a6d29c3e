-- The calls of a window: what each needs of its caller, what it answers, and what it makes of the window.
use Rattle.std.specs.Prelude.{◌≡◌, ℕ, ◌<◌, ◌≤◌, true, false, List, [], ◌∷◌, length, Option, Some, None, Result, Ok, Err, Contains}
use Rattle.std.specs.Borrow.{Bor}
use Rattle.limits.specs.Limits.{most_unacknowledged}
use Rattle.member_window.specs.Identifiers.{identifiers, IsLeastFree}
use Rattle.member_window.specs.Contents.{Contents, held_of, HasRoom, IsDown, IsNextResend, after_up, after_down, after_put, after_resend, after_ack, after_take, after_restore}

-- the entry that an answer lends: its identifier, and the item that its reference points to
abbrev pub lent_entry : {T : Type 0} → Option (ℕ × Bor T) → Option (ℕ × T)
lent_entry None = None
lent_entry (Some lent) = Some (lent.0, lent.1.now)

-- a call that changes a window, with its arguments and its answer. A PUBACK's reason code is the caller's: the window doesn't see it
pub data Call (T : Type 0) : Type 0 where
  Up : (receive_maximum : ℕ) → Call T
  Down : Call T
  Put : (item : T) → (answer : Result ℕ T) → Call T
  NextResend : (answer : Option (ℕ × T)) → Call T
  Ack : (identifier code : ℕ) → (answer : Option T) → Call T
  TakeFirst : (answer : Option (ℕ × T)) → Call T
  Restore : (identifier : ℕ) → (item : T) → Call T

-- `put` sends the item under the least free identifier exactly where there is room, and else hands it back
abbrev pub Puts : {T : Type 0} → Contents T → T → Result ℕ T → Contents T → Type 0
Puts old item (Ok identifier) new = HasRoom old × IsLeastFree (identifiers (held_of old)) identifier × (new ≡ after_put old identifier item)
Puts old item (Err back) new = ¬ HasRoom old × (back ≡ item) × (new ≡ old)

-- `next_resend` sends the first waiting item again, where the quota lets it
abbrev pub Resends : {T : Type 0} → Contents T → Option (ℕ × T) → Contents T → Type 0
Resends old answer new = IsNextResend old answer × (new ≡ after_resend old answer)

-- `ack` takes the item with this identifier out; where there is none it changes nothing
abbrev pub Acks : {T : Type 0} → Contents T → ℕ → Option T → Contents T → Type 0
Acks old identifier (Some item) new = Contains (held_of old) (identifier, item) × (new ≡ after_ack old identifier)
Acks old identifier None new = ¬ Contains (identifiers (held_of old)) identifier × (new ≡ old)

-- `take_first` takes the oldest item out
abbrev pub Takes : {T : Type 0} → Contents T → Option (ℕ × T) → Contents T → Type 0
Takes {T} old (Some entry) new = (rest : List (ℕ × T)) × (held_of old ≡ entry ∷ rest) × (new ≡ after_take old rest)
Takes old None new = (held_of old ≡ []) × (new ≡ after_take old [])

-- an item may be put back under this identifier
pub record MayRestore {T : Type 0} (w : Contents T) (identifier : ℕ) : Type 0 where
  pub retired : w.retired ≡ true
  pub few : length (held_of w) < most_unacknowledged
  pub not_zero : 1 ≤ identifier
  pub small : identifier ≤ most_unacknowledged
  pub free : ¬ Contains (identifiers (held_of w)) identifier

-- what a call needs of its caller: an ending session is never attached, so after a `take_first` no `up` and no `ack` follows
abbrev pub IsAllowed : {T : Type 0} → Contents T → Call T → Type 0
IsAllowed w (Up receive_maximum) = w.retired ≡ false
IsAllowed w Down = Unit {0}
IsAllowed w (Put item answer) = Unit {0}
IsAllowed w (NextResend answer) = Unit {0}
IsAllowed w (Ack identifier code answer) = w.retired ≡ false
IsAllowed w (TakeFirst answer) = IsDown w
IsAllowed w (Restore identifier item) = MayRestore w identifier

-- what a call makes of the window
abbrev pub Makes : {T : Type 0} → Contents T → Call T → Contents T → Type 0
Makes old (Up receive_maximum) new = new ≡ after_up old receive_maximum
Makes old Down new = new ≡ after_down old
Makes old (Put item answer) new = Puts old item answer new
Makes old (NextResend answer) new = Resends old answer new
Makes old (Ack identifier code answer) new = Acks old identifier answer new
Makes old (TakeFirst answer) new = Takes old answer new
Makes old (Restore identifier item) new = new ≡ after_restore old identifier item
