-- What a worker did that others may wait for, and how it is counted.
use Rattle.std.specs.Prelude.{◌≡◌, ℕ, ◌<◌, ◌+◌, ◌-◌, ◌^◌, min, true, false, replicate, slice_index, slice_set, Option, Some, None, Result, Ok, Err, List}
use Rattle.limits.specs.Limits.{most_groups}
use Rattle.session_desk.specs.declared.attached.Attached.{Attached}
use Rattle.session_desk.specs.declared.attached.Attached.TheVariants.{New, Resumed, Replace, Busy}
use Rattle.shared_supply.specs.declared.wakes.Wakes.{Wakes}
use Rattle.shared_supply.specs.declared.wakes.AskedBack.{AskedBack}
use Rattle.shared_supply.specs.declared.wakes.AskedBack.TheVariants.{Nobody, One, Several}

-- nobody has anything to wait for
abbrev pub no_wakes : Wakes
no_wakes = record { messages = replicate 8 0; calls = replicate 8 0; asked_back = Nobody; has_freed_session = false }

-- one message more in the group of this slot
abbrev pub one_more : ℕ → Wakes → Wakes
one_more slot wakes = record wakes { messages = slice_set wakes.messages slot (min (slice_index wakes.messages slot + 1) (2 ^ 32 - 1)) }

-- a message goes into the group of this slot where the answer is not an error
abbrev pub one_more_if : {T E : Type 0} → Result T E → ℕ → Wakes → Wakes
one_more_if (Ok done) slot wakes = one_more slot wakes
one_more_if (Err refusal) slot wakes = wakes

-- another worker called for a message of the group of this slot
abbrev pub one_called : ℕ → Wakes → Wakes
one_called slot wakes = record wakes { calls = slice_set wakes.calls slot (min (slice_index wakes.calls slot + 1) (2 ^ 32 - 1)) }

-- a message of the group of this slot is handed out: one less for which it was called, or else one less for others
abbrev pub one_taken : ℕ → Wakes → Wakes
one_taken slot wakes = record wakes {
  messages = slice_set wakes.messages slot (slice_index wakes.messages slot - (1 - slice_index wakes.calls slot));
  calls = slice_set wakes.calls slot (slice_index wakes.calls slot - 1);
}

-- it is where the answer has one
abbrev pub one_taken_if : {T E : Type 0} → Result (Option T) E → ℕ → Wakes → Wakes
one_taken_if (Ok (Some envelope)) slot wakes = one_taken slot wakes
one_taken_if (Ok None) slot wakes = wakes
one_taken_if (Err refusal) slot wakes = wakes

-- and then one fewer of those that are still to be handed out
abbrev pub one_fewer_if : {T E : Type 0} → Result (Option T) E → ℕ → ℕ
one_fewer_if (Ok (Some envelope)) allowance = allowance - 1
one_fewer_if (Ok None) allowance = allowance
one_fewer_if (Err refusal) allowance = allowance

-- of the messages of each group so many are kept at most, and the others are these
pub record KeepsAtMost (most others : List ℕ) (old new : Wakes) : Type 0 where
  pub kept : (slot : ℕ) → slot < most_groups → slice_index new.messages slot ≡ min (slice_index old.messages slot) (slice_index most slot)
  pub all : (slot : ℕ) → slot < most_groups → slice_index others slot + slice_index new.messages slot ≡ slice_index old.messages slot
  pub rest : new ≡ record old { messages = new.messages }

-- the session of this connection is asked back too
abbrev pub also_asked : AskedBack → ℕ → AskedBack
also_asked Nobody connection = One connection
also_asked (One other) connection = Several
also_asked Several connection = Several

-- a session is asked back where the desk answers so
abbrev pub asking_back : {S P E : Type 0} → Result (Attached S P) E → Wakes → Wakes
asking_back (Ok (Replace holder)) wakes = record wakes { asked_back = also_asked wakes.asked_back holder }
asking_back (Ok (New session ended)) wakes = wakes
asking_back (Ok (Resumed session)) wakes = wakes
asking_back (Ok Busy) wakes = wakes
asking_back (Err refusal) wakes = wakes

-- a session was parked, or ended
abbrev pub freeing : Wakes → Wakes
freeing wakes = record wakes { has_freed_session = true }
