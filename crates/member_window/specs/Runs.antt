-- Lists of calls of one window: the transcript that they make, and where it leaves the session.
use Rattle.std.specs.Prelude.{◌≡◌, Bool, true, false, List, [], ◌∷◌, ◌++◌, Some, None, Ok, Err}
use Rattle.member_window.specs.Identifiers.{identifiers}
use Rattle.member_window.specs.Marks.{Mark, WindowState}
use Rattle.member_window.specs.Marks as marks
use Rattle.member_window.specs.Contents.{Contents, held_of}
use Rattle.member_window.specs.Calls.{Call, Up, Down, Put, NextResend, Ack, TakeFirst, Restore, IsAllowed, Makes}

-- these calls, one after the other, each of them allowed, make new of old
abbrev pub MakesAll : {T : Type 0} → Contents T → List (Call T) → Contents T → Type 0
MakesAll old [] new = new ≡ old
MakesAll {T} old (call ∷ calls) new = IsAllowed old call × ((mid : Contents T) × Makes old call mid × MakesAll mid calls new)

-- the mark that a call adds to the transcript, if it adds one: what is put is sent with DUP 0, what is sent again with DUP 1 (3.3.1.1)
abbrev pub marks_of : {T : Type 0} → Call T → List (Mark T)
marks_of (Up receive_maximum) = marks.Up receive_maximum ∷ []
marks_of Down = marks.Down ∷ []
marks_of (Put item (Ok identifier)) = marks.Sent identifier false item ∷ []
marks_of (Put item (Err back)) = []
marks_of (NextResend (Some entry)) = marks.Sent entry.0 true entry.1 ∷ []
marks_of (NextResend None) = []
marks_of (Ack identifier code (Some item)) = marks.Acked identifier code ∷ []
marks_of (Ack identifier code None) = []
marks_of (TakeFirst answer) = []
marks_of (Restore identifier item) = []

-- the transcript of these calls
abbrev pub transcript_of : {T : Type 0} → List (Call T) → List (Mark T)
transcript_of [] = []
transcript_of (call ∷ calls) = marks_of call ++ transcript_of calls

-- where a transcript has left the session that has this window
abbrev pub window_state : {T : Type 0} → Contents T → WindowState T
window_state w = record { held = held_of w; owed = identifiers w.owed; quota = w.quota }

-- with this call its session is ending
abbrev pub is_take_first : {T : Type 0} → Call T → Bool
is_take_first (Up receive_maximum) = false
is_take_first Down = false
is_take_first (Put item answer) = false
is_take_first (NextResend answer) = false
is_take_first (Ack identifier code answer) = false
is_take_first (TakeFirst answer) = true
is_take_first (Restore identifier item) = false
