-- The events that the lines of an input spell (profile).
use Rattle.std.specs.Prelude.{◌≡◌, ℕ, ◌+◌, ◌==◌, bytes_eq, codes, Bool, true, if◌then◌else◌, List, [], ◌∷◌, Option, Some, None, Result, Ok, Err}
use Rattle.hex.specs.Hex.{decode_of}
use Rattle.hex.specs.declared.error.FromHexError.{FromHexError}
use Rattle.text_io.specs.Lines.{lines_of}
use Rattle.text_io.specs.declared.error.RunError.{RunError}
use Rattle.text_io.specs.declared.error.RunError.TheVariants.{ReadFailed, TooManyReads, WriteFailed, Network, UsersUnread, NoRandomBytes, Memory, TooFewDescriptors, Unfinished, Line, UsersLine}
use Rattle.local_server.specs.declared.event.ServerEvent.{ServerEvent}
use Rattle.local_server.specs.declared.event.ServerEvent.TheVariants.{Open, Bytes, Tick, End, Close}
use Rattle.local_server.specs.declared.event.TimedEvent.{TimedEvent}
use Rattle.drive.specs.Words.{words_of, number_of, connection_of}

-- `close`
abbrev pub of_server : List ℕ → Option ServerEvent
of_server word = if bytes_eq word (codes "close") then Some Close else None

-- `open`, `tick` and `end`, each with the number of a connection
abbrev pub of_connection : List ℕ → Option ℕ → Option ServerEvent
of_connection word None = None
of_connection word (Some number) =
    if bytes_eq word (codes "open") then Some (Open number)
    else if bytes_eq word (codes "tick") then Some (Tick number)
    else if bytes_eq word (codes "end") then Some (End number) else None

-- `bytes`, with the number of a connection and an even number of hex digits of either case, perhaps none
abbrev pub of_piece : List ℕ → Option ℕ → Result (List ℕ) FromHexError → Option ServerEvent
of_piece word None piece = None
of_piece word (Some number) (Err error) = None
of_piece word (Some number) (Ok piece) = if bytes_eq word (codes "bytes") then Some (Bytes number piece) else None

-- the words after the moment
abbrev pub event_of : List (List ℕ) → Option ServerEvent
event_of (word ∷ []) = of_server word
event_of (word ∷ number ∷ []) = of_connection word (connection_of number)
event_of (word ∷ number ∷ digits ∷ []) = of_piece word (connection_of number) (decode_of digits)
event_of _ = None

abbrev pub at_moment : Option ℕ → Option ServerEvent → Option TimedEvent
at_moment None event = None
at_moment (Some moment) None = None
at_moment (Some moment) (Some event) = Some (record { moment = moment; event = event })

-- a moment in milliseconds, below 2^64, and an event
abbrev pub timed_event_of : List (List ℕ) → Option TimedEvent
timed_event_of [] = None
timed_event_of (moment ∷ words) = at_moment (number_of moment) (event_of words)

-- an empty line, and one that begins with `#`
abbrev pub is_passed_over : List ℕ → Bool
is_passed_over [] = true
is_passed_over (byte ∷ bytes) = byte == 35

-- the event of a line in front of those of the lines after it, or the number of the first line that spells none
abbrev pub followed_by : Option TimedEvent → ℕ → Result (List TimedEvent) ℕ → Result (List TimedEvent) ℕ
followed_by None number later = Err number
followed_by (Some event) number (Ok events) = Ok (event ∷ events)
followed_by (Some event) number (Err line) = Err line

-- the events of lines, the first having this number
abbrev pub script_from : ℕ → List (List ℕ) → Result (List TimedEvent) ℕ
script_from number [] = Ok []
script_from number (line ∷ lines) =
    if is_passed_over line then script_from (number + 1) lines
    else followed_by (timed_event_of (words_of line)) number (script_from (number + 1) lines)

-- the events that an input spells, or the number, from 1, of its first line that spells none
abbrev pub script_of : List ℕ → Result (List TimedEvent) ℕ
script_of input = script_from 1 (lines_of input)

-- an error of lines: memory was refused, or it names the first that spells no event
abbrev pub NamesBadLine : Result (List TimedEvent) ℕ → RunError → Type 0
NamesBadLine script ReadFailed = ⊥
NamesBadLine script TooManyReads = ⊥
NamesBadLine script (Network fault) = ⊥
NamesBadLine script Unfinished = ⊥
NamesBadLine script (WriteFailed fault) = ⊥
NamesBadLine script TooFewDescriptors = ⊥
NamesBadLine script Memory = Unit {0}
NamesBadLine script UsersUnread = ⊥
NamesBadLine script NoRandomBytes = ⊥
NamesBadLine script (UsersLine number) = ⊥
NamesBadLine script (Line number) = script ≡ Err number
