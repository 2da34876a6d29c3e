-- The events that the stream of one client spells, in lines of hex digits (profile).
use Rattle.std.specs.Prelude.{ℕ, ◌+◌, List, [], ◌∷◌, Option, Some, None, Result, Ok, Err}
use Rattle.hex.specs.Hex.{decode_of}
use Rattle.hex.specs.declared.error.FromHexError.{FromHexError}
use Rattle.text_io.specs.Lines.{lines_of}
use Rattle.local_server.specs.declared.event.ServerEvent.{ServerEvent}
use Rattle.local_server.specs.declared.event.ServerEvent.TheVariants.{Open, Bytes, End}
use Rattle.local_server.specs.declared.event.TimedEvent.{TimedEvent}
use Rattle.drive.specs.Scripts.{followed_by}

-- all happens at the moment 0
abbrev pub at_once : ServerEvent → TimedEvent
at_once event = record { moment = 0; event = event }

-- a piece of the stream: an even number of hex digits of either case, perhaps none
abbrev pub piece_of : Result (List ℕ) FromHexError → Option TimedEvent
piece_of (Ok piece) = Some (at_once (Bytes 0 piece))
piece_of (Err error) = None

-- a piece for each line, the first having this number, and then the stream ends; or the number of the first line that is not hex
abbrev pub pieces_from : ℕ → List (List ℕ) → Result (List TimedEvent) ℕ
pieces_from number [] = Ok (at_once (End 0) ∷ [])
pieces_from number (line ∷ lines) = followed_by (piece_of (decode_of line)) number (pieces_from (number + 1) lines)

-- after the opening of the connection
abbrev pub behind_opening : Result (List TimedEvent) ℕ → Result (List TimedEvent) ℕ
behind_opening (Ok events) = Ok (at_once (Open 0) ∷ events)
behind_opening (Err line) = Err line

-- the life of one connection, whose client sends the stream that an input spells; or the number, from 1, of the first line that is not hex
abbrev pub client_script_of : List ℕ → Result (List TimedEvent) ℕ
client_script_of input = behind_opening (pieces_from 1 (lines_of input))
