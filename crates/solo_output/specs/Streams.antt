-- The stream that the lines of an input spell (profile).
use Rattle.std.specs.Prelude.{ℕ, ◌+◌, List, [], ◌∷◌, ◌++◌, Result, Ok, Err}
use Rattle.hex.specs.Hex.{decode_of}
use Rattle.hex.specs.declared.error.FromHexError.{FromHexError}
use Rattle.text_io.specs.Lines.{lines_of}

-- the bytes of a line in front of those of the lines after it, or the number of the first line that is not hex
abbrev pub joined : Result (List ℕ) FromHexError → ℕ → Result (List ℕ) ℕ → Result (List ℕ) ℕ
joined (Err error) number later = Err number
joined (Ok bytes) number (Ok more) = Ok (bytes ++ more)
joined (Ok bytes) number (Err line) = Err line

-- the bytes of the lines, each an even number of hex digits of either case, the first having this number
abbrev pub stream_from : ℕ → List (List ℕ) → Result (List ℕ) ℕ
stream_from number [] = Ok []
stream_from number (line ∷ lines) = joined (decode_of line) number (stream_from (number + 1) lines)

-- the stream that an input spells, or the number, from 1, of its first line that is not hex
abbrev pub stream_of : List ℕ → Result (List ℕ) ℕ
stream_of input = stream_from 1 (lines_of input)
