-- The words of a line, and the numbers among them (profile).
use Rattle.std.specs.Prelude.{ℕ, ◌+◌, ◌*◌, ◌-◌, ◌^◌, nat_lt, Bool, true, false, if◌then◌else◌, List, [], ◌∷◌, Option, Some, None}
use Rattle.std.specs.Char.{is_ascii_digit}
use Rattle.text_io.specs.Lines.{cut_at}

-- a line is cut at each blank
abbrev pub words_of : List ℕ → List (List ℕ)
words_of line = cut_at 32 ([] ∷ []) line

-- the words that are left of a line, where some are
abbrev pub words_left : Bool → List ℕ → List (List ℕ)
words_left true line = []
words_left false line = words_of line

-- a number below a bound
abbrev pub if_below : ℕ → ℕ → Option ℕ
if_below bound number = if nat_lt number bound then Some number else None

-- a number with one digit more after it, below 2^64
abbrev pub with_digit : ℕ → ℕ → Option ℕ
with_digit number byte = if is_ascii_digit byte then if_below (2 ^ 64) (number * 10 + (byte - 48)) else None

abbrev pub with_digits : Option ℕ → List ℕ → Option ℕ
with_digits None digits = None
with_digits (Some number) [] = Some number
with_digits (Some number) (byte ∷ bytes) = with_digits (with_digit number byte) bytes

-- a number in decimal, at least one digit, below 2^64
abbrev pub number_of : List ℕ → Option ℕ
number_of [] = None
number_of (digit ∷ digits) = with_digits (Some 0) (digit ∷ digits)

-- the number of a connection, below 64
abbrev pub if_connection : Option ℕ → Option ℕ
if_connection None = None
if_connection (Some number) = if_below 64 number

abbrev pub connection_of : List ℕ → Option ℕ
connection_of word = if_connection (number_of word)
