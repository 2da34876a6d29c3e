-- How a line is cut into its parts, and steps that may find nothing.
use Rattle.std.specs.Prelude.{ℕ, ◌+◌, ◌==◌, ◌||◌, Bool, false, if◌then◌else◌, List, [], ◌∷◌, take, drop, position, Option, option_and_then}
use Rattle.std.specs.Option.{option_map}

infixl 10 ◌>>=◌
abbrev pub ◌>>=◌ : {A B : Type 0} → Option A → (A → Option B) → Option B
found >>= next = option_and_then next found

-- what stands in front of the first separator, and what behind it
unfoldable pub cut : ℕ → List ℕ → Option (List ℕ × List ℕ)
cut separator text = option_map (λ at. (take at text, drop (at + 1) text)) (position (λ byte. byte == separator) text)

-- a space or a tab
abbrev pub is_blank : ℕ → Bool
is_blank byte = byte == 32 || byte == 9

abbrev pub begins_blank : List ℕ → Bool
begins_blank [] = false
begins_blank (byte ∷ bytes) = is_blank byte

-- what follows the spaces and tabs in front
abbrev pub without_blanks : List ℕ → List ℕ
without_blanks [] = []
without_blanks (byte ∷ bytes) = if is_blank byte then without_blanks bytes else byte ∷ bytes
