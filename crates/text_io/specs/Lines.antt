-- The lines of an input (profile).
use Rattle.std.specs.Prelude.{ℕ, ◌==◌, if◌then◌else◌, List, [], ◌∷◌, ◌++◌}

-- a byte at the front of the first piece
abbrev pub onto_first : ℕ → List (List ℕ) → List (List ℕ)
onto_first byte [] = (byte ∷ []) ∷ []
onto_first byte (piece ∷ pieces) = (byte ∷ piece) ∷ pieces

-- the pieces between separators, where `last` is what stands behind the last separator if nothing follows it
abbrev pub cut_at : ℕ → List (List ℕ) → List ℕ → List (List ℕ)
cut_at separator last [] = last
cut_at separator last (byte ∷ bytes) = if byte == separator then [] ∷ cut_at separator last bytes else onto_first byte (cut_at separator last bytes)

-- the lines: each ends at a byte 0A, and where nothing follows the last 0A, nothing is no line
abbrev pub lines_of : List ℕ → List (List ℕ)
lines_of input = cut_at 10 [] input

-- a line and the 0A that ends it
abbrev pub with_end : List ℕ → List ℕ
with_end line = line ++ 10 ∷ []
