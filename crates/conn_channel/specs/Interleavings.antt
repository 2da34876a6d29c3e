-- Interleavings: one list that several lists make up, each keeping its order.
use Rattle.std.specs.Prelude.{◌≡◌, ℕ, List, [], ◌∷◌, slice_set}
use mathlib.Core.Option.{some}
use lib.ListN.{get_elem?}

-- the first element is the first of one of the lists, and the others are an interleaving of what is left of them
abbrev pub IsInterleaving : {T : Type 0} → List T → List (List T) → Type 0
IsInterleaving [] lists = (i : ℕ) (list : List _) → get_elem? lists i ≡ some list → list ≡ []
IsInterleaving (x ∷ rest) lists = (i : ℕ) × (list : List _) × (get_elem? lists i ≡ some (x ∷ list)) × IsInterleaving rest (slice_set lists i list)
