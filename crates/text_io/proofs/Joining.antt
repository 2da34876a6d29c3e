-- The lines of an input, each with its end.
use Rattle.std.proofs.Common.{◌≡◌, ◌⊎◌, ◌==◌, ◌||◌, false, ℕ, List, [], ◌∷◌, ◌++◌, refl, sym, ap, ◌∙◌, inl, inr, eqb-true}
use Rattle.std.specs.List.{AllByRecursion, flat_map, list_any}
use Rattle.std.proofs.lemmas.Bool.{cond_both}
use Rattle.text_io.specs.Lines.{onto_first, lines_of, with_end}

abbrev AreWhole : List (List ℕ) → Type 0
AreWhole lines = AllByRecursion (λ line. list_any (λ byte. byte == 10) line ≡ false) lines

abbrev Joins : List (List ℕ) → List ℕ → Type 0
Joins lines input = (flat_map with_end lines ≡ input) ⊎ (flat_map with_end lines ≡ input ++ 10 ∷ [])

onto_whole : (byte : ℕ) (pieces : List (List ℕ)) → (byte == 10) ≡ false → AreWhole pieces → AreWhole (onto_first byte pieces)
onto_whole byte [] other whole' = (ap (λ b. b || false) other, tt)
onto_whole byte (piece ∷ pieces) other whole' = (ap (λ b. b || list_any (λ byte. byte == 10) piece) other ∙ whole'.0, whole'.1)

pub whole : (input : List ℕ) → AreWhole (lines_of input)
whole [] = tt
whole (byte ∷ bytes) =
    cond_both (byte == 10) ([] ∷ lines_of bytes) (onto_first byte (lines_of bytes)) AreWhole
    (λ ends. (refl, whole bytes))
    (λ other. onto_whole byte (lines_of bytes) other (whole bytes))

not_nothing : (bytes : List ℕ) → [] ≡ bytes ++ 10 ∷ [] → ⊥
not_nothing [] e = cc
not_nothing (byte ∷ bytes) e = cc

ends_joined : (byte : ℕ) (bytes : List ℕ) (lines : List (List ℕ)) → byte ≡ 10 → Joins lines bytes → Joins ([] ∷ lines) (byte ∷ bytes)
ends_joined byte bytes lines is (inl e) = inl (ap (λ xs. 10 ∷ xs) e ∙ ap (λ b. b ∷ bytes) (sym is))
ends_joined byte bytes lines is (inr e) = inr (ap (λ xs. 10 ∷ xs) e ∙ ap (λ b. b ∷ (bytes ++ 10 ∷ [])) (sym is))

onto_joined : (byte : ℕ) (bytes : List ℕ) (pieces : List (List ℕ)) → Joins pieces bytes → Joins (onto_first byte pieces) (byte ∷ bytes)
onto_joined byte bytes [] (inl e) = inr (ap (λ xs. byte ∷ (xs ++ 10 ∷ [])) e)
onto_joined byte bytes [] (inr e) = absurd (not_nothing bytes e)
onto_joined byte bytes (piece ∷ pieces) (inl e) = inl (ap (λ xs. byte ∷ xs) e)
onto_joined byte bytes (piece ∷ pieces) (inr e) = inr (ap (λ xs. byte ∷ xs) e)

pub joined : (input : List ℕ) → Joins (lines_of input) input
joined [] = inl refl
joined (byte ∷ bytes) =
    cond_both (byte == 10) ([] ∷ lines_of bytes) (onto_first byte (lines_of bytes)) (λ lines. Joins lines (byte ∷ bytes))
    (λ ends. ends_joined byte bytes (lines_of bytes) (eqb-true byte 10 ends) (joined bytes))
    (λ other. onto_joined byte bytes (lines_of bytes) (joined bytes))
