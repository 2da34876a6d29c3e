-- Levels of a text, and which names a filter matches (section 4.7).
use Rattle.std.specs.Prelude.{◌≡◌, ℕ, ◌<◌, ◌==◌, ◌&&◌, ◌||◌, not, bytes_eq, Bool, true, false, if◌then◌else◌, List, [], ◌∷◌, length, Option, Some, None}
use Rattle.std.specs.List.{All, list_any, join_with_byte}
use Rattle.std.specs.Option.{option_map}
use Rattle.std.specs.Borrow.{Bor}

-- a character in front of the first level
abbrev pub onto_first : ℕ → List (List ℕ) → List (List ℕ)
onto_first byte [] = (byte ∷ []) ∷ []
onto_first byte (level ∷ levels) = (byte ∷ level) ∷ levels

-- the Topic Level Separator `/` (4.7.1.1)
abbrev pub is_separator : ℕ → Bool
is_separator byte = byte == 47

-- 4.7.1.1: a text is cut at each separator into levels, at least one, which may be empty
unfoldable pub levels_of : List ℕ → List (List ℕ)
levels_of [] = [] ∷ []
levels_of (byte ∷ bytes) = if is_separator byte then [] ∷ levels_of bytes else onto_first byte (levels_of bytes)

-- 4.7.1.1, as it reads: levels, at least one and none with a separator, which joined by separators are the text
pub record IsCut (text : List ℕ) (levels : List (List ℕ)) : Type 0 where
  pub some_level : 0 < length levels
  pub one_level : All (λ level. list_any is_separator level ≡ false) levels
  pub joined : join_with_byte 47 levels ≡ text

-- the levels of what is left of a text, where a level is left
abbrev pub levels_left : Option (List ℕ) → List (List ℕ)
levels_left None = []
levels_left (Some text) = levels_of text

abbrev pub text_left : Option (Bor (List ℕ)) → Option (List ℕ)
text_left rest = option_map (λ (text : Bor (List ℕ)). text.now) rest

-- 4.7.1.2: the Multi-Level Wildcard `#` alone
abbrev pub is_multi_level : List ℕ → List (List ℕ) → Bool
is_multi_level level [] = bytes_eq level (35 ∷ [])
is_multi_level level (next ∷ levels) = false

-- 4.7.1.3: the Single-Level Wildcard `+`, or the level itself
abbrev pub admits : List ℕ → List ℕ → Bool
admits level name = bytes_eq level (43 ∷ []) || bytes_eq level name

-- 4.7.1, by the levels of a filter and of a name: `#` alone matches whatever levels are left, also none; nothing left
-- matches nothing left; a first level that admits the name's leaves the rest of both; else nothing matches
abbrev pub matches_levels : List (List ℕ) → List (List ℕ) → Bool
matches_levels [] [] = true
matches_levels [] (name ∷ names) = false
matches_levels (level ∷ levels) [] = is_multi_level level levels
matches_levels (level ∷ levels) (name ∷ names) = is_multi_level level levels || (admits level name && matches_levels levels names)

-- 4.7.1.2 and 4.7.1.3: the wildcards, which a topic name does not contain
abbrev pub is_wildcard : ℕ → Bool
is_wildcard byte = byte == 35 || byte == 43

-- the first character passes a test
abbrev pub begins : (ℕ → Bool) → List ℕ → Bool
begins test [] = false
begins test (byte ∷ bytes) = test byte

abbrev pub is_dollar : ℕ → Bool
is_dollar byte = byte == 36

-- 4.7.2: a filter that begins with a wildcard matches no name that begins with `$`
abbrev pub is_hidden : List ℕ → List ℕ → Bool
is_hidden filter name = begins is_wildcard filter && begins is_dollar name

-- 4.7: the filter matches the name
unfoldable pub matches : List ℕ → List ℕ → Bool
matches filter name = not (is_hidden filter name) && matches_levels (levels_of filter) (levels_of name)
