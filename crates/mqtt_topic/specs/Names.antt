-- Which texts are topic names, filters and shares (sections 4.7.1, 4.7.3 and 4.8.2), and the first refusal of one that is none.
use Rattle.std.specs.Prelude.{◌≡◌, ℕ, ◌-◌, ◌<◌, ◌&&◌, ◌||◌, nat_eq, not, bytes_eq, Bool, true, false, if◌then◌else◌, List, [], ◌∷◌, ◌+◌, ◌++◌, length, take, drop, codes, position, Option, Some, None, Result, Ok, Err}
use Rattle.std.specs.List.{list_any, starts_with}
use Rattle.mqtt_topic.specs.declared.error.TopicError.{TopicError}
use Rattle.mqtt_topic.specs.declared.error.TopicError.TheVariants.{Empty, BadWildcard, BadShare, NotShared}
use Rattle.mqtt_topic.specs.Levels.{is_separator, levels_of, is_wildcard, is_multi_level}

-- no wildcard stands in the text
abbrev pub is_plain : List ℕ → Bool
is_plain text = not (list_any is_wildcard text)

-- the text, or the refusal, by two tests: it has a character, and its wildcards are in place
abbrev pub tested : Bool → Bool → List ℕ → Result (List ℕ) TopicError
tested some placed text = if some then (if placed then Ok text else Err BadWildcard) else Err Empty

abbrev pub is_some_text : List ℕ → Bool
is_some_text [] = false
is_some_text (byte ∷ bytes) = true

-- 4.7.3 and 3.3.2.1: a topic name has at least one character and no wildcard
unfoldable pub name_of : List ℕ → Result (List ℕ) TopicError
name_of text = tested (is_some_text text) (is_plain text) text

-- 4.7.1.2 and 4.7.1.3: a level is a wildcard in its place, `#` only as the last, or has none
abbrev pub is_placed : List ℕ → List (List ℕ) → Bool
is_placed level behind = is_multi_level level behind || bytes_eq level (43 ∷ []) || is_plain level

abbrev pub are_placed : List (List ℕ) → Bool
are_placed [] = true
are_placed (level ∷ levels) = is_placed level levels && are_placed levels

-- 4.7.3: a filter has at least one character, and its wildcards stand so
unfoldable pub filter_of : List ℕ → Result (List ℕ) TopicError
filter_of text = tested (is_some_text text) (are_placed (levels_of text)) text

-- a text that passed its check, or the refusal
abbrev pub checked : List ℕ → Result (Unit {0}) TopicError → Result (List ℕ) TopicError
checked text (Ok done) = Ok text
checked text (Err refusal) = Err refusal

-- a share: its text, and the Share Name and the filter in it
pub record Share : Type 0 where
  pub text : List ℕ
  pub name : List ℕ
  pub filter : List ℕ

-- the share whose filter begins at that place of its text
abbrev pub share_at : List ℕ → ℕ → Share
share_at text at = record { text = text; name = take (at - 8) (drop 7 text); filter = drop at text }

-- the share whose filter was found, or the refusal
abbrev pub share_from : List ℕ → Result ℕ TopicError → Result Share TopicError
share_from text (Ok at) = Ok (share_at text at)
share_from text (Err refusal) = Err refusal

-- a place after `$share/`, as a place of the text
abbrev pub moved : Result ℕ TopicError → Result ℕ TopicError
moved (Ok at) = Ok (7 + at)
moved (Err refusal) = Err refusal

abbrev pub with_filter : List ℕ → List ℕ → Result (List ℕ) TopicError → Result Share TopicError
with_filter text name (Ok filter) = Ok (record { text = text; name = name; filter = filter })
with_filter text name (Err refusal) = Err refusal

-- 4.8.2: after `$share/`, a Share Name of at least one character without `+` and `#` up to the first `/`, and a filter
abbrev pub share_cut : List ℕ → List ℕ → Option ℕ → Result Share TopicError
share_cut text rest None = Err BadShare
share_cut text rest (Some at) =
    if is_some_text (take at rest) && is_plain (take at rest) then with_filter text (take at rest) (filter_of (drop (at + 1) rest)) else Err BadShare

-- 4.8.2: the share that a text is, `$share/NAME/FILTER`
unfoldable pub share_of : List ℕ → Result Share TopicError
share_of text = if starts_with nat_eq text (codes "$share/") then share_cut text (drop 7 text) (position is_separator (drop 7 text)) else Err NotShared

-- 4.8.2, as it reads: the text is `$share/`, a Share Name, a `/` and a filter; the name has a character, and none of `/`, `+`
-- and `#`
pub record Spells (text : List ℕ) (share : Share) : Type 0 where
  pub whole : share.text ≡ text
  pub parts : text ≡ codes "$share/" ++ share.name ++ codes "/" ++ share.filter
  pub some_name : 0 < length share.name
  pub plain_name : is_plain share.name ≡ true
  pub one_level : list_any is_separator share.name ≡ false
  pub filter_is : filter_of share.filter ≡ Ok share.filter
