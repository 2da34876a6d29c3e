-- Packet identifiers of what a session was sent and has not acknowledged.
use Rattle.std.specs.Prelude.{ℕ, ◌<◌, ◌≤◌, ◌==◌, not, List, [], ◌∷◌, map, Contains}
use Rattle.std.specs.List.{filter}

-- the packet identifiers of these entries, each an identifier with its item (2.2.1)
abbrev pub identifiers : {T : Type 0} → List (ℕ × T) → List ℕ
identifiers entries = map (λ entry. entry.0) entries

-- the entries under other identifiers
abbrev pub entries_without : {T : Type 0} → ℕ → List (ℕ × T) → List (ℕ × T)
entries_without identifier entries = filter (λ entry. not (entry.0 == identifier)) entries

-- the other identifiers
abbrev pub identifiers_without : ℕ → List ℕ → List ℕ
identifiers_without identifier used = filter (λ other. not (other == identifier)) used

-- a packet identifier is never 0, and is used by nothing else that waits for its acknowledgement (2.2.1).
-- That it is the least such one is this profile's choice
pub record IsLeastFree (used : List ℕ) (identifier : ℕ) : Type 0 where
  pub not_zero : 1 ≤ identifier
  pub free : ¬ Contains used identifier
  pub least : (smaller : ℕ) → 1 ≤ smaller → smaller < identifier → Contains used smaller

-- no identifier stands there twice (2.2.1)
abbrev pub AreDistinct : List ℕ → Type 0
AreDistinct [] = Unit {0}
AreDistinct (identifier ∷ others) = ¬ Contains others identifier × AreDistinct others
