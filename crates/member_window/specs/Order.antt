-- How a window keeps its entries: in order of first sending, with a row of bits beside them. No public clause cites this module.
use Rattle.std.specs.Prelude.{◌≡◌, ◌↔◌, ℕ, ◌-◌, ◌≤◌, List, length, Contains, refl}
use Rattle.std.specs.Coded.{Coded, code_by, coded×, coded_ℕ, coded_list}
use Rattle.member_window.specs.Contents.{AreEntries}
use Rattle.member_window.specs.Free.{bit}
use Rattle.member_window.specs.Identifiers.{identifiers}

-- what is held, in order of first sending, and how many of these, from the oldest on, are owed
pub record Held (T : Type 0) : Type 0 where
  pub all : List (ℕ × T)
  pub owed : ℕ

abbrev pub held_code : {T : Type 0} → Coded T → Coded (Held T)
held_code {T} code = code_by (List (ℕ × T) × ℕ) (coded× (coded_list (coded× coded_ℕ code)) coded_ℕ) (λ h. (h.all, h.owed)) (λ p. record { all = p.0; owed = p.1 }) (λ _. refl)

-- the bit of an identifier is 0 exactly where it is used
abbrev pub AreBitsOf : List ℕ → List ℕ → Type 0
AreBitsOf words used = (k : ℕ) → 1 ≤ k → k ≤ 256 → (bit words (k - 1) ≡ 0) ↔ Contains used k

-- the first of the entries are owed, there is room for 256 of them, and the bits say which identifiers they have
pub record IsOrder {T : Type 0} (entries : List (ℕ × T)) (words : List ℕ) (owed capacity : ℕ) : Type 0 where
  pub within : owed ≤ length entries
  pub sound : AreEntries entries
  pub room : 256 ≤ capacity
  pub bits : AreBitsOf words (identifiers entries)
