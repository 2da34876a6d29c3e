-- A row of 256 bits, in four words.
use Rattle.std.specs.Prelude.{◌≡◌, ℕ, ◌-◌, ◌/◌, ◌%◌, ◌<◌, ◌≤◌, List, slice_index}
use Rattle.std.specs.Int.{bit_at}

abbrev pub bit : List ℕ → ℕ → ℕ
bit words k = bit_at (slice_index words (k / 64)) (k % 64)

-- each bit is 1
abbrev pub AreAllFree : List ℕ → Type 0
AreAllFree words = (k : ℕ) → k < 256 → bit words k ≡ 1

-- the identifier is the first whose bit is 1
pub record IsLeastBit (words : List ℕ) (identifier : ℕ) : Type 0 where
  pub not_zero : 1 ≤ identifier
  pub small : identifier ≤ 256
  pub set : bit words (identifier - 1) ≡ 1
  pub least : (k : ℕ) → k < identifier - 1 → bit words k ≡ 0
