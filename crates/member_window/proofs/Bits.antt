-- A row of 256 bits, in four words: one bit set or cleared, and the first that is set.
use Rattle.std.proofs.Common.{◌≡◌, ◌≢◌, ℕ, ◌+◌, ◌-◌, ◌*◌, ◌/◌, ◌%◌, ◌^◌, ◌<◌, ◌≤◌, List, [], ◌∷◌, length, set, slice_index, sym, ap, ◌∙◌, ⊎_elim, arith, get_or-set_same, get_or-set_other}
use Rattle.std.proofs.lemmas.Bool.{cases_eq, cases_lt}
use Rattle.std.proofs.lemmas.List.{get_or-replicate}
use Rattle.std.proofs.lemmas.Nat.Bits.{bit_at-zero, bit_at_ones, bit_at-trailing_zeros, bit_at_set_same, bit_at_set_other, bit_at_clear_same, bit_at_clear_other}
use Rattle.std.specs.Prelude.{bit_or}
use Rattle.std.specs.Int.{bit_at, bit_not, trailing_zeros}
use Rattle.std.specs.Int.Bits.{bit_and}
use mir.Syntax.{w64}
use Rattle.member_window.specs.Free.{bit, AreAllFree, IsLeastBit}

abbrev all_ones : ℕ
all_ones = 18446744073709551615

pub ones_free : AreAllFree (all_ones ∷ all_ones ∷ all_ones ∷ all_ones ∷ [])
ones_free k lt =
    let word : k / 64 < 4 = omega arith in
    let low : k % 64 < 64 = omega arith in
    ap (λ (n : ℕ). bit_at n (k % 64)) (get_or-replicate 4 (k / 64) all_ones 0 word) ∙ bit_at_ones 64 (k % 64) low

-- the same place of the same word
same_place : (k p : ℕ) → k / 64 ≡ p / 64 → k % 64 ≡ p % 64 → k ≡ p
same_place k p word place = omega arith

module _ (words : List ℕ) (p : ℕ) (long : length words ≡ 4) (small : p < 256) where
  word_is : (value : ℕ) → slice_index (set words (p / 64) value) (p / 64) ≡ value
  word_is value = get_or-set_same words (p / 64) value 0 (let word : p / 64 < 4 = omega arith in omega arith)

  abbrev pub set_word : ℕ
  set_word = bit_or (slice_index words (p / 64)) (1 * 2 ^ (p % 64) % 2 ^ 64)

  abbrev pub clear_word : ℕ
  clear_word = bit_and (slice_index words (p / 64)) (bit_not w64 (1 * 2 ^ (p % 64) % 2 ^ 64))

  pub set_here : bit (set words (p / 64) set_word) p ≡ 1
  set_here = ap (λ (n : ℕ). bit_at n (p % 64)) (word_is set_word) ∙ bit_at_set_same w64 (slice_index words (p / 64)) (p % 64) (let low : p % 64 < 64 = omega arith in low)

  pub clear_here : bit (set words (p / 64) clear_word) p ≡ 0
  clear_here = ap (λ (n : ℕ). bit_at n (p % 64)) (word_is clear_word) ∙ bit_at_clear_same w64 (slice_index words (p / 64)) (p % 64) (let low : p % 64 < 64 = omega arith in low)

  -- another bit, where the word at p has this value and its other bits are what they were
  elsewhere : (value k : ℕ) → ((i : ℕ) → i < 64 → i ≢ p % 64 → bit_at value i ≡ bit_at (slice_index words (p / 64)) i) → k ≢ p
      → bit (set words (p / 64) value) k ≡ bit words k
  elsewhere value k same other =
      ⊎_elim
      (λ (word : k / 64 ≡ p / 64).
      let low : k % 64 < 64 = omega arith in
      ap (λ (i : ℕ). bit_at (slice_index (set words (p / 64) value) i) (k % 64)) word
      ∙ ap (λ (n : ℕ). bit_at n (k % 64)) (word_is value)
      ∙ same (k % 64) low (λ place. other (same_place k p word place))
      ∙ ap (λ (i : ℕ). bit_at (slice_index words i) (k % 64)) (sym word))
      (λ (word : k / 64 ≢ p / 64). ap (λ (n : ℕ). bit_at n (k % 64)) (get_or-set_other words (p / 64) (k / 64) value 0 word))
      (cases_eq (k / 64) (p / 64))

  pub set_elsewhere : (k : ℕ) → k ≢ p → bit (set words (p / 64) set_word) k ≡ bit words k
  set_elsewhere k other =
      elsewhere set_word k (λ i lt ne. bit_at_set_other w64 (slice_index words (p / 64)) (p % 64) (let low : p % 64 < 64 = omega arith in low) i ne) other

  pub clear_elsewhere : (k : ℕ) → k ≢ p → bit (set words (p / 64) clear_word) k ≡ bit words k
  clear_elsewhere k other =
      elsewhere clear_word k (λ i lt ne. bit_at_clear_other w64 (slice_index words (p / 64)) (p % 64) (let low : p % 64 < 64 = omega arith in low) i lt ne) other

-- one word more without a bit
pub none_below : (words : List ℕ) (place : ℕ) → ((k : ℕ) → k < 64 * place → bit words k ≡ 0) → slice_index words place ≡ 0
    → (k : ℕ) → k < 64 * (place + 1) → bit words k ≡ 0
none_below words place below zero_word k lt =
    ⊎_elim
    (λ (less : k < 64 * place). below k less)
    (λ (here : 64 * place ≤ k).
    let word : k / 64 ≡ place = omega arith in
    ap (λ (i : ℕ). bit_at (slice_index words i) (k % 64)) word ∙ ap (λ (n : ℕ). bit_at n (k % 64)) zero_word ∙ bit_at-zero (k % 64))
    (cases_lt k (64 * place))

-- the first bit of the first word that has one
pub first_bit : (words : List ℕ) (place identifier : ℕ) → ((k : ℕ) → k < 64 * place → bit words k ≡ 0) → place < 4
    → 0 < slice_index words place → slice_index words place < 2 ^ 64
    → identifier ≡ place * 64 + trailing_zeros w64 (slice_index words place) + 1 → IsLeastBit words identifier
first_bit words place identifier below few some fits is =
    let word = slice_index words place in
    let zeros = trailing_zeros w64 word in
    let lowest = bit_at-trailing_zeros w64 word some fits in
    let small : zeros < 64 = lowest.0 in
    let index : (identifier - 1) / 64 ≡ place = omega arith in
    let rest : (identifier - 1) % 64 ≡ zeros = omega arith in
    record {
      not_zero = omega arith;
      small = omega arith;
      set = ap (λ (i : ℕ). bit_at (slice_index words i) ((identifier - 1) % 64)) index ∙ ap (bit_at word) rest ∙ lowest.1;
      least = (λ k lt.
          ⊎_elim
          (λ (less : k < 64 * place). below k less)
          (λ (here : 64 * place ≤ k).
          let same : k / 64 ≡ place = omega arith in
          let low : k % 64 < zeros = omega arith in
          ap (λ (i : ℕ). bit_at (slice_index words i) (k % 64)) same ∙ lowest.2 (k % 64) low)
          (cases_lt k (64 * place)));
    }
