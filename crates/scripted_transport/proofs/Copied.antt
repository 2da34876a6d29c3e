-- Bytes that are copied piece by piece.
use Rattle.std.proofs.Common.{◌≡◌, ℕ, ◌+◌, ◌-◌, ◌≤◌, List, ◌++◌, length, take, drop, sym, ap, ◌∙◌, length-drop, length-take, arith}
use Rattle.std.proofs.Math.Seq.{take-add, take-append_seam}

exact : (a b : ℕ) → a + b - a ≡ b
exact a b = omega arith

-- what was copied from a place in a list goes on what is before that place
pub copied : (input source filled rest : List ℕ) (given count : ℕ) → given + count ≤ length input → source ≡ input → filled ≡ take (given + count - given) (drop given source)
    → take (given + count) input ≡ take given input ++ take count (filled ++ rest)
copied input source filled rest given count within same is =
    let so : filled ≡ take count (drop given input) = is ∙ (λ i. take (exact given count i) (drop given (same i))) in
    let len : length filled ≡ count = ap length so ∙ length-take count (drop given input) ∙ (let d = length-drop given input in omega arith) in
    take-add given count input ∙ ap (λ piece. take given input ++ piece) (sym so ∙ sym (take-append_seam filled rest) ∙ ap (λ n. take n (filled ++ rest)) len)
