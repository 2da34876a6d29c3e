-- The numbers of the calls of a history, from 0 on, and that each belongs to one caller.
use Rattle.std.specs.Prelude.{◌≡◌, ℕ, ◌+◌, nat_eq, nat_lt, if◌then◌else◌, List, [], ◌∷◌, count_by}

-- the numbers of calls that come to a history, which had so many
abbrev pub numbers : {E : Type 0} → ℕ → List E → List ℕ
numbers count [] = []
numbers count (call ∷ calls) = count ∷ numbers (count + 1) calls

-- how many times a number is in a list
abbrev pub times : ℕ → List ℕ → ℕ
times number list = count_by (λ one. nat_eq number one) list

-- once where it is the number of one of so many calls, and else not at all
abbrev pub once_below : ℕ → ℕ → ℕ
once_below number count = if nat_lt number count then 1 else 0

-- the numbers of all calls of a history of so many, each once, and no other
abbrev pub IsEachOnce : List ℕ → ℕ → Type 0
IsEachOnce list count = (number : ℕ) → times number list ≡ once_below number count
