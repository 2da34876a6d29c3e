-- Since seat numbers are distinct and below that of the seats, which is 80 at most, at most 80 seats are not outside.
use Rattle.std.proofs.Common.{◌≡◌, ℕ, zero, suc, ◌+◌, ◌<◌, ◌≤◌, ⊎_elim, zero-le, List, [], ◌∷◌, length, get_or, refl, ap, arith}
use Rattle.std.specs.Prelude.{All, sum_by}
use Rattle.std.proofs.lemmas.Bool.{cases_lt}
use Rattle.std.proofs.lemmas.Bool.Decides.{nat_tests}
use Rattle.std.proofs.lemmas.List.Elements.{All-head, All-tail}
use Rattle.std.proofs.lemmas.List.Sums.{sum_by-cons, get_or-le-sum_by}
use Rattle.gate_word.specs.declared.step.GateView.{GateView}
use Rattle.gate_word.specs.Steps.{shut_bit, SeatState, seat_state}
use Rattle.gate_word.specs.Steps.SeatState.{Outside, Inside, Bouncing}
use Rattle.gate_word.specs.Seats.{adds, away, has_number}
use Rattle.gate_word.specs.GateLaw.{GateLaw, IsSeatIfAway}

-- the sum of f over the numbers below n
below : ℕ → (ℕ → ℕ) → ℕ
below zero f = 0
below (suc n) f = below n f + f n

below_most : (n : ℕ) (f : ℕ → ℕ) → ((k : ℕ) → f k ≤ 1) → below n f ≤ n
unfolding below
below_most zero f one = omega arith
below_most (suc n) f one = let h = below_most n f one in let here = one n in omega arith

below_term : (n : ℕ) (f : ℕ → ℕ) (k : ℕ) → k < n → f k ≤ below n f
unfolding below
below_term zero f k lt = absurd (omega arith)
below_term (suc n) f k lt = ⊎_elim
    (λ (less : k < n). let h = below_term n f k less in omega arith)
    (λ (last : n ≤ k). let same : f k ≡ f n = ap f (omega arith) in omega arith)
    (cases_lt k n)

below_add : (n : ℕ) (f g h : ℕ → ℕ) → ((k : ℕ) → f k ≡ g k + h k) → below n f ≡ below n g + below n h
unfolding below
below_add zero f g h sums = omega arith
below_add (suc n) f g h sums = let less = below_add n f g h sums in let here = sums n in omega arith

-- a number of a view is below that of the seats
first_below : (seats word : ℕ) (views : List GateView) → GateLaw seats word views → (k : ℕ) (d : GateView) → k < length views → 1 ≤ (get_or views k d).count → (get_or views k d).first < seats
first_below seats word views law k d lt some_seat =
    let v = get_or views k d in
    let has : has_number v.first v ≡ 1 = grind (arith, nat_tests) in
    let part : has_number v.first v ≤ sum_by (has_number v.first) views = get_or-le-sum_by (has_number v.first) views k d lt in
    let most = law.numbers v.first in
    grind (arith, nat_tests)

adds_most : (state : SeatState) → adds state ≤ 1
adds_most Outside = omega arith
adds_most Inside = omega arith
adds_most Bouncing = omega arith

counts : (state : SeatState) (count : ℕ) → (adds state ≡ 1 → count ≡ 1) → adds state ≤ count
counts Outside count one = zero-le
counts Inside count one = let is = one refl in omega arith
counts Bouncing count one = let is = one refl in omega arith

-- each view that is not outside has a number of its own among those below n
away_below : (n : ℕ) (views : List GateView) → All IsSeatIfAway views → All (λ v. 1 ≤ v.count → v.first < n) views
    → sum_by away views ≤ below n (λ k. sum_by (has_number k) views)
away_below n [] seated small = omega arith
away_below n (v ∷ vs) seated small =
    let less = away_below n vs (All-tail IsSeatIfAway v vs seated) (All-tail (λ u. 1 ≤ u.count → u.first < n) v vs small) in
    let seat = counts (seat_state v.steps) v.count (All-head IsSeatIfAway v vs seated) in
    let first = All-head (λ u. 1 ≤ u.count → u.first < n) v vs small in
    let parts = below_add n (λ k. sum_by (has_number k) (v ∷ vs)) (λ k. has_number k v) (λ k. sum_by (has_number k) vs) (λ k. sum_by-cons (has_number k) v vs) in
    let one : away v ≤ below n (λ k. has_number k v) = ⊎_elim
    (λ (none : v.count < 1). omega arith)
    (λ (some_seat : 1 ≤ v.count).
    let own : has_number v.first v ≡ 1 = grind (arith, nat_tests) in
    let part = below_term n (λ k. has_number k v) v.first (first some_seat) in
    let most = adds_most (seat_state v.steps) in
    omega arith)
    (cases_lt v.count 1) in
    omega (arith, sum_by-cons away v vs)

-- so the word is at most 161, and adding 2 doesn't wrap
pub small : (seats word : ℕ) (views : List GateView) → GateLaw seats word views → word < 162
small seats word views law =
    let bit : shut_bit word < 2 = omega arith in
    let less = away_below seats views law.seated (first_below seats word views law) in
    let most = below_most seats (λ k. sum_by (has_number k) views) (λ k. let most = law.numbers k in grind (arith, nat_tests)) in
    let few = law.few in
    let is = law.counted in
    omega arith
