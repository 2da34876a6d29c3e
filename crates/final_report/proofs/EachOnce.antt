-- Each call of a history belongs to one caller, so a sum over the numbers of the callers is a sum over the calls.
use Rattle.std.proofs.Common.{◌≡◌, ℕ, zero, suc, ◌+◌, ◌<◌, ◌≤◌, nat_eq, cond, List, [], ◌∷◌, ◌++◌, length, slice_get, sum_by, All, refl, sym, ap, ◌∙◌, ⊎_elim, arith, le-ltb}
use Rattle.std.proofs.lemmas.Bool.{cases_eq, eq-eqb, ne_eqb}
use Rattle.std.proofs.lemmas.List.Sums.{sum_by-append, sum_by-cons}
use Rattle.std.proofs.lemmas.List.Elements.{All-head, All-tail}
use Rattle.call_history.specs.Numbers.{IsEachOnce, numbers, once_below, times}
use Rattle.call_history.proofs.Counting.{times_numbers, times_on}
use Rattle.final_report.specs.DeskPlaces.{worth_if}

-- 1 where it is this number
abbrev is_it : ℕ → ℕ → ℕ
is_it number one = cond (nat_eq number one) 1 0

is_itself : (number : ℕ) → is_it number number ≡ 1
is_itself number = ap (λ b. cond b 1 0) (eq-eqb number number refl)

-- a number that is in a list has a place there
found : (number : ℕ) (list : List ℕ) → 1 ≤ times number list → (before after : List ℕ) × (list ≡ before ++ number ∷ after)
found number [] there = absurd (omega arith)
found number (one ∷ list) there =
    ⊎_elim
    (λ (is : number ≡ one). ([], list, ap (λ n. n ∷ list) (sym is)))
    (λ (isnt : number ≡ one → ⊥).
    let other : is_it number one ≡ 0 = ap (λ b. cond b 1 0) (ne_eqb number one isnt) in
    let rest = found number list (omega (arith, there, other, sum_by-cons (is_it number) one list)) in
    (one ∷ rest.0, rest.1, ap (λ l. one ∷ l) rest.2))
    (cases_eq number one)

-- two lists in which each number stands equally often have one sum
same_sum : (g : ℕ → ℕ) (list own : List ℕ) → ((number : ℕ) → times number own ≡ times number list) → sum_by g own ≡ sum_by g list
same_sum g [] [] same = refl
same_sum g [] (one ∷ own) same = absurd (omega (arith, same one, is_itself one, sum_by-cons (is_it one) one own))
same_sum g (one ∷ list) own same =
    let there = found one own (omega (arith, same one, is_itself one, sum_by-cons (is_it one) one list)) in
    let rest = same_sum g list (there.0 ++ there.1) (λ number.
    omega (
      arith,
      same number,
      ap (times number) there.2,
      times_on number there.0 (one ∷ there.1),
      times_on number there.0 there.1,
      sum_by-cons (is_it number) one there.1,
      sum_by-cons (is_it number) one list,
    )) in
    omega (arith, rest, ap (sum_by g) there.2, sum_by-append g there.0 (one ∷ there.1), sum_by-append g there.0 there.1, sum_by-cons g one there.1, sum_by-cons g one list)

-- a call keeps its number where more come
pub slice_get_grown : {E : Type 0} (calls more : List E) (number : ℕ) → number < length calls → slice_get (calls ++ more) number ≡ slice_get calls number
slice_get_grown [] more number less = absurd (omega arith)
slice_get_grown (call ∷ calls) more zero less = refl
slice_get_grown (call ∷ calls) more (suc number) less = slice_get_grown calls more number (omega arith)

module _ {E : Type 0} (f : E → ℕ) where
  -- the numbers of calls that come, one after the other
  sum_numbers : (g : ℕ → ℕ) (count : ℕ) (calls : List E) → ((k : ℕ) → g (count + k) ≡ worth_if f (slice_get calls k)) → sum_by g (numbers count calls) ≡ sum_by f calls
  sum_numbers g count [] reads = refl
  sum_numbers g count (call ∷ calls) reads =
      let here : count + 0 ≡ count = omega arith in
      let next : (k : ℕ) → (count + 1) + k ≡ count + suc k = λ k. omega arith in
      let first : g count ≡ f call = ap g (sym here) ∙ reads 0 in
      let rest = sum_numbers g (count + 1) calls (λ k. ap g (next k) ∙ reads (suc k)) in
      omega (arith, first, rest, sum_by-cons g count (numbers (count + 1) calls), sum_by-cons f call calls)

  -- a sum over the numbers of all calls, each of which stands there once, is a sum over the calls
  pub sum_each_once : (calls : List E) (own : List ℕ) → IsEachOnce own (length calls) → sum_by (λ number. worth_if f (slice_get calls number)) own ≡ sum_by f calls
  sum_each_once calls own once =
      let none : (number : ℕ) → once_below number 0 ≡ 0 = λ number. ap (λ b. cond b 1 0) (le-ltb number 0 (omega arith)) in
      let plain : 0 + length calls ≡ length calls = omega arith in
      same_sum (λ number. worth_if f (slice_get calls number)) (numbers 0 calls) own (λ number.
      omega (arith, once number, none number, times_numbers number 0 calls, ap (once_below number) plain))
      ∙ sum_numbers (λ number. worth_if f (slice_get calls number)) 0 calls (λ k. ap (λ n. worth_if f (slice_get calls n)) (omega arith))

  -- a sum over numbers of calls stays where more come
  pub sum_grown : (calls more : List E) (own : List ℕ) → All (λ number. number < length calls) own
      → sum_by (λ number. worth_if f (slice_get (calls ++ more) number)) own ≡ sum_by (λ number. worth_if f (slice_get calls number)) own
  sum_grown calls more [] all = refl
  sum_grown calls more (one ∷ own) all =
      let here = ap (worth_if f) (slice_get_grown calls more one (All-head (λ number. number < length calls) one own all)) in
      let rest = sum_grown calls more own (All-tail (λ number. number < length calls) one own all) in
      omega (
        arith,
        here,
        rest,
        sum_by-cons (λ number. worth_if f (slice_get (calls ++ more) number)) one own,
        sum_by-cons (λ number. worth_if f (slice_get calls number)) one own,
      )

  -- the call that comes next has the number of those before it
  slice_get_next : (before : List E) (call : E) → worth_if f (slice_get (before ++ call ∷ []) (length before)) ≡ f call
  slice_get_next [] call = refl
  slice_get_next (one ∷ before) call = slice_get_next before call

  pub sum_next : (before : List E) (call : E) → sum_by (λ number. worth_if f (slice_get (before ++ call ∷ []) number)) (length before ∷ []) ≡ f call
  sum_next before call =
      omega (arith, slice_get_next before call, sum_by-cons (λ number. worth_if f (slice_get (before ++ call ∷ []) number)) (length before) [])
