-- Sums over places that have numbers of their own.
use Rattle.std.proofs.Common.{◌≡◌, ℕ, zero, suc, ◌+◌, ◌≤◌, Bool, true, false, cond, eqb, eq-eqb, eqb-true, ltb, List, [], ◌∷◌, Contains, All, ◌⊎◌, inl, inr, refl, sym, ap, ◌∙◌, subst, arith}
use Rattle.std.specs.Prelude.{sum_by}
use Rattle.std.proofs.lemmas.Bool.{ltb-true, ltb-false, false≢true}
use Rattle.std.proofs.lemmas.List.Sums.{sum_by-cons, get_or-le-sum_by}
use Rattle.dispatch_core.specs.declared.event.Job.{Job}
use Rattle.group_jobs.specs.Balance.{Account}

-- 1 where the place has this number
abbrev pub has_number : ℕ → Account → ℕ
has_number place a = cond (eqb a.place place) 1 0

pub there : (P : Account → Type 0) (accounts : List Account) (a : Account) → All P accounts → Contains accounts a → P a
there P accounts a all (k, less, is) = subst P is (all k a less)

-- one place is no more than all together
pub le_sum : (f : Account → ℕ) (accounts : List Account) (a : Account) → Contains accounts a → f a ≤ sum_by f accounts
le_sum f accounts a (k, less, is) = subst (λ b. f b ≤ sum_by f accounts) is (get_or-le-sum_by f accounts k a less)

-- nor are two
pub two_le_sum : (f : Account → ℕ) (accounts : List Account) (a b : Account) → Contains accounts a → Contains accounts b → (a.place ≡ b.place → ⊥) → f a + f b ≤ sum_by f accounts
two_le_sum f [] a b (k, less, is) here apart = absurd (omega arith)
two_le_sum f (x ∷ xs) a b (zero, less, is) (zero, less', is') apart = absurd (apart (ap (λ (y : Account). y.place) (sym is ∙ is')))
two_le_sum f (x ∷ xs) a b (zero, less, is) (suc k, less', is') apart =
    let rest = le_sum f xs b (k, omega arith, is') in
    omega (arith, rest, ap f is, sum_by-cons f x xs)
two_le_sum f (x ∷ xs) a b (suc k, less, is) (zero, less', is') apart =
    let rest = le_sum f xs a (k, omega arith, is) in
    omega (arith, rest, ap f is', sum_by-cons f x xs)
two_le_sum f (x ∷ xs) a b (suc k, less, is) (suc j, less', is') apart =
    let rest = two_le_sum f xs a b (k, omega arith, is) (j, omega arith, is') apart in
    omega (arith, rest, sum_by-cons f x xs)

one_if : (place : ℕ) (a : Account) → a.place ≡ place → has_number place a ≡ 1
one_if place a is = ap (λ b. cond b 1 0) (eq-eqb a.place place is)

-- where no two places have one number, a number names one place
pub same_place : (accounts : List Account) (place : ℕ) (a b : Account) → sum_by (has_number place) accounts ≤ 1 → Contains accounts a → Contains accounts b → a.place ≡ place → b.place ≡ place → a ≡ b
same_place [] place a b once (k, less, is) here an bn = absurd (omega arith)
same_place (x ∷ xs) place a b once (zero, less, is) (zero, less', is') an bn = sym is ∙ is'
same_place (x ∷ xs) place a b once (zero, less, is) (suc k, less', is') an bn =
    let rest = le_sum (has_number place) xs b (k, omega arith, is') in
    absurd (omega (arith, once, rest, ap (has_number place) is, one_if place a an, one_if place b bn, sum_by-cons (has_number place) x xs))
same_place (x ∷ xs) place a b once (suc k, less, is) (zero, less', is') an bn =
    let rest = le_sum (has_number place) xs a (k, omega arith, is) in
    absurd (omega (arith, once, rest, ap (has_number place) is', one_if place a an, one_if place b bn, sum_by-cons (has_number place) x xs))
same_place (x ∷ xs) place a b once (suc k, less, is) (suc j, less', is') an bn =
    same_place xs place a b (omega (arith, once, sum_by-cons (has_number place) x xs)) (k, omega arith, is) (j, omega arith, is') an bn

-- what counts for something has a place that does
pub positive : (f : Account → ℕ) (accounts : List Account) → 1 ≤ sum_by f accounts → (a : Account) × Contains accounts a × (1 ≤ f a)
positive f [] some = absurd (omega arith)
positive f (x ∷ xs) some = cases (λ enough. positive f xs enough) (ltb 0 (f x)) refl
  where
    cases : (1 ≤ sum_by f xs → (a : Account) × Contains xs a × (1 ≤ f a)) → (b : Bool) → ltb 0 (f x) ≡ b → (a : Account) × Contains (x ∷ xs) a × (1 ≤ f a)
    cases rest true is = (x, (0, omega arith, refl), let less = ltb-true 0 (f x) is in omega arith)
    cases rest false is =
        let none = ltb-false 0 (f x) is in
        let found = rest (omega (arith, some, sum_by-cons f x xs, none)) in
        let within = found.1.1 in
        (found.0, (suc found.1.0, omega arith, found.1.2), found.2)

-- what counts once in all counts for the one place that has it, and no other
pub at_one : (f : Account → ℕ) (accounts : List Account) → ((place : ℕ) → sum_by (has_number place) accounts ≤ 1) → (x a : Account) → Contains accounts x → 1 ≤ f x → sum_by f accounts ≡ 1 → Contains accounts a
    → f a ≡ cond (eqb x.place a.place) 1 0
at_one f accounts once x a here some all found = cases (eqb x.place a.place) refl
  where
    cases : (b : Bool) → eqb x.place a.place ≡ b → f a ≡ cond b 1 0
    cases true is =
        let same = same_place accounts a.place x a (once a.place) here found (eqb-true x.place a.place is) refl in
        omega (arith, ap f same, le_sum f accounts x here, all, some)
    cases false is = omega (arith, two_le_sum f accounts x a here found (λ same. false≢true (sym is ∙ eq-eqb x.place a.place same)), all, some)

-- the first hand-outs of the place with this number
abbrev pub firsts_with : List Account → ℕ → List Job
firsts_with [] place = []
firsts_with (a ∷ accounts) place = cond (eqb a.place place) a.firsts (firsts_with accounts place)

pub find : (accounts : List Account) (place : ℕ)
    → ((a : Account) × Contains accounts a × (a.place ≡ place) × (firsts_with accounts place ≡ a.firsts)) ⊎ ((firsts_with accounts place ≡ []) × ((a : Account) → Contains accounts a → a.place ≡ place → ⊥))
find [] place = inr (refl, λ a h is. let less = h.1 in absurd (omega arith))
find (x ∷ xs) place = cases (find xs place) (eqb x.place place) refl
  where
    cases : ((a : Account) × Contains xs a × (a.place ≡ place) × (firsts_with xs place ≡ a.firsts)) ⊎ ((firsts_with xs place ≡ []) × ((a : Account) → Contains xs a → a.place ≡ place → ⊥))
        → (b : Bool) → eqb x.place place ≡ b
        → ((a : Account) × Contains (x ∷ xs) a × (a.place ≡ place) × (firsts_with (x ∷ xs) place ≡ a.firsts)) ⊎ ((firsts_with (x ∷ xs) place ≡ []) × ((a : Account) → Contains (x ∷ xs) a → a.place ≡ place → ⊥))
    cases rest true is = inl (x, (0, omega arith, refl), eqb-true x.place place is, ap (λ b. cond b x.firsts (firsts_with xs place)) is)
    cases (inl (a, (k, less, at), same, firsts)) false is = inl (a, (suc k, omega arith, at), same, ap (λ b. cond b x.firsts (firsts_with xs place)) is ∙ firsts)
    cases (inr (none, away)) false is = inr (ap (λ b. cond b x.firsts (firsts_with xs place)) is ∙ none, elsewhere)
      where
        elsewhere : (a : Account) → Contains (x ∷ xs) a → a.place ≡ place → ⊥
        elsewhere a (zero, less, at) same = false≢true (sym is ∙ eq-eqb x.place place (ap (λ (y : Account). y.place) at ∙ same))
        elsewhere a (suc k, less, at) same = away a (k, omega arith, at) same
