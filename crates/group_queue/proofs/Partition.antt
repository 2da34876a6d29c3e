-- A list each of whose elements is under one of these names: what stands under each of them adds up to it.
use Rattle.std.proofs.Common.{◌≡◌, ◌≢◌, ℕ, ◌+◌, ◌⊎◌, inl, inr, ⊎_elim, Bool, true, false, true≢false, cond, List, [], ◌∷◌, refl, sym, ◌∙◌, arith}
use Rattle.std.specs.Prelude.{filter, map, sum_by, count_by}
use Rattle.std.proofs.lemmas.List.Sums.{sum_by-cons}
use Rattle.group_queue.specs.declared.view.Name.{Name}
use Rattle.group_queue.specs.Views.{same_name}
use Rattle.group_queue.proofs.Lists.{same_name-refl}

pub sum_by-map : {X Y : Type 0} (f : Y → ℕ) (g : X → Y) (xs : List X) → sum_by f (map g xs) ≡ sum_by (λ x. f (g x)) xs
sum_by-map f g [] = refl
sum_by-map f g (x ∷ xs) = omega (arith, sum_by-cons f (g x) (map g xs), sum_by-cons (λ x. f (g x)) x xs, sum_by-map f g xs)

pub sum_by-same : {X : Type 0} (f g : X → ℕ) → ((x : X) → f x ≡ g x) → (xs : List X) → sum_by f xs ≡ sum_by g xs
sum_by-same f g same [] = refl
sum_by-same f g same (x ∷ xs) = omega (arith, sum_by-cons f x xs, sum_by-cons g x xs, sum_by-same f g same xs, same x)

pub sum_by-none : {X : Type 0} (f : X → ℕ) → ((x : X) → f x ≡ 0) → (xs : List X) → sum_by f xs ≡ 0
sum_by-none f none [] = refl
sum_by-none f none (x ∷ xs) = omega (arith, sum_by-cons f x xs, sum_by-none f none xs, none x)

pub sum_by-add : {X : Type 0} (f g h : X → ℕ) → ((x : X) → f x ≡ g x + h x) → (xs : List X) → sum_by f xs ≡ sum_by g xs + sum_by h xs
sum_by-add f g h adds [] = refl
sum_by-add f g h adds (x ∷ xs) = omega (arith, sum_by-cons f x xs, sum_by-cons g x xs, sum_by-cons h x xs, sum_by-add f g h adds xs, adds x)

-- how often a name is among these
abbrev pub times : Name → List Name → ℕ
times name names = count_by (same_name name) names

none_case : (c : Bool) (k n s : ℕ) → cond c 1 0 + n ≡ 0 → (n ≡ 0 → s ≡ 0) → cond c k 0 + s ≡ 0
none_case true k n s e none = absurd (omega (arith, e))
none_case false k n s e none = let rest = none (omega (arith, e)) in omega (arith, rest)

one_case : (c : Bool) (k n s : ℕ) → cond c 1 0 + n ≡ 1 → (n ≡ 0 → s ≡ 0) → (n ≡ 1 → s ≡ k) → cond c k 0 + s ≡ k
one_case true k n s e none one = let rest = none (omega (arith, e)) in omega (arith, rest)
one_case false k n s e none one = let rest = one (omega (arith, e)) in omega (arith, rest)

module _ (name : Name) (k : ℕ) where
  abbrev weight : Name → ℕ
  weight n = cond (same_name name n) k 0

  abbrev unit : Name → ℕ
  unit n = cond (same_name name n) 1 0

  weigh-none : (names : List Name) → sum_by unit names ≡ 0 → sum_by weight names ≡ 0
  weigh-none [] e = refl
  weigh-none (n ∷ names) e = sum_by-cons weight n names ∙ none_case (same_name name n) k (sum_by unit names) (sum_by weight names) (sym (sum_by-cons unit n names) ∙ e) (weigh-none names)

  weigh-one : (names : List Name) → sum_by unit names ≡ 1 → sum_by weight names ≡ k
  weigh-one [] e = absurd (omega (arith, e))
  weigh-one (n ∷ names) e = sum_by-cons weight n names ∙ one_case (same_name name n) k (sum_by unit names) (sum_by weight names) (sym (sum_by-cons unit n names) ∙ e) (weigh-none names) (weigh-one names)

  pub weigh : (names : List Name) → times name names ≡ 1 → sum_by (λ n. cond (same_name name n) k 0) names ≡ k
  weigh names e = weigh-one names e

module _ {X : Type 0} (key : X → Name) (f : X → ℕ) (names : List Name) where
  abbrev pub under : Name → List X → List X
  under n xs = filter (λ x. same_name (key x) n) xs

  tail_empty : (c : Bool) (x : X) (l : List X) → cond c (x ∷ l) l ≡ [] → l ≡ []
  tail_empty true x l e = absurd (cc)
  tail_empty false x l e = e

  head_there : (c : Bool) (x : X) (l : List X) → c ≡ true → cond c (x ∷ l) l ≢ []
  head_there true x l is e = cc
  head_there false x l is e = true≢false (sym is)

  more : (c : Bool) (x : X) (l : List X) → sum_by f (cond c (x ∷ l) l) ≡ cond c (f x) 0 + sum_by f l
  more true x l = sum_by-cons f x l
  more false x l = omega arith

  pub spread : (xs : List X) → ((x : X) → (times (key x) names ≡ 1) ⊎ (filter (λ y. same_name (key y) (key x)) xs ≡ [])) → sum_by (λ n. sum_by f (filter (λ x. same_name (key x) n) xs)) names ≡ sum_by f xs
  spread [] h = sum_by-none (λ n. sum_by f (under n [])) (λ n. refl) names
  spread (x ∷ xs) h =
      let here : times (key x) names ≡ 1 = ⊎_elim (λ one. one) (λ none. absurd (head_there (same_name (key x) (key x)) x (under (key x) xs) (same_name-refl (key x)) none)) (h x) in
      let rest = spread xs (λ y. ⊎_elim inl (λ none. inr (tail_empty (same_name (key x) (key y)) x (under (key y) xs) none)) (h y)) in
      let both = sum_by-add (λ n. sum_by f (under n (x ∷ xs))) (λ n. cond (same_name (key x) n) (f x) 0) (λ n. sum_by f (under n xs)) (λ n. more (same_name (key x) n) x (under n xs)) names in
      omega (arith, both, rest, weigh (key x) (f x) names here, sum_by-cons f x xs)
