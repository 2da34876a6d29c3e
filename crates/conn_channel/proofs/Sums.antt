-- Sums over the views of all passes, where some change; and what is in the channel, where more comes after it.
use Rattle.std.proofs.Common.{◌≡◌, ℕ, zero, suc, ◌+◌, ◌<◌, ◌≤◌, List, [], ◌∷◌, ◌++◌, get_or, set, length, refl, sym, ap, subst, ◌∙◌, arith}
use Rattle.std.specs.Prelude.{sum_by}
use Rattle.std.proofs.lemmas.List.Sums.{sum_by-set, sum_by-cons}
use mathlib.Core.Option.{some, some-injective, some-ne-none}
use lib.ListN.{get_elem?}
use Rattle.conn_channel.specs.declared.sent.Sent.{Sent}
use Rattle.conn_channel.specs.declared.sent.Sent.TheVariants.{Connection, EndMark}
use Rattle.conn_channel.specs.Rule.{connections_in, end_marks_in, end_marks_in_one, AreOrdered}

pub within : {A : Type 0} (l : List A) (i : ℕ) (a : A) → get_elem? l i ≡ some a → i < length l
within [] i a at = absurd (some-ne-none a (sym at))
within (x ∷ xs) zero a at = omega arith
within (x ∷ xs) (suc i) a at = let less = within xs i a at in omega arith

get_or_at : {A : Type 0} (xs : List A) (i : ℕ) (a : A) → get_elem? xs i ≡ some a → get_or xs i a ≡ a
get_or_at [] i a at = refl
get_or_at (x ∷ xs) zero a at = some-injective x a at
get_or_at (x ∷ xs) (suc i) a at = get_or_at xs i a at

-- a sum, where one of the list changes
pub sum_at : {A : Type 0} (f : A → ℕ) (xs : List A) (i : ℕ) (a b : A) → get_elem? xs i ≡ some a → sum_by f (set xs i b) + f a ≡ sum_by f xs + f b
sum_at f xs i a b at =
    let S : ℕ → Type 0 = λ n. sum_by f (set xs i b) + n ≡ sum_by f xs + f b in
    subst S (ap f (get_or_at xs i a at)) (sum_by-set f xs i b a (within xs i a at))

-- where a sum is 0, so is each, and the other way round
none_each : {A : Type 0} (f : A → ℕ) (xs : List A) → sum_by f xs ≡ 0 → (j : ℕ) (u : A) → get_elem? xs j ≡ some u → f u ≡ 0
none_each f [] none j u at = absurd (some-ne-none u (sym at))
none_each f (x ∷ xs) none zero u at =
    let here : f x ≡ f u = ap f (some-injective x u at) in
    omega (arith, here, none, sum_by-cons f x xs)
none_each f (x ∷ xs) none (suc j) u at = none_each f xs (omega (arith, none, sum_by-cons f x xs)) j u at

pub none_all : {A : Type 0} (f : A → ℕ) (xs : List A) → ((j : ℕ) (u : A) → get_elem? xs j ≡ some u → f u ≡ 0) → sum_by f xs ≡ 0
none_all f [] none = refl
none_all f (x ∷ xs) none = omega (arith, sum_by-cons f x xs, none 0 x refl, none_all f xs (λ j u at. none (suc j) u at))

at_most : {A : Type 0} (g : A → ℕ) (xs : List A) (i : ℕ) (v : A) → get_elem? xs i ≡ some v → g v ≤ sum_by g xs
at_most g [] i v at = absurd (some-ne-none v (sym at))
at_most g (x ∷ xs) zero v at =
    let here : g x ≡ g v = ap g (some-injective x v at) in
    omega (arith, here, sum_by-cons g x xs)
at_most g (x ∷ xs) (suc i) v at = let less = at_most g xs i v at in omega (arith, less, sum_by-cons g x xs)

-- where one has all of something, and who has none of it did nothing, that one did all
pub only : {A : Type 0} (f g : A → ℕ) (xs : List A) (i : ℕ) (v : A) → get_elem? xs i ≡ some v → sum_by g xs ≡ g v
    → ((j : ℕ) (u : A) → get_elem? xs j ≡ some u → g u ≡ 0 → f u ≡ 0) → sum_by f xs ≡ f v
only f g [] i v at all none = absurd (some-ne-none v (sym at))
only f g (x ∷ xs) zero v at all none =
    let here : g x ≡ g v = ap g (some-injective x v at) in
    let same : f x ≡ f v = ap f (some-injective x v at) in
    let rest : sum_by g xs ≡ 0 = omega (arith, here, all, sum_by-cons g x xs) in
    omega (arith, same, sum_by-cons f x xs, none_all f xs (λ j u e. none (suc j) u e (none_each g xs rest j u e)))
only f g (x ∷ xs) (suc i) v at all none =
    let less = at_most g xs i v at in
    let gone : g x ≡ 0 = omega (arith, less, all, sum_by-cons g x xs) in
    omega (arith, sum_by-cons f x xs, none 0 x refl gone, only f g xs i v at (omega (arith, gone, all, sum_by-cons g x xs)) (λ j u e. none (suc j) u e))

-- where one has all of something, no other has any
pub no_other : {A : Type 0} (g : A → ℕ) (xs : List A) (i : ℕ) (v none : A) → get_elem? xs i ≡ some v → sum_by g xs ≡ g v → g none ≡ 0 → (j : ℕ) (u : A) → get_elem? (set xs i none) j ≡ some u → g u ≡ 0
no_other g xs i v none at all zero_of j u there = none_each g (set xs i none) (omega (arith, sum_at g xs i v none at, all, zero_of)) j u there

-- more after what is in the channel
pub connections_push : {T : Type 0} (items : List (Sent T)) (x : T) → connections_in (items ++ Connection x ∷ []) ≡ connections_in items ++ x ∷ []
connections_push [] x = refl
connections_push (Connection y ∷ rest) x = ap (λ l. y ∷ l) (connections_push rest x)
connections_push (EndMark ∷ rest) x = connections_push rest x

pub connections_mark : {T : Type 0} (items : List (Sent T)) → connections_in (items ++ EndMark ∷ []) ≡ connections_in items
connections_mark [] = refl
connections_mark (Connection y ∷ rest) = ap (λ l. y ∷ l) (connections_mark rest)
connections_mark (EndMark ∷ rest) = connections_mark rest

-- a connection goes after no end mark, and an end mark goes after anything
pub ordered_connection : {T : Type 0} (items : List (Sent T)) (x : T) → AreOrdered items → end_marks_in items ≡ 0 → AreOrdered (items ++ Connection x ∷ [])
ordered_connection [] x ordered none = tt
ordered_connection (Connection y ∷ rest) x ordered none = ordered_connection rest x ordered (omega (arith, none, sum_by-cons end_marks_in_one (Connection y) rest))
ordered_connection (EndMark ∷ rest) x ordered none = absurd (omega (arith, none, sum_by-cons end_marks_in_one EndMark rest))

pub ordered_mark : {T : Type 0} (items : List (Sent T)) → AreOrdered items → AreOrdered (items ++ EndMark ∷ [])
ordered_mark [] ordered = refl
ordered_mark (Connection y ∷ rest) ordered = ordered_mark rest ordered
ordered_mark (EndMark ∷ rest) ordered = connections_mark rest ∙ ordered

pub some_left : {T : Type 0} (x : T) (xs : List T) → x ∷ xs ≡ [] → ⊥
some_left x xs none = let long : suc (length xs) ≡ 0 = ap length none in omega arith

-- what is left behind the first one is ordered
all_marks : {T : Type 0} (items : List (Sent T)) → connections_in items ≡ [] → AreOrdered items
all_marks [] none = tt
all_marks (Connection y ∷ rest) none = absurd (some_left y (connections_in rest) none)
all_marks (EndMark ∷ rest) none = none

pub ordered_rest : {T : Type 0} (x : Sent T) (items : List (Sent T)) → AreOrdered (x ∷ items) → AreOrdered items
ordered_rest (Connection y) items ordered = ordered
ordered_rest EndMark items ordered = all_marks items ordered
