-- What follows where one pass of the returns queue has all parts: what was given back was handed out again, or popped by who ends
-- the group, or it stands in the queue.
use Rattle.std.proofs.Common.{◌≡◌, ℕ, zero, suc, ◌+◌, ◌≤◌, List, [], ◌∷◌, set, refl, sym, ap, ⊎_elim, arith}
use Rattle.std.specs.Prelude.{sum_by}
use Rattle.std.proofs.lemmas.List.Sums.{sum_by-cons}
use mathlib.Core.Option.{some, some-injective, some-ne-none}
use lib.ListN.{get_elem?}
use Rattle.crossbeam_queue.proofs.Lists.{at_set}
use Rattle.group_queue.specs.declared.posted.Posted.{Posted}
use Rattle.group_queue.specs.declared.view.Bag.{Bag}
use Rattle.group_queue.specs.Returns.{bag, Gives}
use Rattle.group_queue.proofs.ReturnsSteps.{sum_at}

none_each : {A : Type 0} (f : A → ℕ) (xs : List A) → sum_by f xs ≡ 0 → (j : ℕ) (u : A) → get_elem? xs j ≡ some u → f u ≡ 0
none_each f [] none j u at = absurd (some-ne-none u (sym at))
none_each f (x ∷ xs) none zero u at =
    let here : f x ≡ f u = ap f (some-injective x u at) in
    omega (arith, here, none, sum_by-cons f x xs)
none_each f (x ∷ xs) none (suc j) u at = none_each f xs (omega (arith, none, sum_by-cons f x xs)) j u at

none_all : {A : Type 0} (f : A → ℕ) (xs : List A) → ((j : ℕ) (u : A) → get_elem? xs j ≡ some u → f u ≡ 0) → sum_by f xs ≡ 0
none_all f [] none = refl
none_all f (x ∷ xs) none = omega (arith, sum_by-cons f x xs, none 0 x refl, none_all f xs (λ j u at. none (suc j) u at))

-- no pass has more parts than there are
pub all_parts : (items : List Posted) (views : List Bag) → Gives items views → (pass : ℕ) (v : Bag) → get_elem? views pass ≡ some v → 64 ≤ v.parts → v.parts ≡ 64
all_parts items views h pass v at all = omega (arith, h.parts, all, sum_at (λ (y : Bag). y.parts) views pass v (bag 0 [] []) at)

module _ (items : List Posted) (views : List Bag) (h : Gives items views) (pass : ℕ) (v : Bag) (at : get_elem? views pass ≡ some v) (all : v.parts ≡ 64) where
  empty : Bag
  empty = bag 0 [] []

  -- no other pass has a part
  others : (j : ℕ) (u : Bag) → get_elem? (set views pass (bag 0 [] [])) j ≡ some u → (u.pushed ≡ []) × (u.popped ≡ [])
  others j u e =
      let none = none_each (λ (y : Bag). y.parts) (set views pass (bag 0 [] [])) (omega (arith, h.parts, all, sum_at (λ (y : Bag). y.parts) views pass v (bag 0 [] []) at)) j u e in
      ⊎_elim (λ t. (ap (λ (y : Bag). y.pushed) (sym t.1), ap (λ (y : Bag). y.popped) (sym t.1))) (λ t. h.idle j u t.1 none) (at_set views pass j (bag 0 [] []) u e)

  pub all_given : (worth : Posted → ℕ) → sum_by worth items + sum_by worth v.popped ≡ sum_by worth v.pushed
  all_given worth = omega (
    arith,
    h.counts worth,
    sum_at (λ (y : Bag). sum_by worth y.popped) views pass v (bag 0 [] []) at,
    sum_at (λ (y : Bag). sum_by worth y.pushed) views pass v (bag 0 [] []) at,
    none_all (λ (y : Bag). sum_by worth y.popped) (set views pass (bag 0 [] [])) (λ j u e. ap (sum_by worth) (others j u e).1),
    none_all (λ (y : Bag). sum_by worth y.pushed) (set views pass (bag 0 [] [])) (λ j u e. ap (sum_by worth) (others j u e).0),
  )
