-- Each step keeps the rule of the returns queue: what it adds to one list it takes from another, or from the queue.
use Rattle.std.proofs.Common.{◌≡◌, ℕ, zero, suc, ◌+◌, ◌-◌, ◌<◌, ◌≤◌, List, [], ◌∷◌, ◌++◌, get_or, set, refl, sym, ap, subst, ⊎_elim, arith}
use Rattle.std.specs.Prelude.{sum_by}
use Rattle.std.proofs.lemmas.List.Sums.{sum_by-set, sum_by_push, sum_by-cons, sum_by-append}
use Rattle.std.proofs.lemmas.List.Elements.{All-append, All-cons, All-nil, All-tail}
use mathlib.Core.Option.{some, some-injective, some-ne-none}
use lib.ListN.{get_elem?}
use Rattle.crossbeam_queue.specs.Fifo.{Pushes, Pops, Forks, Merges, Learns}
use Rattle.crossbeam_queue.proofs.Lists.{at_set, set_here, at_snoc}
use Rattle.group_queue.specs.declared.posted.Posted.{Posted}
use Rattle.group_queue.specs.declared.view.Bag.{Bag}
use Rattle.group_queue.specs.Returns.{bag, joined, Gives, StandsBack, PushesBack, PopsBack}
use Rattle.group_queue.proofs.Lists.{within}

abbrev pub IsSmall : Posted → Type 0
IsSmall posted = posted.job.number < 18446744073709551615

get_or_at : {A : Type 0} (xs : List A) (i : ℕ) (a : A) → get_elem? xs i ≡ some a → get_or xs i a ≡ a
get_or_at [] i a at = refl
get_or_at (x ∷ xs) zero a at = some-injective x a at
get_or_at (x ∷ xs) (suc i) a at = get_or_at xs i a at

-- a sum over the views, where one of them changes
pub sum_at : {A : Type 0} (f : A → ℕ) (xs : List A) (i : ℕ) (a b : A) → get_elem? xs i ≡ some a → sum_by f (set xs i b) + f a ≡ sum_by f xs + f b
sum_at f xs i a b at =
    let S : ℕ → Type 0 = λ n. sum_by f (set xs i b) + n ≡ sum_by f xs + f b in
    subst S (ap f (get_or_at xs i a at)) (sum_by-set f xs i b a (within xs i a at))

pub learns_back : (pass : ℕ) (v : Bag) → Learns Gives pass v (StandsBack v)
learns_back pass v items views h at = record { views = views; pass = pass; there = at; holds = h }

idle_set : (views : List Bag) (pass : ℕ) (w : Bag) → 1 ≤ w.parts
    → ((j : ℕ) (u : Bag) → get_elem? views j ≡ some u → u.parts ≡ 0 → (u.pushed ≡ []) × (u.popped ≡ []))
    → (j : ℕ) (u : Bag) → get_elem? (set views pass w) j ≡ some u → u.parts ≡ 0 → (u.pushed ≡ []) × (u.popped ≡ [])
idle_set views pass w some_part idle j u e none =
    ⊎_elim (λ t. let same = ap (λ (y : Bag). y.parts) t.1 in absurd (omega arith)) (λ t. idle j u t.1 none) (at_set views pass j w u e)

pub pushes_back : (n pass : ℕ) (v : Bag) (x : Posted) → 1 ≤ v.parts → x.job.number < 18446744073709551615 → Pushes Gives n pass v x (PushesBack v x)
pushes_back n pass v x some_part few items views room h at =
    let w : Bag = bag v.parts (v.pushed ++ x ∷ []) v.popped in
    let h' : Gives (items ++ x ∷ []) (set views pass w) = record {
      parts = omega (arith, sum_at (λ (y : Bag). y.parts) views pass v w at, h.parts);
      small = All-append IsSmall items (x ∷ []) h.small (All-cons IsSmall x [] few (All-nil IsSmall));
      idle = idle_set views pass w some_part h.idle;
      counts = (λ worth. omega (
        arith,
        h.counts worth,
        sum_by_push worth items x,
        sum_by_push worth v.pushed x,
        sum_at (λ (y : Bag). sum_by worth y.popped) views pass v w at,
        sum_at (λ (y : Bag). sum_by worth y.pushed) views pass v w at,
      ));
    } in (
      w,
      h',
      record {
        items = items;
        before = record { views = views; pass = pass; there = at; holds = h };
        after = record { views = set views pass w; pass = pass; there = set_here views pass w (within views pass v at); holds = h' };
        is = refl;
      },
    )

pub pops_back : (pass : ℕ) (v : Bag) → 1 ≤ v.parts → Pops Gives pass v (PopsBack v)
pops_back pass v some_part x items views h at =
    let w : Bag = bag v.parts v.pushed (v.popped ++ x ∷ []) in
    let h' : Gives items (set views pass w) = record {
      parts = omega (arith, sum_at (λ (y : Bag). y.parts) views pass v w at, h.parts);
      small = All-tail IsSmall x items h.small;
      idle = idle_set views pass w some_part h.idle;
      counts = (λ worth. omega (
        arith,
        h.counts worth,
        sum_by-cons worth x items,
        sum_by_push worth v.popped x,
        sum_at (λ (y : Bag). sum_by worth y.popped) views pass v w at,
        sum_at (λ (y : Bag). sum_by worth y.pushed) views pass v w at,
      ));
    } in (
      w,
      h',
      record {
        items = items;
        before = record { views = views; pass = pass; there = at; holds = h };
        after = record { views = set views pass w; pass = pass; there = set_here views pass w (within views pass v at); holds = h' };
        is = refl;
      },
    )

pub starts_back : Gives [] (bag 64 [] [] ∷ [])
starts_back = record { parts = refl; small = All-nil IsSmall; idle = (λ pass v at none. idle pass v at none); counts = (λ worth. refl) }
  where
    idle : (pass : ℕ) (v : Bag) → get_elem? (bag 64 [] [] ∷ []) pass ≡ some v → v.parts ≡ 0 → (v.pushed ≡ []) × (v.popped ≡ [])
    idle zero v at none = let same = ap (λ (y : Bag). y.parts) (some-injective (bag 64 [] []) v at) in absurd (omega arith)
    idle (suc pass) v at none = absurd (some-ne-none v (sym at))

pub cuts_part : (pass : ℕ) (v : Bag) → 2 ≤ v.parts → Forks Gives pass v (bag (v.parts - 1) v.pushed v.popped) (bag 1 [] [])
cuts_part pass v two items views h at =
    let w : Bag = bag (v.parts - 1) v.pushed v.popped in
    let new : Bag = bag 1 [] [] in
    let vs : List Bag = set views pass w in
    record {
      parts = omega (arith, sum_at (λ (y : Bag). y.parts) views pass v w at, h.parts, sum_by_push (λ (y : Bag). y.parts) vs new);
      small = h.small;
      idle = (λ j u e none. ⊎_elim (λ t. idle_set views pass w (omega arith) h.idle j u t none) (λ is. let same = ap (λ (y : Bag). y.parts) is in absurd (omega arith)) (at_snoc vs new u j e));
      counts = (λ worth. omega (
        arith,
        h.counts worth,
        sum_at (λ (y : Bag). sum_by worth y.popped) views pass v w at,
        sum_at (λ (y : Bag). sum_by worth y.pushed) views pass v w at,
        sum_by_push (λ (y : Bag). sum_by worth y.popped) vs new,
        sum_by_push (λ (y : Bag). sum_by worth y.pushed) vs new,
      ));
    }

pub joins_parts : (pass : ℕ) (v : Bag) (other : ℕ) (w : Bag) → 1 ≤ v.parts → Merges Gives pass v other w (joined v w) (bag 0 [] [])
joins_parts pass v other w some_part items views h at ne at' =
    let all : Bag = joined v w in
    let none : Bag = bag 0 [] [] in
    let vs : List Bag = set views pass all in
    record {
      parts = omega (arith, h.parts, sum_at (λ (y : Bag). y.parts) views pass v all at, sum_at (λ (y : Bag). y.parts) vs other w none at');
      small = h.small;
      idle = (λ j u e no_part. ⊎_elim
          (λ t. (ap (λ (y : Bag). y.pushed) (sym t.1), ap (λ (y : Bag). y.popped) (sym t.1)))
          (λ t. idle_set views pass all (omega arith) h.idle j u t.1 no_part)
          (at_set vs other j none u e));
      counts = (λ worth. omega (
        arith,
        h.counts worth,
        sum_by-append worth v.pushed w.pushed,
        sum_by-append worth v.popped w.popped,
        sum_at (λ (y : Bag). sum_by worth y.popped) views pass v all at,
        sum_at (λ (y : Bag). sum_by worth y.pushed) views pass v all at,
        sum_at (λ (y : Bag). sum_by worth y.popped) vs other w none at',
        sum_at (λ (y : Bag). sum_by worth y.pushed) vs other w none at',
      ));
    }
