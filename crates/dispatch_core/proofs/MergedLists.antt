-- Two sorted lists of runs seen as one: what it holds, and where it is cut.
use Rattle.std.proofs.Common.{◌≡◌, ◌+◌, ◌<◌, ◌≤◌, ◌⊎◌, true, false, cond, List, [], ◌∷◌, ◌++◌, length, IsPermutation, All, Contains, refl, sym, ap, ◌∙◌, subst, inl, inr, ⊎_elim, arith, append_assoc, append-nil}
use Rattle.std.proofs.lemmas.Bool.{cases_Bool}
use Rattle.std.proofs.lemmas.List.Elements.{All-nil, All-cons, All-head, All-tail, All-weaker, Contains-append_cases, Contains-append_left, Contains-append_right}
use Rattle.std.proofs.lemmas.List.Sorted.{IsPermutation-refl, IsPermutation-sym, IsPermutation-trans, IsPermutation-append_left, IsPermutation-append_right, IsPermutation-append_comm, Contains-permutation}
use Rattle.dispatch_core.specs.declared.event.Job.{Job}
use Rattle.dispatch_core.specs.declared.runs.Run.{Run}
use Rattle.dispatch_core.specs.JobRuns.{jobs_of, jobs_of_run, EachBefore, BeginsBefore, LiesApart}
use Rattle.dispatch_core.specs.Joining.{begins_by}
use Rattle.dispatch_core.specs.Merging.{first_of, merged_at, merged, BeginsAfter}
use Rattle.dispatch_core.proofs.Orders.{begins_by_true, begins_by_false, begins_by_if}

-- one run begins before the other, and not with it
abbrev pub BeginsSooner : Run → Run → Type 0
BeginsSooner run other = BeginsAfter other (first_of run)

pub sooner_before : (run other : Run) → BeginsSooner run other → BeginsBefore run other
sooner_before run other sooner =
    ⊎_elim
    (λ (less : run.port < other.port). inl less)
    (λ (same : (run.port ≡ other.port) × (run.from < other.from)). let from : run.from ≤ other.from = omega (arith, same.1) in inr (same.0, from))
    sooner

pub not_both : (run other : Run) → BeginsBefore run other → ¬ BeginsSooner other run
not_both run other before sooner =
    ⊎_elim
    (λ (less : run.port < other.port).
    ⊎_elim
    (λ (more : other.port < run.port). let no : ⊥ = omega arith in no)
    (λ (same : (other.port ≡ run.port) × (other.from < run.from)). let no : ⊥ = omega (arith, same.0) in no)
    sooner)
    (λ (near : (run.port ≡ other.port) × (run.from ≤ other.from)).
    ⊎_elim
    (λ (more : other.port < run.port). let no : ⊥ = omega (arith, near.0) in no)
    (λ (same : (other.port ≡ run.port) × (other.from < run.from)). let no : ⊥ = omega (arith, near.1, same.1) in no)
    sooner)
    before

pub merged-nil : (xs : List Run) → merged xs [] ≡ xs
merged-nil [] = refl
merged-nil (x ∷ xs) = ap (λ rs. x ∷ rs) (merged-nil xs)

pub merged-first : (x : Run) (xs : List Run) (y : Run) (ys : List Run) → BeginsBefore x y → merged (x ∷ xs) (y ∷ ys) ≡ x ∷ merged xs (y ∷ ys)
merged-first x xs y ys before = ap (λ b. cond b (x ∷ merged xs (y ∷ ys)) (y ∷ merged_at x (merged xs) ys)) (begins_by_if (first_of y) x before)

pub merged-second : (x : Run) (xs : List Run) (y : Run) (ys : List Run) → BeginsSooner y x → merged (x ∷ xs) (y ∷ ys) ≡ y ∷ merged (x ∷ xs) ys
merged-second x xs y ys sooner =
    ⊎_elim
    (λ (is : begins_by (first_of y) x ≡ true). absurd (not_both x y (begins_by_true (first_of y) x is) sooner))
    (λ (not : begins_by (first_of y) x ≡ false). ap (λ b. cond b (x ∷ merged xs (y ∷ ys)) (y ∷ merged_at x (merged xs) ys)) not)
    (cases_Bool (begins_by (first_of y) x))

-- what holds of two lists and of what they are merged to is proved by what comes first
module _ (P : List Run → List Run → List Run → Type 0)
    (left : (ys : List Run) → P [] ys ys)
    (right : (xs : List Run) → P xs [] xs)
    (first : (x : Run) (xs : List Run) (y : Run) (ys : List Run) → BeginsBefore x y → P xs (y ∷ ys) (merged xs (y ∷ ys)) → P (x ∷ xs) (y ∷ ys) (x ∷ merged xs (y ∷ ys)))
    (second : (x : Run) (xs : List Run) (y : Run) (ys : List Run) → BeginsSooner y x → P (x ∷ xs) ys (merged (x ∷ xs) ys) → P (x ∷ xs) (y ∷ ys) (y ∷ merged (x ∷ xs) ys)) where
  pub by_merging : (xs ys : List Run) → P xs ys (merged xs ys)
  by_merging [] ys = left ys
  by_merging (x ∷ xs) ys = go (by_merging xs) ys
    where
      go : ((zs : List Run) → P xs zs (merged xs zs)) → (zs : List Run) → P (x ∷ xs) zs (merged (x ∷ xs) zs)
      go rest [] = subst (P (x ∷ xs) []) (sym (merged-nil (x ∷ xs))) (right (x ∷ xs))
      go rest (z ∷ zs) =
          ⊎_elim
          (λ (is : begins_by (first_of z) x ≡ true).
          let before = begins_by_true (first_of z) x is in
          subst (P (x ∷ xs) (z ∷ zs)) (sym (merged-first x xs z zs before)) (first x xs z zs before (rest (z ∷ zs))))
          (λ (not : begins_by (first_of z) x ≡ false).
          let sooner = begins_by_false (first_of z) x not in
          subst (P (x ∷ xs) (z ∷ zs)) (sym (merged-second x xs z zs sooner)) (second x xs z zs sooner (go rest zs)))
          (cases_Bool (begins_by (first_of z) x))

-- the jobs of both
parts_swap : (xs ys zs : List Job) → IsPermutation (xs ++ (ys ++ zs)) (ys ++ (xs ++ zs))
parts_swap xs ys zs =
    subst (λ js. IsPermutation js (ys ++ (xs ++ zs))) (append_assoc xs ys zs)
    (subst (IsPermutation ((xs ++ ys) ++ zs)) (append_assoc ys xs zs) (IsPermutation-append_left zs (xs ++ ys) (ys ++ xs) (IsPermutation-append_comm xs ys)))

pub jobs_of-merged : (xs ys : List Run) → IsPermutation (jobs_of xs ++ jobs_of ys) (jobs_of (merged xs ys))
jobs_of-merged =
    by_merging (λ xs ys zs. IsPermutation (jobs_of xs ++ jobs_of ys) (jobs_of zs))
    (λ ys. IsPermutation-refl (jobs_of ys))
    (λ xs. subst (λ js. IsPermutation js (jobs_of xs)) (sym (append-nil (jobs_of xs))) (IsPermutation-refl (jobs_of xs)))
    (λ x xs y ys before rest.
    subst (λ js. IsPermutation js (jobs_of_run x ++ jobs_of (merged xs (y ∷ ys)))) (sym (append_assoc (jobs_of_run x) (jobs_of xs) (jobs_of (y ∷ ys))))
    (IsPermutation-append_right (jobs_of_run x) (jobs_of xs ++ jobs_of (y ∷ ys)) (jobs_of (merged xs (y ∷ ys))) rest))
    (λ x xs y ys sooner rest.
    IsPermutation-trans _ _ _ (parts_swap (jobs_of (x ∷ xs)) (jobs_of_run y) (jobs_of ys)) (IsPermutation-append_right (jobs_of_run y) (jobs_of (x ∷ xs) ++ jobs_of ys) (jobs_of (merged (x ∷ xs) ys)) rest))

pub merged_has : (xs ys : List Run) (job : Job) → Contains (jobs_of (merged xs ys)) job → Contains (jobs_of xs) job ⊎ Contains (jobs_of ys) job
merged_has xs ys job has =
    Contains-append_cases (jobs_of xs) (jobs_of ys) job (Contains-permutation (jobs_of (merged xs ys)) (jobs_of xs ++ jobs_of ys) job (IsPermutation-sym (jobs_of xs ++ jobs_of ys) (jobs_of (merged xs ys)) (jobs_of-merged xs ys)) has)

pub has_first : (xs ys : List Run) (job : Job) → Contains (jobs_of xs) job → Contains (jobs_of (merged xs ys)) job
has_first xs ys job has = Contains-permutation (jobs_of xs ++ jobs_of ys) (jobs_of (merged xs ys)) job (jobs_of-merged xs ys) (Contains-append_left (jobs_of xs) (jobs_of ys) job has)

pub has_second : (xs ys : List Run) (job : Job) → Contains (jobs_of ys) job → Contains (jobs_of (merged xs ys)) job
has_second xs ys job has = Contains-permutation (jobs_of xs ++ jobs_of ys) (jobs_of (merged xs ys)) job (jobs_of-merged xs ys) (Contains-append_right (jobs_of xs) (jobs_of ys) job has)

pub length-merged : (xs ys : List Run) → length (merged xs ys) ≡ length xs + length ys
length-merged =
    by_merging (λ xs ys zs. length zs ≡ length xs + length ys) (λ ys. omega arith) (λ xs. omega arith)
    (λ x xs y ys before rest. omega (arith, rest)) (λ x xs y ys sooner rest. omega (arith, rest))

-- what holds of each run of both, and of each one and each one after it
pub All-merged : (Q : Run → Type 0) (xs ys : List Run) → All Q xs → All Q ys → All Q (merged xs ys)
All-merged Q =
    by_merging (λ xs ys zs. All Q xs → All Q ys → All Q zs) (λ ys none all. all) (λ xs all none. all)
    (λ x xs y ys before rest front back. All-cons Q x (merged xs (y ∷ ys)) (All-head Q x xs front) (rest (All-tail Q x xs front) back))
    (λ x xs y ys sooner rest front back. All-cons Q y (merged (x ∷ xs) ys) (All-head Q y ys back) (rest front (All-tail Q y ys back)))

pub merged_all : (Q : Run → Type 0) (xs ys : List Run) → All Q (merged xs ys) → All Q xs × All Q ys
merged_all Q =
    by_merging (λ xs ys zs. All Q zs → All Q xs × All Q ys) (λ ys all. (All-nil Q, all)) (λ xs all. (all, All-nil Q))
    (λ x xs y ys before rest all.
    let both = rest (All-tail Q x (merged xs (y ∷ ys)) all) in (All-cons Q x xs (All-head Q x (merged xs (y ∷ ys)) all) both.0, both.1))
    (λ x xs y ys sooner rest all.
    let both = rest (All-tail Q y (merged (x ∷ xs) ys) all) in (both.0, All-cons Q y ys (All-head Q y (merged (x ∷ xs) ys) all) both.1))

pub merged_each : (R : Run → Run → Type 0) (xs ys : List Run) → EachBefore R (merged xs ys) → EachBefore R xs × EachBefore R ys
merged_each R =
    by_merging (λ xs ys zs. EachBefore R zs → EachBefore R xs × EachBefore R ys) (λ ys each. (tt, each)) (λ xs each. (each, tt))
    (λ x xs y ys before rest each. let both = rest each.1 in (((merged_all (R x) xs (y ∷ ys) each.0).0, both.0), both.1))
    (λ x xs y ys sooner rest each. let both = rest each.1 in (both.0, ((merged_all (R y) (x ∷ xs) ys each.0).1, both.1)))

pub begins_through : (run middle next : Run) → BeginsBefore run middle → BeginsBefore middle next → BeginsBefore run next
begins_through run middle next first second =
    ⊎_elim
    (λ (less : run.port < middle.port).
    ⊎_elim
    (λ (more : middle.port < next.port). let both : run.port < next.port = omega arith in inl both)
    (λ (same : (middle.port ≡ next.port) × (middle.from ≤ next.from)). let both : run.port < next.port = omega (arith, same.0) in inl both)
    second)
    (λ (near : (run.port ≡ middle.port) × (run.from ≤ middle.from)).
    ⊎_elim
    (λ (more : middle.port < next.port). let both : run.port < next.port = omega (arith, near.0) in inl both)
    (λ (same : (middle.port ≡ next.port) × (middle.from ≤ next.from)). let from : run.from ≤ next.from = omega (arith, near.1, same.1) in inr (near.0 ∙ same.0, from))
    second)
    first

pub sooner_through : (run middle next : Run) → BeginsBefore run middle → BeginsSooner middle next → BeginsSooner run next
sooner_through run middle next first second =
    ⊎_elim
    (λ (less : run.port < middle.port).
    ⊎_elim
    (λ (more : middle.port < next.port). let both : run.port < next.port = omega arith in inl both)
    (λ (same : (middle.port ≡ next.port) × (middle.from < next.from)). let both : run.port < next.port = omega (arith, same.0) in inl both)
    second)
    (λ (near : (run.port ≡ middle.port) × (run.from ≤ middle.from)).
    ⊎_elim
    (λ (more : middle.port < next.port). let both : run.port < next.port = omega (arith, near.0) in inl both)
    (λ (same : (middle.port ≡ next.port) × (middle.from < next.from)). let from : run.from < next.from = omega (arith, near.1, same.1) in inr (near.0 ∙ same.0, from))
    second)
    first

pub sorted-merged : (xs ys : List Run) → EachBefore BeginsBefore xs → EachBefore BeginsBefore ys → EachBefore BeginsBefore (merged xs ys)
sorted-merged =
    by_merging (λ xs ys zs. EachBefore BeginsBefore xs → EachBefore BeginsBefore ys → EachBefore BeginsBefore zs) (λ ys none each. each) (λ xs each none. each)
    (λ x xs y ys before rest front back. (
      All-merged (BeginsBefore x) xs (y ∷ ys) front.0 (All-cons (BeginsBefore x) y ys before (All-weaker (BeginsBefore y) (BeginsBefore x) (λ r later. begins_through x y r before later) ys back.0)),
      rest front.1 back,
    ))
    (λ x xs y ys sooner rest front back.
    let before = sooner_before y x sooner in (
      All-merged (BeginsBefore y) (x ∷ xs) ys (All-cons (BeginsBefore y) x xs before (All-weaker (BeginsBefore x) (BeginsBefore y) (λ r later. begins_through y x r before later) xs front.0)) back.0,
      rest front back.1,
    ))

-- of two runs of runs that lie apart, one lies before the other
abbrev pub Part : Run → Run → Type 0
Part run other = LiesApart run other ⊎ LiesApart other run

pub merged_apart : (xs ys : List Run) → EachBefore LiesApart (merged xs ys) → All (λ y. All (λ x. Part x y) xs) ys
merged_apart =
    by_merging (λ xs ys zs. EachBefore LiesApart zs → All (λ y. All (λ x. Part x y) xs) ys)
    (λ ys each. All-weaker (λ y. Unit {0}) (λ y. All (λ x. Part x y) []) (λ y u. All-nil (λ x. Part x y)) ys (all_units ys))
    (λ xs each. All-nil (λ y. All (λ x. Part x y) xs))
    (λ x xs y ys before rest each. both x xs (y ∷ ys) (merged_all (LiesApart x) xs (y ∷ ys) each.0).1 (rest each.1))
    (λ x xs y ys sooner rest each.
    All-cons (λ z. All (λ r. Part r z) (x ∷ xs)) y ys (All-weaker (LiesApart y) (λ r. Part r y) (λ r apart. inr apart) (x ∷ xs) (merged_all (LiesApart y) (x ∷ xs) ys each.0).0) (rest each.1))
  where
    all_units : (ys : List Run) → All (λ y. Unit {0}) ys
    all_units [] = All-nil (λ y. Unit {0})
    all_units (y ∷ ys) = All-cons (λ y. Unit {0}) y ys tt (all_units ys)

    both : (x : Run) (xs ys : List Run) → All (LiesApart x) ys → All (λ y. All (λ r. Part r y) xs) ys → All (λ y. All (λ r. Part r y) (x ∷ xs)) ys
    both x xs [] apart rest = All-nil (λ y. All (λ r. Part r y) (x ∷ xs))
    both x xs (y ∷ ys) apart rest =
        All-cons (λ z. All (λ r. Part r z) (x ∷ xs)) y ys
        (All-cons (λ r. Part r y) x xs (inl (All-head (LiesApart x) y ys apart)) (All-head (λ z. All (λ r. Part r z) xs) y ys rest))
        (both x xs ys (All-tail (LiesApart x) y ys apart) (All-tail (λ z. All (λ r. Part r z) xs) y ys rest))

-- runs that all begin before the others, or sooner, come first
pub before_all : (xs ys zs : List Run) → All (λ x. All (BeginsBefore x) zs) xs → merged (xs ++ ys) zs ≡ xs ++ merged ys zs
before_all [] ys zs before = refl
before_all (x ∷ xs) ys [] before = merged-nil (x ∷ (xs ++ ys)) ∙ ap (λ rs. x ∷ (xs ++ rs)) (sym (merged-nil ys))
before_all (x ∷ xs) ys (z ∷ zs) before =
    merged-first x (xs ++ ys) z zs (All-head (BeginsBefore x) z zs (All-head (λ r. All (BeginsBefore r) (z ∷ zs)) x xs before))
    ∙ ap (λ rs. x ∷ rs) (before_all xs ys (z ∷ zs) (All-tail (λ r. All (BeginsBefore r) (z ∷ zs)) x xs before))

pub sooner_all : (xs ys zs : List Run) → All (λ y. All (BeginsSooner y) xs) ys → merged xs (ys ++ zs) ≡ ys ++ merged xs zs
sooner_all [] ys zs sooner = refl
sooner_all (x ∷ xs) [] zs sooner = refl
sooner_all (x ∷ xs) (y ∷ ys) zs sooner =
    merged-second x xs y (ys ++ zs) (All-head (BeginsSooner y) x xs (All-head (λ r. All (BeginsSooner r) (x ∷ xs)) y ys sooner))
    ∙ ap (λ rs. y ∷ rs) (sooner_all (x ∷ xs) ys zs (All-tail (λ r. All (BeginsSooner r) (x ∷ xs)) y ys sooner))

-- two lists that are cut at one place
pub merged_parts : (back beyond front near : List Run) → All (λ x. All (BeginsBefore x) beyond) front → All (λ y. All (BeginsSooner y) back) near → merged (front ++ back) (near ++ beyond) ≡ merged front near ++ merged back beyond
merged_parts back beyond =
    by_merging (λ xs ys zs. All (λ x. All (BeginsBefore x) beyond) xs → All (λ y. All (BeginsSooner y) back) ys → merged (xs ++ back) (ys ++ beyond) ≡ zs ++ merged back beyond)
    (λ ys none sooner. sooner_all back ys beyond sooner)
    (λ xs before none. before_all xs back beyond before)
    (λ x xs y ys before rest front near.
    merged-first x (xs ++ back) y (ys ++ beyond) before ∙ ap (λ rs. x ∷ rs) (rest (All-tail (λ r. All (BeginsBefore r) beyond) x xs front) near))
    (λ x xs y ys sooner rest front near.
    merged-second x (xs ++ back) y (ys ++ beyond) sooner ∙ ap (λ rs. y ∷ rs) (rest front (All-tail (λ r. All (BeginsSooner r) back) y ys near)))
