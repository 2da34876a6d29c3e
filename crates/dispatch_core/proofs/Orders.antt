-- Lists in which something holds of each element and each one after it.
use Rattle.std.proofs.Common.{◌≡◌, ◌<◌, ◌≤◌, ◌&&◌, true, false, eqb, leb, List, [], ◌∷◌, ◌++◌, All, inl, inr, ⊎_elim, arith}
use Rattle.std.proofs.lemmas.Bool.{cases_lt}
use Rattle.std.proofs.lemmas.Bool.Decides.{nat_tests}
use Rattle.std.proofs.lemmas.List.Elements.{All-nil, All-cons, All-head, All-tail, All-append, All-weaker}
use Rattle.dispatch_core.specs.declared.event.Job.{Job}
use Rattle.dispatch_core.specs.declared.runs.Run.{Run}
use Rattle.dispatch_core.specs.JobRuns.{EachBefore, BeginsBefore}
use Rattle.dispatch_core.specs.JobRuns.{alone}
use Rattle.dispatch_core.specs.Joining.{begins_by, covers}
use Rattle.dispatch_core.specs.Merging.{BeginsAfter}
use Rattle.dispatch_core.proofs.JobLists.{Covers}

-- the parts of a list
pub All-front : (P : Run → Type 0) (xs ys : List Run) → All P (xs ++ ys) → All P xs
All-front P [] ys all = All-nil P
All-front P (x ∷ xs) ys all = All-cons P x xs (All-head P x (xs ++ ys) all) (All-front P xs ys (All-tail P x (xs ++ ys) all))

pub All-back : (P : Run → Type 0) (xs ys : List Run) → All P (xs ++ ys) → All P ys
All-back P [] ys all = all
All-back P (x ∷ xs) ys all = All-back P xs ys (All-tail P x (xs ++ ys) all)

pub each_front : (R : Run → Run → Type 0) (xs ys : List Run) → EachBefore R (xs ++ ys) → EachBefore R xs
each_front R [] ys each = tt
each_front R (x ∷ xs) ys each = (All-front (R x) xs ys each.0, each_front R xs ys each.1)

pub each_back : (R : Run → Run → Type 0) (xs ys : List Run) → EachBefore R (xs ++ ys) → EachBefore R ys
each_back R [] ys each = each
each_back R (x ∷ xs) ys each = each_back R xs ys each.1

pub each_across : (R : Run → Run → Type 0) (xs ys : List Run) → EachBefore R (xs ++ ys) → All (λ x. All (R x) ys) xs
each_across R [] ys each = All-nil (λ x. All (R x) ys)
each_across R (x ∷ xs) ys each = All-cons (λ y. All (R y) ys) x xs (All-back (R x) xs ys each.0) (each_across R xs ys each.1)

pub each_append : (R : Run → Run → Type 0) (xs ys : List Run) → EachBefore R xs → EachBefore R ys → All (λ x. All (R x) ys) xs → EachBefore R (xs ++ ys)
each_append R [] ys front back across = back
each_append R (x ∷ xs) ys front back across =
    (All-append (R x) xs ys front.0 (All-head (λ y. All (R y) ys) x xs across), each_append R xs ys front.1 back (All-tail (λ y. All (R y) ys) x xs across))

-- one run between two parts
pub each_between : (R : Run → Run → Type 0) (xs : List Run) (run : Run) (ys : List Run) → EachBefore R xs → EachBefore R ys → All (λ x. All (R x) ys) xs → All (λ x. R x run) xs → All (R run) ys → EachBefore R (xs ++ run ∷ ys)
each_between R xs run ys front back across before behind =
    each_append R xs (run ∷ ys) front (behind, back) (both xs before across)
  where
    both : (zs : List Run) → All (λ x. R x run) zs → All (λ x. All (R x) ys) zs → All (λ x. All (R x) (run ∷ ys)) zs
    both [] one all = All-nil (λ x. All (R x) (run ∷ ys))
    both (z ∷ zs) one all =
        All-cons (λ x. All (R x) (run ∷ ys)) z zs (All-cons (R z) run ys (All-head (λ x. R x run) z zs one) (All-head (λ x. All (R x) ys) z zs all)) (both zs (All-tail (λ x. R x run) z zs one) (All-tail (λ x. All (R x) ys) z zs all))

-- what lies across, at the first of the second part, and at the rest
pub across_first : (R : Run → Run → Type 0) (xs : List Run) (y : Run) (ys : List Run) → All (λ x. All (R x) (y ∷ ys)) xs → All (λ x. R x y) xs
across_first R xs y ys all = All-weaker (λ x. All (R x) (y ∷ ys)) (λ x. R x y) (λ x h. All-head (R x) y ys h) xs all

pub across_rest : (R : Run → Run → Type 0) (xs : List Run) (y : Run) (ys : List Run) → All (λ x. All (R x) (y ∷ ys)) xs → All (λ x. All (R x) ys) xs
across_rest R xs y ys all = All-weaker (λ x. All (R x) (y ∷ ys)) (λ x. All (R x) ys) (λ x h. All-tail (R x) y ys h) xs all

-- a run begins at a job or before it, or after it
pub begins_by_true : (job : Job) (run : Run) → begins_by job run ≡ true → BeginsBefore run (alone job)
begins_by_true job run is =
    ⊎_elim
    (λ (less : run.port < job.port). inl less)
    (λ (more : job.port ≤ run.port). let port : run.port ≡ job.port = grind (arith, nat_tests) in let from : run.from ≤ job.number = grind (arith, nat_tests) in inr (port, from))
    (cases_lt run.port job.port)

pub begins_by_false : (job : Job) (run : Run) → begins_by job run ≡ false → BeginsAfter run job
begins_by_false job run is =
    ⊎_elim
    (λ (less : job.port < run.port). inl less)
    (λ (more : run.port ≤ job.port). let port : job.port ≡ run.port = grind (arith, nat_tests) in let from : job.number < run.from = grind (arith, nat_tests) in inr (port, from))
    (cases_lt job.port run.port)

pub begins_by_if : (job : Job) (run : Run) → BeginsBefore run (alone job) → begins_by job run ≡ true
begins_by_if job run before =
    ⊎_elim
    (λ (less : run.port < job.port). let is : begins_by job run ≡ true = grind (arith, nat_tests) in is)
    (λ (same : (run.port ≡ job.port) × (run.from ≤ job.number)). let port : run.port ≡ job.port = same.0 in let from : run.from ≤ job.number = same.1 in let is : begins_by job run ≡ true = grind (arith, nat_tests) in is)
    before

pub covers_true : (job : Job) (run : Run) → (covers job run ≡ true → Covers run job) × (Covers run job → covers job run ≡ true)
covers_true job run = (
  λ is. let port : run.port ≡ job.port = grind (arith, nat_tests) in let low : run.from ≤ job.number = grind (arith, nat_tests) in let high : job.number ≤ run.last = grind (arith, nat_tests) in record { port = port; low = low; high = high },
  λ covers. let port = covers.port in let low = covers.low in let high = covers.high in let is : (eqb run.port job.port && leb run.from job.number) && leb job.number run.last ≡ true = grind (arith, nat_tests) in is,
)
