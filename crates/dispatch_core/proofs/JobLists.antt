-- The jobs of runs: which they are, how many, and how runs are put together.
use Rattle.std.proofs.Common.{◌≡◌, ℕ, zero, suc, ◌+◌, ◌-◌, ◌<◌, ◌≤◌, ◌⊎◌, ◌&&◌, true, eqb, cond, List, [], ◌∷◌, ◌++◌, length, get_or, Contains, refl, sym, ap, ◌∙◌, inl, inr, ⊎_elim, arith, eq-eqb}
use Rattle.std.proofs.lemmas.List.Concat.{flat_map-append}
use Rattle.std.proofs.lemmas.List.Elements.{Contains-append_left, Contains-append_right, Contains-append_cases}
use Rattle.std.proofs.lemmas.List.Sums.{sum_by-cons, sum_by-append}
use Rattle.dispatch_core.specs.declared.event.Job.{Job}
use Rattle.dispatch_core.specs.declared.runs.Run.{Run}
use Rattle.dispatch_core.specs.JobRuns.{jobs_from, jobs_of_run, jobs_of, count_of}
use Rattle.dispatch_core.proofs.Spots.{same_parts}

pub length-jobs_from : (port from count : ℕ) → length (jobs_from port from count) ≡ count
length-jobs_from port from zero = refl
length-jobs_from port from (suc count) = ap (λ n. suc n) (length-jobs_from port (from + 1) count)

pub get_or-jobs_from : (port from count k : ℕ) (d : Job) → k < count → get_or (jobs_from port from count) k d ≡ record { port = port; number = from + k }
get_or-jobs_from port from zero k d less = absurd (omega arith)
get_or-jobs_from port from (suc count) zero d less = let e : from ≡ from + 0 = omega arith in ap (λ n. record { port = port; number = n }) e
get_or-jobs_from port from (suc count) (suc k) d less =
    let e : from + 1 + k ≡ from + suc k = omega arith in
    get_or-jobs_from port (from + 1) count k d (omega arith) ∙ ap (λ n. record { port = port; number = n }) e

-- two stretches, one after the other
pub jobs_from-add : (port from count more : ℕ) → jobs_from port from (count + more) ≡ jobs_from port from count ++ jobs_from port (from + count) more
jobs_from-add port from zero more =
    let n : 0 + more ≡ more = omega arith in
    let f : from ≡ from + 0 = omega arith in
    ap (jobs_from port from) n ∙ ap (λ m. jobs_from port m more) f
jobs_from-add port from (suc count) more =
    let n : suc count + more ≡ suc (count + more) = omega arith in
    let f : from + 1 + count ≡ from + suc count = omega arith in
    ap (jobs_from port from) n ∙ ap (λ js. record { port = port; number = from } ∷ js) (jobs_from-add port (from + 1) count more ∙ ap (λ m. jobs_from port (from + 1) count ++ jobs_from port m more) f)

-- a run has a job
pub record Covers (run : Run) (job : Job) : Type 0 where
  pub port : run.port ≡ job.port
  pub low : run.from ≤ job.number
  pub high : job.number ≤ run.last

pub contains_run : (run : Run) (job : Job) → (Contains (jobs_of_run run) job → Covers run job) × (Covers run job → Contains (jobs_of_run run) job)
contains_run run job =
    let count = run.last + 1 - run.from in (
      λ has.
          let within : has.0 < count = let l = length-jobs_from run.port run.from count in let h : has.0 < length (jobs_from run.port run.from count) = has.1 in omega arith in
          let is : record { port = run.port; number = run.from + has.0 } ≡ job = sym (get_or-jobs_from run.port run.from count has.0 job within) ∙ has.2 in
          let number : run.from + has.0 ≡ job.number = ap (λ j. j.number) is in
          record { port = ap (λ j. j.port) is; low = omega arith; high = omega arith },
      λ covers.
          let k = job.number - run.from in
          let low = covers.low in
          let high = covers.high in
          let less : k < count = omega arith in
          let number : run.from + k ≡ job.number = omega arith in
          let l = length-jobs_from run.port run.from count in
          (k, omega arith, get_or-jobs_from run.port run.from count k job less ∙ same_parts (record { port = run.port; number = run.from + k }) job covers.port number),
    )

-- one of the runs has a job
abbrev pub IsCovered : List Run → Job → Type 0
IsCovered [] job = ⊥
IsCovered (run ∷ runs) job = Covers run job ⊎ IsCovered runs job

pub covered_contains : (runs : List Run) (job : Job) → IsCovered runs job → Contains (jobs_of runs) job
covered_contains [] job covered = absurd covered
covered_contains (run ∷ runs) job covered =
    ⊎_elim
    (λ (here : Covers run job). Contains-append_left (jobs_of_run run) (jobs_of runs) job ((contains_run run job).1 here))
    (λ (behind : IsCovered runs job). Contains-append_right (jobs_of_run run) (jobs_of runs) job (covered_contains runs job behind))
    covered

pub contains_covered : (runs : List Run) (job : Job) → Contains (jobs_of runs) job → IsCovered runs job
contains_covered [] job has = let h : has.0 < 0 = has.1 in absurd (omega arith)
contains_covered (run ∷ runs) job has =
    ⊎_elim
    (λ (here : Contains (jobs_of_run run) job). inl ((contains_run run job).0 here))
    (λ (behind : Contains (jobs_of runs) job). inr (contains_covered runs job behind))
    (Contains-append_cases (jobs_of_run run) (jobs_of runs) job has)

pub jobs_of-append : (xs ys : List Run) → jobs_of (xs ++ ys) ≡ jobs_of xs ++ jobs_of ys
jobs_of-append xs ys = flat_map-append jobs_of_run xs ys

pub jobs_of_middle : (front : List Run) (run : Run) (back : List Run) → jobs_of (front ++ run ∷ back) ≡ jobs_of front ++ (jobs_of_run run ++ jobs_of back)
jobs_of_middle front run back = jobs_of-append front (run ∷ back)

-- two runs that touch are one
pub touching_runs : (run next : Run) → run.from ≤ run.last → next.from ≤ next.last → run.port ≡ next.port → run.last + 1 ≡ next.from → jobs_of_run (record { port = run.port; from = run.from; last = next.last }) ≡ jobs_of_run run ++ jobs_of_run next
touching_runs run next full next_full ports touch =
    let count = run.last + 1 - run.from in
    let more = next.last + 1 - next.from in
    let all : next.last + 1 - run.from ≡ count + more = omega arith in
    let from : run.from + count ≡ next.from = omega arith in
    ap (jobs_from run.port run.from) all ∙ jobs_from-add run.port run.from count more
    ∙ ap (λ js. jobs_of_run run ++ js) (ap (λ n. jobs_from run.port n more) from ∙ ap (λ p. jobs_from p next.from more) ports)

-- how often a job stands there
pub count_of-append : (job : Job) (xs ys : List Job) → count_of job (xs ++ ys) ≡ count_of job xs + count_of job ys
count_of-append job xs ys = sum_by-append (λ other. cond ((eqb other.port job.port) && (eqb other.number job.number)) 1 0) xs ys

pub count_of-cons : (job first : Job) (xs : List Job) → count_of job (first ∷ xs) ≡ count_of job (first ∷ []) + count_of job xs
count_of-cons job first xs = count_of-append job (first ∷ []) xs

count_of_itself : (job : Job) → count_of job (job ∷ []) ≡ 1
count_of_itself job =
    sum_by-cons (λ other. cond ((eqb other.port job.port) && (eqb other.number job.number)) 1 0) job []
    ∙ ap (λ b. cond (b && (eqb job.number job.number)) 1 0 + 0) (eq-eqb job.port job.port refl)
    ∙ ap (λ b. cond (true && b) 1 0 + 0) (eq-eqb job.number job.number refl)

pub count_of_contained : (jobs : List Job) (job : Job) → Contains jobs job → 1 ≤ count_of job jobs
count_of_contained [] job has = let h : has.0 < 0 = has.1 in absurd (omega arith)
count_of_contained (first ∷ jobs) job (zero, within, is) =
    let e : first ≡ job = is in
    let one : count_of job (first ∷ []) ≡ 1 = ap (λ j. count_of job (j ∷ [])) e ∙ count_of_itself job in
    omega (arith, count_of-cons job first jobs)
count_of_contained (first ∷ jobs) job (suc k, within, is) =
    let rest : 1 ≤ count_of job jobs = count_of_contained jobs job (k, omega arith, is) in
    omega (arith, count_of-cons job first jobs)
