-- How often a job stands in a list.
use Rattle.std.proofs.Common.{◌≡◌, ◌≢◌, ℕ, zero, suc, ◌+◌, ◌<◌, ◌≤◌, ◌&&◌, Bool, true, false, eqb, cond, List, [], ◌∷◌, length, get_or, refl, sym, ap, ◌∙◌, ⊎_elim, arith, eq-eqb, eqb-true}
use Rattle.std.proofs.lemmas.List.Sums.{sum_by-cons}
use Rattle.dispatch_core.specs.declared.event.Job.{Job}
use Rattle.dispatch_core.specs.JobRuns.{count_of}
use Rattle.dispatch_core.proofs.JobLists.{count_of-cons}
use Rattle.dispatch_core.proofs.Spots.{same_job}

pub count_of-same : (job : Job) → count_of job (job ∷ []) ≡ 1
count_of-same job =
    sum_by-cons (λ other. cond ((eqb other.port job.port) && (eqb other.number job.number)) 1 0) job []
    ∙ ap (λ b. cond (b && (eqb job.number job.number)) 1 0 + 0) (eq-eqb job.port job.port refl)
    ∙ ap (λ b. cond (true && b) 1 0 + 0) (eq-eqb job.number job.number refl)

abbrev one_if : Bool → ℕ
one_if b = cond b 1 0

not_both : (p q : Bool) → (p ≡ true → q ≡ true → ⊥) → one_if (p && q) ≡ 0
not_both true true never = absurd (never refl refl)
not_both true false never = refl
not_both false q never = refl

pub count_of-other : (job first : Job) → job ≢ first → count_of job (first ∷ []) ≡ 0
count_of-other job first ne =
    sum_by-cons (λ other. cond ((eqb other.port job.port) && (eqb other.number job.number)) 1 0) first []
    ∙ ap (λ n. n + 0)
    (not_both (eqb first.port job.port) (eqb first.number job.number)
    (λ ports numbers. ne (λ i. record { port = sym (eqb-true first.port job.port ports) i; number = sym (eqb-true first.number job.number numbers) i })))

-- what stands there stands somewhere
pub count_of-place : (jobs : List Job) (job : Job) → 1 ≤ count_of job jobs → (k : ℕ) × (k < length jobs) × ((d : Job) → get_or jobs k d ≡ job)
count_of-place [] job some = absurd (omega arith)
count_of-place (first ∷ jobs) job some =
    ⊎_elim
    (λ (same : first ≡ job). (0, omega arith, λ d. same))
    (λ (differs : first ≢ job).
    let rest = count_of-place jobs job (omega (arith, some, count_of-cons job first jobs, count_of-other job first (λ e. differs (sym e)))) in
    (suc rest.0, (let l : rest.0 < length jobs = rest.1 in omega arith), rest.2))
    (same_job first job)

-- and what is somewhere stands there
pub count_of-there : (jobs : List Job) (k : ℕ) (d : Job) → k < length jobs → 1 ≤ count_of (get_or jobs k d) jobs
count_of-there [] k d within = absurd (omega arith)
count_of-there (first ∷ jobs) zero d within = omega (arith, count_of-cons first first jobs, count_of-same first)
count_of-there (first ∷ jobs) (suc k) d within =
    let job = get_or jobs k d in
    let rest : 1 ≤ count_of job jobs = count_of-there jobs k d (omega arith) in
    omega (arith, count_of-cons job first jobs)

-- what stands in a list can be taken off it
pub take_off : (jobs : List Job) (job : Job) → 1 ≤ count_of job jobs → (rest : List Job) × (length jobs ≡ length rest + 1) × ((other : Job) → count_of other jobs ≡ count_of other (job ∷ []) + count_of other rest)
take_off [] job some = absurd (omega arith)
take_off (first ∷ jobs) job some =
    ⊎_elim
    (λ (same : first ≡ job). (jobs, omega arith, λ other. count_of-cons other first jobs ∙ ap (λ j. count_of other (j ∷ []) + count_of other jobs) same))
    (λ (differs : first ≢ job).
    let rest = take_off jobs job (omega (arith, some, count_of-cons job first jobs, count_of-other job first (λ e. differs (sym e)))) in
    let less : length jobs ≡ length rest.0 + 1 = rest.1 in
    (first ∷ rest.0, omega arith, λ other. omega (arith, rest.2 other, count_of-cons other first jobs, count_of-cons other first rest.0)))
    (same_job first job)
