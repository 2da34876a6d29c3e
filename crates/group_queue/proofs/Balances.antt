-- The balance of a place: each step moves a job from one side to the other.
use Rattle.std.proofs.Common.{◌≡◌, ℕ, ◌+◌, List, [], ◌∷◌, ◌++◌, ap, ◌∙◌, arith}
use Rattle.std.proofs.lemmas.List.{map-append}
use Rattle.std.proofs.lemmas.List.Sums.{sum_by-append}
use Rattle.std.proofs.lemmas.List.Sorted.{sum_by-IsPermutation}
use Rattle.std.specs.List.Sorted.{IsPermutation}
use Rattle.std.specs.Prelude.{◌==◌, ◌&&◌, cond}
use Rattle.dispatch_core.specs.declared.event.Job.{Job}
use Rattle.dispatch_core.specs.JobRuns.{jobs_of, count_of}
use Rattle.group_jobs.specs.declared.fate.Fate.{Fate}
use Rattle.group_jobs.specs.declared.fate.Fate.TheVariants.{Acknowledged, Refused, Discarded}
use Rattle.group_jobs.specs.declared.ledger.Ledger.{Ledger}
use Rattle.group_jobs.specs.Settled.{KeepsSettled, Settles, times_settled}
use Rattle.group_jobs.specs.Dockets.{TakesOff}
use Rattle.group_queue.specs.declared.posted.Posted.{Posted}
use Rattle.group_queue.specs.Places.{jobs_in}

worth : Job → Job → ℕ
worth job other = cond ((other.port == job.port) && (other.number == job.number)) 1 0

pub count-push : (job : Job) (jobs : List Job) (one : Job) → count_of job (jobs ++ one ∷ []) ≡ count_of job jobs + count_of job (one ∷ [])
unfolding worth
count-push job jobs one = sum_by-append (worth job) jobs (one ∷ [])

pub count-cons : (job : Job) (one : Job) (jobs : List Job) → count_of job (one ∷ jobs) ≡ count_of job (one ∷ []) + count_of job jobs
unfolding worth
count-cons job one jobs = sum_by-append (worth job) (one ∷ []) jobs

pub count-posted : (job : Job) (list : List Posted) (one : Posted) → count_of job (jobs_in (list ++ one ∷ [])) ≡ count_of job (jobs_in list) + count_of job (one.job ∷ [])
count-posted job list one = ap (count_of job) (map-append (λ (posted : Posted). posted.job) list (one ∷ [])) ∙ count-push job (jobs_in list) one.job

pub count-taken : (job : Job) (old : List Job) (one : Job) (new : List Job) → TakesOff old one new → count_of job old ≡ count_of job new + count_of job (one ∷ [])
unfolding worth
count-taken job old one new taken =
    let whole = ap (count_of job) taken.was ∙ sum_by-append (worth job) taken.front (one ∷ taken.behind) in
    let rest = ap (count_of job) taken.is ∙ sum_by-append (worth job) taken.front taken.behind in
    let head = count-cons job one taken.behind in
    omega (arith, whole, rest, head)

pub times-kept : (job : Job) (old new : Ledger) → KeepsSettled old new → times_settled job new ≡ times_settled job old
times-kept job old new kept =
    let a = ap (λ runs. count_of job (jobs_of runs)) (kept Acknowledged) in
    let r = ap (λ runs. count_of job (jobs_of runs)) (kept Refused) in
    let d = ap (λ runs. count_of job (jobs_of runs)) (kept Discarded) in
    omega (arith, a, r, d)

count-permuted : (job one : Job) (xs ys : List Job) → IsPermutation (one ∷ xs) ys → count_of job ys ≡ count_of job (one ∷ []) + count_of job xs
unfolding worth
count-permuted job one xs ys same = sum_by-IsPermutation (worth job) (one ∷ xs) ys same ∙ count-cons job one xs

pub times-settled : (job : Job) (old : Ledger) (one : Job) (fate : Fate) (new : Ledger) → Settles old one fate new → times_settled job new ≡ times_settled job old + count_of job (one ∷ [])
times-settled job old one Acknowledged new s =
    let a = count-permuted job one _ _ s.there in
    let r = ap (λ list. count_of job (jobs_of list.runs)) (s.others Refused (λ e. cc)) in
    let d = ap (λ list. count_of job (jobs_of list.runs)) (s.others Discarded (λ e. cc)) in
    omega (arith, a, r, d)
times-settled job old one Refused new s =
    let a = ap (λ list. count_of job (jobs_of list.runs)) (s.others Acknowledged (λ e. cc)) in
    let r = count-permuted job one _ _ s.there in
    let d = ap (λ list. count_of job (jobs_of list.runs)) (s.others Discarded (λ e. cc)) in
    omega (arith, a, r, d)
times-settled job old one Discarded new s =
    let a = ap (λ list. count_of job (jobs_of list.runs)) (s.others Acknowledged (λ e. cc)) in
    let r = ap (λ list. count_of job (jobs_of list.runs)) (s.others Refused (λ e. cc)) in
    let d = count-permuted job one _ _ s.there in
    omega (arith, a, r, d)
