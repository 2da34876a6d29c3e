-- Lists that have each job equally often are equally long.
use Rattle.std.proofs.Common.{◌≡◌, ◌≢◌, ◌+◌, ◌≤◌, ◌⊎◌, ⊎_elim, inl, inr, List, ℕ, [], ◌∷◌, ◌++◌, length, refl, sym, ap, ◌∙◌, arith, length-append, eqb, eqb-true, cond, true, false}
use Rattle.std.specs.Prelude.{sum_by, ◌&&◌, All}
use Rattle.std.proofs.lemmas.Bool.{cases_eq}
use Rattle.std.proofs.lemmas.List.Elements.{All-head, All-tail}
use Rattle.std.proofs.lemmas.List.Sums.{sum_by-cons}
use Rattle.dispatch_core.specs.declared.event.Job.{Job}
use Rattle.dispatch_core.specs.JobRuns.{count_of}
use Rattle.dispatch_core.proofs.JobLists.{count_of-append, count_of-cons, count_of_contained}
use Rattle.group_jobs.specs.declared.fate.Fate.TheVariants.{Acknowledged, Refused, Discarded}
use Rattle.group_jobs.specs.declared.fate.Fate.{Fate}
use Rattle.group_jobs.specs.declared.ledger.Ledger.{Ledger}
use Rattle.group_jobs.specs.Settled.{fates, settled_as}
use Rattle.shared_ledger.specs.Giving.{times_in, jobs_in as jobs_given}
use Rattle.group_queue.specs.Places.{PlaceState, IsBalanced, jobs_in}
use Rattle.group_queue.specs.Known.{ended}
use Rattle.group_queue.proofs.Endings.{length_jobs}

same_job : (a b : Job) → (a ≡ b) ⊎ (a ≢ b)
same_job a b =
    ⊎_elim
    (λ (ports : a.port ≡ b.port).
    ⊎_elim
    (λ (numbers : a.number ≡ b.number). inl (λ i. record { port = ports i; number = numbers i }))
    (λ (other : a.number ≢ b.number). inr (λ e. other (ap (λ j. j.number) e)))
    (cases_eq a.number b.number))
    (λ (other : a.port ≢ b.port). inr (λ e. other (ap (λ j. j.port) e)))
    (cases_eq a.port b.port)

bit : (p q : _) → cond (p && q) 1 0 ≤ 1
bit true true = omega arith
bit true false = omega arith
bit false q = omega arith

none_of : (first job : Job) → first ≢ job → cond ((eqb first.port job.port) && (eqb first.number job.number)) 1 0 + 0 ≡ 0
none_of first job ne = cases (eqb first.port job.port) refl (eqb first.number job.number) refl
  where
    cases : (p : _) → eqb first.port job.port ≡ p → (q : _) → eqb first.number job.number ≡ q → cond (p && q) 1 0 + 0 ≡ 0
    cases true ports true numbers = absurd (ne (λ i. record { port = eqb-true first.port job.port ports i; number = eqb-true first.number job.number numbers i }))
    cases true ports false numbers = omega arith
    cases false ports q numbers = omega arith

count_other : (first job : Job) → first ≢ job → count_of job (first ∷ []) ≡ 0
count_other first job ne = sum_by-cons (λ other. cond ((eqb other.port job.port) && (eqb other.number job.number)) 1 0) first [] ∙ none_of first job ne

-- what stands in a list can be taken off it
take_off : (jobs : List Job) (job : Job) → 1 ≤ count_of job jobs → (rest : List Job) × (length jobs ≡ length rest + 1) × ((other : Job) → count_of other jobs ≡ count_of other (job ∷ []) + count_of other rest)
take_off [] job some = absurd (omega arith)
take_off (first ∷ jobs) job some =
    ⊎_elim
    (λ (same : first ≡ job). (jobs, omega arith, λ other. count_of-cons other first jobs ∙ ap (λ j. count_of other (j ∷ []) + count_of other jobs) same))
    (λ (differs : first ≢ job).
    let rest = take_off jobs job (omega (arith, some, count_of-cons job first jobs, count_other first job differs)) in
    let less : length jobs ≡ length rest.0 + 1 = rest.1 in
    (first ∷ rest.0, omega arith, λ other. omega (arith, rest.2 other, count_of-cons other first jobs, count_of-cons other first rest.0)))
    (same_job first job)

pub same_lengths : (xs ys : List Job) → ((job : Job) → count_of job xs ≡ count_of job ys) → length xs ≡ length ys
same_lengths [] [] same = refl
same_lengths [] (y ∷ ys) same = let there = count_of_contained (y ∷ ys) y (0, omega arith, refl) in let none = same y in absurd (omega arith)
same_lengths (x ∷ xs) ys same =
    let there = count_of_contained (x ∷ xs) x (0, omega arith, refl) in
    let rest = take_off ys x (omega (arith, there, same x)) in
    let tail = same_lengths xs rest.0 (λ job. omega (arith, same job, count_of-cons job x xs, rest.2 job)) in
    omega (arith, tail, rest.1)

-- all jobs of a fate in these ledgers
abbrev pub listed : Fate → List Ledger → List Job
listed fate [] = []
listed fate (l ∷ ls) = settled_as fate l ++ listed fate ls

count_listed : (fate : Fate) (job : Job) (ls : List Ledger) → count_of job (listed fate ls) ≡ times_in ls fate job
count_listed fate job [] = refl
count_listed fate job (l ∷ ls) =
    omega (arith, count_of-append job (settled_as fate l) (listed fate ls), count_listed fate job ls, sum_by-cons (λ (k : Ledger). count_of job (settled_as fate k)) l ls)

-- how many jobs a place gave to the group's ledger
pub gathered : PlaceState → ℕ
gathered place = sum_by (λ fate. length (listed fate place.giver.gave)) fates

-- all jobs of a fate that these places gave
abbrev pub all_listed : Fate → List PlaceState → List Job
all_listed fate [] = []
all_listed fate (p ∷ places) = listed fate p.giver.gave ++ all_listed fate places

count_all_listed : (fate : Fate) (job : Job) (places : List PlaceState) → count_of job (all_listed fate places) ≡ sum_by (λ (p : PlaceState). times_in p.giver.gave fate job) places
count_all_listed fate job [] = refl
count_all_listed fate job (p ∷ places) = omega (
  arith,
  count_of-append job (listed fate p.giver.gave) (all_listed fate places),
  count_listed fate job p.giver.gave,
  count_all_listed fate job places,
  sum_by-cons (λ (q : PlaceState). times_in q.giver.gave fate job) p places,
)

length_all_listed : (places : List PlaceState) → sum_by (λ fate. length (all_listed fate places)) fates ≡ sum_by gathered places
unfolding gathered
length_all_listed [] = refl
length_all_listed (p ∷ places) = omega (
  arith,
  length-append (listed Acknowledged p.giver.gave) (all_listed Acknowledged places),
  length-append (listed Refused p.giver.gave) (all_listed Refused places),
  length-append (listed Discarded p.giver.gave) (all_listed Discarded places),
  length_all_listed places,
  sum_by-cons gathered p places,
)

-- a ledger that has what these places gave has as many jobs as they gave
pub as_many : (ledger : Ledger) (places : List PlaceState) → ((fate : Fate) (job : Job) → count_of job (settled_as fate ledger) ≡ sum_by (λ (p : PlaceState). times_in p.giver.gave fate job) places)
    → jobs_given ledger ≡ sum_by gathered places
as_many ledger places same =
    let each = λ (fate : Fate). same_lengths (settled_as fate ledger) (all_listed fate places) (λ job. same fate job ∙ sym (count_all_listed fate job places)) in
    omega (arith, each Acknowledged, each Refused, each Discarded, length_all_listed places)

-- as many hand-outs as ends
pub balanced_length : (place : PlaceState) → IsBalanced place → length place.firsts + length place.agains ≡ ended place + gathered place + length place.given + length place.docket.out
unfolding gathered
balanced_length place balanced =
    let done = settled_as Acknowledged place.docket.settled in
    let no = settled_as Refused place.docket.settled in
    let off = settled_as Discarded place.docket.settled in
    let before = listed Acknowledged place.giver.gave in
    let before_no = listed Refused place.giver.gave in
    let before_off = listed Discarded place.giver.gave in
    let out = place.docket.out in
    let firsts = jobs_in place.firsts in
    let agains = jobs_in place.agains in
    let given = jobs_in place.given in
    let last = given ++ out in
    let same = same_lengths (firsts ++ agains) (done ++ (no ++ (off ++ (before ++ (before_no ++ (before_off ++ last))))))
    (λ job. omega (
      arith,
      balanced job,
      count_listed Acknowledged job place.giver.gave,
      count_listed Refused job place.giver.gave,
      count_listed Discarded job place.giver.gave,
      count_of-append job firsts agains,
      count_of-append job done (no ++ (off ++ (before ++ (before_no ++ (before_off ++ last))))),
      count_of-append job no (off ++ (before ++ (before_no ++ (before_off ++ last)))),
      count_of-append job off (before ++ (before_no ++ (before_off ++ last))),
      count_of-append job before (before_no ++ (before_off ++ last)),
      count_of-append job before_no (before_off ++ last),
      count_of-append job before_off last,
      count_of-append job given out,
    )) in
    omega (
      arith,
      same,
      length-append firsts agains,
      length-append done (no ++ (off ++ (before ++ (before_no ++ (before_off ++ last))))),
      length-append no (off ++ (before ++ (before_no ++ (before_off ++ last)))),
      length-append off (before ++ (before_no ++ (before_off ++ last))),
      length-append before (before_no ++ (before_off ++ last)),
      length-append before_no (before_off ++ last),
      length-append before_off last,
      length-append given out,
      length_jobs place.firsts,
      length_jobs place.agains,
      length_jobs place.given,
    )

-- and so of all places together
pub balanced_lengths : (places : List PlaceState) → All IsBalanced places
    → sum_by (λ (p : PlaceState). length p.firsts) places + sum_by (λ (p : PlaceState). length p.agains) places
    ≡ sum_by ended places + sum_by gathered places + sum_by (λ (p : PlaceState). length p.given) places + sum_by (λ (p : PlaceState). length p.docket.out) places
balanced_lengths [] all = refl
balanced_lengths (p ∷ places) all = omega (
  arith,
  balanced_length p (All-head IsBalanced p places all),
  balanced_lengths places (All-tail IsBalanced p places all),
  sum_by-cons (λ (q : PlaceState). length q.firsts) p places,
  sum_by-cons (λ (q : PlaceState). length q.agains) p places,
  sum_by-cons ended p places,
  sum_by-cons gathered p places,
  sum_by-cons (λ (q : PlaceState). length q.given) p places,
  sum_by-cons (λ (q : PlaceState). length q.docket.out) p places,
)
