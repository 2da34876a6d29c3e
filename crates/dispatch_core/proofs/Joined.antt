-- A job that is put into sorted runs that do not have it.
use Rattle.std.proofs.Common.{◌≡◌, ◌≢◌, ℕ, ◌+◌, ◌<◌, ◌≤◌, ◌⊎◌, List, [], ◌∷◌, ◌++◌, length, take, drop, All, Contains, refl, sym, ap, ◌∙◌, subst, inl, inr, ⊎_elim, arith, append_assoc, length-append, take-append-drop}
use Rattle.std.proofs.lemmas.Bool.{cases_eq, cases_lt}
use Rattle.std.proofs.lemmas.List.Elements.{All-nil, All-cons, All-head, All-tail, All-append, All-weaker}
use Rattle.dispatch_core.specs.declared.event.Job.{Job}
use Rattle.dispatch_core.specs.declared.runs.Run.{Run}
use Rattle.dispatch_core.specs.JobRuns.{jobs_of, jobs_of_run, IsFilled, EachBefore, BeginsBefore, LiesApart, HasBefore, HasBehind, JoinsRuns}
use Rattle.dispatch_core.specs.JobRuns.{alone}
use Rattle.dispatch_core.specs.Joining.{IsPlaceOf, EndsBefore, BeginsBehind, PutsIn, Joins}
use Rattle.dispatch_core.specs.Merging.{BeginsAfter}
use Rattle.dispatch_core.proofs.JobLists.{Covers, IsCovered, covered_contains, contains_covered, jobs_of-append}
use Rattle.dispatch_core.proofs.Orders.{All-front, All-back, each_front, each_back, each_across, each_between, begins_by_true, begins_by_false}

-- a run ends before a job
abbrev pub LiesBefore : Run → Job → Type 0
LiesBefore run job = (run.port < job.port) ⊎ ((run.port ≡ job.port) × (run.last < job.number))

lies_before : (run : Run) (job : Job) → BeginsBefore run (alone job) → ¬ Covers run job → LiesBefore run job
lies_before run job begins uncovered =
    ⊎_elim
    (λ (less : run.port < job.port). inl less)
    (λ (same : (run.port ≡ job.port) × (run.from ≤ job.number)).
    ⊎_elim
    (λ (less : run.last < job.number). inr (same.0, less))
    (λ (more : job.number ≤ run.last). absurd (uncovered (record { port = same.0; low = same.1; high = more })))
    (cases_lt run.last job.number))
    begins

pub all_lie_before : (runs : List Run) (job : Job) → All (λ run. BeginsBefore run (alone job)) runs → ¬ IsCovered runs job → All (λ run. LiesBefore run job) runs
all_lie_before [] job begin uncovered = All-nil (λ run. LiesBefore run job)
all_lie_before (run ∷ runs) job begin uncovered =
    All-cons (λ r. LiesBefore r job) run runs
    (lies_before run job (All-head (λ r. BeginsBefore r (alone job)) run runs begin) (λ covers. uncovered (inl covers)))
    (all_lie_before runs job (All-tail (λ r. BeginsBefore r (alone job)) run runs begin) (λ covered. uncovered (inr covered)))

-- a job among sorted runs that do not have it: what stands before it, and what after
pub record At (old : List Run) (job : Job) (front back : List Run) : Type 0 where
  pub parts : front ++ back ≡ old
  pub filled : All IsFilled (front ++ back)
  pub sorted : EachBefore BeginsBefore (front ++ back)
  pub before : All (λ run. BeginsBefore run (alone job)) front
  pub behind : All (λ run. BeginsAfter run job) back
  pub lies : All (λ run. LiesBefore run job) front
  pub small : job.number < 18446744073709551615

pub covered_front : (xs ys : List Run) (job : Job) → IsCovered xs job → IsCovered (xs ++ ys) job
covered_front [] ys job covered = absurd covered
covered_front (x ∷ xs) ys job covered =
    ⊎_elim (λ (here : Covers x job). inl here) (λ (behind : IsCovered xs job). inr (covered_front xs ys job behind)) covered

pub covered_back : (xs ys : List Run) (job : Job) → IsCovered ys job → IsCovered (xs ++ ys) job
covered_back [] ys job covered = covered
covered_back (x ∷ xs) ys job covered = inr (covered_back xs ys job covered)

pub at_place : (old : List Run) (job : Job) (place : ℕ) → IsPlaceOf old job place → All IsFilled old → EachBefore BeginsBefore old → ¬ Contains (jobs_of old) job → job.number < 18446744073709551615 → At old job (take place old) (drop place old)
at_place old job place at filled sorted absent small =
    let parts = take-append-drop place old in
    let before = All-weaker _ (λ run. BeginsBefore run (alone job)) (begins_by_true job) (take place old) at.front in
    record {
      parts = parts;
      filled = subst (All IsFilled) (sym parts) filled;
      sorted = subst (EachBefore BeginsBefore) (sym parts) sorted;
      before = before;
      behind = All-weaker _ (λ run. BeginsAfter run job) (begins_by_false job) (drop place old) at.back;
      lies = all_lie_before (take place old) job before (λ covered. absent (covered_contains old job (subst (λ rs. IsCovered rs job) parts (covered_front (take place old) (drop place old) job covered))));
      small = small;
    }

-- one gap after the other
apart_through : (run middle : Run) (job : Job) → LiesApart run middle → middle.from ≤ middle.last → LiesBefore middle job → LiesApart run (alone job)
apart_through run middle job apart full lies =
    ⊎_elim
    (λ (less : run.port < middle.port).
    ⊎_elim
    (λ (later : middle.port < job.port). let both : run.port < job.port = omega arith in inl both)
    (λ (same : (middle.port ≡ job.port) × (middle.last < job.number)). let both : run.port < job.port = omega (arith, same.0) in inl both)
    lies)
    (λ (near : (run.port ≡ middle.port) × (run.last + 1 < middle.from)).
    ⊎_elim
    (λ (later : middle.port < job.port). let both : run.port < job.port = omega (arith, near.0) in inl both)
    (λ (same : (middle.port ≡ job.port) × (middle.last < job.number)). let gap : run.last + 1 < job.number = omega (arith, near.1, same.1) in inr (near.0 ∙ same.0, gap))
    lies)
    apart

-- where the last run before a job does not touch it, none does
pub apart_front : (front : List Run) (job : Job) → EachBefore LiesApart front → All IsFilled front → All (λ run. LiesBefore run job) front → ¬ EndsBefore front job → All (λ run. LiesApart run (alone job)) front
apart_front [] job each filled lies ends = All-nil (λ run. LiesApart run (alone job))
apart_front (run ∷ []) job each filled lies ends =
    All-cons (λ r. LiesApart r (alone job)) run []
    (⊎_elim
    (λ (less : run.port < job.port). inl less)
    (λ (same : (run.port ≡ job.port) × (run.last < job.number)).
    ⊎_elim
    (λ (touch : run.last + 1 ≡ job.number). absurd (ends (record { front = []; run = run; there = refl; port = same.0; touches = touch })))
    (λ (gap : run.last + 1 ≢ job.number). let far : run.last + 1 < job.number = omega (arith, same.1) in inr (same.0, far))
    (cases_eq (run.last + 1) job.number))
    (All-head (λ r. LiesBefore r job) run [] lies))
    (All-nil (λ r. LiesApart r (alone job)))
apart_front (run ∷ next ∷ rest) job each filled lies ends =
    let later = All-tail (λ r. LiesBefore r job) run (next ∷ rest) lies in
    let full = All-tail IsFilled run (next ∷ rest) filled in
    All-cons (λ r. LiesApart r (alone job)) run (next ∷ rest)
    (apart_through run next job (All-head (LiesApart run) next rest each.0) (let f = All-head IsFilled next rest full in f.not_empty) (All-head (λ r. LiesBefore r job) next rest later))
    (apart_front (next ∷ rest) job each.1 full later (λ e. ends (record { front = run ∷ e.front; run = e.run; there = ap (λ rs. run ∷ rs) e.there; port = e.port; touches = e.touches })))

apart_beyond : (job : Job) (middle run : Run) → BeginsAfter middle job → middle.from ≤ middle.last → LiesApart middle run → LiesApart (alone job) run
apart_beyond job middle run begins full apart =
    ⊎_elim
    (λ (less : job.port < middle.port).
    ⊎_elim
    (λ (later : middle.port < run.port). let both : job.port < run.port = omega arith in inl both)
    (λ (same : (middle.port ≡ run.port) × (middle.last + 1 < run.from)). let both : job.port < run.port = omega (arith, same.0) in inl both)
    apart)
    (λ (near : (job.port ≡ middle.port) × (job.number < middle.from)).
    ⊎_elim
    (λ (later : middle.port < run.port). let both : job.port < run.port = omega (arith, near.0) in inl both)
    (λ (same : (middle.port ≡ run.port) × (middle.last + 1 < run.from)). let gap : job.number + 1 < run.from = omega (arith, near.1, same.1) in inr (near.0 ∙ same.0, gap))
    apart)
    begins

-- where the first run after a job does not touch it, none does
pub apart_back : (back : List Run) (job : Job) → EachBefore LiesApart back → All IsFilled back → All (λ run. BeginsAfter run job) back → ¬ BeginsBehind back job → All (LiesApart (alone job)) back
apart_back [] job each filled begin begins = All-nil (LiesApart (alone job))
apart_back (run ∷ rest) job each filled begin begins =
    let first = All-head (λ r. BeginsAfter r job) run rest begin in
    let full = All-head IsFilled run rest filled in
    All-cons (LiesApart (alone job)) run rest
    (⊎_elim
    (λ (less : job.port < run.port). inl less)
    (λ (same : (job.port ≡ run.port) × (job.number < run.from)).
    ⊎_elim
    (λ (touch : job.number + 1 ≡ run.from). absurd (begins (record { run = run; back = rest; there = refl; port = sym same.0; touches = touch })))
    (λ (gap : job.number + 1 ≢ run.from). let far : job.number + 1 < run.from = omega (arith, same.1) in inr (same.0, far))
    (cases_eq (job.number + 1) run.from))
    first)
    (All-weaker (LiesApart run) (LiesApart (alone job)) (λ r apart. apart_beyond job run r first full.not_empty apart) rest each.0)

-- the neighbours of a job are there exactly where a run touches it
uncovered_before : (runs : List Run) (job : Job) (number : ℕ) → number + 1 ≡ job.number → All (λ run. LiesApart run (alone job)) runs → ¬ IsCovered runs (record { port = job.port; number = number })
uncovered_before [] job number next all covered = covered
uncovered_before (run ∷ runs) job number next all covered =
    ⊎_elim
    (λ (here : Covers run (record { port = job.port; number = number })).
    let port : run.port ≡ job.port = here.port in
    let high : number ≤ run.last = here.high in
    ⊎_elim
    (λ (less : run.port < job.port). let no : ⊥ = omega arith in no)
    (λ (same : (run.port ≡ job.port) × (run.last + 1 < job.number)). let no : ⊥ = omega (arith, same.1) in no)
    (All-head (λ r. LiesApart r (alone job)) run runs all))
    (λ (behind : IsCovered runs (record { port = job.port; number = number })). uncovered_before runs job number next (All-tail (λ r. LiesApart r (alone job)) run runs all) behind)
    covered

uncovered_behind : (runs : List Run) (job : Job) → All (LiesApart (alone job)) runs → ¬ IsCovered runs (record { port = job.port; number = job.number + 1 })
uncovered_behind [] job all covered = covered
uncovered_behind (run ∷ runs) job all covered =
    ⊎_elim
    (λ (here : Covers run (record { port = job.port; number = job.number + 1 })).
    let port : run.port ≡ job.port = here.port in
    let low : run.from ≤ job.number + 1 = here.low in
    ⊎_elim
    (λ (less : job.port < run.port). let no : ⊥ = omega arith in no)
    (λ (same : (job.port ≡ run.port) × (job.number + 1 < run.from)). let no : ⊥ = omega (arith, same.1) in no)
    (All-head (LiesApart (alone job)) run runs all))
    (λ (behind : IsCovered runs (record { port = job.port; number = job.number + 1 })). uncovered_behind runs job (All-tail (LiesApart (alone job)) run runs all) behind)
    covered

-- what begins after a job has no job with a smaller number, and what ends before it none with a greater one
pub uncovered_by_later : (runs : List Run) (job : Job) (number : ℕ) → number ≤ job.number → All (λ run. BeginsAfter run job) runs → ¬ IsCovered runs (record { port = job.port; number = number })
uncovered_by_later [] job number less all covered = covered
uncovered_by_later (run ∷ runs) job number less all covered =
    ⊎_elim
    (λ (here : Covers run (record { port = job.port; number = number })).
    let port : run.port ≡ job.port = here.port in
    let low : run.from ≤ number = here.low in
    ⊎_elim
    (λ (later : job.port < run.port). let no : ⊥ = omega arith in no)
    (λ (same : (job.port ≡ run.port) × (job.number < run.from)). let no : ⊥ = omega (arith, same.1) in no)
    (All-head (λ r. BeginsAfter r job) run runs all))
    (λ (behind : IsCovered runs (record { port = job.port; number = number })). uncovered_by_later runs job number less (All-tail (λ r. BeginsAfter r job) run runs all) behind)
    covered

uncovered_by_earlier : (runs : List Run) (job : Job) (number : ℕ) → job.number ≤ number → All (λ run. LiesBefore run job) runs → ¬ IsCovered runs (record { port = job.port; number = number })
uncovered_by_earlier [] job number more all covered = covered
uncovered_by_earlier (run ∷ runs) job number more all covered =
    ⊎_elim
    (λ (here : Covers run (record { port = job.port; number = number })).
    let port : run.port ≡ job.port = here.port in
    let high : number ≤ run.last = here.high in
    ⊎_elim
    (λ (less : run.port < job.port). let no : ⊥ = omega arith in no)
    (λ (same : (run.port ≡ job.port) × (run.last < job.number)). let no : ⊥ = omega (arith, same.1) in no)
    (All-head (λ r. LiesBefore r job) run runs all))
    (λ (behind : IsCovered runs (record { port = job.port; number = number })). uncovered_by_earlier runs job number more (All-tail (λ r. LiesBefore r job) run runs all) behind)
    covered

pub covered_parts : (xs ys : List Run) (job : Job) → IsCovered (xs ++ ys) job → IsCovered xs job ⊎ IsCovered ys job
covered_parts [] ys job covered = inr covered
covered_parts (x ∷ xs) ys job covered =
    ⊎_elim
    (λ (here : Covers x job). inl (inl here))
    (λ (more : IsCovered (xs ++ ys) job).
    ⊎_elim (λ (front : IsCovered xs job). inl (inr front)) (λ (back : IsCovered ys job). inr back) (covered_parts xs ys job more))
    covered

pub no_before : (old : List Run) (job : Job) (front back : List Run) → At old job front back → EachBefore LiesApart old → ¬ EndsBefore front job → ¬ HasBefore (jobs_of old) job
no_before old job front back at apart ends has =
    let neighbour : Job = record { port = job.port; number = has.0 } in
    let next : has.0 + 1 ≡ job.number = has.1 in
    let covered : IsCovered (front ++ back) neighbour = subst (λ rs. IsCovered rs neighbour) (sym at.parts) (contains_covered old neighbour has.2) in
    let each = subst (EachBefore LiesApart) (sym at.parts) apart in
    ⊎_elim
    (λ (f : IsCovered front neighbour).
    uncovered_before front job has.0 next (apart_front front job (each_front LiesApart front back each) (All-front IsFilled front back at.filled) at.lies ends) f)
    (λ (b : IsCovered back neighbour). uncovered_by_later back job has.0 (omega arith) at.behind b)
    (covered_parts front back neighbour covered)

pub no_behind : (old : List Run) (job : Job) (front back : List Run) → At old job front back → EachBefore LiesApart old → ¬ BeginsBehind back job → ¬ HasBehind (jobs_of old) job
no_behind old job front back at apart begins has =
    let neighbour : Job = record { port = job.port; number = job.number + 1 } in
    let covered : IsCovered (front ++ back) neighbour = subst (λ rs. IsCovered rs neighbour) (sym at.parts) (contains_covered old neighbour has) in
    let each = subst (EachBefore LiesApart) (sym at.parts) apart in
    ⊎_elim
    (λ (f : IsCovered front neighbour). uncovered_by_earlier front job (job.number + 1) (omega arith) at.lies f)
    (λ (b : IsCovered back neighbour).
    uncovered_behind back job (apart_back back job (each_back LiesApart front back each) (All-back IsFilled front back at.filled) at.behind begins) b)
    (covered_parts front back neighbour covered)

pub has_before : (old : List Run) (job : Job) (front back : List Run) → At old job front back → EndsBefore front job → HasBefore (jobs_of old) job
has_before old job front back at ends =
    let run = ends.run in
    let full = All-head IsFilled run [] (All-back IsFilled ends.front (run ∷ []) (subst (All IsFilled) ends.there (All-front IsFilled front back at.filled))) in
    let neighbour : Job = record { port = job.port; number = run.last } in
    let here : IsCovered (ends.front ++ run ∷ []) neighbour = covered_back ends.front (run ∷ []) neighbour (inl (record { port = ends.port; low = full.not_empty; high = omega arith })) in
    (run.last, ends.touches, covered_contains old neighbour (subst (λ rs. IsCovered rs neighbour) at.parts (covered_front front back neighbour (subst (λ rs. IsCovered rs neighbour) (sym ends.there) here))))

pub has_behind : (old : List Run) (job : Job) (front back : List Run) → At old job front back → BeginsBehind back job → HasBehind (jobs_of old) job
has_behind old job front back at begins =
    let run = begins.run in
    let full = All-head IsFilled run begins.back (subst (All IsFilled) begins.there (All-back IsFilled front back at.filled)) in
    let touch : job.number + 1 ≡ run.from = begins.touches in
    let low : run.from ≤ job.number + 1 = omega arith in
    let high : job.number + 1 ≤ run.last = omega (arith, full.not_empty) in
    let neighbour : Job = record { port = job.port; number = job.number + 1 } in
    let here : IsCovered (run ∷ begins.back) neighbour = inl (record { port = begins.port; low = low; high = high }) in
    covered_contains old neighbour (subst (λ rs. IsCovered rs neighbour) at.parts (covered_back front back neighbour (subst (λ rs. IsCovered rs neighbour) (sym begins.there) here)))

-- some runs in the middle give way to one that has their jobs and one more
pub puts_in : (old new front middle back : List Run) (run : Run) (job : Job) → old ≡ front ++ (middle ++ back) → new ≡ front ++ run ∷ back → PutsIn (jobs_of middle) job (jobs_of_run run) → PutsIn (jobs_of old) job (jobs_of new)
puts_in old new front middle back run job was is put =
    record {
      before = jobs_of front ++ put.before;
      behind = put.behind ++ jobs_of back;
      was = ap jobs_of was ∙ jobs_of-append front (middle ++ back) ∙ ap (λ js. jobs_of front ++ js) (jobs_of-append middle back ∙ ap (λ js. js ++ jobs_of back) put.was ∙ append_assoc put.before put.behind (jobs_of back))
          ∙ sym (append_assoc (jobs_of front) put.before (put.behind ++ jobs_of back));
      is = ap jobs_of is ∙ jobs_of-append front (run ∷ back) ∙ ap (λ js. jobs_of front ++ js) (ap (λ js. js ++ jobs_of back) put.is ∙ append_assoc put.before (job ∷ put.behind) (jobs_of back))
          ∙ sym (append_assoc (jobs_of front) put.before (job ∷ put.behind ++ jobs_of back));
    }

pub record Fits (front : List Run) (run : Run) (back : List Run) (R : Run → Run → Type 0) : Type 0 where
  pub before : All (λ r. R r run) front
  pub behind : All (R run) back

pub joined : (old new front middle back : List Run) (run : Run) (job : Job) → old ≡ front ++ (middle ++ back) → new ≡ front ++ run ∷ back → All IsFilled old → EachBefore BeginsBefore old → IsFilled run → Fits front run back BeginsBefore → (EachBefore LiesApart old → Fits front run back LiesApart) → PutsIn (jobs_of middle) job (jobs_of_run run) → (EachBefore LiesApart old → JoinsRuns (jobs_of old) job (length old) (length new)) → Joins old job new
joined old new front middle back run job was is filled sorted full order apart put count =
    let all = subst (All IsFilled) was filled in
    let each = subst (EachBefore BeginsBefore) was sorted in
    record {
      filled = subst (All IsFilled) (sym is) (All-append IsFilled front (run ∷ back) (All-front IsFilled front (middle ++ back) all) (All-cons IsFilled run back full (All-back IsFilled middle back (All-back IsFilled front (middle ++ back) all))));
      in_order = subst (EachBefore BeginsBefore) (sym is)
          (each_between BeginsBefore front run back (each_front BeginsBefore front (middle ++ back) each) (each_back BeginsBefore middle back (each_back BeginsBefore front (middle ++ back) each))
          (All-weaker (λ x. All (BeginsBefore x) (middle ++ back)) (λ x. All (BeginsBefore x) back) (λ x h. All-back (BeginsBefore x) middle back h) front (each_across BeginsBefore front (middle ++ back) each)) order.before order.behind);
      apart = λ gaps.
          let gaps_there = subst (EachBefore LiesApart) was gaps in
          let fits = apart gaps in
          subst (EachBefore LiesApart) (sym is)
          (each_between LiesApart front run back (each_front LiesApart front (middle ++ back) gaps_there) (each_back LiesApart middle back (each_back LiesApart front (middle ++ back) gaps_there))
          (All-weaker (λ x. All (LiesApart x) (middle ++ back)) (λ x. All (LiesApart x) back) (λ x h. All-back (LiesApart x) middle back h) front (each_across LiesApart front (middle ++ back) gaps_there)) fits.before fits.behind);
      put_in = puts_in old new front middle back run job was is put;
      room =
          let long = ap length was in
          let new_long = ap length is in
          omega (arith, length-append front (middle ++ back), length-append middle back, length-append front (run ∷ back));
      count = count;
    }
