-- A job that is put into two sorted lists of runs, seen as one.
use Rattle.std.proofs.Common.{◌≡◌, ℕ, ◌+◌, ◌<◌, ◌≤◌, ◌⊎◌, true, Option, Some, None, List, [], ◌∷◌, ◌++◌, length, take, drop, get_or, insert, All, Contains, refl, sym, ap, ◌∙◌, subst, inl, inr, ⊎_elim, arith, append-nil, length-append, take-append-drop}
use Rattle.std.proofs.lemmas.List.Elements.{All-nil, All-cons, All-head, All-tail, All-weaker}
use Rattle.dispatch_core.specs.declared.event.Job.{Job}
use Rattle.dispatch_core.specs.declared.runs.Run.{Run}
use Rattle.dispatch_core.specs.JobRuns.{alone, jobs_of, IsFilled, EachBefore, BeginsBefore, LiesApart}
use Rattle.dispatch_core.specs.Joining.{IsPlaceOf, EndsBefore, BeginsBehind, Joins}
use Rattle.dispatch_core.specs.Merging.{merged, BeginsAfter, IsOpened, TakesBehind, Lengthens, Shortens}
use Rattle.dispatch_core.proofs.Orders.{All-front, All-back, each_front, each_back, begins_by_true, begins_by_false}
use Rattle.dispatch_core.proofs.MergedLists.{BeginsSooner, sooner_before, Part, by_merging, length-merged, All-merged, merged_all, merged_apart, merged_parts, before_all, sooner_all}
use Rattle.dispatch_core.proofs.JobLists.{IsCovered, covered_contains}
use Rattle.dispatch_core.proofs.Joined.{At, all_lie_before, covered_front}
use Rattle.dispatch_core.proofs.JoinedCases.{joins_alone, joins_before, joins_behind, joins_both}

-- what begins by a job begins sooner than what begins after it
sooner_than : (job : Job) (run other : Run) → BeginsBefore run (alone job) → BeginsAfter other job → BeginsSooner run other
sooner_than job run other before after =
    ⊎_elim
    (λ (less : run.port < job.port).
    ⊎_elim
    (λ (more : job.port < other.port). let both : run.port < other.port = omega arith in inl both)
    (λ (same : (job.port ≡ other.port) × (job.number < other.from)). let both : run.port < other.port = omega (arith, same.0) in inl both)
    after)
    (λ (near : (run.port ≡ job.port) × (run.from ≤ job.number)).
    ⊎_elim
    (λ (more : job.port < other.port). let both : run.port < other.port = omega (arith, near.0) in inl both)
    (λ (same : (job.port ≡ other.port) × (job.number < other.from)). let from : run.from < other.from = omega (arith, near.1, same.1) in inr (near.0 ∙ same.0, from))
    after)
    before

before_than : (job : Job) (run other : Run) → BeginsBefore run (alone job) → BeginsAfter other job → BeginsBefore run other
before_than job run other before after =
    ⊎_elim
    (λ (less : run.port < other.port). inl less)
    (λ (same : (run.port ≡ other.port) × (run.from < other.from)). let from : run.from ≤ other.from = omega (arith, same.1) in inr (same.0, from))
    (sooner_than job run other before after)

-- a run that ends right before a job: what begins by the job and lies apart from it begins sooner
sooner_apart : (job : Job) (run other : Run) → run.port ≡ job.port → run.last + 1 ≡ job.number → BeginsBefore other (alone job) → IsFilled other → LiesApart run other ⊎ LiesApart other run → BeginsSooner other run
sooner_apart job run other port touches before full part =
    ⊎_elim
    (λ (behind : LiesApart run other).
    ⊎_elim
    (λ (more : run.port < other.port).
    ⊎_elim
    (λ (less : other.port < job.port). absurd (omega arith))
    (λ (same : (other.port ≡ job.port) × (other.from ≤ job.number)). absurd (omega (arith, same.0)))
    before)
    (λ (near : (run.port ≡ other.port) × (run.last + 1 < other.from)).
    ⊎_elim
    (λ (less : other.port < job.port). absurd (omega (arith, near.0)))
    (λ (same : (other.port ≡ job.port) × (other.from ≤ job.number)). absurd (omega (arith, near.1, same.1)))
    before)
    behind)
    (λ (ahead : LiesApart other run).
    ⊎_elim
    (λ (less : other.port < run.port). inl less)
    (λ (near : (other.port ≡ run.port) × (other.last + 1 < run.from)). let from : other.from < run.from = omega (arith, near.1, full.not_empty) in inr (near.0, from))
    ahead)
    part

-- a run right after a job: what begins after the job and lies apart from it begins later
later_apart : (job : Job) (run other : Run) → run.port ≡ job.port → job.number + 1 ≡ run.from → IsFilled run → BeginsAfter other job → IsFilled other → LiesApart run other ⊎ LiesApart other run → BeginsSooner run other
later_apart job run other port touches run_full after full part =
    ⊎_elim
    (λ (behind : LiesApart run other).
    ⊎_elim
    (λ (more : run.port < other.port). inl more)
    (λ (near : (run.port ≡ other.port) × (run.last + 1 < other.from)). let from : run.from < other.from = omega (arith, near.1, run_full.not_empty) in inr (near.0, from))
    behind)
    (λ (ahead : LiesApart other run).
    ⊎_elim
    (λ (less : other.port < run.port).
    ⊎_elim
    (λ (more : job.port < other.port). absurd (omega arith))
    (λ (same : (job.port ≡ other.port) × (job.number < other.from)). absurd (omega (arith, same.0)))
    after)
    (λ (near : (other.port ≡ run.port) × (other.last + 1 < run.from)).
    ⊎_elim
    (λ (more : job.port < other.port). absurd (omega (arith, near.0)))
    (λ (same : (job.port ≡ other.port) × (job.number < other.from)). absurd (omega (arith, near.1, same.1, full.not_empty)))
    after)
    ahead)
    part

-- the run right after a job begins no later than all that begins after the job
before_after : (job : Job) (run other : Run) → run.port ≡ job.port → job.number + 1 ≡ run.from → BeginsAfter other job → BeginsBefore run other
before_after job run other port touches after =
    ⊎_elim
    (λ (more : job.port < other.port). let less : run.port < other.port = omega arith in inl less)
    (λ (same : (job.port ≡ other.port) × (job.number < other.from)). let from : run.from ≤ other.from = omega (arith, same.1) in inr (port ∙ same.0, from))
    after

-- two lists of which one is nowhere before the other
abbrev Front : Job → List Run → Type 0
Front job runs = All (λ run. BeginsBefore run (alone job)) runs

abbrev Back : Job → List Run → Type 0
Back job runs = All (λ run. BeginsAfter run job) runs

all_sooner : (job : Job) (xs ys : List Run) → Front job xs → Back job ys → All (λ x. All (BeginsSooner x) ys) xs
all_sooner job xs ys front back k d less = λ m e within. sooner_than job (get_or xs k d) (get_or ys m e) (front k d less) (back m e within)

all_before : (job : Job) (xs ys : List Run) → Front job xs → Back job ys → All (λ x. All (BeginsBefore x) ys) xs
all_before job xs ys front back k d less = λ m e within. before_than job (get_or xs k d) (get_or ys m e) (front k d less) (back m e within)

pub cut : (job : Job) (front near back beyond : List Run) → Front job front → Front job near → Back job back → Back job beyond → merged (front ++ back) (near ++ beyond) ≡ merged front near ++ merged back beyond
cut job front near back beyond f n b y = merged_parts back beyond front near (all_before job front beyond f y) (all_sooner job near back n b)

-- the last of two lists is the last of one of them, and so is the first
abbrev EndsWith : List Run → Run → Type 0
EndsWith runs run = (front : List Run) × (runs ≡ front ++ run ∷ [])

ends_one : (run : Run) (xs ys : List Run) → EndsWith (merged xs ys) run → EndsWith xs run ⊎ EndsWith ys run
ends_one run =
    by_merging (λ xs ys zs. EndsWith zs run → EndsWith xs run ⊎ EndsWith ys run) (λ ys ends. inr ends) (λ xs ends. inl ends)
    (λ x xs y ys before rest ends.
    ⊎_elim (λ (l : EndsWith xs run). inl (more x xs l)) (λ (r : EndsWith (y ∷ ys) run). inr r) (rest (fewer x (merged xs (y ∷ ys)) ends.0 (let n = length-merged xs (y ∷ ys) in omega arith) ends.1)))
    (λ x xs y ys sooner rest ends.
    ⊎_elim (λ (l : EndsWith (x ∷ xs) run). inl l) (λ (r : EndsWith ys run). inr (more y ys r)) (rest (fewer y (merged (x ∷ xs) ys) ends.0 (let n = length-merged (x ∷ xs) ys in omega arith) ends.1)))
  where
    more : (x : Run) (xs : List Run) → EndsWith xs run → EndsWith (x ∷ xs) run
    more x xs ends = (x ∷ ends.0, ap (λ rs. x ∷ rs) ends.1)

    fewer : (x : Run) (xs front : List Run) → 0 < length xs → x ∷ xs ≡ front ++ run ∷ [] → EndsWith xs run
    fewer x xs [] some is = let n = ap length is in absurd (omega arith)
    fewer x xs (z ∷ front) some is = (front, let e : xs ≡ front ++ run ∷ [] = cc in e)

abbrev BeginsWith : List Run → Run → Type 0
BeginsWith runs run = (back : List Run) × (runs ≡ run ∷ back)

begins_one : (run : Run) (xs ys : List Run) → BeginsWith (merged xs ys) run → BeginsWith xs run ⊎ BeginsWith ys run
begins_one run =
    by_merging (λ xs ys zs. BeginsWith zs run → BeginsWith xs run ⊎ BeginsWith ys run) (λ ys begins. inr begins) (λ xs begins. inl begins)
    (λ x xs y ys before rest begins. let is = begins.1 in let e : x ≡ run = cc in inl (xs, ap (λ r. r ∷ xs) e))
    (λ x xs y ys sooner rest begins. let is = begins.1 in let e : y ≡ run = cc in inr (ys, ap (λ r. r ∷ ys) e))

pub none_ends : (job : Job) (xs ys : List Run) → ¬ EndsBefore xs job → ¬ EndsBefore ys job → ¬ EndsBefore (merged xs ys) job
none_ends job xs ys no_first no_second ends =
    ⊎_elim
    (λ (l : EndsWith xs ends.run). no_first (record { front = l.0; run = ends.run; there = l.1; port = ends.port; touches = ends.touches }))
    (λ (r : EndsWith ys ends.run). no_second (record { front = r.0; run = ends.run; there = r.1; port = ends.port; touches = ends.touches }))
    (ends_one ends.run xs ys (ends.front, ends.there))

pub none_begins : (job : Job) (xs ys : List Run) → ¬ BeginsBehind xs job → ¬ BeginsBehind ys job → ¬ BeginsBehind (merged xs ys) job
none_begins job xs ys no_first no_second begins =
    ⊎_elim
    (λ (l : BeginsWith xs begins.run). no_first (record { run = begins.run; back = l.0; there = l.1; port = begins.port; touches = begins.touches }))
    (λ (r : BeginsWith ys begins.run). no_second (record { run = begins.run; back = r.0; there = r.1; port = begins.port; touches = begins.touches }))
    (begins_one begins.run xs ys (begins.back, begins.there))

-- the run right after a job, in the first list and in the second
pub begins_first : (job : Job) (back beyond : List Run) → Back job beyond → (begins : BeginsBehind back job) → (b : BeginsBehind (merged back beyond) job) × (begins.run.last ≡ b.run.last) × (merged begins.back beyond ≡ b.back)
begins_first job back beyond after begins =
    let run = begins.run in
    let is : merged back beyond ≡ run ∷ merged begins.back beyond =
    ap (λ rs. merged rs beyond) begins.there
    ∙ before_all (run ∷ []) begins.back beyond (All-cons (λ x. All (BeginsBefore x) beyond) run [] (All-weaker (λ r. BeginsAfter r job) (BeginsBefore run) (λ r h. before_after job run r begins.port begins.touches h) beyond after) (All-nil (λ x. All (BeginsBefore x) beyond))) in
    (record { run = run; back = merged begins.back beyond; there = is; port = begins.port; touches = begins.touches }, refl, refl)

pub begins_second : (job : Job) (back beyond : List Run) → Back job back → All IsFilled back → All IsFilled beyond → EachBefore LiesApart (merged back beyond) → (begins : BeginsBehind beyond job) → (b : BeginsBehind (merged back beyond) job) × (begins.run.last ≡ b.run.last) × (merged back begins.back ≡ b.back)
begins_second job back beyond after full beyond_full apart begins =
    let run = begins.run in
    let parts : All (λ y. All (λ x. Part x y) back) (run ∷ begins.back) = subst (All (λ y. All (λ x. Part x y) back)) begins.there (merged_apart back beyond apart) in
    let part = All-head (λ y. All (λ x. Part x y) back) run begins.back parts in
    let run_full = All-head IsFilled run begins.back (subst (All IsFilled) begins.there beyond_full) in
    let sooner : All (BeginsSooner run) back = λ k d less. later_apart job run (get_or back k d) begins.port begins.touches run_full (after k d less) (full k d less) (⊎_elim (λ l. inr l) (λ r. inl r) (part k d less)) in
    let is : merged back beyond ≡ run ∷ merged back begins.back =
    ap (merged back) begins.there ∙ sooner_all back (run ∷ []) begins.back (All-cons (λ y. All (BeginsSooner y) back) run [] sooner (All-nil (λ y. All (BeginsSooner y) back))) in
    (record { run = run; back = merged back begins.back; there = is; port = begins.port; touches = begins.touches }, refl, refl)

opened_first : (job : Job) (back beyond : List Run) → Back job beyond → (begins : BeginsBehind back job) → IsOpened (merged back beyond) job begins.run.last (merged begins.back beyond)
opened_first job back beyond after begins = inr (begins_first job back beyond after begins)

opened_second : (job : Job) (back beyond : List Run) → Back job back → All IsFilled back → All IsFilled beyond → EachBefore LiesApart (merged back beyond) → (begins : BeginsBehind beyond job) → IsOpened (merged back beyond) job begins.run.last (merged back begins.back)
opened_second job back beyond after full beyond_full apart begins = inr (begins_second job back beyond after full beyond_full apart begins)

-- the run that ends right before a job goes on, in the first list and in the second
module _ (job : Job) (last : ℕ) (front near back beyond : List Run) (f : Front job front) (n : Front job near) (b : Back job back) (y : Back job beyond) where
  pub longer_first : All IsFilled near → EachBefore LiesApart (merged front near) → (ends : EndsBefore front job) → (e : EndsBefore (merged front near) job) × (merged (ends.front ++ record { port = ends.run.port; from = ends.run.from; last = last } ∷ back) (near ++ beyond) ≡ e.front ++ record { port = e.run.port; from = e.run.from; last = last } ∷ merged back beyond)
  longer_first full apart ends =
      let run = ends.run in
      let longer : Run = record { port = run.port; from = run.from; last = last } in
      let fronts : Front job (ends.front ++ run ∷ []) = subst (Front job) ends.there f in
      let first = All-front (λ r. BeginsBefore r (alone job)) ends.front (run ∷ []) fronts in
      let begins = All-head (λ r. BeginsBefore r (alone job)) run [] (All-back (λ r. BeginsBefore r (alone job)) ends.front (run ∷ []) fronts) in
      let parts = merged_apart front near apart in
      let sooner : All (λ r. BeginsSooner r run) near =
      λ k d less.
      let part : All (λ r. Part r (get_or near k d)) (ends.front ++ run ∷ []) = subst (All (λ r. Part r (get_or near k d))) ends.there (parts k d less) in
      sooner_apart job run (get_or near k d) ends.port ends.touches (n k d less) (full k d less)
      (All-head (λ r. Part r (get_or near k d)) run [] (All-back (λ r. Part r (get_or near k d)) ends.front (run ∷ []) part)) in
      let whole : merged front near ≡ merged ends.front near ++ run ∷ [] =
      ap (λ rs. merged rs near) ends.there ∙ ap (merged (ends.front ++ run ∷ [])) (sym (append-nil near))
      ∙ merged_parts (run ∷ []) [] ends.front near (All-weaker (λ r. BeginsBefore r (alone job)) (λ r. All (BeginsBefore r) []) (λ r h. All-nil (BeginsBefore r)) ends.front first)
      (λ k d less. All-cons (BeginsSooner (get_or near k d)) run [] (sooner k d less) (All-nil (BeginsSooner (get_or near k d)))) in
      let split : merged (ends.front ++ longer ∷ back) (near ++ beyond) ≡ merged ends.front near ++ merged (longer ∷ back) beyond =
      merged_parts (longer ∷ back) beyond ends.front near (all_before job ends.front beyond first y)
      (λ k d less. All-cons (BeginsSooner (get_or near k d)) longer back (sooner k d less) (all_sooner job near back n b k d less)) in
      let next : merged (longer ∷ back) beyond ≡ longer ∷ merged back beyond =
      before_all (longer ∷ []) back beyond (All-cons (λ r. All (BeginsBefore r) beyond) longer [] (λ k d less. before_than job longer (get_or beyond k d) begins (y k d less)) (All-nil (λ r. All (BeginsBefore r) beyond))) in
      (record { front = merged ends.front near; run = run; there = whole; port = ends.port; touches = ends.touches }, split ∙ ap (λ rs. merged ends.front near ++ rs) next)

  pub longer_second : All IsFilled front → EachBefore LiesApart (merged front near) → (ends : EndsBefore near job) → (e : EndsBefore (merged front near) job) × (merged (front ++ back) (ends.front ++ record { port = ends.run.port; from = ends.run.from; last = last } ∷ beyond) ≡ e.front ++ record { port = e.run.port; from = e.run.from; last = last } ∷ merged back beyond)
  longer_second full apart ends =
      let run = ends.run in
      let longer : Run = record { port = run.port; from = run.from; last = last } in
      let nears : Front job (ends.front ++ run ∷ []) = subst (Front job) ends.there n in
      let first = All-front (λ r. BeginsBefore r (alone job)) ends.front (run ∷ []) nears in
      let begins = All-head (λ r. BeginsBefore r (alone job)) run [] (All-back (λ r. BeginsBefore r (alone job)) ends.front (run ∷ []) nears) in
      let parts : All (λ s. All (λ r. Part r s) front) (ends.front ++ run ∷ []) = subst (All (λ s. All (λ r. Part r s) front)) ends.there (merged_apart front near apart) in
      let part = All-head (λ s. All (λ r. Part r s) front) run [] (All-back (λ s. All (λ r. Part r s) front) ends.front (run ∷ []) parts) in
      let before : All (λ r. BeginsBefore r run) front =
      λ k d less. sooner_before (get_or front k d) run (sooner_apart job run (get_or front k d) ends.port ends.touches (f k d less) (full k d less) (⊎_elim (λ l. inr l) (λ r. inl r) (part k d less))) in
      let whole : merged front near ≡ merged front ends.front ++ run ∷ [] =
      ap (merged front) ends.there ∙ ap (λ rs. merged rs (ends.front ++ run ∷ [])) (sym (append-nil front))
      ∙ merged_parts [] (run ∷ []) front ends.front (λ k d less. All-cons (BeginsBefore (get_or front k d)) run [] (before k d less) (All-nil (BeginsBefore (get_or front k d))))
      (All-weaker (λ r. BeginsBefore r (alone job)) (λ r. All (BeginsSooner r) []) (λ r h. All-nil (BeginsSooner r)) ends.front first) in
      let split : merged (front ++ back) (ends.front ++ longer ∷ beyond) ≡ merged front ends.front ++ merged back (longer ∷ beyond) =
      merged_parts back (longer ∷ beyond) front ends.front
      (λ k d less. All-cons (BeginsBefore (get_or front k d)) longer beyond (before k d less) (all_before job front beyond f y k d less)) (all_sooner job ends.front back first b) in
      let next : merged back (longer ∷ beyond) ≡ longer ∷ merged back beyond =
      sooner_all back (longer ∷ []) beyond (All-cons (λ r. All (BeginsSooner r) back) longer [] (λ k d less. sooner_than job longer (get_or back k d) begins (b k d less)) (All-nil (λ r. All (BeginsSooner r) back))) in
      (record { front = merged front ends.front; run = run; there = whole; port = ends.port; touches = ends.touches }, split ∙ ap (λ rs. merged front ends.front ++ rs) next)

  -- a run that begins at the job is put into the second list
  pub put_second : merged (front ++ back) (near ++ record { port = job.port; from = job.number; last = last } ∷ beyond) ≡ merged front near ++ record { port = job.port; from = job.number; last = last } ∷ merged back beyond
  put_second =
      let run : Run = record { port = job.port; from = job.number; last = last } in
      merged_parts back (run ∷ beyond) front near (λ k d less. All-cons (BeginsBefore (get_or front k d)) run beyond (f k d less) (all_before job front beyond f y k d less)) (all_sooner job near back n b)
      ∙ ap (λ rs. merged front near ++ rs) (sooner_all back (run ∷ []) beyond (All-cons (λ r. All (BeginsSooner r) back) run [] b (All-nil (λ r. All (BeginsSooner r) back))))

-- a job whose run goes on from the one before it, and one that begins a run
pub joins_on : (old new front back opened : List Run) (job : Job) (last : ℕ) → At old job front back → IsOpened back job last opened → (ends : EndsBefore front job) → new ≡ ends.front ++ record { port = ends.run.port; from = ends.run.from; last = last } ∷ opened → Joins old job new
joins_on old new front back opened job last at rest ends is =
    let made : ℕ → List Run → List Run = λ n rs. ends.front ++ record { port = ends.run.port; from = ends.run.from; last = n } ∷ rs in
    ⊎_elim
    (λ (none : (¬ BeginsBehind back job) × (last ≡ job.number) × (opened ≡ back)). joins_before old new job front back at ends none.0 (is ∙ ap (λ n. made n opened) none.1 ∙ ap (made job.number) none.2))
    (λ (some : (begins : BeginsBehind back job) × (last ≡ begins.run.last) × (opened ≡ begins.back)).
    let begins = some.0 in
    joins_both old new job front back at ends begins (is ∙ ap (λ n. made n opened) some.1 ∙ ap (made begins.run.last) some.2))
    rest

pub joins_anew : (old new front back opened : List Run) (job : Job) (last : ℕ) → At old job front back → IsOpened back job last opened → ¬ EndsBefore front job → new ≡ front ++ record { port = job.port; from = job.number; last = last } ∷ opened → Joins old job new
joins_anew old new front back opened job last at rest ends is =
    let made : ℕ → ℕ → List Run → List Run = λ p n rs. front ++ record { port = p; from = job.number; last = n } ∷ rs in
    ⊎_elim
    (λ (none : (¬ BeginsBehind back job) × (last ≡ job.number) × (opened ≡ back)). joins_alone old new job front back at ends none.0 (is ∙ ap (λ n. made job.port n opened) none.1 ∙ ap (made job.port job.number) none.2))
    (λ (some : (begins : BeginsBehind back job) × (last ≡ begins.run.last) × (opened ≡ begins.back)).
    let begins = some.0 in
    joins_behind old new job front back at ends begins (is ∙ ap (λ n. made job.port n opened) some.1 ∙ ap (made job.port begins.run.last) some.2 ∙ ap (λ p. made p begins.run.last begins.back) (sym begins.port)))
    rest

-- a job among the runs of both lists
pub front_of : (runs : List Run) (job : Job) (place : ℕ) → IsPlaceOf runs job place → Front job (take place runs)
front_of runs job place at = All-weaker _ (λ run. BeginsBefore run (alone job)) (begins_by_true job) (take place runs) at.front

pub back_of : (runs : List Run) (job : Job) (place : ℕ) → IsPlaceOf runs job place → Back job (drop place runs)
back_of runs job place at = All-weaker _ (λ run. BeginsAfter run job) (begins_by_false job) (drop place runs) at.back

pub cut_there : (settled recent : List Run) (job : Job) (place near : ℕ) → IsPlaceOf settled job place → IsPlaceOf recent job near → merged (take place settled) (take near recent) ++ merged (drop place settled) (drop near recent) ≡ merged settled recent
cut_there settled recent job place near at at_near =
    sym (cut job (take place settled) (take near recent) (drop place settled) (drop near recent) (front_of settled job place at) (front_of recent job near at_near) (back_of settled job place at) (back_of recent job near at_near))
    ∙ ap (λ rs. merged rs (take near recent ++ drop near recent)) (take-append-drop place settled) ∙ ap (merged settled) (take-append-drop near recent)

pub at_both : (settled recent : List Run) (job : Job) (place near : ℕ) → IsPlaceOf settled job place → IsPlaceOf recent job near → All IsFilled (merged settled recent) → EachBefore BeginsBefore (merged settled recent) → ¬ Contains (jobs_of (merged settled recent)) job → job.number < 18446744073709551615 → At (merged settled recent) job (merged (take place settled) (take near recent)) (merged (drop place settled) (drop near recent))
at_both settled recent job place near at at_near filled sorted absent small =
    let parts = cut_there settled recent job place near at at_near in
    let front = merged (take place settled) (take near recent) in
    let back = merged (drop place settled) (drop near recent) in
    let before : Front job front = All-merged (λ r. BeginsBefore r (alone job)) (take place settled) (take near recent) (front_of settled job place at) (front_of recent job near at_near) in
    record {
      parts = parts;
      filled = subst (All IsFilled) (sym parts) filled;
      sorted = subst (EachBefore BeginsBefore) (sym parts) sorted;
      before = before;
      behind = All-merged (λ r. BeginsAfter r job) (drop place settled) (drop near recent) (back_of settled job place at) (back_of recent job near at_near);
      lies = all_lie_before front job before (λ covered. absent (covered_contains (merged settled recent) job (subst (λ rs. IsCovered rs job) parts (covered_front front back job covered))));
      small = small;
    }

-- the run right after the job is taken out of the list that has it
pub shortened : (old new : List Run) (place : ℕ) (job : Job) (result : Option ℕ) → IsPlaceOf old job place → TakesBehind old place job result new → Shortens old place job new
shortened old new place job None at taken =
    subst (Shortens old place job) (sym taken.1) (record { within = at.within; front = refl; behind = back_of old job place at; fewer = omega arith })
shortened old new place job (Some last) at taken =
    let begins = taken.0 in
    let back = subst (Back job) begins.there (back_of old job place at) in
    let old_long = ap length (take-append-drop place old) in
    let new_long = ap length (take-append-drop place new) in
    let front = ap length taken.2 in
    let left = ap length taken.3 in
    let right = ap length begins.there in
    record {
      within = taken.4;
      front = taken.2;
      behind = subst (Back job) (sym taken.3) (All-tail (λ r. BeginsAfter r job) begins.run begins.back back);
      fewer = omega (arith, length-append (take place old) (drop place old), length-append (take place new) (drop place new));
    }

module _ (settled recent : List Run) (job : Job) (place near : ℕ) (at : IsPlaceOf settled job place) (at_near : IsPlaceOf recent job near) (filled : All IsFilled (merged settled recent)) (apart : EachBefore LiesApart (merged settled recent)) where
  both_parts : merged settled recent ≡ merged (take place settled) (take near recent) ++ merged (drop place settled) (drop near recent)
  both_parts = sym (cut_there settled recent job place near at at_near)

  pub full_front : All IsFilled (take place settled)
  full_front = All-front IsFilled (take place settled) (drop place settled) (subst (All IsFilled) (sym (take-append-drop place settled)) (merged_all IsFilled settled recent filled).0)

  pub full_near : All IsFilled (take near recent)
  full_near = All-front IsFilled (take near recent) (drop near recent) (subst (All IsFilled) (sym (take-append-drop near recent)) (merged_all IsFilled settled recent filled).1)

  apart_fronts : EachBefore LiesApart (merged (take place settled) (take near recent))
  apart_fronts = each_front LiesApart (merged (take place settled) (take near recent)) (merged (drop place settled) (drop near recent)) (subst (EachBefore LiesApart) both_parts apart)

  pub by_first : (last : ℕ) (new : List Run) → TakesBehind settled place job (Some last) new → IsOpened (merged (drop place settled) (drop near recent)) job last (merged (drop place new) (drop near recent))
  by_first last new taken =
      let back = merged (drop place settled) (drop near recent) in
      subst (λ n. IsOpened back job n (merged (drop place new) (drop near recent))) (sym taken.1)
      (subst (λ rs. IsOpened back job taken.0.run.last (merged rs (drop near recent))) (sym taken.3) (opened_first job (drop place settled) (drop near recent) (back_of recent job near at_near) taken.0))

  pub by_second : (last : ℕ) (new : List Run) → TakesBehind recent near job (Some last) new → IsOpened (merged (drop place settled) (drop near recent)) job last (merged (drop place settled) (drop near new))
  by_second last new taken =
      let back = merged (drop place settled) (drop near recent) in
      let full = All-back IsFilled (take place settled) (drop place settled) (subst (All IsFilled) (sym (take-append-drop place settled)) (merged_all IsFilled settled recent filled).0) in
      let full_beyond = All-back IsFilled (take near recent) (drop near recent) (subst (All IsFilled) (sym (take-append-drop near recent)) (merged_all IsFilled settled recent filled).1) in
      let gaps = each_back LiesApart (merged (take place settled) (take near recent)) back (subst (EachBefore LiesApart) both_parts apart) in
      subst (λ n. IsOpened back job n (merged (drop place settled) (drop near new))) (sym taken.1)
      (subst (λ rs. IsOpened back job taken.0.run.last (merged (drop place settled) rs)) (sym taken.3) (opened_second job (drop place settled) (drop near recent) (back_of settled job place at) full full_beyond gaps taken.0))

  pub by_none : ¬ BeginsBehind (drop place settled) job → ¬ BeginsBehind (drop near recent) job → IsOpened (merged (drop place settled) (drop near recent)) job job.number (merged (drop place settled) (drop near recent))
  by_none first second = inl (none_begins job (drop place settled) (drop near recent) first second, refl, refl)

  -- what becomes of both lists
  module _ (sorted : EachBefore BeginsBefore (merged settled recent)) (absent : ¬ Contains (jobs_of (merged settled recent)) job) (small : job.number < 18446744073709551615) (last : ℕ) (short close : List Run) (opened : IsOpened (merged (drop place settled) (drop near recent)) job last (merged (drop place short) (drop near close))) (shorter : Shortens settled place job short) (closer : Shortens recent near job close) where
    there : At (merged settled recent) job (merged (take place settled) (take near recent)) (merged (drop place settled) (drop near recent))
    there = at_both settled recent job place near at at_near filled sorted absent small

    short_is : short ≡ take place settled ++ drop place short
    short_is = sym (take-append-drop place short) ∙ ap (λ rs. rs ++ drop place short) shorter.front

    close_is : close ≡ take near recent ++ drop near close
    close_is = sym (take-append-drop near close) ∙ ap (λ rs. rs ++ drop near close) closer.front

    pub closed_first : (new : List Run) → Lengthens short place job last true new → Joins (merged settled recent) job (merged new close)
    closed_first new lengthens =
        let ends : EndsBefore (take place settled) job = record { front = lengthens.0.front; run = lengthens.0.run; there = sym shorter.front ∙ lengthens.0.there; port = lengthens.0.port; touches = lengthens.0.touches } in
        let longer = longer_first job last (take place settled) (take near recent) (drop place short) (drop near close) (front_of settled job place at) (front_of recent job near at_near) shorter.behind closer.behind full_near apart_fronts ends in
        joins_on (merged settled recent) (merged new close) (merged (take place settled) (take near recent)) (merged (drop place settled) (drop near recent)) (merged (drop place short) (drop near close)) job last there opened longer.0
        (ap (λ rs. merged rs close) lengthens.1 ∙ ap (merged (ends.front ++ record { port = ends.run.port; from = ends.run.from; last = last } ∷ drop place short)) close_is ∙ longer.1)

    pub closed_second : (new : List Run) → Lengthens close near job last true new → Joins (merged settled recent) job (merged short new)
    closed_second new lengthens =
        let ends : EndsBefore (take near recent) job = record { front = lengthens.0.front; run = lengthens.0.run; there = sym closer.front ∙ lengthens.0.there; port = lengthens.0.port; touches = lengthens.0.touches } in
        let longer = longer_second job last (take place settled) (take near recent) (drop place short) (drop near close) (front_of settled job place at) (front_of recent job near at_near) shorter.behind closer.behind full_front apart_fronts ends in
        joins_on (merged settled recent) (merged short new) (merged (take place settled) (take near recent)) (merged (drop place settled) (drop near recent)) (merged (drop place short) (drop near close)) job last there opened longer.0
        (ap (merged short) lengthens.1 ∙ ap (λ rs. merged rs (ends.front ++ record { port = ends.run.port; from = ends.run.from; last = last } ∷ drop near close)) short_is ∙ longer.1)

    pub closed_anew : (new : List Run) → ¬ EndsBefore (take place short) job → ¬ EndsBefore (take near close) job → new ≡ insert close near (record { port = job.port; from = job.number; last = last }) → Joins (merged settled recent) job (merged short new)
    closed_anew new first second is =
        let run : Run = record { port = job.port; from = job.number; last = last } in
        let none = none_ends job (take place settled) (take near recent) (subst (λ rs. ¬ EndsBefore rs job) shorter.front first) (subst (λ rs. ¬ EndsBefore rs job) closer.front second) in
        joins_anew (merged settled recent) (merged short new) (merged (take place settled) (take near recent)) (merged (drop place settled) (drop near recent)) (merged (drop place short) (drop near close)) job last there opened none
        (ap (merged short) (is ∙ ap (λ rs. rs ++ run ∷ drop near close) closer.front) ∙ ap (λ rs. merged rs (take near recent ++ run ∷ drop near close)) short_is
        ∙ put_second job last (take place settled) (take near recent) (drop place short) (drop near close) (front_of settled job place at) (front_of recent job near at_near) shorter.behind closer.behind)
