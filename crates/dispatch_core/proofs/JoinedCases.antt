-- The four ways in which a job is put into sorted runs: by whether the run before it touches it, and the one after.
use Rattle.std.proofs.Common.{◌≡◌, ◌+◌, ◌-◌, ◌<◌, ◌≤◌, ◌⊎◌, List, [], ◌∷◌, ◌++◌, length, All, refl, sym, ap, ◌∙◌, subst, inl, inr, ⊎_elim, arith, append_assoc, append-nil, length-append}
use Rattle.std.proofs.lemmas.List.Elements.{All-head, All-tail, All-weaker}
use Rattle.dispatch_core.specs.declared.event.Job.{Job}
use Rattle.dispatch_core.specs.declared.runs.Run.{Run}
use Rattle.dispatch_core.specs.JobRuns.{jobs_from, jobs_of_run, IsFilled, EachBefore, BeginsBefore, LiesApart}
use Rattle.dispatch_core.specs.JobRuns.{alone}
use Rattle.dispatch_core.specs.Joining.{EndsBefore, BeginsBehind, Joins}
use Rattle.dispatch_core.specs.Merging.{BeginsAfter}
use Rattle.dispatch_core.proofs.JobLists.{touching_runs}
use Rattle.dispatch_core.proofs.Orders.{All-front, All-back, each_front, each_back, each_across, across_first}
use Rattle.dispatch_core.proofs.Joined.{At, joined, apart_front, apart_back, no_before, no_behind, has_before, has_behind}

pub filled_alone : (job : Job) → job.number < 18446744073709551615 → IsFilled (alone job)
filled_alone job small = record { not_empty = omega arith; small = small }

pub job_alone : (job : Job) → jobs_of_run (alone job) ≡ job ∷ []
job_alone job = let one : job.number + 1 - job.number ≡ 1 = omega arith in ap (jobs_from job.port job.number) one

pub begins_later : (job : Job) (run : Run) → BeginsAfter run job → BeginsBefore (alone job) run
begins_later job run after =
    ⊎_elim
    (λ (less : job.port < run.port). inl less)
    (λ (same : (job.port ≡ run.port) × (job.number < run.from)). let from : job.number ≤ run.from = omega (arith, same.1) in inr (same.0, from))
    after

-- a job that touches no run gets one of its own
pub joins_alone : (old new : List Run) (job : Job) (front back : List Run) → At old job front back → ¬ EndsBefore front job → ¬ BeginsBehind back job → new ≡ front ++ alone job ∷ back → Joins old job new
joins_alone old new job front back at ends begins is =
    let each = λ (R : Run → Run → Type 0) (e : EachBefore R old). subst (EachBefore R) (sym at.parts) e in
    joined old new front [] back (alone job) job (sym at.parts) is (subst (All IsFilled) at.parts at.filled) (subst (EachBefore BeginsBefore) at.parts at.sorted) (filled_alone job at.small)
    (record { before = at.before; behind = All-weaker (λ r. BeginsAfter r job) (BeginsBefore (alone job)) (begins_later job) back at.behind })
    (λ gaps. record {
      before = apart_front front job (each_front LiesApart front back (each LiesApart gaps)) (All-front IsFilled front back at.filled) at.lies ends;
      behind = apart_back back job (each_back LiesApart front back (each LiesApart gaps)) (All-back IsFilled front back at.filled) at.behind begins;
    })
    (record { before = []; behind = []; was = refl; is = job_alone job })
    (λ gaps.
    let lacks_before = no_before old job front back at gaps ends in
    let lacks_behind = no_behind old job front back at gaps begins in
    record {
      alone = λ b h. let long = ap length is in let was_long = ap length at.parts in omega (arith, length-append front (alone job ∷ back), length-append front back);
      to_before = λ b h. absurd (lacks_before b);
      to_behind = λ b h. absurd (lacks_behind h);
      closes_gap = λ b h. absurd (lacks_before b);
    })

-- the run before it goes on
pub joins_before : (old new : List Run) (job : Job) (front back : List Run) → At old job front back → (ends : EndsBefore front job) → ¬ BeginsBehind back job → new ≡ ends.front ++ record { port = ends.run.port; from = ends.run.from; last = job.number } ∷ back → Joins old job new
joins_before old new job front back at ends begins is =
    let run = ends.run in
    let longer : Run = record { port = run.port; from = run.from; last = job.number } in
    let was : old ≡ ends.front ++ (run ∷ [] ++ back) = sym at.parts ∙ ap (λ rs. rs ++ back) ends.there ∙ append_assoc ends.front (run ∷ []) back in
    let filled = subst (All IsFilled) (at.parts ∙ was) at.filled in
    let full = All-head IsFilled run back (All-back IsFilled ends.front (run ∷ back) filled) in
    let sorted = subst (EachBefore BeginsBefore) (at.parts ∙ was) at.sorted in
    let order = each_back BeginsBefore ends.front (run ∷ back) sorted in
    let touch : run.last + 1 ≡ job.number = ends.touches in
    let more : run.from ≤ job.number = omega (arith, full.not_empty) in
    joined old new ends.front (run ∷ []) back longer job was is (subst (All IsFilled) at.parts at.filled) (subst (EachBefore BeginsBefore) at.parts at.sorted)
    (record { not_empty = more; small = at.small })
    (record { before = across_first BeginsBefore ends.front run back (each_across BeginsBefore ends.front (run ∷ back) sorted); behind = order.0 })
    (λ gaps.
    let each = subst (EachBefore LiesApart) was gaps in
    let whole = subst (EachBefore LiesApart) (sym at.parts) gaps in
    record {
      before = across_first LiesApart ends.front run back (each_across LiesApart ends.front (run ∷ back) each);
      behind = All-weaker (LiesApart (alone job)) (LiesApart longer) (λ r apart. subst (λ p. (p < r.port) ⊎ ((p ≡ r.port) × (job.number + 1 < r.from))) (sym ends.port) apart) back
          (apart_back back job (each_back LiesApart front back whole) (All-back IsFilled front back at.filled) at.behind begins);
    })
    (record {
      before = jobs_of_run run;
      behind = [];
      was = refl;
      is = touching_runs run (alone job) full.not_empty (omega arith) ends.port touch ∙ ap (λ js. jobs_of_run run ++ js) (job_alone job);
    })
    (λ gaps.
    let has = has_before old job front back at ends in
    let lacks = no_behind old job front back at gaps begins in
    record {
      alone = λ b h. absurd (b has);
      to_before = λ b h. let long = ap length is in let was_long = ap length was in omega (arith, length-append ends.front (run ∷ back), length-append ends.front (longer ∷ back));
      to_behind = λ b h. absurd (lacks h);
      closes_gap = λ b h. absurd (lacks h);
    })

-- the run after it begins with it
pub joins_behind : (old new : List Run) (job : Job) (front back : List Run) → At old job front back → ¬ EndsBefore front job → (begins : BeginsBehind back job) → new ≡ front ++ record { port = begins.run.port; from = job.number; last = begins.run.last } ∷ begins.back → Joins old job new
joins_behind old new job front back at ends begins is =
    let run = begins.run in
    let longer : Run = record { port = run.port; from = job.number; last = run.last } in
    let was : old ≡ front ++ (run ∷ [] ++ begins.back) = sym at.parts ∙ ap (λ rs. front ++ rs) begins.there in
    let filled = subst (All IsFilled) (at.parts ∙ was) at.filled in
    let full = All-head IsFilled run begins.back (All-back IsFilled front (run ∷ begins.back) filled) in
    let sorted = subst (EachBefore BeginsBefore) (at.parts ∙ was) at.sorted in
    let order = each_back BeginsBefore front (run ∷ begins.back) sorted in
    let touch : job.number + 1 ≡ run.from = begins.touches in
    let more : job.number ≤ run.last = omega (arith, full.not_empty) in
    joined old new front (run ∷ []) begins.back longer job was is (subst (All IsFilled) at.parts at.filled) (subst (EachBefore BeginsBefore) at.parts at.sorted)
    (record { not_empty = more; small = full.small })
    (record {
      before = All-weaker (λ r. BeginsBefore r (alone job)) (λ r. BeginsBefore r longer) (λ r before. subst (λ p. (r.port < p) ⊎ ((r.port ≡ p) × (r.from ≤ job.number))) (sym begins.port) before) front at.before;
      behind = All-weaker (BeginsBefore run) (BeginsBefore longer)
          (λ r before.
          ⊎_elim
          (λ (less : run.port < r.port). inl less)
          (λ (same : (run.port ≡ r.port) × (run.from ≤ r.from)). let from : job.number ≤ r.from = omega (arith, same.1) in inr (same.0, from))
          before) begins.back order.0;
    })
    (λ gaps.
    let each = subst (EachBefore LiesApart) was gaps in
    let whole = subst (EachBefore LiesApart) (sym at.parts) gaps in
    let rest = each_back LiesApart front (run ∷ begins.back) each in
    record {
      before = All-weaker (λ r. LiesApart r (alone job)) (λ r. LiesApart r longer) (λ r apart. subst (λ p. (r.port < p) ⊎ ((r.port ≡ p) × (r.last + 1 < job.number))) (sym begins.port) apart) front
          (apart_front front job (each_front LiesApart front back whole) (All-front IsFilled front back at.filled) at.lies ends);
      behind = rest.0;
    })
    (record {
      before = [];
      behind = jobs_of_run run ++ [];
      was = refl;
      is = ap (λ p. jobs_of_run (record { port = p; from = job.number; last = run.last })) begins.port ∙ touching_runs (alone job) run (omega arith) full.not_empty (sym begins.port) touch
          ∙ ap (λ js. js ++ jobs_of_run run) (job_alone job) ∙ ap (λ js. job ∷ js) (sym (append-nil (jobs_of_run run)));
    })
    (λ gaps.
    let has = has_behind old job front back at begins in
    let lacks = no_before old job front back at gaps ends in
    record {
      alone = λ b h. absurd (h has);
      to_before = λ b h. absurd (lacks b);
      to_behind = λ b h. let long = ap length is in let was_long = ap length was in omega (arith, length-append front (run ∷ begins.back), length-append front (longer ∷ begins.back));
      closes_gap = λ b h. absurd (lacks b);
    })

-- it closes the gap between two runs
pub joins_both : (old new : List Run) (job : Job) (front back : List Run) → At old job front back → (ends : EndsBefore front job) → (begins : BeginsBehind back job) → new ≡ ends.front ++ record { port = ends.run.port; from = ends.run.from; last = begins.run.last } ∷ begins.back → Joins old job new
joins_both old new job front back at ends begins is =
    let run = ends.run in
    let next = begins.run in
    let longer : Run = record { port = run.port; from = run.from; last = next.last } in
    let middle = run ∷ next ∷ [] in
    let was : old ≡ ends.front ++ (middle ++ begins.back) = sym at.parts ∙ ap (λ rs. rs ++ back) ends.there ∙ append_assoc ends.front (run ∷ []) back ∙ ap (λ rs. ends.front ++ (run ∷ rs)) begins.there in
    let filled = All-back IsFilled ends.front (run ∷ next ∷ begins.back) (subst (All IsFilled) (at.parts ∙ was) at.filled) in
    let full = All-head IsFilled run (next ∷ begins.back) filled in
    let next_full = All-head IsFilled next begins.back (All-tail IsFilled run (next ∷ begins.back) filled) in
    let sorted = subst (EachBefore BeginsBefore) (at.parts ∙ was) at.sorted in
    let order = each_back BeginsBefore ends.front (run ∷ next ∷ begins.back) sorted in
    let touch : run.last + 1 ≡ job.number = ends.touches in
    let next_touch : job.number + 1 ≡ next.from = begins.touches in
    let ports : run.port ≡ next.port = ends.port ∙ sym begins.port in
    let more : run.from ≤ next.last = omega (arith, full.not_empty, next_full.not_empty) in
    let to_job : Run = record { port = run.port; from = run.from; last = job.number } in
    let so_far : run.from ≤ job.number = omega (arith, full.not_empty) in
    joined old new ends.front middle begins.back longer job was is (subst (All IsFilled) at.parts at.filled) (subst (EachBefore BeginsBefore) at.parts at.sorted)
    (record { not_empty = more; small = next_full.small })
    (record {
      before = across_first BeginsBefore ends.front run (next ∷ begins.back) (each_across BeginsBefore ends.front (run ∷ next ∷ begins.back) sorted);
      behind = All-tail (BeginsBefore run) next begins.back order.0;
    })
    (λ gaps.
    let each = subst (EachBefore LiesApart) was gaps in
    let rest = each_back LiesApart ends.front (run ∷ next ∷ begins.back) each in
    record {
      before = across_first LiesApart ends.front run (next ∷ begins.back) (each_across LiesApart ends.front (run ∷ next ∷ begins.back) each);
      behind = All-weaker (LiesApart next) (LiesApart longer) (λ r apart. subst (λ p. (p < r.port) ⊎ ((p ≡ r.port) × (next.last + 1 < r.from))) (sym ports) apart) begins.back rest.1.0;
    })
    (record {
      before = jobs_of_run run;
      behind = jobs_of_run next ++ [];
      was = refl;
      is = touching_runs to_job next so_far next_full.not_empty ports next_touch
          ∙ ap (λ js. js ++ jobs_of_run next) (touching_runs run (alone job) full.not_empty (omega arith) ends.port touch ∙ ap (λ js. jobs_of_run run ++ js) (job_alone job))
          ∙ append_assoc (jobs_of_run run) (job ∷ []) (jobs_of_run next) ∙ ap (λ js. jobs_of_run run ++ (job ∷ js)) (sym (append-nil (jobs_of_run next)));
    })
    (λ gaps.
    let has = has_before old job front back at ends in
    let has_next = has_behind old job front back at begins in
    record {
      alone = λ b h. absurd (b has);
      to_before = λ b h. absurd (h has_next);
      to_behind = λ b h. absurd (b has);
      closes_gap = λ b h. let long = ap length is in let was_long = ap length was in omega (arith, length-append ends.front (run ∷ next ∷ begins.back), length-append ends.front (longer ∷ begins.back));
    })
