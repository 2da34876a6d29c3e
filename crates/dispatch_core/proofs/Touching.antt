-- Runs that touch are joined, one place after the other.
use Rattle.std.proofs.Common.{◌≡◌, ℕ, ◌+◌, ◌-◌, ◌<◌, ◌≤◌, ◌⊎◌, List, [], ◌∷◌, ◌++◌, length, take, drop, set, get_or, All, refl, sym, ap, ◌∙◌, subst, arith, append_assoc, append-nil, length-set, take-append-drop}
use Rattle.std.proofs.lemmas.List.{drop_more, take_more_set, drop-set-lt, drop_all, length_push, length-take-le, take_at}
use Rattle.std.proofs.lemmas.List.Elements.{All-nil, All-cons, All-head, All-tail, All-append, All-weaker}
use Rattle.dispatch_core.specs.declared.event.Job.{Job}
use Rattle.dispatch_core.specs.declared.runs.Run.{Run}
use Rattle.dispatch_core.specs.JobRuns.{jobs_of, jobs_of_run, IsFilled, EachBefore, LiesApart}
use Rattle.dispatch_core.specs.Joining.{EndsBefore, LiesClear, AreJoined}
use Rattle.dispatch_core.proofs.JobLists.{jobs_of-append, touching_runs}
use Rattle.dispatch_core.proofs.Orders.{All-front, All-back, each_front, each_back, each_across, each_between, across_first, across_rest}
use Rattle.dispatch_core.proofs.Joined.{apart_front}
use Rattle.dispatch_core.proofs.JoinedPlaces.{last_there, last_written}

-- the first `kept` runs are joined, and with those from `place` on they have the jobs that there were
pub record AreJoinedSoFar (old now : List Run) (kept place : ℕ) : Type 0 where
  pub long : length now ≡ length old
  pub within : kept ≤ place
  pub inside : place ≤ length now
  pub jobs : jobs_of (take kept now ++ drop place now) ≡ jobs_of old
  pub filled : All IsFilled (take kept now ++ drop place now)
  pub clear : EachBefore LiesClear (take kept now ++ drop place now)
  pub apart : EachBefore LiesApart (take kept now)

pub none_joined : (old : List Run) → All IsFilled old → EachBefore LiesClear old → AreJoinedSoFar old old 0 0
none_joined old filled clear =
    record { long = refl; within = omega arith; inside = omega arith; jobs = refl; filled = filled; clear = clear; apart = tt }

pub all_joined : (old now : List Run) (kept place : ℕ) → length now ≤ place → AreJoinedSoFar old now kept place → AreJoined old (take kept now)
all_joined old now kept place end so_far =
    let whole : take kept now ++ drop place now ≡ take kept now = ap (λ rs. take kept now ++ rs) (drop_all place now end) ∙ append-nil (take kept now) in
    let inside = so_far.inside in
    let within = so_far.within in
    record {
      jobs = sym (ap jobs_of whole) ∙ so_far.jobs;
      filled = subst (All IsFilled) whole so_far.filled;
      apart = so_far.apart;
      fewer = omega (arith, length-take-le kept now, so_far.long);
    }

-- the first job of a run
abbrev pub first_of : Run → Job
first_of run = record { port = run.port; number = run.from }

-- a run that touches the last one is joined to it
pub joined_touching : (old now : List Run) (kept place : ℕ) (d run last : Run) → AreJoinedSoFar old now kept place → place < length now → run ≡ get_or now place d → EndsBefore (take kept now) (first_of run) → last ≡ get_or now (kept - 1) last → AreJoinedSoFar old (set now (kept - 1) (record { port = last.port; from = last.from; last = run.last })) kept (place + 1)
joined_touching old now kept place d run last so_far less read ends read_last =
    let front = take kept now in
    let rest = drop (place + 1) now in
    let within = so_far.within in
    let inside = so_far.inside in
    let back : drop place now ≡ run ∷ rest = drop_more now place d less ∙ ap (λ r. r ∷ rest) (sym read) in
    let many : length front ≡ kept = length-take-le kept now (omega arith) in
    let split : front ++ drop kept now ≡ now = take-append-drop kept now in
    let is : last ≡ ends.run = last_there front (drop kept now) (first_of run) last kept ends many (read_last ∙ ap (λ rs. get_or rs (kept - 1) last) (sym split)) in
    let longer : Run = record { port = ends.run.port; from = ends.run.from; last = run.last } in
    let items = set now (kept - 1) longer in
    let some : 1 ≤ kept = let one = ap length ends.there in omega (arith, length_push ends.front ends.run) in
    let written : items ≡ ends.front ++ longer ∷ drop kept now = ap (λ rs. set rs (kept - 1) longer) (sym split) ∙ last_written front (drop kept now) (first_of run) longer kept ends many in
    let short : length ends.front + 1 ≡ kept = let one = ap length ends.there in omega (arith, length_push ends.front ends.run) in
    let new_front : take kept items ≡ ends.front ++ longer ∷ [] =
    ap (take kept) (written ∙ sym (append_assoc ends.front (longer ∷ []) (drop kept now))) ∙ take_at (ends.front ++ longer ∷ []) (drop kept now) kept (omega (arith, length_push ends.front longer)) in
    let new_rest : drop (place + 1) items ≡ rest = drop-set-lt (place + 1) now (kept - 1) longer (omega arith) in
    let virtual : take kept items ++ drop (place + 1) items ≡ ends.front ++ longer ∷ rest = ap (λ rs. rs ++ drop (place + 1) items) new_front ∙ append_assoc ends.front (longer ∷ []) (drop (place + 1) items) ∙ ap (λ rs. ends.front ++ longer ∷ rs) new_rest in
    let was : front ++ drop place now ≡ ends.front ++ ends.run ∷ run ∷ rest = ap (λ rs. rs ++ drop place now) ends.there ∙ append_assoc ends.front (ends.run ∷ []) (drop place now) ∙ ap (λ rs. ends.front ++ ends.run ∷ rs) back in
    let filled = All-back IsFilled ends.front (ends.run ∷ run ∷ rest) (subst (All IsFilled) was so_far.filled) in
    let full = All-head IsFilled ends.run (run ∷ rest) filled in
    let run_full = All-head IsFilled run rest (All-tail IsFilled ends.run (run ∷ rest) filled) in
    let clear = subst (EachBefore LiesClear) was so_far.clear in
    let behind = each_back LiesClear ends.front (ends.run ∷ run ∷ rest) clear in
    let across = each_across LiesClear ends.front (ends.run ∷ run ∷ rest) clear in
    let apart = subst (EachBefore LiesApart) ends.there so_far.apart in
    let touch : ends.run.last + 1 ≡ run.from = ends.touches in
    let more : ends.run.from ≤ run.last = omega (arith, full.not_empty, run_full.not_empty) in
    subst (λ (q : Run). AreJoinedSoFar old (set now (kept - 1) (record { port = q.port; from = q.from; last = run.last })) kept (place + 1)) (sym is)
    (record {
      long = length-set now (kept - 1) longer ∙ so_far.long;
      within = omega arith;
      inside = omega (arith, length-set now (kept - 1) longer);
      jobs =
          ap jobs_of virtual ∙ jobs_of-append ends.front (longer ∷ rest)
          ∙ ap (λ js. jobs_of ends.front ++ js) (ap (λ js. js ++ jobs_of rest) (touching_runs ends.run run full.not_empty run_full.not_empty ends.port touch) ∙ append_assoc (jobs_of_run ends.run) (jobs_of_run run) (jobs_of rest))
          ∙ sym (jobs_of-append ends.front (ends.run ∷ run ∷ rest)) ∙ sym (ap jobs_of was) ∙ so_far.jobs;
      filled = subst (All IsFilled) (sym virtual)
          (All-append IsFilled ends.front (longer ∷ rest) (All-front IsFilled ends.front (ends.run ∷ run ∷ rest) (subst (All IsFilled) was so_far.filled))
          (All-cons IsFilled longer rest (record { not_empty = more; small = run_full.small }) (All-tail IsFilled run rest (All-tail IsFilled ends.run (run ∷ rest) filled))));
      clear = subst (EachBefore LiesClear) (sym virtual)
          (each_between LiesClear ends.front longer rest (each_front LiesClear ends.front (ends.run ∷ run ∷ rest) clear) behind.1.1
          (across_rest LiesClear ends.front run rest (across_rest LiesClear ends.front ends.run (run ∷ rest) across))
          (across_first LiesClear ends.front ends.run (run ∷ rest) across)
          (All-weaker (LiesClear run) (LiesClear longer) (λ r h. subst (λ p. (p < r.port) ⊎ ((p ≡ r.port) × (run.last < r.from))) (sym ends.port) h) rest behind.1.0));
      apart = subst (EachBefore LiesApart) (sym new_front)
          (each_between LiesApart ends.front longer [] (each_front LiesApart ends.front (ends.run ∷ []) apart) tt
          (All-weaker (λ r. All (LiesApart r) (ends.run ∷ [])) (λ r. All (LiesApart r) []) (λ r h. All-nil (LiesApart r)) ends.front (each_across LiesApart ends.front (ends.run ∷ []) apart))
          (across_first LiesApart ends.front ends.run [] (each_across LiesApart ends.front (ends.run ∷ []) apart)) (All-nil (LiesApart longer)));
    })

-- a run that does not touch the last one comes after it
pub joined_next : (old now : List Run) (kept place : ℕ) (d run : Run) → AreJoinedSoFar old now kept place → place < length now → run ≡ get_or now place d → ¬ EndsBefore (take kept now) (first_of run) → AreJoinedSoFar old (set now kept run) (kept + 1) (place + 1)
joined_next old now kept place d run so_far less read ends =
    let front = take kept now in
    let rest = drop (place + 1) now in
    let within = so_far.within in
    let back : drop place now ≡ run ∷ rest = drop_more now place d less ∙ ap (λ r. r ∷ rest) (sym read) in
    let new_front : take (kept + 1) (set now kept run) ≡ front ++ run ∷ [] = take_more_set now kept run (omega arith) in
    let new_rest : drop (place + 1) (set now kept run) ≡ rest = drop-set-lt (place + 1) now kept run (omega arith) in
    let was : front ++ drop place now ≡ front ++ run ∷ rest = ap (λ rs. front ++ rs) back in
    let virtual : take (kept + 1) (set now kept run) ++ drop (place + 1) (set now kept run) ≡ front ++ drop place now =
    ap (λ rs. rs ++ drop (place + 1) (set now kept run)) new_front ∙ append_assoc front (run ∷ []) (drop (place + 1) (set now kept run)) ∙ ap (λ rs. front ++ run ∷ rs) new_rest ∙ sym was in
    let clear = each_across LiesClear front (run ∷ rest) (subst (EachBefore LiesClear) was so_far.clear) in
    let apart = apart_front front (first_of run) so_far.apart (All-front IsFilled front (drop place now) so_far.filled) (across_first LiesClear front run rest clear) ends in
    record {
      long = length-set now kept run ∙ so_far.long;
      within = omega arith;
      inside = omega (arith, length-set now kept run);
      jobs = ap jobs_of virtual ∙ so_far.jobs;
      filled = subst (All IsFilled) (sym virtual) so_far.filled;
      clear = subst (EachBefore LiesClear) (sym virtual) so_far.clear;
      apart = subst (EachBefore LiesApart) (sym new_front)
          (each_between LiesApart front run [] so_far.apart tt (All-weaker (λ r. LiesApart r run) (λ r. All (LiesApart r) []) (λ r h. All-nil (LiesApart r)) front apart) apart (All-nil (LiesApart run)));
    }
