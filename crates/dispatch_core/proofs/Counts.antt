-- The job at a place of a list of runs.
use Rattle.std.proofs.Common.{◌≡◌, ℕ, zero, suc, ◌+◌, ◌-◌, ◌<◌, ◌≤◌, List, [], ◌∷◌, ◌++◌, length, slice_get, Some, refl, sym, ap, ◌∙◌, arith}
use Rattle.std.proofs.lemmas.Option.{slice_get-get_or}
use Rattle.dispatch_core.specs.declared.event.Job.{Job}
use Rattle.dispatch_core.specs.declared.runs.Run.{Run}
use Rattle.dispatch_core.specs.JobRuns.{jobs_of, jobs_of_run, IsFilled}
use Rattle.dispatch_core.proofs.JobLists.{length-jobs_from, get_or-jobs_from}

slice_get-append_left : (xs ys : List Job) (k : ℕ) → k < length xs → slice_get (xs ++ ys) k ≡ slice_get xs k
slice_get-append_left [] ys k less = absurd (omega arith)
slice_get-append_left (x ∷ xs) ys zero less = refl
slice_get-append_left (x ∷ xs) ys (suc k) less = slice_get-append_left xs ys k (omega arith)

slice_get-append_right : (xs ys : List Job) (k : ℕ) → length xs ≤ k → slice_get (xs ++ ys) k ≡ slice_get ys (k - length xs)
slice_get-append_right [] ys k le = let e : k ≡ k - 0 = omega arith in ap (slice_get ys) e
slice_get-append_right (x ∷ xs) ys zero le = absurd (omega arith)
slice_get-append_right (x ∷ xs) ys (suc k) le = let e : k - length xs ≡ suc k - suc (length xs) = omega arith in slice_get-append_right xs ys k (omega arith) ∙ ap (slice_get ys) e

module _ (run : Run) (rest : List Run) (ahead jobs : ℕ) (count : jobs ≡ length (jobs_of_run run)) where
  pub fits_there : IsFilled run → ahead < jobs → run.from + ahead < 18446744073709551616
  fits_there full less = omega (arith, length-jobs_from run.port run.from (run.last + 1 - run.from), full.not_empty, full.small)

  pub job_there : ahead < jobs → slice_get (jobs_of (run ∷ rest)) ahead ≡ Some (record { port = run.port; number = run.from + ahead })
  job_there less =
      let some : Job = record { port = 0; number = 0 } in
      let n = run.last + 1 - run.from in
      let few : ahead < length (jobs_of_run run) = omega arith in
      slice_get-append_left (jobs_of_run run) (jobs_of rest) ahead few
      ∙ slice_get-get_or (jobs_of_run run) ahead some few ∙ ap Some (get_or-jobs_from run.port run.from n ahead some (omega (arith, length-jobs_from run.port run.from n)))

  pub job_behind : jobs ≤ ahead → slice_get (jobs_of (run ∷ rest)) ahead ≡ slice_get (jobs_of rest) (ahead - jobs)
  job_behind le = slice_get-append_right (jobs_of_run run) (jobs_of rest) ahead (omega arith) ∙ ap (λ n. slice_get (jobs_of rest) (ahead - n)) (sym count)
