-- None of the jobs so far is the one.
use Rattle.std.proofs.Common.{◌≢◌, ℕ, ◌<◌, slice_get, Some}
use Rattle.group_jobs.proofs.docket.place_of.Given as goal

abbrev pub invariant-loop-place : goal.invariant-loop-place
invariant-loop-place l = (k : ℕ) → k < l.place → slice_get l.jobs.items k ≢ Some l.job
