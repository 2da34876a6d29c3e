-- So many groups were tried again.
use Rattle.std.proofs.Common.{◌≡◌, ◌≤◌, ℕ, length, slice_get, Some, Result, vec_capacity}
use Rattle.std.specs.Vec.Iter.{into_iter_items, into_iter_len}
use Rattle.group_jobs.specs.declared.report.Report.{Report}
use Rattle.group_queue.specs.declared.finish.Unfinished.{Unfinished}
use Rattle.broker_groups.specs.Endings.{IsAgain}
use Rattle.broker_groups.proofs.Finishing.{IsRest}
use Rattle.broker_groups.proofs.ending.finish_again.Given as goal

abbrev pub invariant-slots : goal.invariant-slots
invariant-slots g l = record {
  rest : IsRest l.fn.first.items (length l.answers.items) (into_iter_items l.rest);
  room : length l.fn.first.items ≤ vec_capacity l.answers;
  each : (slot : ℕ) (answer again : Result Report (Unfinished _)) → slice_get l.fn.first.items slot ≡ Some answer → slice_get l.answers.items slot ≡ Some again → IsAgain answer again;
}

abbrev pub decreases-slots : goal.decreases-slots
decreases-slots g l = into_iter_len l.rest
