-- Runs that are equal one by one are equal.
use Rattle.std.proofs.Common.{sym, ◌∙◌}
use Rattle.group_queue.proofs.SameRuns.{same_runs}
use Rattle.group_queue.proofs.comparing.are_same.Goals as goal

pub returns : goal.returns
returns c = λ yes. same_runs c.args.one.now.runs c.args.other.now.runs (sym c.eq.ensures ∙ yes)
