use Rattle.std.proofs.Common.{vec_capacity, ap, subst}
use Rattle.dispatch_core.specs.JobRuns.{AreKept}
use Rattle.dispatch_core.specs.Merging.{merged}
use Rattle.dispatch_core.proofs.Stored.{kept_runs}
use Rattle.dispatch_core.specs.Tiered.{both}
use Rattle.dispatch_core.proofs.runs.Runs.runs.Goals as goal

pub returns-clause-kept : goal.returns-clause-kept
returns-clause-kept c =
    let i = c.self.inside in
    subst AreKept (ap (λ r. r.runs) c.self.view_is) (kept_runs (merged (both i.older) i.recent.items) (vec_capacity i.older.long) i.has_repeats c.self.invariant.stored)
