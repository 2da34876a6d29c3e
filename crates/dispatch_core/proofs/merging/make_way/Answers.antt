use Rattle.std.proofs.Common.{ap, ◌∙◌}
use Rattle.dispatch_core.specs.Merging.{merged}
use Rattle.dispatch_core.specs.Tiered.{both}
use Rattle.dispatch_core.proofs.MergedLists.{merged-nil}
use Rattle.dispatch_core.proofs.merging.make_way.Goals as goal

pub returns-then-len-min-clause-same : goal.returns-then-len-min-clause-same
returns-then-len-min-clause-same c = ap (merged (both c.take_in.new.self)) c.take_in.ensures.none ∙ merged-nil (both c.take_in.new.self) ∙ c.take_in.ensures.same
