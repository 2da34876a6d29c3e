use Rattle.std.proofs.Common.{[], add-one}
use Rattle.arguments.proofs.Adding.{added_at, refused_at}
use Rattle.arguments.proofs.groups.groups_of.Goals as goal

pub returns-in-Err : goal.returns-in-Err
returns-in-Err c =
    refused_at c.args.pairs.now c.loop-pair.pair-index _ [] c.loop-pair.groups c.add_group.new.groups c.in-Err.refusal c.loop-pair-test.true c.loop-pair.invariant (rw c.in-Err.is at c.in_ok-refusal.ensures)

pub loop-pair-preserved : goal.loop-pair-preserved
loop-pair-preserved c =
    rw add-one (added_at c.args.pairs.now c.loop-pair.pair-index _ [] c.loop-pair.groups c.add_group.new.groups c.loop-pair-test.true c.loop-pair.invariant (rw c.in_default.is at c.in_ok-refusal.ensures))
