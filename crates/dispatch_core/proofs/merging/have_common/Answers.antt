use Rattle.dispatch_core.specs.declared.runs.Run.{Run}
use Rattle.dispatch_core.proofs.Clear.{clear_more, twice_there}
use Rattle.dispatch_core.proofs.merging.have_common.Goals as goal

abbrev none : Run
none = record { port = 0; from = 0; last = 0 }

pub returns-then-not-lies_clear : goal.returns-then-not-lies_clear
returns-then-not-lies_clear c = twice_there c.args.runs.now c.loop-place.place none c.loop-place.auto.place c.loop-place-test.true c.requires.filled c.requires.sorted c.if-not-lies_clear.ensures

pub loop-place-preserved : goal.loop-place-preserved
loop-place-preserved c = clear_more c.args.runs.now c.loop-place.place none c.loop-place.auto.place c.loop-place-test.true c.requires.filled c.loop-place.invariant c.if-not-lies_clear.ensures
