-- One line more.
use Rattle.broker_log.proofs.Logging.{begun_then, logged_then}
use Rattle.broker_log.proofs.writing.write_taken.Goals as goal

pub returns-then-not-write_line-clause-begun : goal.returns-then-not-write_line-clause-begun
returns-then-not-write_line-clause-begun g c =
    begun_then c.args.log.now (g.W.Write.contents c.args.errors.now) (g.W.Write.contents c.loop.errors) (g.W.Write.contents c.write_line.new.errors) c.loop.invariant c.write_line.ensures.begun

pub loop-preserved : goal.loop-preserved
loop-preserved g c =
    logged_then c.args.log.now (g.W.Write.contents c.args.errors.now) (g.W.Write.contents c.loop.errors) (g.W.Write.contents c.write_line.new.errors) c.loop.invariant (c.write_line.ensures.whole c.if-not-write_line.false)
