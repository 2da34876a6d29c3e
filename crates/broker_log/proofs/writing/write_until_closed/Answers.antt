-- What was written before, and what is written now.
use Rattle.broker_log.proofs.Logging.{begun_then, logged_then}
use Rattle.broker_log.proofs.writing.write_until_closed.Goals as goal

pub returns-then-not-write_lines : goal.returns-then-not-write_lines
returns-then-not-write_lines g c =
    begun_then c.args.log.now (g.W.Write.contents c.args.errors.now) (g.W.Write.contents c.loop.errors) (g.W.Write.contents c.write_lines.new.errors) c.loop.invariant c.write_lines.ensures.begun

pub loop-preserved : goal.loop-preserved
loop-preserved g c =
    logged_then c.args.log.now (g.W.Write.contents c.args.errors.now) (g.W.Write.contents c.loop.errors) (g.W.Write.contents c.write_lines.new.errors) c.loop.invariant (c.write_lines.ensures.whole c.if-not-write_lines.false)
