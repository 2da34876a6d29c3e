-- What was said, and then what was lost.
use Rattle.broker_log.proofs.Logging.{begun_then, logged_then}
use Rattle.broker_log.proofs.writing.write_lines.Goals as goal

pub returns-then-write_taken-clause-whole : goal.returns-then-write_taken-clause-whole
returns-then-write_taken-clause-whole g c =
    λ whole. logged_then c.args.log.now (g.W.Write.contents c.args.errors.now) (g.W.Write.contents c.write_taken.new.errors) (g.W.Write.contents c.write_lost.new.errors) (c.write_taken.ensures.whole c.if-write_taken.true) (c.write_lost.ensures.whole whole)

pub returns-then-write_taken-clause-begun : goal.returns-then-write_taken-clause-begun
returns-then-write_taken-clause-begun g c =
    begun_then c.args.log.now (g.W.Write.contents c.args.errors.now) (g.W.Write.contents c.write_taken.new.errors) (g.W.Write.contents c.write_lost.new.errors) (c.write_taken.ensures.whole c.if-write_taken.true) c.write_lost.ensures.begun
