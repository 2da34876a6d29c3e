-- What is held still.
use Rattle.std.proofs.Common.{length}
use Rattle.member_window.specs.Contents.{held_of}
use Rattle.conn_engine.proofs.ending.+give_back.Given as goal

abbrev pub decreases-give_back : goal.decreases-give_back
decreases-give_back g l = length (held_of l.window.now)
