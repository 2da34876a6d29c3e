-- What waits still.
use Rattle.std.proofs.Common.{length}
use Rattle.conn_supply.proofs.hand_outs.+send_again.Given as goal

abbrev pub decreases-send_again : goal.decreases-send_again
decreases-send_again l = length l.window.now.waiting
