-- What the quota leaves.
use Rattle.std.proofs.Common.{◌-◌, length}
use Rattle.conn_supply.proofs.hand_outs.+send_fresh.Given as goal

abbrev pub decreases-send_fresh : goal.decreases-send_fresh
decreases-send_fresh g l = 256 - length l.window.now.owed
