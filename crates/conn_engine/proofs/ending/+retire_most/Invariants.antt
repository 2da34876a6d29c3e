-- How many more there may be.
use Rattle.conn_engine.proofs.ending.+retire_most.Given as goal

abbrev pub decreases-retire_most : goal.decreases-retire_most
decreases-retire_most g l = l.most
