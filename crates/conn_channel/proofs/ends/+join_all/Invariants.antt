-- How many ends are left.
use Rattle.std.proofs.Common.{vec_len}
use Rattle.conn_channel.proofs.ends.+join_all.Given as goal

abbrev pub decreases-join_all : goal.decreases-join_all
decreases-join_all g l = vec_len l.receivers
