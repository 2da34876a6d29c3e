-- The entries that are left.
use Rattle.std.specs.Vec.Iter.{into_iter_len}
use Rattle.conn_supply.proofs.subscribing.+answer_entries.Given as goal

abbrev pub decreases-answer_entries : goal.decreases-answer_entries
decreases-answer_entries g l = into_iter_len l.entries
