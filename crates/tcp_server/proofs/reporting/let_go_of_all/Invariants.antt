-- So many are left.
use Rattle.std.proofs.Common.{vec_len}
use Rattle.tcp_server.proofs.reporting.let_go_of_all.Given as goal

abbrev pub decreases-envelopes : goal.decreases-envelopes
decreases-envelopes l = vec_len l.envelopes
