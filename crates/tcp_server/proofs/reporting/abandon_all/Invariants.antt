-- So many are left.
use Rattle.std.proofs.Common.{vec_len}
use Rattle.tcp_server.proofs.reporting.abandon_all.Given as goal

abbrev pub decreases-answers : goal.decreases-answers
decreases-answers l = vec_len l.answers
