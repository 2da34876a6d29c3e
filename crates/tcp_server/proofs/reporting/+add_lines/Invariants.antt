-- So many are left.
use Rattle.std.proofs.Common.{length}
use Rattle.tcp_server.proofs.reporting.+add_lines.Given as goal

abbrev pub decreases-add_lines : goal.decreases-add_lines
decreases-add_lines l = length l.shares.now
