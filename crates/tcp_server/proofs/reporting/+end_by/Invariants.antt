-- So many are left.
use Rattle.std.proofs.Common.{length}
use Rattle.tcp_server.proofs.reporting.+end_by.Given as goal

abbrev pub decreases-end_by : goal.decreases-end_by
decreases-end_by l = length l.reports.now
