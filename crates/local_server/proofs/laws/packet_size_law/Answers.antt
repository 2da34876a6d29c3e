-- No packet is longer than its client takes.
use Rattle.local_server.proofs.PacketSizes.{each_fits, all_along}
use Rattle.local_server.proofs.laws.packet_size_law.Goals as goal

pub returns-clause-each : goal.returns-clause-each
returns-clause-each c setup events outputs first last new run steps taken = each_fits setup events outputs first last new run steps taken

pub returns-clause-connect : goal.returns-clause-connect
returns-clause-connect c setup events outputs first last new run steps taken connection = all_along setup events outputs first last new run steps taken connection
