-- Each worker so far has its reactor and its clock.
use Rattle.std.proofs.Common.{◌≡◌, length}
use Rattle.tcp_server.proofs.setup.socket_pollers.Given as goal

abbrev pub invariant-reactors : goal.invariant-reactors
invariant-reactors g l = length l.unused_pollers.items ≡ l.worker
