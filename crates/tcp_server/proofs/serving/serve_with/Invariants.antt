-- The broker is the one that was opened.
use Rattle.broker_groups.specs.Openings.{named_by}
use Rattle.tcp_server.proofs.serving.serve_with.Given as goal

abbrev pub ghosts-live : goal.ghosts-live
ghosts-live g a = record { gate = a.gated.gate.now; group = named_by a.gated.opened.groups.items }
