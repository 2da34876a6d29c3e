-- Those so far are empty.
use Rattle.dispatch_core.specs.Layout.{AreEmpty}
use Rattle.dispatch_core.proofs.state.empty_ports.Given as goal

abbrev pub invariant-loop-port : goal.invariant-loop-port
invariant-loop-port l = AreEmpty l.ports.items l._port
