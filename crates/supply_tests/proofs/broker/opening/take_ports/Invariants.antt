-- The seats that are left are those of the gate, and there is a part of the right to call for each worker.
use Rattle.std.proofs.Common.{◌<◌, length, vec_len}
use Rattle.gate_word.specs.Seats.{AreSeatsOf}
use Rattle.supply_tests.proofs.broker.opening.take_ports.Given as goal

abbrev pub invariant-handles : goal.invariant-handles
invariant-handles g l = record {
  seats : AreSeatsOf l.gate l.seats.items;
  parts : length l.left.items < l.caller.parts;
}

abbrev pub decreases-handles : goal.decreases-handles
decreases-handles g l = vec_len l.left
