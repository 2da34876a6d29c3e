-- So many ports were made.
use Rattle.std.proofs.Common.{◌≡◌, ◌≤◌, vec_len, vec_capacity}
use Rattle.crossbeam_queue.specs.Passes.{view}
use Rattle.group_queue.specs.Views.{keeper}
use Rattle.group_queue.specs.Ports.{AreNewPorts}
use Rattle.group_queue.specs.Openings.{IsPassTo}
use Rattle.group_queue.proofs.group.SharedGroup.fill_ports.Given as goal

abbrev pub invariant-loop-number : goal.invariant-loop-number
invariant-loop-number g l = record {
  pass : IsPassTo l.self l.pass;
  rest : view l.pass ≡ keeper l.number 0;
  ports : AreNewPorts l.self l.number l.ports.items;
  length : vec_len l.ports ≡ l.number;
  room : l.self.shape.ports ≤ vec_capacity l.ports;
}
