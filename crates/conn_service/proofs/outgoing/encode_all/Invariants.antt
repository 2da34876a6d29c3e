-- What is written so far stands behind what the buffer held, and its room did not shrink.
use Rattle.std.proofs.Common.{◌≡◌, ◌≤◌, ◌++◌, take, vec_capacity}
use Rattle.conn_service.specs.Services.{bytes_of, write_room}
use Rattle.conn_service.proofs.outgoing.encode_all.Given as goal

abbrev pub invariant-packets : goal.invariant-packets
invariant-packets l = record {
  written : l.buffer.items ≡ l.fn.buffer.items ++ bytes_of (take l.packet-index l.packets);
  room : write_room ≤ vec_capacity l.buffer;
}
