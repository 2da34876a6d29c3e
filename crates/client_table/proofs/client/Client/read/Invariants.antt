-- What is read so far, and what is unread.
use Rattle.std.proofs.Common.{◌≡◌, length}
use Rattle.client_table.proofs.Reading.{IsReadOnFrom}
use Rattle.client_table.proofs.client.Client.read.Given as goal

abbrev pub invariant-packets : goal.invariant-packets
invariant-packets g l = record {
  read : IsReadOnFrom g.S.Supply.call g.P.Place.slot_of l.fn.supply l.fn.self l.now l.fn.outputs.items l.supply l.self l.outputs.items;
  visiting : g.S.Supply.visiting l.supply ≡ g.S.Supply.visiting l.fn.supply;
}

abbrev pub decreases-packets : goal.decreases-packets
decreases-packets g l = length l.self.unread.bytes
