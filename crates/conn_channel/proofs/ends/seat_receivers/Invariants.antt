use Rattle.std.proofs.Common.{◌≡◌, ◌≤◌, ◌-◌, [], vec_capacity}
use Rattle.crossbeam_channel.specs.Claims.{view, IsSeatAt}
use Rattle.crossbeam_channel.specs.Ends.{sends_on}
use Rattle.conn_channel.specs.Rule.{pass_view}
use Rattle.conn_channel.specs.Ends.{AreReceivers, channel_of}
use Rattle.conn_channel.proofs.ends.seat_receivers.Given as goal

abbrev pub invariant-receivers : goal.invariant-receivers
invariant-receivers g l = record {
  seat : IsSeatAt (sends_on l.fn.sending) l.pass;
  channel : channel_of l.pass ≡ channel_of l.fn.pass;
  knows : view l.pass ≡ pass_view (128 - l.counter) 1 [] 0 [] 0;
  made : AreReceivers (channel_of l.fn.pass) l.counter l.row.items;
  room : (l.fn.count ≤ vec_capacity l.row) × (l.count ≡ l.fn.count) × (l.count ≤ 64);
}
