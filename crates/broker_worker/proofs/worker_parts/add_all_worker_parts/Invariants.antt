-- The parts so far, and what is left for the others.
use Rattle.std.proofs.Common.{◌≡◌, ◌+◌, length, vec_len}
use Rattle.conn_channel.specs.Ends.{AreReceivers}
use Rattle.broker_worker.specs.Parts.{ArePartsOf}
use Rattle.broker_worker.proofs.worker_parts.add_all_worker_parts.Given as goal

abbrev pub invariant-all_worker_parts : goal.invariant-all_worker_parts
invariant-all_worker_parts g l = record {
  receivers : AreReceivers l.fn.sender.channel (length l.unused_pollers.items) l.receivers.items;
  all_own_bells : length l.all_own_bells.items ≡ length l.unused_pollers.items;
  count : length l.all_worker_parts.items + length l.unused_pollers.items ≡ length l.fn.unused_pollers.items;
  each : ArePartsOf (length l.fn.unused_pollers.items) l.share l.fn.sender.channel l.all_worker_parts.items;
}

abbrev pub decreases-all_worker_parts : goal.decreases-all_worker_parts
decreases-all_worker_parts g l = vec_len l.unused_pollers
