-- What was popped so far.
use Rattle.std.proofs.Common.{◌≡◌, List, length, vec_len, vec_capacity}
use Rattle.crossbeam_queue.specs.SegTies.{IsSegPassOf}
use Rattle.group_queue.specs.declared.posted.Posted.{Posted}
use Rattle.group_queue.specs.Returns.{bag_of, popping_back}
use Rattle.group_queue.specs.Places.{jobs_in}
use Rattle.group_queue.proofs.ending.pop_returned.Given as goal

abbrev pub invariant-pops : goal.invariant-pops
invariant-pops g l = record {
  queue : IsSegPassOf l.queue l.pass;
  popped : (left : List Posted) × (bag_of l.pass ≡ popping_back (bag_of l.initial.pass) left) × (l.returned.items ≡ jobs_in left) × (vec_len l.returned ≡ length left);
  room : vec_capacity l.returned ≡ vec_capacity l.initial.returned;
}
