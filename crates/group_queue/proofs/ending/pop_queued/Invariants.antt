-- What was popped so far.
use Rattle.std.proofs.Common.{◌≡◌, length, vec_len, vec_capacity}
use Rattle.crossbeam_queue.specs.Passes.{view, IsPassOf}
use Rattle.group_queue.specs.Views.{popping, list_in}
use Rattle.group_queue.specs.Places.{jobs_in}
use Rattle.group_queue.proofs.ending.pop_queued.Given as goal

abbrev pub invariant-pops : goal.invariant-pops
invariant-pops g l = record {
  queue : IsPassOf l.queue l.pass;
  ending : view l.pass ≡ popping (view l.initial.pass) (list_in (view l.pass));
  queued : l.queued.items ≡ jobs_in (list_in (view l.pass));
  many : vec_len l.queued ≡ length (list_in (view l.pass));
  room : vec_capacity l.queued ≡ vec_capacity l.initial.queued;
}
