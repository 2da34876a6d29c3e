-- One envelope more is in the list, if its message is among these.
use Rattle.std.proofs.Common.{ap, ◌∙◌, ◌∷◌, [], arith}
use Rattle.std.proofs.lemmas.List.{take_all}
use Rattle.group_jobs.specs.Stamps.{Held, stamp_of}
use Rattle.group_queue.specs.Ends.{times_held}
use Rattle.group_queue.proofs.Compared.{held_taken}
use Rattle.group_queue.proofs.group.SharedGroup.list_known.Goals as goal

pub loop-envelope-preserved : goal.loop-envelope-preserved
loop-envelope-preserved g c = record {
  room = omega (arith, c.loop-envelope.invariant.room, c.put_known.ensures.room);
  counts = (λ job there. omega (
    arith,
    c.loop-envelope.invariant.counts job there,
    c.put_known.ensures.counts job there,
    held_taken (stamp_of c.args.self.now.slot job) c.args.held.now c.loop-envelope.envelope-index c.envelope-item.result c.loop-envelope-test.true,
    ap (λ (e : Held). times_held (stamp_of c.args.self.now.slot job) (e ∷ [])) c.envelope-item.is,
  ));
}

pub returns : goal.returns
returns g c = λ job there. c.loop-envelope.invariant.counts job there ∙ ap (times_held (stamp_of c.args.self.now.slot job)) (take_all c.loop-envelope.envelope-index c.args.held.now c.loop-envelope-test.false)
