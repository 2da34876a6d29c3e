-- No envelope is a stranger.
use Rattle.std.proofs.Common.{◌≤◌, All, subst, arith}
use Rattle.std.proofs.lemmas.List.{take_all}
use Rattle.std.proofs.lemmas.List.Elements.{All-more}
use Rattle.group_queue.specs.Ends.{times_held, times_out}
use Rattle.group_queue.proofs.Checks.{no_stranger, IsKnown}
use Rattle.group_queue.proofs.group.SharedGroup.stranger.Goals as goal

pub returns : goal.returns
returns g c =
    no_stranger c.args.self.now c.args.places.now c.args.held.now
    (subst (All (IsKnown c.args.self.now c.args.places.now c.args.held.now)) (take_all c.loop-envelope.envelope-index c.args.held.now c.loop-envelope-test.false) c.loop-envelope.invariant)

pub loop-envelope-preserved : goal.loop-envelope-preserved
loop-envelope-preserved g c =
    All-more (IsKnown c.args.self.now c.args.places.now c.args.held.now) c.args.held.now c.loop-envelope.envelope-index c.envelope-item.result c.loop-envelope-test.true c.loop-envelope.invariant
    (subst (IsKnown c.args.self.now c.args.places.now c.args.held.now) c.envelope-item.is (subst (λ s. times_held s c.args.held.now ≤ times_out c.args.self.now s c.args.places.now) c.stamp-stamp.ensures (omega (arith, c.if-times_out-times_held.false, c.times_out.ensures, c.times_held.ensures))))
