-- A ring, where it is at a bell of the group.
use Rattle.std.proofs.Common.{◌-◌, subst, refl}
use Rattle.std.specs.Arc.{arc_value}
use Rattle.bell.specs.Handles.{BellId}
use Rattle.bell.specs.Calls.{Rings}
use Rattle.worker_bells.specs.Ringing.{RingingState, RingsFor}
use Rattle.worker_bells.proofs.Ringing.{rang}
use Rattle.worker_bells.proofs.bells.Ringing.ring.Goals as goal

pub returns : goal.returns
returns g c =
    let workers = (arc_value c.self.inside.bell).workers in
    let new : RingingState = record { slot = c.self.inside.slot; workers = workers; ringing = c.ring_first.new.ringer } in
    let Told : RingingState → Type 0 = λ old. RingsFor c.args.slot c.args.left (c.args.left - c.ring_first.result) old new in
    let Rung : BellId → Type 0 = λ bell. Rings bell.workers c.args.left c.ring_first.result c.self.inside.ringer.history c.ring_first.new.ringer.history in
    subst Told c.self.view_is
    (rang c.args.slot c.args.left c.ring_first.result (record { slot = c.self.inside.slot; workers = workers; ringing = c.self.inside.ringer }) new c.if-self-slot.false
    (record { slot = refl; workers = refl; bell = c.ring_first.ensures.bell }) (subst Rung c.deref-2.ensures c.ring_first.ensures.rang))
