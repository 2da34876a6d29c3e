-- One group after the other.
use Rattle.std.proofs.Common.{◌≡◌, ◌<◌, ◌+◌, ℕ, List, length, take, get_or, subst, sym, arith}
use Rattle.std.proofs.lemmas.List.{length-take-le, take_more}
use Rattle.worker_bells.specs.Ringing.{AreRung, IsRung}
use Rattle.worker_bells.proofs.Ringing.{group_more}
use Rattle.worker_bells.proofs.own_bells.WorkerBells.ring_each.Goals as goal

pub slots-preserved : goal.slots-preserved
slots-preserved g c =
    let wanted = c.args.wanted.now in
    let slot = c.slots.slot in
    let count = get_or wanted slot 0 in
    let within : slot < length wanted = omega (arith, c.told-wanted) in
    let At : ℕ → Type 0 = λ n. IsRung n count c.slots.self.ringings c.ring.new.self.ringings in
    let Rung : List ℕ → Type 0 = λ before. AreRung 0 before c.args.self.now.ringings c.ring.new.self.ringings in
    let at : slot ≡ 0 + length (take slot wanted) = omega (arith, length-take-le slot wanted (omega arith)) in
    subst Rung (sym (take_more wanted slot 0 within))
    (group_more 0 count (take slot wanted) c.args.self.now.ringings c.slots.self.ringings c.ring.new.self.ringings c.slots.invariant (subst At at c.ring.ensures.rung))
