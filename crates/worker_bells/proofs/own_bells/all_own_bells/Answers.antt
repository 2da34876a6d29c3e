-- The ringers reach each listener of the groups so far.
use Rattle.std.proofs.Common.{◌≡◌, List, length, drop, ap, sym, subst, ◌∙◌, arith}
use Rattle.worker_bells.specs.Ringing.{WorkerBellsState}
use Rattle.worker_bells.specs.Joining.{AreJoined}
use Rattle.worker_bells.proofs.Joining.{front}
use Rattle.worker_bells.proofs.own_bells.all_own_bells.Goals as goal

pub slots-preserved : goal.slots-preserved
slots-preserved g c =
    let after = c.fit_slot.new.all in
    let value = ap length c.as_mut_slice.ensures.value in
    let same : length after ≡ length c.slots.all.items = omega (arith, value) in
    let front = front c.slots.all.len after (drop (length after) c.slots.all.items) (omega (arith, value, same)) in
    record {
      count = ap (λ (all : List WorkerBellsState). length all) front ∙ (same ∙ c.slots.invariant.count);
      joined = subst AreJoined (sym front) (c.in_ok-fit_slot.ensures (subst AreJoined (sym c.as_mut_slice.ensures.value) c.slots.invariant.joined));
    }
