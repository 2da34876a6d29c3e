use Rattle.std.proofs.Common.{◌≡◌, ◌+◌, ◌<◌, length, take, vec_capacity, sym, ap, ◌∙◌, subst, arith}
use Rattle.std.proofs.lemmas.Bool.Decides.{when_true, when_false}
use Rattle.dispatch_core.specs.Joining.{EndsBefore}
use Rattle.dispatch_core.proofs.Touching.{AreJoinedSoFar, joined_touching, joined_next}
use Rattle.dispatch_core.proofs.merging.join_touching.Goals as goal
use Rattle.dispatch_core.proofs.merging.join_touching.Goals.{then-ends_before, else-ends_before}

pub loop-place-preserved : goal.loop-place-preserved
loop-place-preserved c =
    let old = c.args.runs.now.items in
    let now = c.loop-place.runs in
    let kept = c.loop-place.kept in
    let place = c.loop-place.place in
    let run = c.index.result.now in
    let so_far = c.loop-place.invariant in
    let less : place < length now.items = omega (arith, so_far.0.long) in
    let front = c.split_at.ensures.front ∙ ap (take kept) c.deref.ensures.value in
    elim c.if-ends_before.branch [
      | then-ends_before w ↦
          let ends = when_true _ _ w.if-ends_before.true c.ends_before.ensures in
          let last = w.index_mut.result.now in
          subst (λ k. AreJoinedSoFar old c.if-ends_before.runs.items k (place + 1) × (vec_capacity c.if-ends_before.runs ≡ vec_capacity c.args.runs.now)) (sym w.kept-is)
          (subst (λ v. AreJoinedSoFar old v.items kept (place + 1) × (vec_capacity v ≡ vec_capacity c.args.runs.now)) (sym w.runs-is)
          (joined_touching old now.items kept place run run last so_far.0 less c.index.ensures (subst (EndsBefore (take kept now.items)) c.first.ensures (subst (λ rs. EndsBefore rs c.first.result) front ends)) w.index_mut.ensures.value, so_far.1))
      | else-ends_before w ↦
          let ends = when_false _ _ w.if-ends_before.false c.ends_before.ensures in
          subst (λ k. AreJoinedSoFar old c.if-ends_before.runs.items k (place + 1) × (vec_capacity c.if-ends_before.runs ≡ vec_capacity c.args.runs.now)) (sym w.kept-is)
          (subst (λ v. AreJoinedSoFar old v.items (kept + 1) (place + 1) × (vec_capacity v ≡ vec_capacity c.args.runs.now)) (sym w.runs-is)
          (joined_next old now.items kept place run run so_far.0 less c.index.ensures (subst (λ job. ¬ EndsBefore (take kept now.items) job) c.first.ensures (subst (λ rs. ¬ EndsBefore rs c.first.result) front ends)), so_far.1))
    ]
