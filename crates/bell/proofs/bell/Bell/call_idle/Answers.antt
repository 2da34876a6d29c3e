use Rattle.std.proofs.Common.{◌≡◌, ◌<◌, ◌+◌, ℕ, refl, sym, ap, ◌∙◌, subst, arith}
use Rattle.bell.specs.Handles.{RingerState}
use Rattle.bell.specs.Calls.{CallsDue, is_due}
use Rattle.bell.proofs.Calling.{none_called, next_busy, next_called, room}
use Rattle.bell.proofs.bell.Bell.call_idle.Goals as goal
use Rattle.bell.proofs.bell.Bell.call_idle.Goals.{then-is_due, else-is_due}

pub loop-worker-init : goal.loop-worker-init
loop-worker-init g c = record { bell = refl; calls = none_called _ c.args.wanted c.args.ringer.now.history; all = refl }

pub loop-worker-preserved : goal.loop-worker-preserved
loop-worker-preserved g c =
    let kept = c.loop-worker.invariant in
    let worker = c.loop-worker.worker in
    let small : worker < 32 = (let few = c.requires.few in let all = c.requires.wakers in let within = c.loop-worker-test.true in omega arith) in
    let so_far : RingerState → ℕ → Type 0 = λ ringer woken. CallsDue (is_due c.args.found c.args.first c.args.named) (worker + 1) c.args.wanted woken c.args.ringer.now.history ringer.history in
    let becomes : (ringer : RingerState) (woken : ℕ) → c.if-is_due.ringer ≡ ringer → c.if-is_due.woken ≡ woken → so_far ringer woken → so_far c.if-is_due.ringer c.if-is_due.woken =
    λ ringer woken same count is. subst (λ (r : RingerState). so_far r c.if-is_due.woken) (sym same) (subst (so_far ringer) (sym count) is) in
    elim c.if-is_due.branch [
      | then-is_due w ↦
          let found = w.call-woken.ensures.called in
          record {
            bell = ap (λ (r : RingerState). r.bell) w.ringer-is ∙ w.call-woken.ensures.bell ∙ kept.bell;
            calls = becomes _ _ w.ringer-is w.woken-is (next_called _ _ _ _ _ _ kept.calls _ found.0 found.1 _ found.2 (room _ _ c.if-woken-wanted.false kept.calls.most));
            all = refl;
          }
      | else-is_due w ↦
          let busy = sym c.is_due.ensures ∙ w.if-is_due.false in
          record {
            bell = ap (λ (r : RingerState). r.bell) w.ringer-is ∙ kept.bell;
            calls = becomes _ _ w.ringer-is w.woken-is (next_busy _ _ _ _ _ _ kept.calls busy);
            all = refl;
          }
    ]
