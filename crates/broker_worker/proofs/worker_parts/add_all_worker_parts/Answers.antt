-- The parts of one worker more, and one worker less to come.
use Rattle.std.proofs.Common.{◌≡◌, List, Some, length, ap, refl, sym, subst, arith}
use Rattle.std.proofs.Math.ListN.{length-append}
use Rattle.std.proofs.lemmas.List.Elements.{All-pop}
use Rattle.conn_channel.specs.Ends.{ReceiverState, new_receiver}
use Rattle.worker_connections.specs.Arrivals.{ArrivedState}
use Rattle.broker_worker.specs.Parts.{ArePartsOf, IsPartsAt, PartsState}
use Rattle.broker_worker.proofs.Places.{pushed_at}
use Rattle.broker_worker.proofs.worker_parts.add_all_worker_parts.Goals as goal

pub all_worker_parts-preserved : goal.all_worker_parts-preserved
all_worker_parts-preserved g c =
    let IsNew : ReceiverState (ArrivedState g.row.T.Denot) → Type 0 = λ receiver. receiver ≡ new_receiver c.args.sender.now.channel in
    let left = All-pop IsNew c.all_worker_parts.receivers.items c.pop-in-Some.new.self.items (Some c.in-Some-Some.receiver) c.in-Some-Some.ensures.items c.all_worker_parts.invariant.receivers.each in
    let unused_pollers_left = simp length-append at (ap length c.in-Some.ensures.items) in
    let receivers_left = simp length-append at (ap length c.in-Some-Some.ensures.items) in
    let all_own_bells_left = simp length-append at (ap length c.in-Some-Some.ensures'.items) in
    let pushed = simp length-append at (ap length c.in_ok-add_worker_parts.ensures) in
    record {
      receivers = record {
        all = omega (arith, unused_pollers_left, receivers_left, c.all_worker_parts.invariant.receivers.all);
        each = left.0;
      };
      all_own_bells = omega (arith, unused_pollers_left, all_own_bells_left, c.all_worker_parts.invariant.all_own_bells);
      count = omega (arith, unused_pollers_left, pushed, c.all_worker_parts.invariant.count);
      each =
          subst (λ (all : List (PartsState g.row.T.Denot)). ArePartsOf (length c.args.unused_pollers.now.items) c.share_of-share.result c.args.sender.now.channel all) (sym c.in_ok-add_worker_parts.ensures)
          (pushed_at (IsPartsAt (length c.args.unused_pollers.now.items) c.share_of-share.result c.args.sender.now.channel) 0 c.all_worker_parts.all_worker_parts.items _ c.all_worker_parts.invariant.each
          (omega (arith, unused_pollers_left, c.all_worker_parts.invariant.count), refl, left.1));
    }
