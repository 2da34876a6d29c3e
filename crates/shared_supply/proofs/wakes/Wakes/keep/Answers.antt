-- One group more.
use Rattle.std.proofs.Common.{ap, arith, ◌∙◌, ◌<◌, length}
use Rattle.std.specs.Prelude.{slice_set}
use Rattle.std.proofs.Math.ListN.{length-set}
use Rattle.shared_supply.specs.declared.wakes.Wakes.{Wakes}
use Rattle.shared_supply.proofs.Keeping.{all_more, kept_more, left_more}
use Rattle.shared_supply.proofs.wakes.Wakes.keep.Goals as goal

pub loop-slot-preserved : goal.loop-slot-preserved
loop-slot-preserved c =
    let at = c.loop-slot.slot in
    let now = c.loop-slot.self.messages in
    let old = c.args.self.now.messages in
    let within : at < length now = omega (arith, c.loop-slot-test.true, c.loop-slot.invariant.now_long) in
    let was = c.loop-slot.invariant.left at (omega arith) in
    let kept = c.min-kept.result in
    record {
      kept = kept_more old now c.args.most.now at kept within c.min-kept.ensures was c.loop-slot.invariant.kept;
      all = all_more old now c.args.most.now at kept within c.min-kept.ensures was c.loop-slot.beyond (omega (arith, c.loop-slot-test.true, c.loop-slot.invariant.others_long)) c.loop-slot.invariant.all;
      left = left_more old now c.args.most.now at kept within c.min-kept.ensures was c.loop-slot.invariant.left;
      rest = ap (λ (w : Wakes). record w { messages = slice_set now at kept }) c.loop-slot.invariant.rest;
      now_long = length-set now at kept ∙ c.loop-slot.invariant.now_long;
      others_long = length-set c.loop-slot.beyond at _ ∙ c.loop-slot.invariant.others_long;
    }
