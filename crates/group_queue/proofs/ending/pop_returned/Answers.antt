-- There is room for what was popped.
use Rattle.std.proofs.Common.{◌++◌, ◌∷◌, [], length-append, ap, ◌∙◌, subst, arith}
use Rattle.group_queue.specs.declared.view.Bag.{Bag}
use Rattle.group_queue.specs.Returns.{StandsBack}
use Rattle.group_queue.proofs.Endings.{room_left, popped_more, jobs_more}
use Rattle.group_queue.proofs.ending.pop_returned.Goals as goal

pub push_reserved-requires : goal.push_reserved-requires
push_reserved-requires g c =
    let x = c.in-Some-pop.posted in
    let left = c.pops.invariant.popped.0 in
    let pops = c.in-Some-pop.ensures.answer in
    let after = subst (λ (v : Bag). StandsBack v pops.items) (popped_more _ _ _ left x c.pops.invariant.popped.1 pops.is) pops.after in
    room_left _ _ left x c.pops.invariant.popped.3 (omega (arith, c.requires.room (left ++ x ∷ []) pops.items after, c.pops.invariant.room))

pub pops-preserved : goal.pops-preserved
pops-preserved g c =
    let x = c.in-Some-pop.posted in
    let left = c.pops.invariant.popped.0 in
    record {
      queue = c.in-Some-pop.ensures.queue;
      popped = (
        left ++ x ∷ [],
        popped_more _ _ _ left x c.pops.invariant.popped.1 c.in-Some-pop.ensures.answer.is,
        c.push_reserved.ensures.items ∙ (ap (λ job. c.pops.returned.items ++ job ∷ []) c.into_job.ensures ∙ jobs_more _ left x c.pops.invariant.popped.2),
        omega (arith, c.push_reserved.ensures.len, c.pops.invariant.popped.3, length-append left (x ∷ [])),
      );
      room = c.push_reserved.ensures.capacity ∙ c.pops.invariant.room;
    }
