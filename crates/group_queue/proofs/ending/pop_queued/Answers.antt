-- There is room for what was popped.
use Rattle.std.proofs.Common.{◌++◌, ◌∷◌, [], ap, ◌∙◌, subst, arith}
use Rattle.crossbeam_queue.specs.Passes.{view}
use Rattle.group_queue.specs.declared.view.View.{View}
use Rattle.group_queue.specs.Views.{list_in, grown}
use Rattle.group_queue.specs.Past.{Stands}
use Rattle.group_queue.proofs.Endings.{room_left}
use Rattle.group_queue.proofs.ending.pop_queued.Goals as goal

pub push_reserved-requires : goal.push_reserved-requires
push_reserved-requires g c =
    let x = c.in-Some-pop_left.posted in
    let left = list_in (view c.pops.pass) in
    let takes = c.in-Some-pop_left.ensures.answer in
    let after = subst (λ (v : View). Stands v takes.items) (takes.is ∙ ap (λ v. grown v x) c.pops.invariant.ending) takes.after in
    room_left _ _ left x c.pops.invariant.many (omega (arith, c.requires.room (left ++ x ∷ []) takes.items after, c.pops.invariant.room))
