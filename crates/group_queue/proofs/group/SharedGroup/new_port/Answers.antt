-- The pass is that of the next port, which has sent nothing.
use Rattle.std.proofs.Common.{[], sym, ap, ◌∙◌, length, arith}
use Rattle.group_queue.specs.declared.view.Name.TheVariants.{Port}
use Rattle.group_queue.specs.declared.view.View.{View}
use Rattle.group_queue.specs.Views.{one, list_in}
use Rattle.group_queue.proofs.group.SharedGroup.new_port.Goals as goal

pub invariant_of-result : goal.invariant_of-result
invariant_of-result g c =
    let is = c.cut_port-own.ensures.port ∙ ap (λ (v : View). one (Port v.ports) []) c.requires.next in (
      record { few = omega arith; sender_is = record { of = is ∙ ap (one (Port c.args.number)) (sym (ap list_in is)); bare = c.cut_port-own.ensures.queue.1.1 }; many = ap (λ v. length (list_in v)) is },
      g.met.W.LawfulWitness.main.ports _,
    )
