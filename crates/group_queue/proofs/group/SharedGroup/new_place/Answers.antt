-- Its passes know of nothing.
use Rattle.std.proofs.Common.{ap, arith}
use Rattle.group_queue.proofs.Places.{new_hands, new_left}
use Rattle.group_queue.proofs.group.SharedGroup.new_place.Goals as goal

pub invariant_of-result : goal.invariant_of-result
invariant_of-result g c = (
  new_hands _ _ _ _ (omega (arith, c.requires.number, c.requires.few)) (ap (λ s. s.gave) c.requires.giver) c.requires.passes.main c.requires.passes.part c.requires.passes.of.bare c.new.ensures.out c.new.ensures.settled,
  new_left _ _ _ _ c.requires.passes.of.hands c.requires.few c.requires.keeper,
  g.met.W.LawfulWitness.returns.parts _,
  g.met.W.LawfulWitness.main.places _,
)
