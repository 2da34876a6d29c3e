use Rattle.std.proofs.Common.{[], map, take}
use Rattle.arguments.specs.Groups.{AddsEach}
use Rattle.arguments.proofs.groups.groups_of.Given as goal

abbrev pub invariant-loop-pair : goal.invariant-loop-pair
invariant-loop-pair l = AddsEach [] (take l.pair-index (map (λ pair. pair.now) l.pairs)) l.groups
