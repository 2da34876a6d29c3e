-- Those so far are empty.
use Rattle.dispatch_core.specs.Layout.{AreEmpty}
use Rattle.dispatch_core.proofs.state.empty_members.Given as goal

abbrev pub invariant-loop-member : goal.invariant-loop-member
invariant-loop-member l = AreEmpty l.members.items l._member
