-- Nothing is out at any place of any row, and all places are new.
use Rattle.std.proofs.Common.{sym, subst, All}
use Rattle.broker_groups.specs.Naming.{AreNewPlacesOf, HasNoneOut}
use Rattle.broker_groups.proofs.Dealing.{all_in_a_row}
use Rattle.broker_groups.proofs.Unsent.{dealt}
use Rattle.broker_groups.proofs.opening.Opened.name.Goals as goal

pub returns-in-Ok-clause-fresh : goal.returns-in-Ok-clause-fresh
returns-in-Ok-clause-fresh g c = subst (All HasNoneOut) (sym c.in-Ok.ensures.places) (all_in_a_row HasNoneOut c.args.self.places.items c.requires.fresh)

pub returns-in-Ok-clause-new : goal.returns-in-Ok-clause-new
returns-in-Ok-clause-new g c = subst (AreNewPlacesOf g.B.Broker.group) (sym c.in-Ok.ensures.places) c.requires.new

pub returns-in-Ok-clause-unsent : goal.returns-in-Ok-clause-unsent
returns-in-Ok-clause-unsent g c = dealt c.args.self.ports.items c.in-Ok.ports.items c.requires.unsent c.in-Ok.ensures.ports
