-- Nothing is out at any place.
use Rattle.std.proofs.Common.{Some}
use Rattle.std.proofs.lemmas.List.Elements.{All-pop}
use Rattle.broker_groups.specs.Naming.{HasNoneOut}
use Rattle.supply_tests.proofs.groups.go_inside.Goals as goal

pub work-settled-requires-clause-none : goal.work-settled-requires-clause-none
work-settled-requires-clause-none g c = (All-pop HasNoneOut c.args.places.now.items c.pop.new.self.items (Some c.in-Some.place) c.in-Some.ensures.items c.requires.none).1
