-- Nobody is there to be let go of.
use Rattle.std.proofs.Common.{arith, ap, ◌∙◌}
use Rattle.worker_connections.specs.Cells.{occupied}
use Rattle.worker_connections.proofs.Occupied.{occupied-behind}
use Rattle.worker_connections.proofs.table.+abandon_each.Goals as goal

pub returns-in-Some : goal.returns-in-Some
returns-in-Some g t c none =
    let split = ap occupied c.in-Some.ensures.items ∙ occupied-behind c.pop.new.self.items c.in-Some.cell in
    c.abandon_each.ensures (omega (arith, split, none)) ∙ c.abandon_one.ensures (omega (arith, split, none))
