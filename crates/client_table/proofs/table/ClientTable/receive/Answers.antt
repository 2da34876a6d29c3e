-- What happened in the cell.
use Rattle.std.proofs.Common.{rules}
use Rattle.client_table.proofs.InCells.{in_cell}
use Rattle.client_table.proofs.table.ClientTable.receive.Goals as goal

pub returns-clause-received : goal.returns-clause-received
returns-clause-received g c =
    let told = c.receive.ensures.received in (
      told.0,
      told.1,
      in_cell c.args.self.now c.self.inside.cells.items c.args.number c.from.result c.index_mut.result.now c.receive.new.cell _ c.self.view_is c.self.invariant (search rules)
          c.from.ensures c.index_mut.ensures.value told.2,
    )
