-- What happened in the cell.
use Rattle.std.proofs.Common.{rules}
use Rattle.client_table.proofs.InCells.{in_cell}
use Rattle.client_table.proofs.table.ClientTable.end_of_input.Goals as goal

pub returns-clause-ended : goal.returns-clause-ended
returns-clause-ended g c =
    let told = c.end_of_input.ensures.ended in (
      told.0,
      told.1,
      in_cell c.args.self.now c.self.inside.cells.items c.args.number c.from.result c.index_mut.result.now c.end_of_input.new.cell _ c.self.view_is c.self.invariant (search rules)
          c.from.ensures c.index_mut.ensures.value told.2,
    )
