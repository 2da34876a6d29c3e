use Rattle.std.proofs.Common.{arith}
use Rattle.local_broker.proofs.Opened.{begins, place_more}
use Rattle.local_broker.proofs.opening.add_places.Goals as goal

pub cells-init : goal.cells-init
cells-init c = begins c.args.desk.now c.requires

pub cells-preserved : goal.cells-preserved
cells-preserved c =
    place_more c.cells.desk c.take_place-back.new.self c.cells.cell c.at.result c.take_place-back.result (let test = c.cells-test.true in omega arith) c.at.ensures c.cells.invariant c.take_place-back.ensures

pub returns : goal.returns
returns c =
    record {
      books = c.cells.invariant.books;
      cells = c.cells.invariant.cells;
      free = λ cell less. c.cells.invariant.filled cell (let done = c.cells-test.false in omega arith);
    }
