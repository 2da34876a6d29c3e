-- What closed the connection.
use Rattle.std.proofs.Common.{rules}
use Rattle.client_table.proofs.Reading.{closed_by_fault}
use Rattle.client_table.proofs.client.Client.read_one.Goals as goal

pub returns-in-Ok-step-clause-read : goal.returns-in-Ok-step-clause-read
returns-in-Ok-step-clause-read g c =
    let output = c.in-Ok-step.ensures.stepped in
    let met = rw c.in-Err-Stream.field-0-is at c.in-Err-Stream.ensures in
    (output.0, search rules, closed_by_fault g.S.Supply.call g.P.Place.slot_of c.args.supply.now c.step-in-Err-Stream.new.supply c.args.self.now c.step-in-Err-Stream.new.self c.args.now output.0 c.in-Err-Stream.fault (search rules) (search rules))
