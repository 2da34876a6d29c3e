-- Reading ends.
use Rattle.client_table.proofs.Reading.{nothing_more, closed_at_last, failed_at_last}
use Rattle.client_table.proofs.client.Client.read.Goals as goal

pub returns-in-Ok-Nothing-clause-read : goal.returns-in-Ok-Nothing-clause-read
returns-in-Ok-Nothing-clause-read g c =
    let told = rw c.in-Ok-Nothing.field-0-is at c.in-Ok-Nothing.ensures.read in
    nothing_more g.S.Supply.call g.P.Place.slot_of c.args.supply.now c.packets.supply c.read_one.new.supply c.args.self.now c.packets.self c.read_one.new.self c.args.now
    c.args.outputs.now.items c.packets.outputs.items c.read_one.new.outputs.items c.packets.invariant.read told.3 told.0 told.1 told.2

pub returns-in-Ok-Closed-clause-read : goal.returns-in-Ok-Closed-clause-read
returns-in-Ok-Closed-clause-read g c =
    let told = rw c.in-Ok-Closed.field-0-is at c.in-Ok-Closed.ensures.read in
    closed_at_last g.S.Supply.call g.P.Place.slot_of c.args.supply.now c.packets.supply c.read_one.new.supply c.args.self.now c.packets.self c.read_one.new.self c.args.now
    c.args.outputs.now.items c.packets.outputs.items c.read_one.new.outputs.items told.0 c.packets.invariant.read told.1 told.2

pub returns-in-Err-clause-read : goal.returns-in-Err-clause-read
returns-in-Err-clause-read g c =
    failed_at_last g.S.Supply.call g.P.Place.slot_of c.args.supply.now c.packets.supply c.read_one.new.supply c.args.self.now c.packets.self c.read_one.new.self c.args.now
    c.args.outputs.now.items c.packets.outputs.items c.read_one.new.outputs.items c.packets.invariant.read c.in-Err.ensures.read.0 c.in-Err.ensures.read.1
