-- An allocation failed at the Tick itself.
use Rattle.std.proofs.Common.{rules, inl, inr}
use Rattle.client_table.proofs.Ticking.{fails_at_tick}
use Rattle.client_table.proofs.client.Client.tick.Goals as goal

pub returns-then-is_err-clause-ticked : goal.returns-then-is_err-clause-ticked
returns-then-is_err-clause-ticked g c =
    fails_at_tick g.S.Supply.call g.P.Place.slot_of c.args.supply.now c.give_up.new.supply c.args.self.now c.give_up.new.self c.args.now c.args.outputs.now.items c.reserve.new.self.items
    (search rules) (inl (search rules))

pub returns-in-Err-clause-ticked : goal.returns-in-Err-clause-ticked
returns-in-Err-clause-ticked g c =
    fails_at_tick g.S.Supply.call g.P.Place.slot_of c.args.supply.now c.step.new.supply c.args.self.now c.step.new.self c.args.now c.args.outputs.now.items c.step.new.outputs.items
    (search rules) (inr (search rules))
