-- No connection is in cells that are all free.
use Rattle.std.proofs.Common.{◌∙◌}
use Rattle.worker_connections.proofs.Occupied.{free_along, empty-occupied}
use Rattle.worker_connections.proofs.table.ServiceTable.is_empty.Goals as goal

pub returns-clause-free : goal.returns-clause-free
returns-clause-free g c = free_along c.all_free.result _ c.args.self.now (c.deref.ensures.value ∙ c.self.view_is) c.all_free.ensures

pub returns-clause-count : goal.returns-clause-count
returns-clause-count g c = empty-occupied c.all_free.result _ c.args.self.now (c.deref.ensures.value ∙ c.self.view_is) c.all_free.ensures
