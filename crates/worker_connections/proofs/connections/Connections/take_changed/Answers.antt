-- Whom they would be handed to stays as it was, and so does all else.
use Rattle.std.proofs.Common.{length, subst, sym, ap, ◌∙◌}
use Rattle.worker_connections.specs.Members.{AreWished}
use Rattle.worker_connections.proofs.connections.Connections.take_changed.Goals as goal

pub invariant_of-self : goal.invariant_of-self
invariant_of-self g c = (
  c.self.invariant.0,
  c.self.invariant.1,
  ap length c.take_changed.ensures ∙ c.self.invariant.2,
  subst (AreWished c.self.inside.table) (sym c.take_changed.ensures) c.self.invariant.3,
  c.self.invariant.4,
)
