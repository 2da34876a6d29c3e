-- Where the client is a member with room, it had a round in which it might be handed a message.
use Rattle.std.proofs.Common.{refl, subst, inl, arith}
use Rattle.worker_connections.specs.Members.{TakesIn}
use Rattle.broker_worker.specs.Resting.{WorkerState}
use Rattle.broker_worker.proofs.worker.Worker.offer_to.Goals as goal

pub returns-then-not-would_take-clause-no : goal.returns-then-not-would_take-clause-no
returns-then-not-would_take-clause-no g c = λ told within.
    let none = c.would_take.ensures.no (grind arith) in
    inl (subst (λ (w : WorkerState g.row.T.Denot). TakesIn c.args.slot c.args.cell w.connections.cells → ⊥) c.self.view_is none, refl)
