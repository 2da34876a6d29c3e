-- One came, and was sent.
use Rattle.std.proofs.Common.{◌++◌, [], ◌∷◌, subst, ap, ◌∙◌}
use Rattle.conn_rules.specs.declared.client_limits.ClientLimits.{ClientLimits}
use Rattle.worker_connections.specs.Arrivals.{ArrivedState}
use Rattle.worker_pool.specs.Accepting.{AcceptorState, HasAccepted}
use Rattle.worker_pool.proofs.Accepted.{one}
use Rattle.worker_pool.proofs.accepting.Acceptor.accept_one.Goals as goal

pub returns-in-Came-clause-accepted : goal.returns-in-Came-clause-accepted
returns-in-Came-clause-accepted g c =
    let inside = c.self.inside in
    let sent = c.deliver.ensures ∙ ap (λ (arrived : ArrivedState g.row.W-Transport.Denot). record inside.sender { sent = inside.sender.sent ++ arrived ∷ [] })
    (c.new-arrived.ensures ∙ ap (λ (limits : ClientLimits). record { transport = c.in-Came.transport; limits = limits }) c.in-Ok.ensures) in
    subst
    (λ (old : AcceptorState g.row.W-Transport.Denot g.row.W-Source.Denot).
    HasAccepted g.W.Source.Source.tally g.W.Source.Source.arrived old (record { source = c.next.new.self; sender = c.deliver.new.sender; limits = inside.limits; end = inside.end }))
    c.self.view_is
    (one g.W.Source.Source.tally g.W.Source.Source.arrived (record { source = inside.source; sender = inside.sender; limits = inside.limits; end = inside.end }) c.next.new.self c.deliver.new.sender
    c.in-Came.transport c.in-Came.ensures.tally c.in-Came.ensures.arrived sent)
