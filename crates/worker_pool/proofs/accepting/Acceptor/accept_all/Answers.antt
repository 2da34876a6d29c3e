-- What was taken is all that was sent, and nothing is after it but end marks.
use Rattle.std.proofs.Common.{subst, ap, ◌∙◌}
use Rattle.worker_pool.specs.Accepting.{AcceptorState, HasAccepted}
use Rattle.worker_pool.proofs.Accepted.{more, still}
use Rattle.worker_pool.proofs.accepting.Acceptor.accept_all.Goals as goal

pub returns-clause-accepted : goal.returns-clause-accepted
returns-clause-accepted g c =
    more g.W.Source.Source.tally g.W.Source.Source.arrived c.args.self.now c.accept_begun.new.self c.close.new.self c.accept_begun.ensures.accepted
    (subst (λ (old : AcceptorState g.row.W-Transport.Denot g.row.W-Source.Denot). HasAccepted g.W.Source.Source.tally g.W.Source.Source.arrived old c.close.new.self) c.shut_unless_ended.ensures c.close.ensures.accepted)

pub returns-clause-ends : goal.returns-clause-ends
returns-clause-ends g c =
    still g.W.Source.Source.tally g.W.Source.Source.arrived c.args.self.now c.accept_begun.new.self c.close.new.self
    (ap (λ (a : AcceptorState g.row.W-Transport.Denot g.row.W-Source.Denot). a.source) c.close.ensures.same ∙ ap (λ (a : AcceptorState g.row.W-Transport.Denot g.row.W-Source.Denot). a.source) c.shut_unless_ended.ensures)
    (ap (λ (a : AcceptorState g.row.W-Transport.Denot g.row.W-Source.Denot). a.end) c.close.ensures.same ∙ ap (λ (a : AcceptorState g.row.W-Transport.Denot g.row.W-Source.Denot). a.end) c.shut_unless_ended.ensures)
    c.accept_begun.ensures.ends
