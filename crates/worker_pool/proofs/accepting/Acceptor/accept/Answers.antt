-- What one more call took is taken too.
use Rattle.std.proofs.Common.{◌∙◌}
use Rattle.worker_pool.proofs.Accepted.{after, more}
use Rattle.worker_pool.proofs.accepting.Acceptor.accept.Goals as goal

pub returns-in-Some-accept_one-clause-accepted : goal.returns-in-Some-accept_one-clause-accepted
returns-in-Some-accept_one-clause-accepted g c =
    more g.W.Source.Source.tally g.W.Source.Source.arrived c.args.self.now c.arrivals.self c.accept_one.new.self c.arrivals.invariant.accepted c.accept_one.ensures.accepted

pub returns-in-Some-accept_one-clause-ends : goal.returns-in-Some-accept_one-clause-ends
returns-in-Some-accept_one-clause-ends g c =
    after g.W.Source.Source.tally g.W.Source.Source.arrived c.in-Some-accept_one.end c.args.self.now.source c.arrivals.self.source c.accept_one.new.self.source
    c.in-Some-accept_one.ensures.asked c.arrivals.invariant.failures c.in-Some-accept_one.ensures.ends

pub arrivals-preserved-in_default : goal.arrivals-preserved-in_default
arrivals-preserved-in_default g c = record {
  accepted = more g.W.Source.Source.tally g.W.Source.Source.arrived c.args.self.now c.arrivals.self c.accept_one.new.self c.arrivals.invariant.accepted c.accept_one.ensures.accepted;
  failures = c.in_default.ensures.ends ∙ c.arrivals.invariant.failures;
}
