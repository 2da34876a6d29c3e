-- Each that came so far is counted, and the source did not fail.
use Rattle.std.proofs.Common.{◌≡◌}
use Rattle.worker_pool.specs.Accepting.{HasAccepted}
use Rattle.worker_pool.proofs.accepting.Acceptor.accept.Given as goal

abbrev pub invariant-arrivals : goal.invariant-arrivals
invariant-arrivals g l = record {
  accepted : HasAccepted g.W.Source.Source.tally g.W.Source.Source.arrived l.fn.self l.self;
  failures : (g.W.Source.Source.tally l.self.source).failures ≡ (g.W.Source.Source.tally l.fn.self.source).failures;
}
