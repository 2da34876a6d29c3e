-- The lines are those of the reports of a broker that kept the headline.
use Rattle.std.proofs.Common.{None, All, map, subst}
use Rattle.threaded_broker.specs.Shares.{IsBoundIn}
use Rattle.tcp_server.proofs.attending.attend.Goals as goal

pub returns-clause-reported : goal.returns-clause-reported
returns-clause-reported g c = record {
  reports = record {
    group = g.B.Broker.group;
    room = c.requires.capacity;
    shares = c.in-Ok.outcome.shares.items;
    answers = c.in-Ok.outcome.ended.answers.items;
    strangers = c.in-Ok.outcome.ended.strangers.items;
    before = c.args.broker.caller;
    after = c.in-Ok.outcome.caller;
    came = c.in-Ok.ensures.headline.0;
    served = c.in-Ok.outcome.served.items;
    poller_calls = map (λ _. None) c.in-Ok.outcome.pollers.items;
    headline = c.in-Ok.ensures.headline.3;
    bound = subst (λ these. All (IsBoundIn c.in-Ok.outcome.shares.items) these) c.shares.ensures.value c.in-Ok.ensures.shares;
    lines = c.in_ok-reported.ensures.lines;
  };
  ends = c.in_ok-reported.ensures.ends;
}
