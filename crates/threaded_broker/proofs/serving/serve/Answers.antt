-- The headline: the run until the broker was closed, and what the groups' ends promise.
use Rattle.std.proofs.Common.{length, map, ap, subst, sym}
use Rattle.threaded_broker.specs.Callers.{DeskCallerState}
use Rattle.call_history.specs.Numbers.{IsEachOnce}
use Rattle.broker_groups.specs.Answers.{Sights}
use Rattle.threaded_broker.proofs.Places.{keeps_headline}
use Rattle.threaded_broker.proofs.Runs.{known_longer}
use Rattle.threaded_broker.proofs.serving.serve.Goals as goal

pub returns-clause-headline : goal.returns-clause-headline
returns-clause-headline g c =
    let closed = c.in_ok-closed.closed in
    let ran = c.in_ok-closed.ensures.run in
    let run = ran.3 in
    let seen : Sights = record { saw_ledger = g.B.Seen.LedgerWitness.saw_ledger; saw_main = g.B.Seen.Witness.saw_main; saw_returns = g.B.Seen.Witness.saw_returns } in
    let poller_calls = map g.W.Poller.Poller.poller_calls closed.pollers.items in (
      ran.0,
      ran.1,
      ran.2,
      keeps_headline g.B.Broker.group seen g.W.Transport.Transport.counts g.W.Transport.Transport.given g.W.Transport.Transport.accepted c.args.broker.workers c.args.setup.limits ran.0 c.args.broker.caller c.end.new.caller
          closed.shares.items c.in_ok-ended.ended.answers.items c.in_ok-ended.ended.strangers.items closed.served.items poller_calls closed.ports.items c.in_ok-closed.ensures.ports
          (known_longer g.B.Broker.group seen g.W.Transport.Transport.counts g.W.Transport.Transport.given g.W.Transport.Transport.accepted c.args.setup.limits ran.0 c.args.broker.caller closed.caller c.end.new.caller closed.shares.items
          closed.ports.items closed.served.items poller_calls c.end.ensures.before c.end.ensures.same run)
          (subst (λ own. IsEachOnce own (length c.end.new.caller.calls)) (sym (ap (λ (caller : DeskCallerState). caller.own) c.end.ensures.same)) (c.end.ensures.once run.whole_right))
          c.in_ok-ended.ensures.kept,
    )
