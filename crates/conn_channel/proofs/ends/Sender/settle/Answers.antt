use Rattle.std.proofs.Common.{ap, length, sym}
use Rattle.crossbeam_channel.specs.Claims.{view}
use Rattle.conn_channel.specs.declared.view.PassView.{PassView}
use Rattle.conn_channel.proofs.Settled.{settles, balances}
use Rattle.conn_channel.proofs.ends.Sender.settle.Goals as goal

pub returns-clause-settled : goal.returns-clause-settled
returns-clause-settled g c =
    settles c.args.self (length c.args.receivers.items) (view c.self.inside.pass) (view c.join_all.new.pass) c.args.receivers.items c.learn.ensures.learnt.0 (sym (ap (λ s. s.sent) c.self.view_is))
    (sym (ap (λ s. s.end_marks_sent) c.self.view_is)) (ap (λ (v : PassView _). v.received) c.self.invariant.2) (ap (λ (v : PassView _). v.end_marks_received) c.self.invariant.2) c.join_all.ensures.all c.learn.ensures.learnt.1

pub returns-clause-balance : goal.returns-clause-balance
returns-clause-balance g c = balances c.args.self c.args.receivers.items (returns-clause-settled g c)
