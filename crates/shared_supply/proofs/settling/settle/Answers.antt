-- Between settling and gathering the place had settled just this message.
use Rattle.std.proofs.Common.{sym, subst}
use Rattle.shared_supply.specs.Settling.{IsDue, runs_at}
use Rattle.shared_supply.proofs.settling.settle.Goals as goal

pub returns-clause-settled : goal.returns-clause-settled
returns-clause-settled g c =
    let after = runs_at c.settle-stamp.new.self in
    record {
      settled = c.settle-stamp.new.self;
      settles = c.settle-stamp.ensures.settled;
      same = c.settle-stamp.ensures.same;
      due = λ is_due. c.gather_if_due.ensures.due (subst (λ before. IsDue before after) (sym c.run_count-before.ensures) is_due);
      spared = λ not_due. c.gather_if_due.ensures.spared (λ is_due. not_due (subst (λ before. IsDue before after) c.run_count-before.ensures is_due));
    }

pub returns-clause-out : goal.returns-clause-out
returns-clause-out g c = λ all others one out. c.gather_if_due.ensures.out others (c.settle-stamp.ensures.out all others one out)
