use Rattle.std.proofs.Common.{subst, arith}
use Rattle.session_desk.specs.Sweeping.{SweepsNothing}
use Rattle.session_desk.proofs.Searched.{nothing_due}
use Rattle.session_desk.proofs.table.Table.soonest.Goals as goal

pub returns : goal.returns
returns g c now before =
    let i = c.self.inside in
    subst (λ register. SweepsNothing register.rows now) c.self.view_is
    (nothing_due _ now
    (λ number row has kept. let due = c.self.invariant.kept_due number row has kept in omega arith)
    (λ number row has over. let due = c.self.invariant.due number now row has over in omega arith))
