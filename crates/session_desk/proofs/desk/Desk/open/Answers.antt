use Rattle.std.proofs.Common.{◌<◌, sym, subst, arith}
use Rattle.std.specs.FinMap as map
use Rattle.session_desk.specs.Layout.{AreFew}
use Rattle.session_desk.proofs.Booked.{few_more}
use Rattle.session_desk.proofs.desk.Desk.open.Goals as goal

pub invariant_of-self : goal.invariant_of-self
invariant_of-self g c =
    let i = c.self.inside in
    subst (λ r. AreFew r.rows i.assigned) (sym c.in-Ok-begin.ensures.ok.1) (few_more i.table.rows i.assigned i.table.made _ c.self.invariant
    (let room : map.len i.table.rows < 65536 = subst (λ b. map.len b.rows < 65536) (sym c.self.view_is) c.requires.room in omega arith))
