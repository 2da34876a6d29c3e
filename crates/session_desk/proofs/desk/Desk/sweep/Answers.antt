use Rattle.std.proofs.Common.{ap, ◌∙◌, subst}
use Rattle.session_desk.specs.Books.{with_rows}
use Rattle.session_desk.specs.Sweeping.{Sweeps}
use Rattle.session_desk.proofs.Booked.{booked, few_swept}
use Rattle.session_desk.proofs.desk.Desk.sweep.Goals as goal

pub invariant_of-self : goal.invariant_of-self
invariant_of-self g c =
    let i = c.self.inside in few_swept i.table.rows c.sweep.new.self.rows c.args.now i.assigned c.sweep.result c.self.invariant c.sweep.ensures.rows

pub returns : goal.returns
returns g c =
    let i = c.self.inside in (
      c.sweep.new.self.rows,
      subst (λ old. Sweeps old c.args.now c.sweep.result c.sweep.new.self.rows) (ap (λ b. b.rows) c.self.view_is) c.sweep.ensures.rows,
      (λ j. booked (record { rows = c.sweep.new.self.rows; made = c.sweep.ensures.made j }) i.assigned i.waits.items i.kicked.items i.free)
          ∙ ap (λ b. with_rows b c.sweep.new.self.rows) c.self.view_is,
    )
