use Rattle.std.proofs.Common.{◌≡◌, false, IfErr, sym, ap, ◌∙◌, subst}
use Rattle.std.proofs.lemmas.Bool.{false≢true}
use Rattle.dispatch_core.specs.declared.event.Event.TheVariants.{First}
use Rattle.dispatch_core.specs.GroupState.{row_of}
use Rattle.dispatch_core.specs.Step.{IsInRange, NeedsOpen}
use Rattle.dispatch_core.specs.Reasons.{IsStuck}
use Rattle.dispatch_core.specs.Rows.{IsOldestUnless}
use Rattle.dispatch_core.proofs.Stuck.{stuck_first, row_read}
use Rattle.dispatch_core.proofs.state.State.check.Goals as goal
use Rattle.dispatch_core.proofs.state.State.check.Goals.{else-self-via-then-self+else-needs_open, else-self-via-else-self}

pub returns-in-First-clause-err : goal.returns-in-First-clause-err
returns-in-First-clause-err c =
    let i = c.self.inside in
    let state = c.args.self.now in
    let job = c.in-First.job in
    let range : IsInRange (First c.in-First.member job) = subst IsInRange c.in-First.is (c.is_in_range.ensures.0 c.if-not-is_in_range.false) in
    let is_open : i.closed ≡ false =
    elim c.else-self.branch [
      | else-self-via-then-self+else-needs_open w ↦ absurd (false≢true (sym w.if-needs_open.false ∙ w.needs_open.ensures.1 (subst NeedsOpen (sym c.in-First.is) tt)))
      | else-self-via-else-self w ↦ w.if-self.false
    ] in
    subst (λ e. IfErr c.check_oldest.result (IsStuck state e)) (sym c.in-First.is)
    (stuck_first c.check_oldest.result state c.in-First.member job range (sym (ap (λ s. s.closed) c.self.view_is) ∙ is_open)
    (subst (λ row. IsOldestUnless row job.number c.check_oldest.result)
    (row_read i.ports.items job.port c.from.result c.index.result.now c.from.ensures range.1 c.self.invariant.ports c.index.ensures ∙ ap (λ s. row_of s job.port) c.self.view_is)
    c.check_oldest.ensures))
