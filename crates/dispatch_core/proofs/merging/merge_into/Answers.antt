use Rattle.std.proofs.Common.{◌≡◌, sym, ap, ◌∙◌, subst, arith}
use Rattle.dispatch_core.specs.Joining.{begins_by}
use Rattle.dispatch_core.proofs.MergedPasses.{IsMergedFrom, all_merged, step_first, step_second, step_alone}
use Rattle.dispatch_core.proofs.merging.merge_into.Goals as goal
use Rattle.dispatch_core.proofs.merging.merge_into.Goals.{else-front-gt0-via-then-front-gt0+else-not-begins_by, else-front-gt0-via-else-front-gt0}

pub loop-back-preserved-then-not-begins_by : goal.loop-back-preserved-then-not-begins_by
loop-back-preserved-then-not-begins_by c =
    let l = c.loop-back in (
      step_first c.args.runs.now.items c.args.more.now l.runs.items l.front l.back (record { port = 0; from = 0; last = 0 }) l.invariant.0 c.loop-back-test.true c.requires.sorted c.requires.more_sorted c.index.result.now c.index-then-not-begins_by.result.now c.if-front-gt0.true c.index.ensures
          (ap (λ job. begins_by job c.index.result.now) (sym c.first.ensures) ∙ sym c.begins_by.ensures ∙ c.if-not-begins_by.true) c.index-then-not-begins_by.ensures,
      l.invariant.1,
    )

pub loop-back-preserved : goal.loop-back-preserved
loop-back-preserved c =
    let l = c.loop-back in
    elim c.else-front-gt0.branch [
      | else-front-gt0-via-then-front-gt0+else-not-begins_by w ↦ (
        step_second c.args.runs.now.items c.args.more.now l.runs.items l.front l.back (record { port = 0; from = 0; last = 0 }) l.invariant.0 c.loop-back-test.true c.requires.sorted c.requires.more_sorted w.index.result.now w.if-front-gt0.true w.index.ensures
            (ap (λ job. begins_by job w.index.result.now) (sym w.first.ensures) ∙ sym w.begins_by.ensures ∙ w.if-not-begins_by.false),
        l.invariant.1,
      )
      | else-front-gt0-via-else-front-gt0 w ↦ (
        step_alone c.args.runs.now.items c.args.more.now l.runs.items l.front l.back (record { port = 0; from = 0; last = 0 }) l.invariant.0 c.loop-back-test.true c.requires.sorted c.requires.more_sorted w.if-front-gt0.false,
        l.invariant.1,
      )
    ]

pub returns-clause-items : goal.returns-clause-items
returns-clause-items c =
    let l = c.loop-back in
    let end : l.back ≡ 0 = omega arith in
    all_merged c.args.runs.now.items c.args.more.now l.runs.items l.front (subst (λ n. IsMergedFrom c.args.runs.now.items c.args.more.now l.runs.items l.front n) end l.invariant.0)
