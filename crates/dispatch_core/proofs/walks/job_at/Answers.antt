use Rattle.std.proofs.Common.{All, sym, ap, ◌∙◌, subst, slice_get, arith}
use Rattle.std.proofs.lemmas.List.Elements.{All-head, All-tail}
use Rattle.dispatch_core.specs.JobRuns.{jobs_of, IsFilled}
use Rattle.dispatch_core.proofs.Counts.{fits_there, job_there, job_behind}
use Rattle.dispatch_core.proofs.walks.job_at.Goals as goal

pub overflow_add-result : goal.overflow_add-result
overflow_add-result c =
    let full = All-head IsFilled c.in-Some.run' c.next.new.self (subst (All IsFilled) c.in-Some.ensures.steps c.loop-run.invariant.filled) in
    omega (arith, fits_there c.in-Some.run' c.next.new.self c.loop-run.ahead c.from-jobs.result (c.from-jobs.ensures ∙ c.len.ensures) full c.if-ahead-jobs.true)

pub returns-then-ahead-jobs : goal.returns-then-ahead-jobs
returns-then-ahead-jobs c =
    sym (c.loop-run.invariant.same ∙ ap (λ rs. slice_get (jobs_of rs) c.loop-run.ahead) c.in-Some.ensures.steps ∙ job_there c.in-Some.run' c.next.new.self c.loop-run.ahead c.from-jobs.result (c.from-jobs.ensures ∙ c.len.ensures) c.if-ahead-jobs.true)

pub loop-run-preserved : goal.loop-run-preserved
loop-run-preserved c =
    record {
      filled = All-tail IsFilled c.in-Some.run' c.next.new.self (subst (All IsFilled) c.in-Some.ensures.steps c.loop-run.invariant.filled);
      same = c.loop-run.invariant.same ∙ ap (λ rs. slice_get (jobs_of rs) c.loop-run.ahead) c.in-Some.ensures.steps ∙ job_behind c.in-Some.run' c.next.new.self c.loop-run.ahead c.from-jobs.result (c.from-jobs.ensures ∙ c.len.ensures) c.if-ahead-jobs.false;
    }
