-- One docket more was put in.
use Rattle.std.proofs.Common.{length, ap, ◌∙◌, arith}
use Rattle.std.specs.Prelude.{sum_by}
use Rattle.std.specs.Vec.Iter.{into_iter_items}
use Rattle.std.proofs.lemmas.List.Sums.{sum_by-cons}
use Rattle.dispatch_core.specs.JobRuns.{count_of}
use Rattle.dispatch_core.proofs.JobLists.{count_of-append}
use Rattle.dispatch_core.proofs.Stored.{counts_permuted}
use Rattle.group_jobs.specs.Settled.{settled_as, runs_of}
use Rattle.group_jobs.specs.declared.ledger.Ledger.{Ledger}
use Rattle.group_jobs.specs.Dockets.{Kept}
use Rattle.group_queue.proofs.Endings.{nothing_left}
use Rattle.group_queue.proofs.finish.merge_all.Goals as goal

pub merge-requires : goal.merge-requires
merge-requires c = λ fate. omega (
  arith,
  c.loop-docket.invariant.room fate,
  ap (sum_by (λ (d : Kept). length (runs_of fate d.settled))) c.in-Some.ensures.steps.0 ∙ sum_by-cons (λ (d : Kept). length (runs_of fate d.settled)) c.in-Some.docket (into_iter_items c.next.new.self),
  ap (λ (l : Ledger). length (runs_of fate l)) c.into_settled.ensures,
)

pub loop-docket-preserved : goal.loop-docket-preserved
loop-docket-preserved c = record {
  jobs = (λ fate job. omega (
    arith,
    c.loop-docket.invariant.jobs fate job,
    ap (sum_by (λ (d : Kept). count_of job (settled_as fate d.settled))) c.in-Some.ensures.steps.0 ∙ sum_by-cons (λ (d : Kept). count_of job (settled_as fate d.settled)) c.in-Some.docket (into_iter_items c.next.new.self),
    count_of-append job (settled_as fate c.loop-docket.settled) (settled_as fate c.into_settled.result),
    ap (λ (l : Ledger). count_of job (settled_as fate l)) c.into_settled.ensures,
    counts_permuted _ _ job (c.merge.ensures.jobs fate),
  ));
  room = (λ fate. omega (
    arith,
    c.loop-docket.invariant.room fate,
    ap (sum_by (λ (d : Kept). length (runs_of fate d.settled))) c.in-Some.ensures.steps.0 ∙ sum_by-cons (λ (d : Kept). length (runs_of fate d.settled)) c.in-Some.docket (into_iter_items c.next.new.self),
    ap (λ (l : Ledger). length (runs_of fate l)) c.into_settled.ensures,
    c.merge.ensures.room fate,
  ));
}

pub returns : goal.returns
returns c = λ fate job. omega (
  arith,
  c.loop-docket.invariant.jobs fate job,
  ap (sum_by (λ (d : Kept). count_of job (settled_as fate d.settled))) (nothing_left (into_iter_items c.loop-docket.docket-iterator) (let ok = c.loop-docket.docket-iterator.rest.ok in omega (arith, ok.0, c.in-None.ensures.steps.0))),
)
