-- One place more is in the list.
use Rattle.std.proofs.Common.{ap, ◌∙◌, arith}
use Rattle.std.specs.Prelude.{sum_by}
use Rattle.std.proofs.lemmas.List.{take_all}
use Rattle.dispatch_core.specs.JobRuns.{count_of}
use Rattle.group_queue.specs.Places.{PlaceState}
use Rattle.group_queue.proofs.Compared.{sum_taken}
use Rattle.group_queue.proofs.comparing.list_out.Goals as goal

pub loop-place-preserved : goal.loop-place-preserved
loop-place-preserved g c = record {
  counts = (λ job. omega (
    arith,
    c.loop-place.invariant.counts job,
    c.in_ok-put_out.ensures.counts job,
    sum_taken (λ (place : PlaceState). count_of job place.docket.out) c.args.places.now c.loop-place.place-index c.place-item.result c.loop-place-test.true,
    ap (λ (place : PlaceState). count_of job place.docket.out) c.place-item.is,
  ));
  small = c.in_ok-put_out.ensures.small;
}

pub returns-clause-counts : goal.returns-clause-counts
returns-clause-counts g c = λ job. c.loop-place.invariant.counts job ∙ ap (λ l. sum_by (λ (place : PlaceState). count_of job place.docket.out) l) (take_all c.loop-place.place-index c.args.places.now c.loop-place-test.false)
