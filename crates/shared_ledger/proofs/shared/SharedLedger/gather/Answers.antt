-- What the docket had settled was given.
use Rattle.std.proofs.Common.{◌∷◌, ◌++◌, [], ap, sym, ◌∙◌, subst, arith}
use Rattle.dispatch_core.proofs.JobLists.{count_of-append}
use Rattle.dispatch_core.proofs.Stored.{counts_permuted}
use Rattle.dispatch_core.specs.JobRuns.{jobs_of, count_of}
use Rattle.group_jobs.specs.declared.ledger.Ledger.{Ledger}
use Rattle.group_jobs.specs.Settled.{settled_as, IsUnsettled}
use Rattle.shared_ledger.specs.Giving.{times_in}
use Rattle.shared_ledger.proofs.shared.SharedLedger.gather.Goals as goal

pub give-requires-clause-more : goal.give-requires-clause-more
give-requires-clause-more g c = (
  c.exchange.result,
  λ fate job. omega (
    arith,
    counts_permuted _ _ job (c.merge.ensures.jobs fate),
    count_of-append job (settled_as fate c.make_room_for.new.self) (settled_as fate c.exchange.result),
    ap (λ runs. count_of job (jobs_of runs)) (c.in-Ok.ensures.kept fate),
    ap (λ v. times_in v.hand fate job) c.in-Some.ensures.answer,
  ),
)

pub returns-clause-answer : goal.returns-clause-answer
returns-clause-answer g c =
    let gave = c.give.ensures.gave in
    let taken = c.in-Some.ensures.answer in
    let table = c.give.ensures.queue.0 ∙ (c.self.view_is ∙ sym c.requires.of) in
    let parts = ap (λ v. v.parts) gave.is ∙ (ap (λ v. v.parts) taken ∙ ap (λ s. s.parts) c.giver.view_is) in
    let all = ap (λ v. v.gave) gave.is ∙ (ap (λ v. v.gave ++ gave.more ∷ []) taken ∙ ap (λ s. s.gave ++ gave.more ∷ []) c.giver.view_is) in
    record {
      given = gave.more;
      is = (λ i. record { ledger = table i; parts = parts i; gave = all i });
      counts = (λ fate job. omega (
        arith,
        gave.counts fate job,
        counts_permuted _ _ job (c.merge.ensures.jobs fate),
        count_of-append job (settled_as fate c.make_room_for.new.self) (settled_as fate c.exchange.result),
        ap (λ runs. count_of job (jobs_of runs)) (c.in-Ok.ensures.kept fate),
        ap (λ v. times_in v.hand fate job) taken,
        ap (λ (l : Ledger). count_of job (settled_as fate l)) c.exchange.ensures.given,
      ));
      settled = subst IsUnsettled (sym c.exchange.ensures.settled) c.in_ok-room.ensures.none;
      out = c.exchange.ensures.out;
    }
