-- Who has all parts, and the ledger in hands, knows what is in it.
use Rattle.std.proofs.Common.{ap, arith}
use Rattle.crossbeam_queue.specs.Passes.{view}
use Rattle.shared_ledger.specs.Giving.{times_in}
use Rattle.shared_ledger.proofs.Steps.{all_given}
use Rattle.shared_ledger.proofs.shared.SharedLedger.end.Goals as goal

pub returns-clause-counts : goal.returns-clause-counts
returns-clause-counts g c = λ fate job.
    let stands = c.look.ensures.stands in
    omega (
      arith,
      c.holder.invariant.same fate job,
      all_given stands.0 (view c.holder.inside.pass) stands.1 (omega (arith, c.requires.all, ap (λ h. h.parts) c.holder.view_is)) c.holder.invariant.one fate job,
      ap (λ h. times_in h.gave fate job) c.holder.view_is,
    )
