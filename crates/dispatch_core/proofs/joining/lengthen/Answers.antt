use Rattle.std.proofs.Common.{arith, take, ap, ◌∙◌, subst}
use Rattle.dispatch_core.specs.Joining.{EndsBefore}
use Rattle.dispatch_core.proofs.JoinedPlaces.{lengthened}
use Rattle.dispatch_core.proofs.joining.lengthen.Goals as goal

pub returns-clause-lengthened : goal.returns-clause-lengthened
returns-clause-lengthened c =
    let ends = subst (λ rs. EndsBefore rs c.args.job) (c.split_at.ensures.front ∙ ap (take c.args.place) c.deref.ensures.value) (c.if-not-ends_before.ensures) in
    lengthened c.args.runs.now.items c.args.job c.args.place (omega arith) c.args.last c.index_mut.result.now ends c.index_mut.ensures.value
