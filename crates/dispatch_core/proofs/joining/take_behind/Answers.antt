use Rattle.std.proofs.Common.{arith, drop, ap, ◌∙◌, subst}
use Rattle.dispatch_core.specs.Joining.{BeginsBehind}
use Rattle.dispatch_core.proofs.JoinedPlaces.{taken_behind}
use Rattle.dispatch_core.proofs.joining.take_behind.Goals as goal

pub returns-clause-taken : goal.returns-clause-taken
returns-clause-taken c =
    let begins = subst (λ rs. BeginsBehind rs c.args.job) (c.split_at.ensures.back ∙ ap (drop c.args.place) c.deref.ensures.value) (c.if-not-begins_behind.ensures) in
    taken_behind c.args.runs.now.items c.args.job c.args.place (omega arith) c.remove.new.self.items c.remove.result begins c.remove.ensures.value c.remove.ensures.items
