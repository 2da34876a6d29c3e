use Rattle.std.proofs.Common.{◌∙◌, ap, ap₂, ◌≡◌}
use Rattle.std.proofs.lemmas.Result.{IfOk-weaker}
use Rattle.clap.specs.Words.{Rule, app_of, new_app, with_rule}
use Rattle.clap.specs.Simple.{app_of_fields}
use Rattle.arguments.proofs.Built.{simple_own}
use Rattle.arguments.proofs.command.command_named.Goals as goal

pub returns : goal.returns
returns c =
    let named : app_of c.about.result ≡ new_app c.args.name.now = ap app_of_fields c.about.ensures ∙ c.new.ensures.app in
    let own = simple_own c.capacity.result (ap (λ (r : Rule). r.is_simple) c.capacity.ensures) in
    let own_too = simple_own c.max_inflight.result (ap (λ (r : Rule). r.is_simple) c.max_inflight.ensures) in
    let own_last = simple_own c.group.result (ap (λ (r : Rule). r.is_simple) c.group.ensures) in
    let first = c.in_ok-arg.ensures.shape own ∙ ap₂ with_rule named c.capacity.ensures in
    let second = c.in_ok-arg-2.ensures.shape own_too ∙ ap₂ with_rule first c.max_inflight.ensures in
    IfOk-weaker c.arg-3.result _ _ (λ command h. h.shape own_last ∙ ap₂ with_rule second c.group.ensures) c.arg-3.ensures
