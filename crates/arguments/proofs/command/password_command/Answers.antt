use Rattle.std.proofs.Common.{◌∙◌, ap, ap₂, ◌≡◌, codes}
use Rattle.std.proofs.lemmas.Result.{IfOk-weaker}
use Rattle.clap.specs.Words.{Rule, app_of, new_app, with_rule}
use Rattle.clap.specs.Simple.{app_of_fields}
use Rattle.arguments.proofs.Built.{simple_own}
use Rattle.arguments.proofs.command.password_command.Goals as goal

pub returns : goal.returns
returns c =
    let named : app_of c.about.result ≡ new_app (codes "hash-password") = ap app_of_fields c.about.ensures ∙ c.new.ensures.app in
    let name = c.in_ok-arg.ensures.shape (simple_own c.name.result (ap (λ (r : Rule). r.is_simple) c.name.ensures)) ∙ ap₂ with_rule named c.name.ensures in
    let own = simple_own c.iterations.result (ap (λ (r : Rule). r.is_simple) c.iterations.ensures) in
    IfOk-weaker c.arg-2.result _ _ (λ command h. h.shape own ∙ ap₂ with_rule name c.iterations.ensures) c.arg-2.ensures
