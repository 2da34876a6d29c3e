use Rattle.std.proofs.Common.{◌∙◌, ap, ap₂, ◌≡◌, codes}
use Rattle.std.proofs.lemmas.Result.{IfOk-weaker}
use Rattle.clap.specs.Words.{Rule, app_of, new_app, with_rule}
use Rattle.clap.specs.Simple.{app_of_fields}
use Rattle.arguments.proofs.Built.{simple_own}
use Rattle.arguments.proofs.command.serve_command.Goals as goal

pub returns : goal.returns
returns c =
    let named : app_of c.about.result ≡ new_app (codes "serve") = ap app_of_fields c.about.ensures ∙ c.new.ensures.app in
    let port = c.in_ok-arg.ensures.shape (simple_own c.port.result (ap (λ (r : Rule). r.is_simple) c.port.ensures)) ∙ ap₂ with_rule named c.port.ensures in
    let address = c.in_ok-arg-2.ensures.shape (simple_own c.address.result (ap (λ (r : Rule). r.is_simple) c.address.ensures)) ∙ ap₂ with_rule port c.address.ensures in
    let workers = c.in_ok-arg-3.ensures.shape (simple_own c.workers.result (ap (λ (r : Rule). r.is_simple) c.workers.ensures)) ∙ ap₂ with_rule address c.workers.ensures in
    let until = c.in_ok-arg-4.ensures.shape (simple_own c.until.result (ap (λ (r : Rule). r.is_simple) c.until.ensures)) ∙ ap₂ with_rule workers c.until.ensures in
    let drain = c.in_ok-arg-5.ensures.shape (simple_own c.drain.result (ap (λ (r : Rule). r.is_simple) c.drain.ensures)) ∙ ap₂ with_rule until c.drain.ensures in
    let metrics = c.in_ok-arg-6.ensures.shape (simple_own c.metrics.result (ap (λ (r : Rule). r.is_simple) c.metrics.ensures)) ∙ ap₂ with_rule drain c.metrics.ensures in
    let log = c.in_ok-arg-7.ensures.shape (simple_own c.log.result (ap (λ (r : Rule). r.is_simple) c.log.ensures)) ∙ ap₂ with_rule metrics c.log.ensures in
    let sessions = c.in_ok-arg-8.ensures.shape (simple_own c.sessions.result (ap (λ (r : Rule). r.is_simple) c.sessions.ensures)) ∙ ap₂ with_rule log c.sessions.ensures in
    let keep_parked = c.in_ok-arg-9.ensures.shape (simple_own c.keep_parked.result (ap (λ (r : Rule). r.is_simple) c.keep_parked.ensures)) ∙ ap₂ with_rule sessions c.keep_parked.ensures in
    let declared_groups = c.in_ok-arg-10.ensures.shape (simple_own c.declared_groups.result (ap (λ (r : Rule). r.is_simple) c.declared_groups.ensures)) ∙ ap₂ with_rule keep_parked c.declared_groups.ensures in
    let per_address = c.in_ok-arg-11.ensures.shape (simple_own c.per_address.result (ap (λ (r : Rule). r.is_simple) c.per_address.ensures)) ∙ ap₂ with_rule declared_groups c.per_address.ensures in
    let max_expiry = c.in_ok-arg-12.ensures.shape (simple_own c.max_expiry.result (ap (λ (r : Rule). r.is_simple) c.max_expiry.ensures)) ∙ ap₂ with_rule per_address c.max_expiry.ensures in
    let max_keep_alive = c.in_ok-arg-13.ensures.shape (simple_own c.max_keep_alive.result (ap (λ (r : Rule). r.is_simple) c.max_keep_alive.ensures)) ∙ ap₂ with_rule max_expiry c.max_keep_alive.ensures in
    let users = c.in_ok-arg-14.ensures.shape (simple_own c.users.result (ap (λ (r : Rule). r.is_simple) c.users.ensures)) ∙ ap₂ with_rule max_keep_alive c.users.ensures in
    let capacity = c.in_ok-arg-15.ensures.shape (simple_own c.capacity.result (ap (λ (r : Rule). r.is_simple) c.capacity.ensures)) ∙ ap₂ with_rule users c.capacity.ensures in
    let max_inflight = c.in_ok-arg-16.ensures.shape (simple_own c.max_inflight.result (ap (λ (r : Rule). r.is_simple) c.max_inflight.ensures)) ∙ ap₂ with_rule capacity c.max_inflight.ensures in
    let own = simple_own c.group.result (ap (λ (r : Rule). r.is_simple) c.group.ensures) in
    IfOk-weaker c.arg-17.result _ _ (λ command h. h.shape own ∙ ap₂ with_rule max_inflight c.group.ensures) c.arg-17.ensures
