use Rattle.std.proofs.Common.{ℕ, nat_lt, if◌then◌else◌, Contains, sym, ap, ◌∙◌, subst}
use Rattle.std.proofs.lemmas.Option.{get_or_from_slice_get}
use Rattle.member_window.specs.Contents.{held_of, after_ack}
use Rattle.member_window.specs.Layout.{contents_of, IsKept}
use Rattle.member_window.proofs.Lists.{held_there}
use Rattle.member_window.proofs.View.{held_is}
use Rattle.member_window.proofs.Kept.{kept_ack, as_number}
use Rattle.member_window.proofs.window.Window.ack.Goals as goal

pub invariant_of-self : goal.invariant_of-self
invariant_of-self g c =
    let i = c.self.inside in
    let place = c.in_ok-place.place in
    let found = c.in_ok-place.ensures in
    let less : ℕ = if nat_lt place i.entries.owed then 1 else 0 in
    let after = kept_ack i.entries.all i.entries.owed i.quota i.retired c.args.identifier place c.remove-item.new.self.all less c.self.invariant found c.remove-item.ensures.all (as_number (nat_lt place i.entries.owed)) in
    subst (λ n. IsKept c.remove-item.new.self.all n i.quota i.retired) (sym c.remove-item.ensures.owed) after.0

pub returns-clause-acked : goal.returns-clause-acked
returns-clause-acked g c =
    let i = c.self.inside in
    let place = c.in_ok-place.place in
    let found = c.in_ok-place.ensures in
    let less : ℕ = if nat_lt place i.entries.owed then 1 else 0 in
    let after = kept_ack i.entries.all i.entries.owed i.quota i.retired c.args.identifier place c.remove-item.new.self.all less c.self.invariant found c.remove-item.ensures.all (as_number (nat_lt place i.entries.owed)) in
    let e = c.remove-item.result in
    let read = sym (get_or_from_slice_get i.entries.all place e e c.remove-item.ensures.value) in
    let whole = sym (held_is i.entries.all i.entries.owed i.quota i.retired) ∙ ap held_of c.self.view_is in (
      subst (λ es. Contains es (c.args.identifier, e.1)) whole (held_there i.entries.all place c.args.identifier found.0 found.1 e read),
      ap (λ n. contents_of c.remove-item.new.self.all n i.quota i.retired) c.remove-item.ensures.owed ∙ after.1 ∙ ap (λ w. after_ack w c.args.identifier) c.self.view_is,
    )
