use Rattle.std.proofs.Common.{◌+◌, slice_get, Some, sym, ap, ◌∙◌, arith}
use Rattle.member_window.specs.Contents.{held_of, after_resend}
use Rattle.member_window.specs.Layout.{contents_of}
use Rattle.member_window.proofs.View.{some_behind, view_resend, get_next, held_is}
use Rattle.member_window.proofs.window.Window.owe_next.Goals as goal

pub returns : goal.returns
returns g c =
    let i = c.self.inside in
    let within = c.self.invariant.within in
    let next = some_behind i.entries.all i.entries.owed (omega arith) in
    let e = next.0 in
    let rest = next.1 in
    let first = next.2 in
    let is = c.self.view_is in
    let after = ap (λ h. contents_of h.all h.owed i.quota i.retired) c.owe_next.ensures in
    let place = ap (λ n. slice_get i.entries.all n) c.owed-place.ensures.value in (
      e,
      (c.has_quota.ensures.0 c.if-not-has_quota.false, (rest, ap (λ w. w.waiting) (sym is) ∙ first)),
      after ∙ view_resend i.entries.all i.entries.owed i.quota i.retired e rest first ∙ ap (λ w. after_resend w (Some e)) is,
      ap (λ w. slice_get (held_of w) c.owed-place.result) after ∙ ap (λ es. slice_get es c.owed-place.result) (held_is i.entries.all (i.entries.owed + 1) i.quota i.retired) ∙ place ∙ get_next i.entries.all i.entries.owed e rest first,
    )
