use Rattle.std.proofs.Common.{◌≡◌, ◌+◌, ◌<◌, length, Contains, sym, ap, ◌∙◌, subst}
use Rattle.std.specs.List.{HoldsAt}
use Rattle.member_window.specs.Identifiers.{identifiers}
use Rattle.member_window.proofs.Order.{found_in_front, found_in_back, found_in_neither}
use Rattle.member_window.proofs.entries.Entries.place_of.Goals as goal

pub returns-in-Some : goal.returns-in-Some
returns-in-Some g c =
    let k = c.args.identifier in
    let parts = c.as_slices.result in
    let place = c.in-Some.place in
    subst (λ es. (place < length es) × HoldsAt (λ entry. entry.0 ≡ k) es place) (c.as_slices.ensures.items ∙ ap (λ h. h.all) c.self.view_is)
    (found_in_front k parts.0.now parts.1.now place c.in-Some.ensures)

pub returns-in_err-place : goal.returns-in_err-place
returns-in_err-place g c =
    let k = c.args.identifier in
    let parts = c.as_slices.result in
    rw c.from_residual.ensures
    (subst (λ es. ¬ Contains (identifiers es) k) (c.as_slices.ensures.items ∙ ap (λ h. h.all) c.self.view_is)
    (found_in_neither k parts.0.now parts.1.now (sym c.in_default.is ∙ c.place_in.ensures) c.in_err-place.ensures))

pub returns : goal.returns
returns g c =
    let k = c.args.identifier in
    let parts = c.as_slices.result in
    let place = c.in_ok-place.place in
    subst (λ es. (length parts.0.now + place < length es) × HoldsAt (λ entry. entry.0 ≡ k) es (length parts.0.now + place)) (c.as_slices.ensures.items ∙ ap (λ h. h.all) c.self.view_is)
    (found_in_back k parts.0.now parts.1.now place c.in_ok-place.ensures)
