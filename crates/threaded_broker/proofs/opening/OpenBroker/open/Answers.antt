-- The first caller put the places in, and gave each worker one part of its right to call.
use Rattle.std.proofs.Common.{◌≡◌, reverse, sym, ap, subst, ◌∙◌, rules}
use Rattle.group_queue.specs.Places.{PlaceState}
use Rattle.broker_groups.specs.Outs.{HasOut}
use Rattle.call_history.specs.Callers.{all_parts, first_caller}
use Rattle.shared_desk.specs.Histories.{TakesEach}
use Rattle.threaded_broker.specs.Callers.{DeskCallerState}
use Rattle.threaded_broker.proofs.Reversed.{reversed_new}
use Rattle.threaded_broker.proofs.opening.OpenBroker.open.Goals as goal

pub invariant_of-result : goal.invariant_of-result
invariant_of-result g c =
    let Puts : DeskCallerState → DeskCallerState → Type 0 = λ old new.
    TakesEach HasOut (λ (place : PlaceState). place.group) (λ (place : PlaceState). place.number) old (reverse c.in-Ok.field-0.places.items) new in
    let parts = c.take_places.ensures.right ∙ ap (λ (caller : DeskCallerState). caller.parts) c.name-desk.ensures in
    let whole : c.take_places.new.me ≡ record c.take_places.new.me { parts = all_parts } = λ i. record c.take_places.new.me { parts = parts i } in
    let same : c.take_places.new.me ≡ record c.take_ports-handles.new.caller { parts = all_parts } =
    whole ∙ sym (ap (λ (caller : DeskCallerState). record caller { parts = all_parts }) c.take_ports-handles.ensures.caller) in (
      search rules,
      search rules,
      c.take_ports-handles.ensures.unused,
      search rules,
      search rules,
      search rules,
      (reverse c.in-Ok.field-0.places.items, reversed_new g.B.Broker.group c.in-Ok.field-0.places.items c.in-Ok.ensures.new, subst (Puts first_caller) same (subst (λ old. Puts old c.take_places.new.me) c.name-desk.ensures c.take_places.ensures.taken)),
    )
