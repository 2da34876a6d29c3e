use Rattle.std.proofs.Common.{◌≡◌, ◌+◌, sym, ap, ◌∙◌, subst, ◌++◌, ◌∷◌, [], arith}
use Rattle.dispatch_core.specs.Layout.{AreEmpty}
use Rattle.dispatch_core.proofs.Kept.{none_empty, more_empty}
use Rattle.dispatch_core.proofs.state.empty_ports.Goals as goal

pub loop-port-init : goal.loop-port-init
loop-port-init c = subst (λ lists. AreEmpty lists 0) (sym c.in_ok-ports.ensures.items) none_empty

pub loop-port-preserved : goal.loop-port-preserved
loop-port-preserved c =
    subst (λ lists. AreEmpty lists (c.loop-port._port + 1)) (sym (c.in_ok-push.ensures.items ∙ ap (λ list. c.loop-port.ports.items ++ list ∷ []) c.new.ensures))
    (more_empty c.loop-port.ports.items c.loop-port._port c.loop-port.invariant)

pub returns : goal.returns
returns c = let all : c.loop-port._port ≡ 64 = omega arith in subst (AreEmpty c.loop-port.ports.items) all c.loop-port.invariant
