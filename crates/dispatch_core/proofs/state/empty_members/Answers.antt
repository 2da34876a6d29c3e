use Rattle.std.proofs.Common.{◌≡◌, ◌+◌, sym, ap, ◌∙◌, subst, ◌++◌, ◌∷◌, [], arith}
use Rattle.dispatch_core.specs.Layout.{AreEmpty}
use Rattle.dispatch_core.proofs.Kept.{none_empty, more_empty}
use Rattle.dispatch_core.proofs.state.empty_members.Goals as goal

pub loop-member-init : goal.loop-member-init
loop-member-init c = subst (λ lists. AreEmpty lists 0) (sym c.in_ok-members.ensures.items) none_empty

pub loop-member-preserved : goal.loop-member-preserved
loop-member-preserved c =
    subst (λ lists. AreEmpty lists (c.loop-member._member + 1)) (sym (c.in_ok-push.ensures.items ∙ ap (λ list. c.loop-member.members.items ++ list ∷ []) c.new.ensures))
    (more_empty c.loop-member.members.items c.loop-member._member c.loop-member.invariant)

pub returns : goal.returns
returns c = let all : c.loop-member._member ≡ 32 = omega arith in subst (AreEmpty c.loop-member.members.items) all c.loop-member.invariant
