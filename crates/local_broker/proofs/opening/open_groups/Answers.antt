use Rattle.std.proofs.Common.{ℕ, List, sym, ap, subst, [], ◌∷◌, length, arith, length-append}
use Rattle.local_group.specs.Groups.{Group}
use Rattle.local_broker.specs.Broker.{AreNewGroups, IsNewGroup}
use Rattle.local_broker.proofs.Opened.{group_more}
use Rattle.local_broker.proofs.opening.open_groups.Goals as goal

pub slots-preserved : goal.slots-preserved
slots-preserved c =
    let groups = c.slots.groups.items in
    let group = c.in_ok-open.field-0 in
    let new : IsNewGroup c.slots.slot c.args.capacity group = record { fresh = c.in_ok-open.ensures.fresh; numbered = c.in_ok-open.ensures.form.0; fits = c.in_ok-open.ensures.form.1 } in
    let pushed = c.in_ok-push.ensures.items in
    let many = c.slots.invariant.many in
    record {
      many = omega (arith, ap length pushed, length-append groups (group ∷ []));
      fresh = subst (AreNewGroups c.args.capacity) (sym {A = List Group} pushed) (group_more c.args.capacity groups group c.slots.invariant.fresh (subst (λ n. IsNewGroup n c.args.capacity group) (sym {A = ℕ} many) new));
    }
