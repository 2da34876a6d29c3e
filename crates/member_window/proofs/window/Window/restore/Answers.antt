use Rattle.std.proofs.Common.{sym, subst}
use Rattle.member_window.specs.Calls.{MayRestore}
use Rattle.member_window.specs.Layout.{IsKept}
use Rattle.member_window.proofs.Kept.{kept_restore}
use Rattle.member_window.proofs.window.Window.restore.Goals as goal

pub invariant_of-self : goal.invariant_of-self
invariant_of-self g c =
    let i = c.self.inside in
    subst (λ n. IsKept c.push_front.new.self.all n i.quota i.retired) (sym c.push_front.ensures.owed)
    (kept_restore i.entries.all i.entries.owed i.quota i.retired c.args.identifier c.args.item c.push_front.new.self.all c.self.invariant (subst (λ w. MayRestore w c.args.identifier) (sym c.self.view_is) c.requires) c.push_front.ensures.all)
