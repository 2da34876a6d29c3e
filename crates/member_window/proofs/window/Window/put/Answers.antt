use Rattle.std.proofs.Common.{sym, subst}
use Rattle.member_window.specs.Contents.{HasRoom}
use Rattle.member_window.specs.Layout.{IsKept}
use Rattle.member_window.proofs.Kept.{kept_put}
use Rattle.member_window.proofs.window.Window.put.Goals as goal

pub invariant_of-self : goal.invariant_of-self
invariant_of-self g c =
    let i = c.self.inside in
    subst (λ n. IsKept c.push.new.self.all n i.quota i.retired) (sym c.push.ensures.owed)
    (kept_put i.entries.all i.entries.owed i.quota i.retired c.push.result c.args.item c.push.new.self.all c.self.invariant (subst HasRoom (sym c.self.view_is) (c.room.ensures.0 c.if-not-room.false)) c.push.ensures.identifier c.push.ensures.all)
