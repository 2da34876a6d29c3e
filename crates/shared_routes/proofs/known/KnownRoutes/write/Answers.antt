-- What stands in the next cell.
use Rattle.std.proofs.Common.{◌∙◌, ap, sym, rules}
use Rattle.mqtt_topic.specs.Names.{Share}
use Rattle.shared_routes.proofs.Learning.{learns_told}
use Rattle.shared_routes.proofs.known.KnownRoutes.write.Goals as goal

pub returns-in_err-share : goal.returns-in_err-share
returns-in_err-share c =
    let offered = c.in_err-share.ensures in
    let learnt = learns_told c.args.self.now c.offer-offered.new.self c.see_next.new.self offered.0 c.in-Some.bound.now offered.1 c.in-Some.ensures.0 c.in-Some.ensures.1 in
    (c.in-Some.bound.now, learnt.0, rw c.from_residual.ensures (ap (λ (share : Share). share.text) (sym learnt.1 ∙ offered.2)))

pub returns-then-eq : goal.returns-then-eq
returns-then-eq c =
    let offered = c.in_ok-share.ensures in
    let learnt = learns_told c.args.self.now c.offer-offered.new.self c.see_next.new.self offered.0 c.in-Some.bound.now offered.1 c.in-Some.ensures.0 c.in-Some.ensures.1 in
    (c.in-Some.bound.now, learnt.0, search rules)
