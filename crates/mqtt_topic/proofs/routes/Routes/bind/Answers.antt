use Rattle.std.proofs.Common.{◌≡◌, List, None, sym, subst, ◌∙◌, arith, length-append}
use Rattle.mqtt_topic.specs.Names.{Share}
use Rattle.mqtt_topic.specs.Routes.{slot_of}
use Rattle.mqtt_topic.proofs.RouteLaws.{distinct_more, none_has}
use Rattle.mqtt_topic.proofs.routes.Routes.bind.Goals as goal

pub invariant_of-self-2 : goal.invariant_of-self-2
invariant_of-self-2 c =
    let free : slot_of c.args.share.text c.self.inside.shares.items ≡ None =
    subst (λ (s : List Share). slot_of c.args.share.text s ≡ None) (sym c.self.view_is) (sym c.find.ensures.value ∙ c.in_default.is) in
    rw c.in_ok-push.ensures.items (
      omega (arith, length-append {A = Share}, c.self.invariant.0, c.if-slot-eq-MOST_ROUTES.false),
      distinct_more c.self.inside.shares.items c.args.share c.self.invariant.1 (none_has c.args.share.text c.self.inside.shares.items free),
    )
