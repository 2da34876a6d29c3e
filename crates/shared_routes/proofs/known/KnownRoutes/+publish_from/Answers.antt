-- All was told.
use Rattle.std.proofs.Common.{List, length, refl, ap, subst, arith}
use Rattle.std.proofs.lemmas.List.{length-map, take_all}
use Rattle.mqtt_topic.specs.Names.{Share}
use Rattle.shared_routes.specs.Known.{KnownState, AreFirst}
use Rattle.shared_routes.proofs.Told.{first_all}
use Rattle.shared_routes.proofs.known.KnownRoutes.+publish_from.Goals as goal

pub returns-else-slot-len-clause-told : goal.returns-else-slot-len-clause-told
returns-else-slot-len-clause-told t c = record {
  same = refl;
  kept = first_all c.args.other.now.told;
  told = subst (λ (shares : List Share). AreFirst shares c.args.other.now.told)
      (take_all c.args.slot c.args.self.now.shares
      (omega (arith, c.if-slot-len.false, c.len.ensures, length-map c.self.inside.seen.items (λ share. share.now), ap (λ (known : KnownState). length known.shares) c.self.view_is)))
      c.requires.told;
}
