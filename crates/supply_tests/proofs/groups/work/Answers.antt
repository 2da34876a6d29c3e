-- What was handed out is all that is out.
use Rattle.std.proofs.Common.{[], ◌∷◌, Option, Ok, refl, subst}
use Rattle.group_jobs.specs.Stamps.{Held}
use Rattle.conn_supply.specs.Holding.{with_found}
use Rattle.broker_groups.specs.Outs.{HasOut}
use Rattle.supply_tests.proofs.groups.work.Goals as goal

pub settle-requires : goal.settle-requires
settle-requires g c = record {
  all = c.in-Ok-Some.envelope ∷ [];
  others = [];
  one = record { before = []; behind = []; together = refl; apart = refl };
  out = subst (λ (found : Option Held). HasOut c.take.new.self (with_found [] c.in-Ok-Some.envelope.subscription (Ok found))) c.in-Ok-Some.field-0-is
      (c.in-Ok-Some.ensures.out [] c.in-Ok-Some.envelope.subscription c.requires.none);
}
