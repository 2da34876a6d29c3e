-- The next slot, or one after it, or none.
use Rattle.std.proofs.Common.{length, [], ap, arith}
use Rattle.std.proofs.lemmas.List.{length-map}
use Rattle.shared_routes.specs.Known.{KnownState}
use Rattle.shared_routes.proofs.Learning.{learns_none, bound_here}
use Rattle.shared_routes.proofs.known.KnownRoutes.+bind_behind.Goals as goal

pub returns-then-slot-eq-MOST_ROUTES-clause-answer : goal.returns-then-slot-eq-MOST_ROUTES-clause-answer
returns-then-slot-eq-MOST_ROUTES-clause-answer t c = record {
  others = [];
  grown = learns_none c.args.self.now;
  full = omega (arith, c.if-slot-eq-MOST_ROUTES.true, c.len-slot.ensures, length-map c.self.inside.seen.items (λ share. share.now), ap (λ (known : KnownState). length known.shares) c.self.view_is);
  unknown = c.requires;
}

pub returns-in-None-clause-answer : goal.returns-in-None-clause-answer
returns-in-None-clause-answer t c =
    let wrote = c.in-None.ensures in
    bound_here c.args.self.now c.write.new.self c.args.share.value wrote.0 c.len-slot.result c.requires wrote.2
    (omega (arith, c.len-slot.ensures, length-map c.self.inside.seen.items (λ share. share.now), ap (λ (known : KnownState). length known.shares) c.self.view_is)) wrote.1
