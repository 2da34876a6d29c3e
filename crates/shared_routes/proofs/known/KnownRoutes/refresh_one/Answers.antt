-- All slots are seen.
use Rattle.std.proofs.Common.{◌≡◌, map, subst, arith}
use Rattle.std.proofs.lemmas.List.{length-map}
use Rattle.shared_routes.specs.Known.{KnownState}
use Rattle.shared_routes.proofs.Learning.{told_all}
use Rattle.shared_routes.proofs.known.KnownRoutes.refresh_one.Goals as goal

pub returns-then-len-eq-MOST_ROUTES-clause-all : goal.returns-then-len-eq-MOST_ROUTES-clause-all
returns-then-len-eq-MOST_ROUTES-clause-all c _ =
    subst (λ (known : KnownState). known.told ≡ known.shares) c.self.view_is
    (told_all c.self.inside.cells.items (map (λ share. share.now) c.self.inside.seen.items)
    (omega (arith, c.if-len-eq-MOST_ROUTES.true, c.len.ensures, c.self.invariant.1, length-map c.self.inside.seen.items (λ share. share.now)))
    c.self.invariant.0)
