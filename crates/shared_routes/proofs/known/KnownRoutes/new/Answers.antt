-- Nothing is known of the cells.
use Rattle.std.proofs.Common.{◌∙◌, ◌++◌, [], length, map, sym, ap, arith}
use Rattle.shared_routes.specs.Cells.{known_of}
use Rattle.shared_routes.proofs.Learning.{known_unknown, state_unknown}
use Rattle.shared_routes.proofs.known.KnownRoutes.new.Goals as goal

pub invariant_of-result : goal.invariant_of-result
invariant_of-result c = (
  (
    [],
    ap known_of c.in_ok-cells.ensures.unknown ∙ known_unknown c.args.routes.now.cells
        ∙ sym (ap (λ seen. map (λ share. share.now) seen ++ []) c.in_ok-with_capacity.ensures.items),
  ),
  c.in_ok-cells.ensures.eight,
  omega (arith, ap length c.in_ok-with_capacity.ensures.items),
  c.in_ok-with_capacity.ensures.capacity,
)

pub returns : goal.returns
returns c =
    state_unknown c.args.routes.now c.new_shares.result c.in_ok-cells.field-0.items (map (λ share. share.now) c.in_ok-with_capacity.field-0.items) c.in_ok-cells.ensures.unknown
    (ap (map (λ share. share.now)) c.in_ok-with_capacity.ensures.items) c.new_shares.ensures
