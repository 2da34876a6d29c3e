-- A cell of each name, of which nothing is known.
use Rattle.std.proofs.Common.{◌∙◌, rules, map, sym, ap}
use borrow.Author.Tests.{tests}
use Rattle.std.proofs.lemmas.Result.{IfOk-weaker}
use Rattle.std.proofs.lemmas.Iterator.{items_from_collect, YieldsList-from_map, YieldsList-from_slice}
use Rattle.std.proofs.lemmas.Simd.{map-map}
use Rattle.once_cell.specs.Once.{cell_name}
use Rattle.shared_routes.specs.Cells.{RoutesId, unknown}
use Rattle.shared_routes.proofs.table.SharedRoutes.cells.Goals as goal

pub returns-clause-unknown : goal.returns-clause-unknown
returns-clause-unknown c =
    let made = items_from_collect _ c.collect.ensures.ran
    (YieldsList-from_map _ (λ cell. unknown (cell_name cell)) (YieldsList-from_slice c.self.inside.cells cc) c.map.ensures.closure (λ x r q k. search (rules, tests))) in
    IfOk-weaker c.collect.result _ _ (λ cells is. is ∙ sym (map-map unknown (λ cell. cell_name cell) c.self.inside.cells) ∙ ap (λ (table : RoutesId). map unknown table.cells) c.self.view_is) made
