-- All cells are there.
use Rattle.std.proofs.Common.{◌≡◌, None, replicate, ap, ◌∙◌, rules}
use Rattle.client_table.proofs.table.ClientTable.new.Goals as goal

pub returns : goal.returns
returns g c =
    let all : c.cells.counter ≡ 64 = search rules in
    c.cells.invariant.empty ∙ ap (λ n. replicate n None) all
