-- One worker's ports more were counted.
use Rattle.std.proofs.Common.{◌∷◌, [], ◌++◌, take, length, sym, ap, ◌∙◌, arith}
use Rattle.std.proofs.lemmas.List.{take_more}
use Rattle.broker_groups.specs.Endings.{joined}
use Rattle.broker_groups.proofs.Finishing.{joined_length}
use Rattle.broker_groups.proofs.ending.count_ports.Goals as goal

pub loop-ports-preserved : goal.loop-ports-preserved
loop-ports-preserved g c =
    let all = c.args.all.now in
    let i = c.loop-ports.ports-index in
    let own = c.ports-item.result in
    let before = take i all in
    let more = take_more all i own c.loop-ports-test.true ∙ ap (λ ports. before ++ ports ∷ []) (sym c.ports-item.is) in
    let len = c.len.ensures in
    let ok = c.ports.inside.ports.ok in
    omega (
      arith,
      c.in_ok-count.ensures.1,
      len,
      ok.0,
      ap length c.ports.view_is,
      c.loop-ports.invariant,
      joined_length before own,
      ap (λ l. length (joined l)) more,
    )
