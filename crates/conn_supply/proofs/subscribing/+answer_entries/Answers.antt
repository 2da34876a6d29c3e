-- No entry is left.
use Rattle.std.proofs.Common.{rules, arith, ◌≡◌, [], refl}
use Rattle.std.specs.Vec.Iter.{into_iter_items}
use Rattle.std.proofs.lemmas.List.{nil_from_length}
use Rattle.conn_supply.proofs.subscribing.+answer_entries.Goals as goal

pub returns-in_default-clause-answered : goal.returns-in_default-clause-answered
returns-in_default-clause-answered g t c =
    let none : into_iter_items c.args.entries ≡ [] = nil_from_length (into_iter_items c.args.entries) (grind arith) in
    ([], rw none (refl, refl, refl), search rules, search rules)
