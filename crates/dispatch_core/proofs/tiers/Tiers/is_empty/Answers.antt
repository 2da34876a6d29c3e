use Rattle.std.proofs.Common.{vec_len, length, eq-eqb, sym, ap, ◌∙◌, arith}
use Rattle.std.proofs.lemmas.Bool.{false≢true}
use Rattle.dispatch_core.proofs.MergedLists.{length-merged}
use Rattle.dispatch_core.proofs.tiers.Tiers.is_empty.Goals as goal

pub returns-else-is_empty : goal.returns-else-is_empty
returns-else-is_empty c =
    let i = c.args.self.now in (
      λ is. absurd (false≢true (sym c.if-is_empty.false ∙ is)),
      λ none. let nothing = ap length none in c.is_empty.ensures ∙ eq-eqb (vec_len i.long) 0 (omega (arith, length-merged i.long.items i.short.items)),
    )
