use Rattle.std.proofs.Common.{◌≡◌, sym, ap, subst, ◌∙◌, ⊎_elim, arith}
use Rattle.std.proofs.lemmas.Bool.{cases_eq}
use Rattle.session_desk.specs.Names.{assigned_name, HasName}
use Rattle.session_desk.specs.Layout.{seen}
use Rattle.session_desk.proofs.names.next_name.Goals as goal

pub numbers-preserved : goal.numbers-preserved
numbers-preserved g c = λ other above below.
    ⊎_elim
    (λ (here : other ≡ c.numbers.number). subst (HasName (seen c.args.rows.now.entries)) (c.assigned.ensures ∙ ap assigned_name (sym here)) (c.has_name.ensures.0 c.if-not-has_name.false))
    (λ (before : other ≡ c.numbers.number → ⊥). c.numbers.invariant other above (omega arith))
    (cases_eq other c.numbers.number)

pub returns : goal.returns
returns g c = λ number above last. c.numbers.invariant number above (omega arith)
