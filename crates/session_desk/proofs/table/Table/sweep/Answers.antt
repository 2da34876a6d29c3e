use Rattle.std.proofs.Common.{ℕ, refl, inl, inr, ap, ◌∙◌, subst, arith}
use Rattle.std.specs.FinMap as map
use Rattle.session_desk.specs.Rows.{IsKept, IsOverdue, NoRow, IsOldest}
use Rattle.session_desk.proofs.table.Table.sweep.Goals as goal

pub returns-then-now-self-clause-rows : goal.returns-then-now-self-clause-rows
returns-then-now-self-clause-rows g c =
    let there = λ (n : ℕ). ap (λ r. map.get r.rows n) c.self.view_is in
    let early = c.if-now-self.true in (
      λ n row has is. let none = c.self.invariant.kept_due n row (there n ∙ has) is in omega arith,
      λ n row has over. let late = c.self.invariant.due n c.args.now row (there n ∙ has) over in omega arith,
      refl,
    )

pub returns-in-Some-clause-rows : goal.returns-in-Some-clause-rows
returns-in-Some-clause-rows g c =
    let oldest = subst (λ r. IsOldest r.rows IsKept c.in-Some.number) c.self.view_is c.in-Some.ensures in
    let given = c.give.ensures oldest.row oldest.has in
    inl record { number = c.in-Some.number; oldest = oldest; stood = given.0; after = ap (λ r. r.rows) given.1 }

pub returns-in-Some-clause-made : goal.returns-in-Some-clause-made
returns-in-Some-clause-made g c =
    let oldest = subst (λ r. IsOldest r.rows IsKept c.in-Some.number) c.self.view_is c.in-Some.ensures in
    ap (λ r. r.made) (c.give.ensures oldest.row oldest.has).1

pub returns-in-Some-oldest-clause-rows : goal.returns-in-Some-oldest-clause-rows
returns-in-Some-oldest-clause-rows g c =
    let none = subst (λ r. NoRow r.rows IsKept) c.self.view_is c.in_default.ensures in
    let oldest = subst (λ r. IsOldest r.rows (IsOverdue c.args.now) c.in-Some-oldest.number) c.self.view_is c.in-Some-oldest.ensures in
    let given = c.end_parked.ensures oldest.row oldest.has in
    inr (none, record { number = c.in-Some-oldest.number; oldest = oldest; stood = given.0; after = ap (λ r. r.rows) given.1 })

pub returns-in-Some-oldest-clause-made : goal.returns-in-Some-oldest-clause-made
returns-in-Some-oldest-clause-made g c =
    let oldest = subst (λ r. IsOldest r.rows (IsOverdue c.args.now) c.in-Some-oldest.number) c.self.view_is c.in-Some-oldest.ensures in
    ap (λ r. r.made) (c.end_parked.ensures oldest.row oldest.has).1
