use Rattle.std.proofs.Common.{refl, ap, ◌∙◌, subst}
use Rattle.session_desk.specs.Books.{after_name}
use Rattle.session_desk.specs.Names.{IsNextName, NoNameLeft}
use Rattle.session_desk.proofs.Unnamed.{refused_unnamed, named_begun}
use Rattle.session_desk.proofs.desk.Desk.attach_unnamed.Goals as goal

pub returns-in_default : goal.returns-in_default
returns-in_default g c = (subst (λ b. NoNameLeft b.rows b.assigned) c.self.view_is c.in_default.ensures, refl)

pub begin-requires-clause-none : goal.begin-requires-clause-none
begin-requires-clause-none g c =
    let next = subst (λ b. IsNextName b.rows b.assigned c.in-Some.number) c.self.view_is c.in-Some.ensures in
    λ n row has lives. next.unused (n, row, has, lives.its ∙ c.in-Ok.ensures ∙ c.assigned.ensures)

pub returns : goal.returns
returns g c =
    named_begun c.args.newcomers c.args.self.now c.begin.new.self _ c.in-Ok.name c.in-Some.number c.args.connection c.in_ok-attached.attached
    (subst (λ b. IsNextName b.rows b.assigned c.in-Some.number) c.self.view_is c.in-Some.ensures) (c.in-Ok.ensures ∙ c.assigned.ensures) c.in_ok-attached.ensures
    (ap (λ b. after_name b c.in-Some.number) c.self-2.view_is)
