use Rattle.std.proofs.Common.{None, cond, sym, ap, ◌∙◌, nat_eq}
use Rattle.std.specs.Option.{option_copied}
use Rattle.std.specs.Cmp.Lexicographic.{pointwise}
use Rattle.session_desk.specs.Layout.{number_at}
use Rattle.session_desk.proofs.Seen.{found_same, never_none}
use Rattle.session_desk.proofs.rows.forget_of.Goals as goal

pub unreachable-requires : goal.unreachable-requires
unreachable-requires g c = never_none c.args.rows.now.entries c.args.number c.requires.0 c.requires.1 (sym (ap option_copied c.in-None.is) ∙ c.get.ensures.value)

pub returns : goal.returns
returns g c = λ row has other.
    let same = found_same c.args.rows.now.entries c.args.number c.in-Some.row.now row (sym (ap option_copied c.in-Some.is) ∙ c.get.ensures.value) has in
    c.forget.ensures other ∙ ap (λ r. cond (pointwise nat_eq r.client other) None (number_at c.args.living.now.entries other)) same
