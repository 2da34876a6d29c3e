use Rattle.std.proofs.Common.{sym, ap, ◌∙◌}
use Rattle.session_desk.proofs.Seen.{seen_remove, found_same, never_none}
use Rattle.session_desk.proofs.rows.remove.Goals as goal

pub end-requires : goal.end-requires
end-requires g c =
    let read = sym c.in-Some.is ∙ c.swap_remove.ensures.value in
    ap (λ r. r.held_by) (found_same c.args.rows.now.entries c.args.number c.in-Some.row c.requires.0 read c.requires.1) ∙ c.requires.2

pub unreachable-requires : goal.unreachable-requires
unreachable-requires g c =
    never_none c.args.rows.now.entries c.args.number c.requires.0 c.requires.1 (sym c.in-None.is ∙ c.swap_remove.ensures.value)

pub returns : goal.returns
returns g c = seen_remove c.args.rows.now.entries c.swap_remove.new.self.entries c.args.number (c.swap_remove.ensures.updates.0)
