use Rattle.std.proofs.Common.{sym, ◌∙◌}
use Rattle.session_desk.proofs.Seen.{seen_insert, get_seen}
use Rattle.session_desk.proofs.rows.add.Goals as goal

pub unreachable-requires : goal.unreachable-requires
unreachable-requires g c =
    let old = c.in-Ok-Some.ensures.old in
    let none = sym (get_seen c.args.rows.now.entries c.args.number) ∙ c.requires.new in
    let some = c.in-Ok-Some.field-0-is in
    cc

pub returns : goal.returns
returns g c = seen_insert c.args.rows.now.entries c.insert.new.self.entries c.args.number c.args.row (c.in-Ok-None.ensures.updates.0)
