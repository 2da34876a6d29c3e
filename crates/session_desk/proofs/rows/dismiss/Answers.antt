use Rattle.std.proofs.Common.{sym, ap, ◌∙◌}
use Rattle.std.specs.FinMap as map
use Rattle.std.specs.Option.{option_copied_mut}
use Rattle.session_desk.specs.Rows.{away}
use Rattle.session_desk.specs.Layout.{seen}
use Rattle.session_desk.proofs.Seen.{seen_write, found_same, never_none}
use Rattle.session_desk.proofs.rows.dismiss.Goals as goal

pub unreachable-requires : goal.unreachable-requires
unreachable-requires g c =
    never_none c.args.rows.now.entries c.args.number c.requires.0 c.requires.1 (sym (ap option_copied_mut c.in-None.is) ∙ c.get_mut.ensures.value)

pub returns-clause-rows : goal.returns-clause-rows
returns-clause-rows g c = λ row has.
    let es = c.args.rows.now.entries in
    let read = sym (ap option_copied_mut c.in-Some.is) ∙ c.get_mut.ensures.value in
    let same = found_same es c.args.number c.in-Some.row.now row read has in (
      c.dismiss.ensures.before ∙ ap (λ r. r.held_by) same,
      seen_write es _ c.args.number c.in-Some.row.now _ (sym read) (c.get_mut.follows.holds _).0
          ∙ ap (λ r. map.insert (seen es) c.args.number r) (c.dismiss.ensures.after ∙ ap (λ r. away r.client) same),
    )

pub returns-clause-room : goal.returns-clause-room
returns-clause-room g c = (c.get_mut.follows.holds _).6
