use Rattle.std.proofs.Common.{sym, ap, ◌∙◌}
use Rattle.std.specs.FinMap as map
use Rattle.std.specs.Option.{option_copied_mut}
use Rattle.session_desk.specs.Rows.{with_holder}
use Rattle.session_desk.specs.Layout.{seen}
use Rattle.session_desk.proofs.Seen.{seen_write, found_same, never_none}
use Rattle.session_desk.proofs.rows.exchange.Goals as goal

pub unreachable-requires : goal.unreachable-requires
unreachable-requires g c =
    never_none c.args.rows.now.entries c.args.number c.requires.0 c.requires.1 (sym (ap option_copied_mut c.in-None.is) ∙ c.get_mut.ensures.value)

pub returns : goal.returns
returns g c = λ row has.
    let es = c.args.rows.now.entries in
    let read = sym (ap option_copied_mut c.in-Some.is) ∙ c.get_mut.ensures.value in
    let same = found_same es c.args.number c.in-Some.row.now row read has in (
      c.replace.ensures.value ∙ ap (λ r. r.held_by) same,
      seen_write es _ c.args.number c.in-Some.row.now _ (sym read) (c.get_mut.follows.holds _).0
          ∙ (λ i. map.insert (seen es) c.args.number (with_holder (same i) (c.replace.ensures.after i))),
    )
