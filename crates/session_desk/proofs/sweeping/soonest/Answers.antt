use Rattle.std.proofs.Common.{◌≡◌, ℕ, length, sym, ap, subst, ◌∙◌, arith}
use Rattle.std.specs.Option.{option_map}
use Rattle.std.specs.Map.Iter.{deref_pair}
use Rattle.session_desk.proofs.Searched.{Before, before_more, before_end}
use Rattle.session_desk.proofs.sweeping.soonest.Goals as goal

pub places-preserved : goal.places-preserved
places-preserved g c =
    let es = c.args.rows.now.entries in
    let here = sym c.get_index.ensures.entry ∙ ap (option_map deref_pair) c.in-Some.is in
    before_more es c.places.place c.places.soonest c.min-soonest.result (c.in-Some.field-0-0.now, c.in-Some.row.now) c.places.invariant here (omega arith) (λ now over. let due = c.due_from.ensures now over in omega arith)

pub returns : goal.returns
returns g c =
    let es = c.args.rows.now.entries in
    let end : c.places.place ≡ length es = (let n = c.len-place-end.ensures.len in omega arith) in
    before_end es c.places.soonest (subst (λ (i : ℕ). Before es i c.places.soonest) end c.places.invariant)
