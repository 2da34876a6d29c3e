use Rattle.std.proofs.Common.{◌≡◌, ℕ, ◌+◌, length, Some, sym, ap, subst, ◌∙◌, arith}
use Rattle.std.specs.Option.{option_map}
use Rattle.std.specs.Map.Iter.{deref_pair}
use Rattle.session_desk.proofs.Searched.{First, first_skip, first_take, first_end}
use Rattle.session_desk.proofs.sweeping.first_idle.Goals as goal
use Rattle.session_desk.proofs.sweeping.first_idle.Goals.{in-Some-idle_from, in_default}

pub places-preserved : goal.places-preserved
places-preserved g c =
    let es = c.args.rows.now.entries in
    let here = sym c.get_index.ensures.entry ∙ ap (option_map deref_pair) c.in-Some.is in
    elim c.match-idle_from.branch [
      | in-Some-idle_from w ↦ subst (First es (c.places.place + 1)) (sym (w.first-is ∙ ap Some w.lesser.ensures)) (first_take es c.places.place w.in-Some-idle_from.moment c.places.first (c.in-Some.field-0-0.now, c.in-Some.row.now) c.places.invariant here w.in-Some-idle_from.ensures)
      | in_default w ↦ subst (First es (c.places.place + 1)) (sym w.first-is) (first_skip es c.places.place c.places.first (c.in-Some.field-0-0.now, c.in-Some.row.now) c.places.invariant here w.in_default.ensures)
    ]

pub returns : goal.returns
returns g c =
    let es = c.args.rows.now.entries in
    let end : c.places.place ≡ length es = (let n = c.len-place-end.ensures.len in omega arith) in
    first_end es c.places.first c.len-place-end.ensures.unique (subst (λ (i : ℕ). First es i c.places.first) end c.places.invariant)
