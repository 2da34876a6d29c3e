use Rattle.std.proofs.Common.{◌≡◌, ℕ, ◌+◌, length, Some, sym, ap, subst, ◌∙◌, arith}
use Rattle.std.specs.Option.{option_map}
use Rattle.std.specs.Map.Iter.{deref_pair}
use Rattle.std.proofs.lemmas.Bool.{false≢true}
use Rattle.session_desk.proofs.Searched.{Best, best_skip, best_take, best_end}
use Rattle.session_desk.proofs.sweeping.oldest.Goals as goal
use Rattle.session_desk.proofs.sweeping.oldest.Goals.{then-fits, else-fits}

pub places-preserved : goal.places-preserved
places-preserved g c =
    let es = c.args.rows.now.entries in
    let here = sym c.get_index.ensures.entry ∙ ap (option_map deref_pair) c.in-Some.is in
    elim c.if-fits.branch [
      | then-fits w ↦ subst (Best es (c.places.place + 1) c.args.due) (sym (w.best-is ∙ ap Some w.lesser.ensures)) (best_take es c.places.place c.args.due c.places.best (c.in-Some.number.now, c.in-Some.row.now) c.places.invariant here (c.fits.ensures.0 w.if-fits.true))
      | else-fits w ↦ subst (Best es (c.places.place + 1) c.args.due) (sym w.best-is) (best_skip es c.places.place c.args.due c.places.best (c.in-Some.number.now, c.in-Some.row.now) c.places.invariant here (λ fits. false≢true (sym w.if-fits.false ∙ c.fits.ensures.1 fits)))
    ]

pub returns : goal.returns
returns g c =
    let es = c.args.rows.now.entries in
    let end : c.places.place ≡ length es = (let n = c.len-place-end.ensures.len in omega arith) in
    best_end es c.args.due c.places.best c.len-place-end.ensures.unique (subst (λ (i : ℕ). Best es i c.args.due c.places.best) end c.places.invariant)
