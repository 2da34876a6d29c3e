use Rattle.std.proofs.Common.{◌≡◌, ℕ, length, refl, sym, ap, subst, ◌∙◌, arith}
use Rattle.std.specs.Option.{option_map}
use Rattle.std.specs.Map.Iter.{deref_pair}
use Rattle.std.specs.Cmp.Lexicographic.{bytes_decides}
use Rattle.std.proofs.lemmas.Bool.{false≢true}
use Rattle.session_desk.proofs.Searched.{NoneNamed, named_at, none_named_end}
use Rattle.session_desk.proofs.names.has_name.Goals as goal

pub returns-then-eq : goal.returns-then-eq
returns-then-eq g c =
    let here = sym c.get_index.ensures.entry ∙ ap (option_map deref_pair) c.in-Some.is in
    let its = sym c.as_slice.ensures ∙ (bytes_decides c.as_slice.result.now c.args.client.now).0 (sym c.eq.ensures ∙ c.if-eq.true) in (
      λ _. named_at c.args.rows.now.entries c.places.place c.args.client.now c.in-Some.field-0-0.now c.in-Some.row.now c.len-place-end.ensures.unique here its,
      λ _. refl,
    )

pub returns : goal.returns
returns g c =
    let es = c.args.rows.now.entries in
    let end : c.places.place ≡ length es = (let n = c.len-place-end.ensures.len in omega arith) in (
      λ h. absurd (false≢true h),
      λ named. absurd (none_named_end es c.args.client.now (subst (λ (i : ℕ). NoneNamed es i c.args.client.now) end c.places.invariant) named),
    )
