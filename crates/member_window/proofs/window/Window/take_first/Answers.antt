use Rattle.std.proofs.Common.{◌≡◌, ◌∷◌, true, Some, refl, sym, ap, ◌∙◌, subst, arith}
use Rattle.member_window.specs.Contents.{held_of, after_take}
use Rattle.member_window.specs.Calls.{MayRestore}
use Rattle.member_window.specs.Layout.{contents_of, IsKept}
use Rattle.member_window.proofs.View.{held_is, nothing_owed, view_take}
use Rattle.member_window.proofs.Kept.{kept_take, may_put_back, removed_first}
use Rattle.member_window.proofs.window.Window.take_first.Goals as goal

pub invariant_of-self-2 : goal.invariant_of-self-2
invariant_of-self-2 g c =
    let i = c.self.inside in
    let kept = c.self.invariant in
    let down = ap (λ w. w.quota) c.self.view_is ∙ c.requires in
    let none = nothing_owed i.entries.all i.entries.owed i.quota i.retired kept.within kept.sound.kept down in
    let same : c.remove.new.self.owed ≡ i.entries.owed = omega (arith, c.remove.ensures.owed, none) in
    let e = c.remove.result in
    let rest = c.remove.new.self.all in
    let first : i.entries.all ≡ e ∷ rest = removed_first i.entries.all e c.remove.ensures.value ∙ ap (λ xs. e ∷ xs) (sym c.remove.ensures.all) in
    subst (λ n. IsKept rest n i.quota true) (sym same) (kept_take i.entries.all i.entries.owed i.quota i.retired (Some e) rest kept down first (λ _. refl))

pub returns-clause-taken : goal.returns-clause-taken
returns-clause-taken g c =
    let i = c.self.inside in
    let kept = c.self.invariant in
    let down = ap (λ w. w.quota) c.self.view_is ∙ c.requires in
    let none = nothing_owed i.entries.all i.entries.owed i.quota i.retired kept.within kept.sound.kept down in
    let same : c.remove.new.self.owed ≡ i.entries.owed = omega (arith, c.remove.ensures.owed, none) in
    let e = c.remove.result in
    let rest = c.remove.new.self.all in
    let first : i.entries.all ≡ e ∷ rest = removed_first i.entries.all e c.remove.ensures.value ∙ ap (λ xs. e ∷ xs) (sym c.remove.ensures.all) in (
      rest,
      sym (ap held_of c.self.view_is) ∙ held_is i.entries.all i.entries.owed i.quota i.retired ∙ first,
      ap (λ n. contents_of rest n i.quota true) same ∙ view_take i.entries.all rest i.entries.owed i.quota i.retired none ∙ ap (λ w. after_take w rest) c.self.view_is,
    )

pub returns-clause-restorable : goal.returns-clause-restorable
returns-clause-restorable g c =
    let i = c.self.inside in
    let kept = c.self.invariant in
    let down = ap (λ w. w.quota) c.self.view_is ∙ c.requires in
    let none = nothing_owed i.entries.all i.entries.owed i.quota i.retired kept.within kept.sound.kept down in
    let same : c.remove.new.self.owed ≡ i.entries.owed = omega (arith, c.remove.ensures.owed, none) in
    let e = c.remove.result in
    let rest = c.remove.new.self.all in
    let first : i.entries.all ≡ e ∷ rest = removed_first i.entries.all e c.remove.ensures.value ∙ ap (λ xs. e ∷ xs) (sym c.remove.ensures.all) in
    subst (λ n. MayRestore (contents_of rest n i.quota true) e.0) (sym same) (may_put_back i.entries.all i.entries.owed i.quota i.retired (Some e) rest kept first)
