use Rattle.std.proofs.Common.{Contains, sym, ◌∙◌, subst, ⊎_elim}
use Rattle.std.proofs.lemmas.Bool.{false≢true}
use Rattle.dispatch_core.specs.JobRuns.{jobs_of, EachBefore, LiesApart}
use Rattle.dispatch_core.proofs.MergedLists.{merged_each, merged_has, has_first, has_second}
use Rattle.dispatch_core.proofs.tiers.Tiers.has_at.Goals as goal

pub has_at-requires-clause-apart : goal.has_at-requires-clause-apart
has_at-requires-clause-apart c = subst (EachBefore LiesApart) (sym c.deref.ensures.value) (merged_each LiesApart c.args.self.now.long.items c.args.self.now.short.items c.requires.apart).0

pub has_at-requires-else-has_at-clause-apart : goal.has_at-requires-else-has_at-clause-apart
has_at-requires-else-has_at-clause-apart c = subst (EachBefore LiesApart) (sym c.deref-else-has_at.ensures.value) (merged_each LiesApart c.args.self.now.long.items c.args.self.now.short.items c.requires.apart).1

pub returns-then-has_at : goal.returns-then-has_at
returns-then-has_at c =
    let i = c.args.self.now in
    let here = subst (λ rs. Contains (jobs_of rs) c.args.job) c.deref.ensures.value (c.has_at.ensures.0 c.if-has_at.true) in
    (λ is. has_first i.long.items i.short.items c.args.job here, λ has. c.if-has_at.true)

pub returns-else-has_at : goal.returns-else-has_at
returns-else-has_at c =
    let i = c.args.self.now in (
      λ is. has_second i.long.items i.short.items c.args.job (subst (λ rs. Contains (jobs_of rs) c.args.job) c.deref-else-has_at.ensures.value (c.has_at-else-has_at.ensures.0 is)),
      λ has.
          ⊎_elim
          (λ (first : Contains (jobs_of i.long.items) c.args.job). absurd (false≢true (sym c.if-has_at.false ∙ c.has_at.ensures.1 (subst (λ rs. Contains (jobs_of rs) c.args.job) (sym c.deref.ensures.value) first))))
          (λ (second : Contains (jobs_of i.short.items) c.args.job). c.has_at-else-has_at.ensures.1 (subst (λ rs. Contains (jobs_of rs) c.args.job) (sym c.deref-else-has_at.ensures.value) second))
          (merged_has i.long.items i.short.items c.args.job has),
    )
